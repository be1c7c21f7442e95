-- The saves of a write, in the order in which its code performs them, are its plan's stores.
use Rattle.std.specs.Prelude.{Option, Some, None}
use mathlib.Core.Path.{◌≡◌, refl, sym, ap, ap₂, ◌∙◌}
use mathlib.Core.Bool.{Bool, true, false, not, ◌&&◌}
use mathlib.Core.List.{List, [], ◌∷◌, ◌++◌, map, append_assoc}
use Prim.Native.Nat.{ℕ, suc, ◌+◌}
use native.Mathlib.Omega.{arith}
use lib.Dec.{leb, ltb, eqb}
use borrow.Author.Tests.{leb-true}
use Rattle.base.specs.Tests.{pick}
use Rattle.base.specs.Laws.{pick_same}
use Rattle.image.specs.View.{View, Rec, Store}
use Rattle.image.specs.Image.{view}
use Rattle.image.specs.Saves.{all_stores}
use Rattle.image.specs.declared.Save.{Save}
use Rattle.volume.specs.Keys.{home, up, low}
use Rattle.volume.specs.Files.{end, least}
use Rattle.volume.specs.declared.Partition.{Partition}
use Rattle.volume.proofs.Closed.{least_closed}
use Rattle.volume.specs.Plans.{st, stores, new_first, pib_less, taken_stores}
use Rattle.volume.specs.Writes.{over, inner, needs, above', below', early, store, plan_of, write_plan}
use Rattle.growth.specs.Ready.{Behind}
use Rattle.growth.specs.Neighbours.{double_below, double_above}
use Rattle.records.specs.Records.{StandsFor}
use Rattle.records.proofs.Laws.{stands_none, stands_as, one}
use Rattle.append.specs.declared.Append.{Append}
use Rattle.append.specs.Appends.{Appends}
use Rattle.append.proofs.Laws.{behind, key_one, key_two}

-- keys but for the FIB's, part by part
inner_append : (ks ls : List ℕ) → inner (ks ++ ls) ≡ inner ks ++ inner ls
unfolding inner
inner_append [] ls = refl
inner_append (k ∷ ks) ls = go (eqb k home) (inner_append ks ls)
  where
    go : (t : Bool) → inner (ks ++ ls) ≡ inner ks ++ inner ls → pick t (inner (ks ++ ls)) (k ∷ inner (ks ++ ls)) ≡ pick t (inner ks) (k ∷ inner ks) ++ inner ls
    go true h = h
    go false h = ap (λ (m : List ℕ). k ∷ m) h

-- a save of a key where t, unless it is the FIB's
inner_is : (t : Bool) (k : ℕ) → inner (pick t (k ∷ []) []) ≡ pick (t && not (eqb k home)) (k ∷ []) []
unfolding inner
inner_is true k = go (eqb k home)
  where
    go : (u : Bool) → pick {A = List ℕ} u [] (k ∷ []) ≡ pick (not u) (k ∷ []) []
    go true = refl
    go false = refl
inner_is false k = refl

module _ {l : List ℕ} (h : ℕ → Store) (t : Bool) (k : ℕ) where
  pub stands_on : (t && not (eqb k home)) ≡ true → {x : Option Save} → StandsFor l (h k ∷ []) x → StandsFor l (map h (inner (pick t (k ∷ []) []))) x
  stands_on q s = stands_as (ap (map h) (sym (inner_is t k ∙ ap (λ (u : Bool). pick u (k ∷ []) []) q))) s

  pub stands_off : (t && not (eqb k home)) ≡ false → StandsFor l (map h (inner (pick t (k ∷ []) []))) None
  stands_off q = stands_none (ap (map h) (sym (inner_is t k ∙ ap (λ (u : Bool). pick u (k ∷ []) []) q)))

map_append : {A B : Type 0} (h : A → B) (l m : List A) → map h (l ++ m) ≡ map h l ++ map h m
map_append h [] m = refl
map_append h (x ∷ l) m = ap (λ (k : List _). h x ∷ k) (map_append h l m)

-- a list of seven parts, mapped part by part, and a rest
parts : {A B : Type 0} (h : A → B) (x : A) (p q r s t u : List A) (rest : List B)
    → map h (x ∷ (p ++ q ++ (r ++ s) ++ (t ++ u))) ++ rest ≡ h x ∷ (map h p ++ (map h q ++ (map h r ++ (map h s ++ (map h t ++ (map h u ++ rest))))))
parts h x p q r s t u rest = ap (λ (k : List _). h x ∷ k) (simp (map_append, append_assoc))

-- a key where t, unless it is the FIB's
abbrev key_if : Bool → ℕ → List ℕ
key_if t k = inner (pick t (k ∷ []) [])

module _ (π : Partition) (v : View) (f n : ℕ) (at : Behind π v f n) where
  abbrev N : ℕ
  N = needs π v f n

  early_is : early π v f n
      ≡ over n 0 ∷ (key_if true (over n 1) ++ key_if (leb 2 N) (over n 2) ++ (key_if (leb 3 N) 288 ++ key_if (leb 3 N) (suc (over n 2))) ++ (key_if true (home + n) ++ key_if (leb 2 N) (low n)))
  unfolding early
  early_is =
      ap (λ (ks : List ℕ). over n 0 ∷ ks)
      (inner_append (path ++ beside) tail ∙ ap₂ ◌++◌
      (inner_append path beside ∙ ap₂ ◌++◌ (inner_append (over n 1 ∷ []) (pick (leb 2 N) (over n 2 ∷ []) [])) (ap inner near ∙ split (leb 3 N)))
      (inner_append (end v f ∷ []) (pick (leb 2 N) (least π v f ∷ []) [])
      ∙ ap₂ (λ (m k : ℕ). key_if true (home + m) ++ key_if (leb 2 N) k) (sym at.next) (least_closed π v f at.formed ∙ ap low (sym at.next))))
    where
      path : List ℕ
      path = over n 1 ∷ pick (leb 2 N) (over n 2 ∷ []) []

      beside : List ℕ
      beside = pick (leb 3 N) (below' π v f n (over n 2) ∷ above' π v f n (over n 2) ∷ []) []

      tail : List ℕ
      tail = end v f ∷ pick (leb 2 N) (least π v f ∷ []) []

      near : beside ≡ pick (leb 3 N) (288 ∷ suc (over n 2) ∷ []) []
      near =
          pick_same (leb 3 N)
          (λ q. let l = leb-true 3 N q in ap₂ (λ (a b : ℕ). a ∷ b ∷ []) (double_below π v f n at l) (double_above π v f n at l))
          (λ _. refl)

      split : (t : Bool) → inner (pick t (288 ∷ suc (over n 2) ∷ []) []) ≡ key_if t 288 ++ key_if t (suc (over n 2))
      split true = inner_append (288 ∷ []) (suc (over n 2) ∷ [])
      split false = inner_append [] []

module _ {w : Append} {l : List ℕ} (G : Appends w l) (dat : Rec) where
  abbrev S : ℕ → Store
  S = store w.p (view l) w.f w.n dat

  -- c and e the keys over block n, k the old first key
  pub row : (c e k : ℕ) {block fib first pib : Save} {pointer double below above last top : Option Save} → c ≡ up (292 + w.n) → e ≡ up c → k ≡ low w.n
      → StandsFor l (S (over w.n 0) ∷ []) (Some block)
      → StandsFor l (map S (inner (pick true (c ∷ []) []))) pointer
      → StandsFor l (map S (inner (pick (ltb 1 w.m) (e ∷ []) []))) double
      → StandsFor l (map S (inner (pick (ltb 2 w.m) (288 ∷ []) []))) below
      → StandsFor l (map S (inner (pick (ltb 2 w.m) ((e + 1) ∷ []) []))) above
      → StandsFor l (map S (inner (pick true ((home + w.n) ∷ []) []))) last
      → StandsFor l (map S (inner (pick (ltb 1 w.m) (k ∷ []) []))) top
      → StandsFor l (S home ∷ []) (Some fib)
      → StandsFor l (st w.g (new_first (view l) w.g) ∷ []) (Some first)
      → StandsFor l (st w.p.s (pib_less w.p.drive (view l) w.p.s w.g w.m) ∷ []) (Some pib)
      → all_stores (Some block ∷ pointer ∷ double ∷ below ∷ above ∷ last ∷ top ∷ Some fib ∷ Some first ∷ Some pib ∷ []) ≡ stores (write_plan w.p (view l) w.f w.n dat)
  unfolding stores write_plan plan_of taken_stores
  row c e k hc he hk q0 q1 q2 q3 q4 q5 q6 q7 q8 q9 =
      rw (one q0, q1.list, q2.list, q3.list, q4.list, q5.list, q6.list, one q7, one q8, one q9, hk, G.after, G.many, more, key_two G c e hc he, key_one G c e hc he, early_is w.p (view l) w.f w.n (behind G), parts)
    where
      more : e + 1 ≡ suc e
      more = omega arith
