-- Repair, cut and begun again any number of times, ends as repairStores at once.
use Rattle.std.specs.Prelude.{◌≡◌, refl, ◌⊎◌, ◌≢◌, eqb, take, length}
use Rattle.std.proofs.Math.Path.{sym, ap, ap₂, fun_ext}
use Rattle.std.proofs.Common.{◌∙◌, inl, inr, arith, eqb-true, eq-eqb, ne_eqb}
use mathlib.Core.List.{List, [], ◌∷◌, ◌++◌}
use mathlib.Core.Bool.{Bool, true, false, ◌||◌}
use Prim.Native.Nat.{ℕ, zero, suc, ◌+◌, ◌-◌, ◌*◌, ◌/◌, ◌%◌, ◌≤◌, ◌<◌}
use Rattle.std.proofs.lemmas.Bool.{eqb-false}
use Rattle.base.specs.Tests.{pick, tab_from, head_of, last_of}
use Rattle.drive.specs.Address.{address}
use Rattle.drive.proofs.Names.{address_twice}
use Rattle.image.specs.View.{View, Rec, Store, after, upd, pair, put, put2}
use Rattle.base.specs.Laws.{pick_same}
use Rattle.volume.specs.Words.{next_at, previous_at, free_head_at, free_tail_at}
use Rattle.volume.specs.Files.{len, file_of, key, owned, unowned, above, below, link}
use Rattle.volume.specs.declared.Partition.{Partition}
use Rattle.volume.proofs.Index.{own, file_candidate, owned_not_pib}
use Rattle.volume.proofs.Frame.{Shape, Clean, Formed, formed, kept_len, agree_owned, agree_unowned, agree_file_of, agree_key, kept_next, kept_prev}
use Rattle.volume.specs.Plans.{st, shaped, content, relinked, freed, repaired, repaired_pib, repair_plan, stores, repair_stores}
use Rattle.frame.specs.Repair.{links_off, shaped_twice, Mid, repaired_mine, repaired_free}
use Rattle.frame.proofs.Repair.{mid_agree}
use Rattle.frame.specs.Reading.{word}

-- ---- stores that all write the record that R has for their block

abbrev pub Of : (ℕ → Rec) → List Store → Type 0
Of R [] = Unit {0}
Of R (x ∷ xs) = (x.rec ≡ R x.at) × Of R xs

unfoldable pub hits : ℕ → List Store → Bool
hits b [] = false
hits b (x ∷ xs) = hits b xs || eqb b x.at

pub after_val : (R : ℕ → Rec) (xs : List Store) (u : View) (b : ℕ) → Of R xs → after xs u b ≡ pick (hits b xs) (R b) (u b)
unfolding after hits
after_val R [] u b h = refl
after_val R (x ∷ xs) u b h = after_val R xs (upd u x.at x.rec) b h.1 ∙ go (hits b xs) (eqb b x.at) refl
  where
    go : (t w : Bool) → eqb b x.at ≡ w → pick t (R b) (pick w x.rec (u b)) ≡ pick (t || w) (R b) (u b)
    go true w q = refl
    go false true q = h.0 ∙ ap R (sym (eqb-true b x.at q))
    go false false q = refl

pub of_take : (R : ℕ → Rec) (k : ℕ) (xs : List Store) → Of R xs → Of R (take k xs)
of_take R zero xs h = tt
of_take R (suc k) [] h = tt
of_take R (suc k) (x ∷ xs) h = (h.0, of_take R k xs h.1)

of_append : (R : ℕ → Rec) (xs ys : List Store) → Of R xs → Of R ys → Of R (xs ++ ys)
of_append R [] ys h k = k
of_append R (x ∷ xs) ys h k = (h.0, of_append R xs ys h.1 k)

of_tab : (R S : ℕ → Rec) (i k : ℕ) → ((b : ℕ) → i ≤ b → S b ≡ R b) → Of R (tab_from i k (λ b. st b (S b)))
unfolding tab_from
of_tab R S i zero h = tt
of_tab R S i (suc k) h = (h i (omega arith), of_tab R S (suc i) k (λ b l. h b (omega arith)))

-- ---- the records of repairStores are the same in a view that is partly repaired

cover : (N M : ℕ) (r r' : Rec) → ((w : ℕ) → w ≢ 4 → w ≢ 5 → w ≢ 6 → w ≢ 7 → r w ≡ r' w) → put2 next_at N (put2 previous_at M r) ≡ put2 next_at N (put2 previous_at M r')
unfolding put put2
cover N M r r' h = fun_ext (λ w.
    pick_same (eqb w 4) (λ _. refl) (λ n4. pick_same (eqb w 5) (λ _. refl) (λ n5. pick_same (eqb w 6) (λ _. refl) (λ n6. pick_same (eqb w 7) (λ _. refl) (λ n7.
    h w (eqb-false w 4 n4) (eqb-false w 5 n5) (eqb-false w 6 n6) (eqb-false w 7 n7))))))

module _ (π : Partition) (v : View) (c : Clean π v) (v' : View) (m : Mid π v v') where
  ag : Formed π v v'
  ag = formed π (mid_agree π v c v' m)

  free_kept : (b w : ℕ) → eqb w 0 ≡ false → eqb w 1 ≡ false → eqb w 3 ≡ false → eqb w 4 ≡ false → eqb w 5 ≡ false → eqb w 6 ≡ false → eqb w 7 ≡ false
      → freed π v (unowned π v) b w ≡ v b w
  unfolding freed put put2
  free_kept b w n0 n1 n3 n4 n5 n6 n7 = simp (n0, n1, n3, n4, n5, n6, n7)

  free_same : (b : ℕ) → b ≢ π.s → owned π v b ≡ false → freed π v (unowned π v) b ≡ freed π v' (unowned π v) b
  unfolding freed put put2
  free_same b ne o = fun_ext (λ w.
      pick_same (eqb w 0) (λ _. refl) (λ n0. pick_same (eqb w 1) (λ _. refl) (λ n1. pick_same (eqb w 3) (λ _. refl) (λ n3.
      pick_same (eqb w 4) (λ _. refl) (λ n4. pick_same (eqb w 5) (λ _. refl) (λ n5. pick_same (eqb w 6) (λ _. refl) (λ n6. pick_same (eqb w 7) (λ _. refl) (λ n7.
      go w (m b ne) (free_kept b w n0 n1 n3 n4 n5 n6 n7)))))))))
    where
      go : (w : ℕ) → (v' b ≡ v b) ⊎ (v' b ≡ repaired π v (unowned π v) b) → freed π v (unowned π v) b w ≡ v b w → v b w ≡ v' b w
      go w (inl q) k = sym (ap (λ (r : Rec). r w) q)
      go w (inr q) k = sym (ap (λ (r : Rec). r w) (q ∙ repaired_free π v (unowned π v) b o) ∙ k)

  module _ (b : ℕ) (o : owned π v b ≡ true) where
    kf : Shape π v v' (file_of π v b)
    kf = ag.shape (file_of π v b) (file_candidate π v _ (own π v b o).file)

    pub next_same : link π v (file_of π v b) (above π v (file_of π v b) (key v b)) ≡ link π v' (file_of π v' b) (above π v' (file_of π v' b) (key v' b))
    next_same =
        kept_next π v v' (file_of π v b) kf (key v b)
        ∙ ap₂ (λ (x j : ℕ). link π v' x (above π v' x j)) (agree_file_of π v v' c ag b o) (agree_key π v v' c ag b o)

    pub prev_same : link π v (file_of π v b) (below π v (file_of π v b) (key v b)) ≡ link π v' (file_of π v' b) (below π v' (file_of π v' b) (key v' b))
    prev_same =
        kept_prev π v v' (file_of π v b) kf (key v b)
        ∙ ap₂ (λ (x j : ℕ). link π v' x (below π v' x j)) (agree_file_of π v v' c ag b o) (agree_key π v v' c ag b o)

    shape_same : (r : Rec) → shaped (len v (file_of π v b)) (key v b) r ≡ shaped (len v' (file_of π v' b)) (key v' b) r
    shape_same r =
        ap₂ (λ (n k : ℕ). shaped n k r) (kept_len π v v' (file_of π v b) kf ∙ ap (len v') (agree_file_of π v v' c ag b o)) (agree_key π v v' c ag b o)

    content_same : (w : ℕ) → w ≢ 4 → w ≢ 5 → w ≢ 6 → w ≢ 7 → content π v b w ≡ content π v' b w
    unfolding content relinked
    content_same w n4 n5 n6 n7 = go (m b (owned_not_pib π v b o)) ∙ ap (λ (r : Rec). r w) (shape_same (v' b))
      where
        go : (v' b ≡ v b) ⊎ (v' b ≡ repaired π v (unowned π v) b) → content π v b w
            ≡ shaped (len v (file_of π v b)) (key v b) (v' b) w
        go (inl q) = ap (λ (r : Rec). shaped (len v (file_of π v b)) (key v b) r w) (sym q)
        go (inr q) = shaped_twice _ _ (v b) (v' b)
            (λ x m4 m5 m6 m7. ap (λ (r : Rec). r x) (q ∙ repaired_mine π v (unowned π v) b o) ∙ links_off _ _ (content π v b) x m4 m5 m6 m7) w n4 n5 n6 n7

    mine_same : relinked π v b ≡ relinked π v' b
    unfolding relinked
    mine_same =
        cover _ _ (content π v b) (content π v' b) content_same
        ∙ ap₂ (λ (x y : ℕ). put2 next_at x (put2 previous_at y (content π v' b))) next_same prev_same

  pub repaired_same : (b : ℕ) → b ≢ π.s → repaired π v (unowned π v) b ≡ repaired π v' (unowned π v') b
  repaired_same b ne = go (owned π v b) refl
    where
      go : (t : Bool) → owned π v b ≡ t → repaired π v (unowned π v) b ≡ repaired π v' (unowned π v') b
      go true o = repaired_mine π v _ b o ∙ mine_same b o ∙ sym (repaired_mine π v' _ b (sym (agree_owned π v v' c ag b) ∙ o))
      go false o =
          repaired_free π v _ b o ∙ free_same b ne o ∙ ap (λ (l : List ℕ). freed π v' l b) (agree_unowned π v v' c ag)
          ∙ sym (repaired_free π v' _ b (sym (agree_owned π v v' c ag b) ∙ o))

-- ---- any number of cut repairs, and a whole one

-- what repair leaves in block b of the partition
unfoldable pub target : Partition → View → ℕ → Rec
target π v b = pick (eqb b π.s) (repaired_pib π v (unowned π v)) (repaired π v (unowned π v) b)

pub target_else : (π : Partition) (v : View) (b : ℕ) → b ≢ π.s → target π v b ≡ repaired π v (unowned π v) b
unfolding target
target_else π v b n = ap (λ (t : Bool). pick t (repaired_pib π v (unowned π v)) (repaired π v (unowned π v) b)) (ne_eqb b π.s n)

pub target_pib : (π : Partition) (v : View) → target π v π.s ≡ repaired_pib π v (unowned π v)
unfolding target
target_pib π v = ap (λ (t : Bool). pick t (repaired_pib π v (unowned π v)) (repaired π v (unowned π v) π.s)) (eq-eqb π.s π.s refl)

pub repair_of : (π : Partition) (v : View) → Of (target π v) (repair_stores π v)
unfolding repair_plan stores
repair_of π v =
    of_append (target π v) (tab_from (suc π.s) (π.e - π.s) (λ b. st b (repaired π v (unowned π v) b))) (st π.s (repaired_pib π v (unowned π v)) ∷ [])
    (of_tab (target π v) (λ b. repaired π v (unowned π v) b) (suc π.s) (π.e - π.s) (λ b l. sym (target_else π v b (λ z. omega arith))))
    (sym (target_pib π v), tt)

or_map : {A B C D : Type 0} → (A → C) → (B → D) → A ⊎ B → C ⊎ D
or_map f g (inl a) = inl (f a)
or_map f g (inr b) = inr (g b)

or_none : (a b : Bool) → (a || b) ≡ false → (a ≡ false) × (b ≡ false)
or_none true b h = (h, absurd (mathlib.Core.Bool.true≢false h))
or_none false b h = (refl, h)

hits_take : (b k : ℕ) (xs : List Store) → hits b xs ≡ false → hits b (take k xs) ≡ false
unfolding hits
hits_take b zero xs h = refl
hits_take b (suc k) [] h = refl
hits_take b (suc k) (x ∷ xs) h =
    let o = or_none (hits b xs) (eqb b x.at) h in
    ap₂ ◌||◌ (hits_take b k xs o.0) o.1

hits_tab : (b i k : ℕ) (R S : ℕ → Rec) (x y : Store) → x.at ≡ y.at → hits b (tab_from i k (λ c. st c (R c)) ++ (x ∷ [])) ≡ hits b (tab_from i k (λ c. st c (S c)) ++ (y ∷ []))
unfolding hits tab_from
hits_tab b i zero R S x y q = ap (λ (n : ℕ). false || eqb b n) q
hits_tab b i (suc k) R S x y q = ap (λ (t : Bool). t || eqb b i) (hits_tab b (suc i) k R S x y q)

pub hits_repair : (π : Partition) (v v' : View) (b : ℕ) → hits b (repair_stores π v) ≡ hits b (repair_stores π v')
unfolding repair_plan stores
hits_repair π v v' b = hits_tab b (suc π.s) (π.e - π.s) (λ c. repaired π v (unowned π v) c) (λ c. repaired π v' (unowned π v') c) _ _ refl

hits_in : (b i k : ℕ) (R : ℕ → Rec) (y : Store) → i ≤ b → b < i + k → hits b (tab_from i k (λ c. st c (R c)) ++ (y ∷ [])) ≡ true
unfolding hits tab_from
hits_in b i zero R y l m = absurd (omega arith)
hits_in b i (suc k) R y l m = go (eqb b i) refl (λ n. hits_in b (suc i) k R y n (omega arith))
  where
    go : (t : Bool) → eqb b i ≡ t → (suc i ≤ b → hits b (tab_from (suc i) k (λ c. st c (R c)) ++ (y ∷ [])) ≡ true) → (hits b (tab_from (suc i) k (λ c. st c (R c)) ++ (y ∷ [])) || eqb b i) ≡ true
    go true q ih = ap (λ (t : Bool). hits b (tab_from (suc i) k (λ c. st c (R c)) ++ (y ∷ [])) || t) q ∙ mathlib.Core.Bool.or-true (hits b (tab_from (suc i) k (λ c. st c (R c)) ++ (y ∷ [])))
    go false q ih = ap (λ (t : Bool). t || eqb b i) (ih (omega (arith, eqb-false b i q)))

hits_last : (b i k : ℕ) (R : ℕ → Rec) (y : Store) → b ≡ y.at → hits b (tab_from i k (λ c. st c (R c)) ++ (y ∷ [])) ≡ true
unfolding hits tab_from
hits_last b i zero R y q = eq-eqb b y.at q
hits_last b i (suc k) R y q = ap (λ (t : Bool). t || eqb b i) (hits_last b (suc i) k R y q)

pub hits_pib : (π : Partition) (v : View) → hits π.s (repair_stores π v) ≡ true
unfolding repair_plan stores
hits_pib π v = hits_last π.s (suc π.s) (π.e - π.s) (λ c. repaired π v (unowned π v) c) (st π.s (repaired_pib π v (unowned π v))) refl

pub hits_tab_in : (π : Partition) (v : View) (b : ℕ) → π.s < b → b ≤ π.e → hits b (repair_stores π v) ≡ true
unfolding repair_plan stores
hits_tab_in π v b l m = hits_in b (suc π.s) (π.e - π.s) (λ c. repaired π v (unowned π v) c) (st π.s (repaired_pib π v (unowned π v))) l (omega arith)

module _ (π : Partition) (v : View) (c : Clean π v) where
  -- v' is v with some blocks repaired
  pub record Part (v' : View) : Type 0 where
    pub blocks : (b : ℕ) → b ≢ π.s → (v' b ≡ v b) ⊎ (v' b ≡ repaired π v (unowned π v) b)
    pub pib : (v' π.s ≡ v π.s) ⊎ (v' π.s ≡ repaired_pib π v (unowned π v))
    pub out : (b : ℕ) → hits b (repair_stores π v) ≡ false → v' b ≡ v b

  pub start : Part v
  start = record { blocks = λ b n. inl refl; pib = inl refl; out = λ b n. refl }

  pib_same : (v' : View) → Part v' → repaired_pib π v (unowned π v) ≡ repaired_pib π v' (unowned π v')
  unfolding repaired_pib put put2
  pib_same v' p = go p.pib ∙ ap (λ (l : List ℕ). repaired_pib π v' l) (agree_unowned π v v' c (formed π (mid_agree π v c v' p.blocks)))
    where
      fr : List ℕ
      fr = unowned π v

      go : (v' π.s ≡ v π.s) ⊎ (v' π.s ≡ repaired_pib π v (unowned π v)) → repaired_pib π v (unowned π v) ≡ repaired_pib π v' (unowned π v)
      go (inl q) = ap (λ (r : Rec). put2 free_head_at (address π.drive (r 8 + 65536 * r 9) (head_of 0 fr)) (put2 free_tail_at (address π.drive (r 10 + 65536 * r 11) (last_of 0 fr)) (put2 12 (length fr) r))) (sym q)
      go (inr q) = fun_ext (λ w.
          pick_same (eqb w 8) (λ _. ap (λ (x : ℕ). x % 65536) head) (λ n0. pick_same (eqb w 9) (λ _. ap (λ (x : ℕ). x / 65536) head)
          (λ n1. pick_same (eqb w 10) (λ _. ap (λ (x : ℕ). x % 65536) tail) (λ n2. pick_same (eqb w 11) (λ _. ap (λ (x : ℕ). x / 65536) tail)
          (λ n3. pick_same (eqb w 12) (λ _. refl) (λ n4. pick_same (eqb w 13) (λ _. refl) (λ n5.
          sym (ap (λ (r : Rec). r w) q ∙ simp (n0, n1, n2, n3, n4, n5)))))))))
        where
          one : (o x y b : ℕ) → x ≡ address π.drive o b % 65536 → y ≡ address π.drive o b / 65536 → address π.drive o b ≡ address π.drive (x + 65536 * y) b
          one o x y b p q = sym (address_twice π.drive o b) ∙ ap (λ (z : ℕ). address π.drive z b) (sym (word (address π.drive o b)) ∙ ap₂ (λ (a c : ℕ). a + 65536 * c) (sym p) (sym q))

          head : address π.drive (pair v π.s free_head_at) (head_of 0 fr) ≡ address π.drive (pair v' π.s free_head_at) (head_of 0 fr)
          head = one _ _ _ _ (ap (λ (r : Rec). r 8) q) (ap (λ (r : Rec). r 9) q)

          tail : address π.drive (pair v π.s free_tail_at) (last_of 0 fr) ≡ address π.drive (pair v' π.s free_tail_at) (last_of 0 fr)
          tail = one _ _ _ _ (ap (λ (r : Rec). r 10) q) (ap (λ (r : Rec). r 11) q)

  pub target_same : (v' : View) → Part v' → (b : ℕ) → target π v b ≡ target π v' b
  unfolding target
  target_same v' p b = pick_same (eqb b π.s) (λ _. pib_same v' p) (λ n. repaired_same π v c v' p.blocks b (eqb-false b π.s n))

  -- a cut repairStores of a partly repaired view leaves a partly repaired view
  pub again : (v' : View) → Part v' → (k : ℕ) → Part (after (take k (repair_stores π v')) v')
  again v' p k = record { blocks = λ b n. pb b n (hits b xs) refl; pib = pp (hits π.s xs) refl; out = po }
    where
      xs : List Store
      xs = take k (repair_stores π v')

      val : (b : ℕ) (t : Bool) → hits b xs ≡ t → after xs v' b ≡ pick t (target π v b) (v' b)
      val b t q =
          after_val (target π v') xs v' b (of_take (target π v') k (repair_stores π v') (repair_of π v'))
          ∙ ap₂ (λ (u : Bool) (r : Rec). pick u r (v' b)) q (sym (target_same v' p b))

      pb : (b : ℕ) → b ≢ π.s → (t : Bool) → hits b xs ≡ t → (after xs v' b ≡ v b) ⊎ (after xs v' b ≡ repaired π v (unowned π v) b)
      pb b n true q = inr (val b true q ∙ target_else π v b n)
      pb b n false q = or_map (λ z. val b false q ∙ z) (λ z. val b false q ∙ z) (p.blocks b n)

      pp : (t : Bool) → hits π.s xs ≡ t → (after xs v' π.s ≡ v π.s) ⊎ (after xs v' π.s ≡ repaired_pib π v (unowned π v))
      pp true q = inr (val π.s true q ∙ target_pib π v)
      pp false q = or_map (λ z. val π.s false q ∙ z) (λ z. val π.s false q ∙ z) p.pib

      po : (b : ℕ) → hits b (repair_stores π v) ≡ false → after xs v' b ≡ v b
      po b q = val b false (hits_take b k (repair_stores π v') (hits_repair π v' v b ∙ q)) ∙ p.out b q

  -- whole, it leaves what repairStores of v would have left
  pub finish : (v' : View) → Part v' → (b : ℕ) → after (repair_stores π v') v' b ≡ after (repair_stores π v) v b
  finish v' p b =
      after_val (target π v') (repair_stores π v') v' b (repair_of π v')
      ∙ ap₂ (λ (t : Bool) (r : Rec). pick t r (v' b)) (hits_repair π v' v b) (sym (target_same v' p b))
      ∙ pick_same (hits b (repair_stores π v)) (λ _. refl) (λ q. p.out b q)
      ∙ sym (after_val (target π v) (repair_stores π v) v b (repair_of π v))
