-- The loop of repair: it stores as it goes and reads the partly repaired image, and its stores are those of the image as it was.
use Rattle.std.specs.Prelude.{◌≡◌, refl, ◌⊎◌, ◌≢◌, List, [], ◌∷◌, ◌++◌, Bool, true, false, not, eqb}
use Rattle.std.proofs.Math.Path.{sym, ap, fun_ext}
use Rattle.std.proofs.Common.{◌∙◌, subst, inl, inr, true≢false, eqb-true}
use Prim.Native.Nat.{ℕ, zero, suc, ◌+◌, ◌-◌, ◌*◌, ◌≤◌, ◌<◌}
use native.Mathlib.Omega.{arith}
use Rattle.std.proofs.Math.ListN.{length}
use Rattle.std.proofs.Math.Seq.{take-nil}
use Rattle.base.specs.Tests.{pick, tab_from, head_of, last_of}
use Rattle.image.specs.View.{View, Rec, Store, upd}
use Rattle.image.specs.Image.{view, Bytes}
use Rattle.image.specs.Stores.{stored, over, bytes_of, Fits, In, view_over, over_length, bytes_length, rec_bytes}
use Rattle.image.specs.Saves.{Applied}
use Rattle.image.proofs.Laws.{then}
use Rattle.blocks.specs.Records.{pib_record}
use Rattle.volume.specs.Files.{owned, unowned}
use Rattle.volume.specs.declared.Partition.{Partition}
use Rattle.volume.specs.Answers.{Unmarred}
use Rattle.volume.proofs.Frame.{Clean, Formed, formed, agree_clean, agree_owned, agree_unowned, of_clean, clean_of}
use Rattle.volume.specs.Plans.{st, stores, repaired, repaired_pib, repair_plan, repair_stores}
use Rattle.frame.proofs.Repair.{mid_agree}
use Rattle.frame.proofs.Restart.{Part, start, hits, hits_tab_in, repaired_same, target_same, target_pib}
use Rattle.repair.specs.declared.Progress.{Progress}
use Rattle.blocks.specs.Ready.{Ready}
use Rattle.blocks.specs.Standing.{Standing, stand_starts, stand_last, stand_many}
use Rattle.frame.specs.Fitted.{repaired_fits}
use Rattle.frame.specs.Fitting.{view_fits}

-- block b is unowned
abbrev pub is_free : Partition → View → ℕ → Bool
is_free π v b = not (owned π v b)

-- repair is at block b of the image l, and `first` is the first unowned block
pub record Turn (π : Partition) (l : List ℕ) (first b : ℕ) (t : Progress) : Type 0 where
  pub ready : Ready π l
  pub low : π.s < b
  pub high : b ≤ π.e
  pub head : first ≡ head_of 0 (unowned π (view l))
  pub stand : Standing (is_free π (view l)) π.s π.e b t.last t.next t.count

-- it stored the record of block b, as far as the limit let it, and is past b
pub record Turned (π : Partition) (l l' : List ℕ) (b : ℕ) (t t' : Progress) : Type 0 where
  pub store : Applied t.left (st b (repaired π (view l) (unowned π (view l)) b) ∷ []) l l' t'.left
  pub stand : Standing (is_free π (view l)) π.s π.e (b + 1) t'.last t'.next t'.count

tab_snoc : (i k : ℕ) (f : ℕ → Store) → tab_from i (suc k) f ≡ tab_from i k f ++ (f (i + k) ∷ [])
unfolding tab_from
tab_snoc i zero f = ap (λ (n : ℕ). f n ∷ []) (let z : i ≡ i + 0 = omega arith in z)
tab_snoc i (suc k) f =
    ap (λ (ys : List Store). f i ∷ ys) (tab_snoc (suc i) k f ∙ ap (λ (n : ℕ). tab_from (suc i) k f ++ (f n ∷ [])) (let z : suc i + k ≡ i + suc k = omega arith in z))

-- one store under a limit, on the view
applied_view : (room b : ℕ) (R : Rec) (l l' : List ℕ) (x : ℕ) → Applied room (st b R ∷ []) l l' x → In l b → Fits R
    → ((view l' ≡ view l) ⊎ (view l' ≡ upd (view l) b R)) × (length l' ≡ length l)
unfolding stored
applied_view zero b R l l' x p hl hf = (inl (ap view p.image), ap length p.image)
applied_view (suc n) b R l l' x p hl hf =
    let e : l' ≡ over l b (bytes_of R) = p.image ∙ ap (λ (ss : List Store). stored ss (over l b (bytes_of R))) (take-nil n) in
    (inr (ap view e ∙ view_over l (bytes_of R) b (bytes_length R) hl ∙ ap (upd (view l) b) (rec_bytes R hf)), ap length e ∙ over_length l (bytes_of R) b (bytes_length R) hl)

module _ (π : Partition) (v : View) (c : Clean π v) where
  abbrev new : ℕ → Rec
  new b = repaired π v (unowned π v) b

  part_set : (v' : View) (b : ℕ) (R : Rec) → Part π v c v' → π.s < b → b ≤ π.e → R ≡ new b → Part π v c (upd v' b R)
  part_set v' b R p lo hi q = record { blocks = λ x n. go x n (eqb x b) refl; pib = at (eqb π.s b) refl; out = λ x h. no x h (eqb x b) refl }
    where
      go : (x : ℕ) → x ≢ π.s → (t : Bool) → eqb x b ≡ t → (pick t R (v' x) ≡ v x) ⊎ (pick t R (v' x) ≡ new x)
      go x n true z = inr (q ∙ ap new (sym (eqb-true x b z)))
      go x n false z = p.blocks x n

      at : (t : Bool) → eqb π.s b ≡ t → (pick t R (v' π.s) ≡ v π.s) ⊎ (pick t R (v' π.s) ≡ repaired_pib π v (unowned π v))
      at true z = absurd (let m : π.s ≡ b = eqb-true π.s b z in omega arith)
      at false z = p.pib

      no : (x : ℕ) → hits x (repair_stores π v) ≡ false → (t : Bool) → eqb x b ≡ t → pick t R (v' x) ≡ v x
      no x h true z = absurd (true≢false (sym (hits_tab_in π v b lo hi) ∙ ap (λ (y : ℕ). hits y (repair_stores π v)) (sym (eqb-true x b z)) ∙ h))
      no x h false z = p.out x h

  part_next : (v' v'' : View) (b : ℕ) (R : Rec) → Part π v c v' → π.s < b → b ≤ π.e → R ≡ new b → (v'' ≡ v') ⊎ (v'' ≡ upd v' b R) → Part π v c v''
  part_next v' v'' b R p lo hi q (inl z) = subst (λ (u : View). Part π v c u) (sym z) p
  part_next v' v'' b R p lo hi q (inr z) = subst (λ (u : View). Part π v c u) (sym z) (part_set v' b R p lo hi q)

  -- a partly repaired view has the same unowned blocks
  module _ (v' : View) (p : Part π v c v') where
    agrees : Formed π v v'
    agrees = formed π (mid_agree π v c v' p.blocks)

    same_free : is_free π v ≡ is_free π v'
    same_free = fun_ext (λ b. ap not (agree_owned π v v' c agrees b))

    same_unowned : unowned π v ≡ unowned π v'
    same_unowned = agree_unowned π v v' c agrees

    still_clean : Unmarred π v'
    still_clean = of_clean π v' (agree_clean π v v' c agrees)

abbrev store_at : Partition → View → ℕ → Store
store_at π v x = st x (repaired π v (unowned π v) x)

-- the image was l, and the blocks below b are stored in it as far as the limit lets them
pub record Mending (π : Partition) (l : List ℕ) (limit : ℕ) (l' : List ℕ) (b : ℕ) (t : Progress) : Type 0 where
  pub ready : Ready π l
  pub low : π.s < b
  pub same : length l' ≡ length l
  pub done : Applied limit (tab_from (suc π.s) (b - suc π.s) (store_at π (view l))) l l' t.left
  pub part : Part π (view l) (clean_of π (view l) ready.none) (view l')
  pub stand : Standing (is_free π (view l)) π.s π.e b t.last t.next t.count

pub mend_starts : (π : Partition) (l : List ℕ) (limit first b : ℕ) → Ready π l → first ≡ head_of 0 (unowned π (view l)) → b ≡ suc π.s
    → Mending π l limit l b (record { left = limit; last = 0; next = first; count = 0 })
unfolding tab_from stored unowned
mend_starts π l limit first b r q j =
    let z : suc π.s - suc π.s ≡ 0 = omega arith in
    rw j (record {
      ready = r;
      low = omega arith;
      same = refl;
      done = rw z (record { image = rw take-nil; rest = omega arith });
      part = start π (view l) (clean_of π (view l) r.none);
      stand = stand_starts (is_free π (view l)) π.s π.e first r.lies.order q;
    })

module _ {π : Partition} {l : List ℕ} {limit : ℕ} {l' : List ℕ} {b : ℕ} {t : Progress} (m : Mending π l limit l' b t) where
  -- the image as it is has the partition still, with no malformed candidate
  pub mend_ready : Ready π l'
  mend_ready =
      let g = m.ready.lies in
      record {
        lies = record { known = g.known; start = g.start; order = g.order; within = subst (λ (n : ℕ). 528 * π.e + 528 ≤ n) (sym m.same) g.within; few = g.few; small = g.small };
        none = still_clean π (view l) (clean_of π (view l) m.ready.none) (view l') m.part;
      }

  pub mend_turn : (first : ℕ) → first ≡ head_of 0 (unowned π (view l)) → b ≤ π.e → Turn π l' first b t
  mend_turn first q hi = record {
    ready = mend_ready;
    low = m.low;
    high = hi;
    head = q ∙ ap (head_of 0) (same_unowned π (view l) _ (view l') m.part);
    stand = subst (λ (P : ℕ → Bool). Standing P π.s π.e b t.last t.next t.count) (same_free π (view l) _ (view l') m.part) m.stand;
  }

  pub mend_next : {l'' : List ℕ} {t' : Progress} → Bytes l → b ≤ π.e → Turned π l' l'' b t t' → Mending π l limit l'' (b + 1) t'
  mend_next {l''} {t'} by hi p =
      let lo = m.low in
      let c : Clean π (view l) = clean_of π (view l) m.ready.none in
      let f : ℕ → Store = store_at π (view l) in
      let R : Rec = repaired π (view l) (unowned π (view l)) b in
      let q : repaired π (view l') (unowned π (view l')) b ≡ R = sym (repaired_same π (view l) c (view l') m.part.blocks b (λ z. omega arith)) in
      let one : Applied t.left (st b R ∷ []) l' l'' t'.left = subst (λ (x : Rec). Applied t.left (st b x ∷ []) l' l'' t'.left) q p.store in
      let a = applied_view t.left b R l' l'' t'.left one (omega (arith, m.same, m.ready.lies.within)) (repaired_fits π (view l) m.ready.lies.few m.ready.lies.order b (view_fits l b by)) in
      let n : b + 1 - suc π.s ≡ suc (b - suc π.s) = omega arith in
      let at : suc π.s + (b - suc π.s) ≡ b = omega arith in
      let list : tab_from (suc π.s) (b + 1 - suc π.s) f ≡ tab_from (suc π.s) (b - suc π.s) f ++ (st b R ∷ []) =
      ap (λ (k : ℕ). tab_from (suc π.s) k f) n ∙ tab_snoc (suc π.s) (b - suc π.s) f
      ∙ ap (λ (x : Store). tab_from (suc π.s) (b - suc π.s) f ++ (x ∷ [])) (ap f at) in
      record {
        ready = m.ready;
        low = omega arith;
        same = a.1 ∙ m.same;
        done = subst (λ (ss : List Store). Applied limit ss l l'' t'.left) (sym list) (then m.done one);
        part = part_next π (view l) c (view l') (view l'') b R m.part lo hi refl a.0;
        stand = subst (λ (P : ℕ → Bool). Standing P π.s π.e (b + 1) t'.last t'.next t'.count) (sym (same_free π (view l) c (view l') m.part)) p.stand;
      }

  pub mend_past : b ≡ suc π.e → Mending π l limit l' (suc π.e) t
  mend_past q = subst (λ (x : ℕ). Mending π l limit l' x t) q m

-- the PIB's record for the free blocks fr
pib_is : (π : Partition) (v : View) (fr : List ℕ) {first last n : ℕ} → first ≡ head_of 0 fr → last ≡ last_of 0 fr → n ≡ length fr
    → pib_record π.drive v π.s first last n ≡ repaired_pib π v fr
unfolding repaired_pib pib_record
pib_is π v fr h t k = rw (h, t, k)

-- past the last block
module _ {π : Partition} {l : List ℕ} {limit : ℕ} {l' : List ℕ} {t : Progress} (m : Mending π l limit l' (suc π.e) t) where
  -- the PIB's record, made of the image as it is
  pub mend_pib : (first : ℕ) {R : Rec} → first ≡ head_of 0 (unowned π (view l))
      → R ≡ pib_record π.drive (view l') π.s first t.last t.count
      → R ≡ repaired_pib π (view l) (unowned π (view l))
  unfolding unowned
  mend_pib first {R} h q =
      let c : Clean π (view l) = clean_of π (view l) m.ready.none in
      let u = same_unowned π (view l) c (view l') m.part in
      q ∙ pib_is π (view l') _ (h ∙ ap (head_of 0) u) (stand_last m.stand ∙ ap (last_of 0) u) (stand_many m.stand ∙ ap length u)
      ∙ sym (target_pib π (view l')) ∙ sym (target_same π (view l) c (view l') m.part π.s) ∙ target_pib π (view l)

  -- and its store ends the list
  pub mend_end : {l'' : List ℕ} {left : ℕ} {R : Rec} → R ≡ repaired_pib π (view l) (unowned π (view l)) → Applied t.left (st π.s R ∷ []) l' l'' left
      → Applied limit (repair_stores π (view l)) l l'' left
  unfolding repair_plan stores
  mend_end {l''} {left} {R} w p =
      let z : suc π.e - suc π.s ≡ π.e - π.s = omega arith in
      then
      (subst (λ (k : ℕ). Applied limit (tab_from (suc π.s) k (store_at π (view l))) l l' t.left) z m.done)
      (subst (λ (x : Rec). Applied t.left (st π.s x ∷ []) l' l'' left) w p)
