-- A file's blocks put behind the free chain: each is there once, and the whole is chained.
use Rattle.std.specs.Prelude.{◌≡◌, ◌≢◌, ◌++◌, Bool, ℕ, ◌+◌, ◌*◌, ◌≤◌, ◌<◌, ltb}
use Rattle.std.proofs.Math.Path.{refl, ap, subst}
use Rattle.std.proofs.Common.{sym, ap₂, ◌∙◌, arith}
use Rattle.std.proofs.Math.Bool.{true, false, true≢false}
use Rattle.std.proofs.Math.Dec.{eqb}
use borrow.Author.Tests.{ltb-true, ltb-false, eqb-true, eqb-false}
use Rattle.base.specs.Tests.{pick, both, head_of, occ}
use Rattle.drive.specs.Address.{pda, or_nil}
use Rattle.image.specs.View.{View, Rec, pair, put2}
use Rattle.volume.specs.Words.{next_at, previous_at}
use Rattle.volume.specs.Files.{candidate, spot, present, least, well_formed, file_of, key, owned, free, chained, sound}
use Rattle.volume.specs.declared.Partition.{Partition}
use Rattle.volume.proofs.Index.{own, member, member_owned, file_back}
use Rattle.volume.proofs.Order.{least_present}
use Rattle.volume.specs.Plans.{free_tail}
use Rattle.frame.specs.Reading.{two, put2_off, put2_here}
use Rattle.frame.specs.Sound.{tail_is, tail_free, sound_clean, sound_linked, sound_chained, free_in, free_once, sound_some}
use Rattle.frame.proofs.FreeChain.{links_of}
use Rattle.frame.proofs.Listed.{blocks, chained_blocks, occ_mine, occ_other, head_blocks}
use Rattle.frame.specs.Joined.{chained_first, chained_join}
use Rattle.volume.proofs.Readings.{or_pda}

module _ (π : Partition) (v : View) (ok : sound π v ≡ true) (f : ℕ) (cf : candidate π v f ≡ true) where
  abbrev top : ℕ
  top = spot π v f (least π v f)

  abbrev tl : ℕ
  tl = free_tail π v

  wf : well_formed π v f ≡ true
  wf = sound_clean π v ok f cf

  tl_occ : 0 < occ (free_tail π v) (free π v)
  tl_occ = tail_free π v ok

  -- a block that f owns has a key that is present
  mine : (b : ℕ) → owned π v b ≡ true → file_of π v b ≡ f → (present π v f (key v b) ≡ true) × (spot π v f (key v b) ≡ b)
  mine b o z = let w = own π v b o in (subst (λ (x : ℕ). present π v x (key v b) ≡ true) z w.here, ap (λ (x : ℕ). spot π v x (key v b)) (sym z) ∙ w.back)

  -- a block of the file's list is one of its own, and is there once
  pub occ_blocks : (b : ℕ) → occ b (blocks π v f) ≡ pick (both (owned π v b) (eqb (file_of π v b) f)) 1 0
  unfolding both
  occ_blocks b = go (owned π v b) refl (eqb (file_of π v b) f) refl
    where
      go : (t : Bool) → owned π v b ≡ t → (u : Bool) → eqb (file_of π v b) f ≡ u → occ b (blocks π v f) ≡ pick (both t u) 1 0
      go true q true z = ap (λ (x : ℕ). occ x (blocks π v f)) (sym (mine b q (eqb-true _ _ z)).1) ∙ occ_mine π v f cf wf (key v b) (mine b q (eqb-true _ _ z)).0
      go true q false z = occ_other π v f cf wf b (λ j p y. eqb-false _ _ z (ap (file_of π v) (sym y) ∙ file_back π v f cf wf j p))
      go false q u z = occ_other π v f cf wf b (λ j p y. true≢false (sym (member_owned π v f cf wf j p) ∙ ap (owned π v) y ∙ q))

  few_blocks : (b : ℕ) → occ b (blocks π v f) ≤ 1
  few_blocks b = go (both (owned π v b) (eqb (file_of π v b) f)) (occ_blocks b)
    where
      go : (t : Bool) → occ b (blocks π v f) ≡ pick t 1 0 → occ b (blocks π v f) ≤ 1
      go true q = omega arith
      go false q = omega arith

  few : (b : ℕ) → occ b (free π v) ≤ 1
  few b = go (ltb 0 (occ b (free π v))) refl
    where
      go : (t : Bool) → ltb 0 (occ b (free π v)) ≡ t → occ b (free π v) ≤ 1
      go true h = omega (arith, free_once π v ok b (ltb-true 0 (occ b (free π v)) h))
      go false h = let y = ltb-false 0 (occ b (free π v)) h in omega arith

  -- a view in which the old tail points on to the first of the file, that one back to the tail, and all other links are as they were
  pub record Behind (W : View) : Type 0 where
    pub free : (b : ℕ) → 0 < occ b (free π v) → b ≢ free_tail π v → W b ≡ v b
    pub tail : W (free_tail π v) ≡ put2 next_at (pda π.drive (spot π v f (least π v f))) (v (free_tail π v))
    pub links : (k w : ℕ) → present π v f k ≡ true → 4 ≤ w → (k ≡ least π v f → w < 6) → W (spot π v f k) w ≡ v (spot π v f k) w
    pub first : pair W (spot π v f (least π v f)) previous_at ≡ pda π.drive (free_tail π v)

  module _ (W : View) (h : Behind W) where
    -- its links are as they were, but for the previous one of the first
    abbrev Linked : ℕ → Type 0
    Linked b = (pair W b next_at ≡ pair v b next_at) × (b ≢ top → pair W b previous_at ≡ pair v b previous_at)

    file_links : (k : ℕ) → present π v f k ≡ true → Linked (spot π v f k)
    file_links k p = (
      pair_is 4 (omega arith) (λ _. omega arith),
      λ n. pair_is 6 (omega arith) (λ z. absurd (n (ap (spot π v f) z))),
    )
      where
        pair_is : (w : ℕ) → 4 ≤ w → (k ≡ least π v f → w < 5) → pair W (spot π v f k) w ≡ pair v (spot π v f k) w
        pair_is w l m = ap₂ (λ (x y : ℕ). x + 65536 * y) (h.links k w p l (λ z. omega (arith, m z))) (h.links k (w + 1) p (omega arith) (λ z. omega (arith, m z)))

    block_links : (b : ℕ) → 0 < occ b (blocks π v f) → Linked b
    unfolding both
    block_links b m = go (owned π v b) refl (eqb (file_of π v b) f) refl (occ_blocks b)
      where
        go : (t : Bool) → owned π v b ≡ t → (u : Bool) → eqb (file_of π v b) f ≡ u → occ b (blocks π v f) ≡ pick (both t u) 1 0 → Linked b
        go true q true z o = let k = mine b q (eqb-true _ _ z) in subst Linked k.1 (file_links (key v b) k.0)
        go true q false z o = absurd (omega arith)
        go false q u z o = absurd (omega arith)

    free_prev : (b : ℕ) → 0 < occ b (free π v) → pair W b previous_at ≡ pair v b previous_at
    free_prev b m = go (eqb b tl) refl
      where
        go : (t : Bool) → eqb b tl ≡ t → pair W b previous_at ≡ pair v b previous_at
        go true q =
            subst (λ (x : ℕ). pair W x previous_at ≡ pair v x previous_at) (sym (eqb-true b tl q))
            (ap (λ (r : Rec). two r 6) h.tail ∙ ap₂ (λ (x y : ℕ). x + 65536 * y) (put2_off 4 _ (v tl) 6 (λ z. omega arith) (λ z. omega arith)) (put2_off 4 _ (v tl) 7 (λ z. omega arith) (λ z. omega arith)))
        go false q = ap (λ (r : Rec). two r 6) (h.free b m (eqb-false b tl q))

    pub ways : chained π W 0 (free π v ++ blocks π v f) ≡ true
    ways = chained_join π v W 0 tl (free π v) (blocks π v f) (sound_some π v ok) (sym (tail_is π v ok)) few free_prev (λ b m n. ap (λ (r : Rec). two r 4) (h.free b m n))
        (ap (λ (r : Rec). two r 4) h.tail ∙ put2_here 4 _ (v tl) ∙ sym (or_pda π top (member π v f cf wf _ (least_present π v f wf).1).ins) ∙ ap (or_nil π.drive) (sym head_is))
        (chained_first π v W tl (blocks π v f) few_blocks (λ b m. (block_links b m).0) (λ b m n. (block_links b m).1 (λ z. n (z ∙ sym head_is)))
        (ap (λ (b : ℕ). pair W b previous_at) head_is ∙ h.first ∙ sym (or_pda π tl (free_in π v ok tl tl_occ)))
        (chained_blocks π v f cf wf (links_of π v f (sound_linked π v ok f cf))))
        (sound_chained π v ok)
      where
        head_is : head_of 0 (blocks π v f) ≡ top
        head_is = head_blocks π v f cf wf
