-- The blocks of a file as a list in link order; its links chain it.
use Rattle.std.specs.Prelude.{◌≡◌, ◌≢◌, Bool, length}
use Rattle.std.proofs.Math.Path.{refl, sym, ap, ap₂}
use Rattle.std.proofs.Common.{◌∙◌, subst}
use mathlib.Core.List.{List, [], ◌∷◌, map}
use Rattle.std.proofs.Math.Bool.{true, false}
use Prim.Native.Nat.{ℕ, zero, suc, ◌+◌, ◌-◌, ◌<◌}
use native.Mathlib.Omega.{arith}
use Rattle.std.proofs.Math.Dec.{eqb}
use Rattle.std.proofs.Math.ListN.{length-map}
use borrow.Author.Tests.{eqb-true, eqb-false, eq-eqb, ne_eqb}
use Rattle.base.specs.Tests.{pick, those, head_of, last_of, occ}
use Rattle.base.specs.Laws.{both_of, never}
use Rattle.drive.specs.Address.{pda, or_nil}
use Rattle.image.specs.View.{View}
use Rattle.volume.specs.Search.{seek}
use Rattle.volume.specs.Keys.{home, low, span}
use Rattle.volume.proofs.KeyLaws.{low_pos, low_home, span_end}
use Rattle.volume.specs.Files.{within, candidate, len, spot, present, well_formed, above, least, link, size, chained, key}
use Rattle.volume.specs.declared.Partition.{Partition}
use Rattle.volume.proofs.Index.{wf_of, member, key_back, present_low, present_high}
use Rattle.volume.proofs.Order.{Prev, prev_one, least_present, below_prev}
use Rattle.frame.specs.Chain.{occ_in, length_those}
use Rattle.frame.proofs.FreeChain.{Links}
use Rattle.volume.proofs.Readings.{or_pda}

-- the first of a list is what a search finds
pub head_seek : (n k : ℕ) (P : ℕ → Bool) → head_of 0 (those k n P) ≡ seek n k P
unfolding head_of those seek
head_seek zero k P = refl
head_seek (suc n) k P = go (P k) (head_seek n (suc k) P)
  where
    go : (t : Bool) → head_of 0 (those (suc k) n P) ≡ seek n (suc k) P → head_of 0 (pick t (k ∷ those (suc k) n P) (those (suc k) n P)) ≡ elim t [ true ↦ k | false ↦ seek n (suc k) P ]
    go true ih = refl
    go false ih = ih

module _ (π : Partition) (v : View) (f : ℕ) where
  -- the present keys, and their blocks, in link order
  unfoldable pub blocks : List ℕ
  blocks = map (spot π v f) (those (low (len v f)) (span (len v f)) (present π v f))

  -- the block of a key, or 0
  abbrev pub block_or : ℕ → ℕ
  block_or b = pick (eqb b 0) 0 (spot π v f b)

  module _ (cf : candidate π v f ≡ true) (wf : well_formed π v f ≡ true) where
    abbrev P : ℕ → Bool
    P = present π v f

    -- the present key before, as the keys are passed one by one
    behind : (k b : ℕ) → P k ≡ false → Prev P k b → Prev P (suc k) b
    behind k b q h = record { hit = λ n. ((h.hit n).0, omega (arith, (h.hit n).1)); none = λ i p l m. go i p l m (eqb i k) refl }
      where
        go : (i : ℕ) → 0 < i → i < suc k → (b ≢ 0 → b < i) → (t : Bool) → eqb i k ≡ t → P i ≡ false
        go i p l m true z = ap P (eqb-true i k z) ∙ q
        go i p l m false z = h.none i p (omega (arith, eqb-false i k z)) m

    onto : (k : ℕ) → 0 < k → P k ≡ true → Prev P (suc k) k
    onto k p h = record { hit = λ _. (h, omega arith); none = λ i _ l m. absurd (omega (arith, m (λ z. omega arith))) }

    none_below : Prev P (low (len v f)) 0
    none_below = record { hit = λ n. absurd (n refl); none = λ i p l _. never _ (λ q. omega (arith, present_low π v f i q)) }

    or_link : (b : ℕ) → (b ≢ 0 → P b ≡ true) → or_nil π.drive (block_or b) ≡ link π v f b
    unfolding link
    or_link b h = go (eqb b 0) refl
      where
        go : (t : Bool) → eqb b 0 ≡ t → or_nil π.drive (pick t 0 (spot π v f b)) ≡ pick t 0 (pda π.drive (spot π v f b))
        go true q = refl
        go false q = or_pda π (spot π v f b) (member π v f cf wf b (h (eqb-false b 0 q))).ins

    pub head_map : (n k : ℕ) → 0 < k → head_of 0 (map (spot π v f) (those k n P)) ≡ block_or (head_of 0 (those k n P))
    unfolding head_of those
    head_map zero k p = refl
    head_map (suc n) k p = go (P k) (head_map n (suc k) (omega arith))
      where
        go : (t : Bool) → head_of 0 (map (spot π v f) (those (suc k) n P)) ≡ block_or (head_of 0 (those (suc k) n P))
            → head_of 0 (map (spot π v f) (pick t (k ∷ those (suc k) n P) (those (suc k) n P))) ≡ block_or (head_of 0 (pick t (k ∷ those (suc k) n P) (those (suc k) n P)))
        go true ih = sym (ap (λ (t : Bool). pick t 0 (spot π v f k)) (ne_eqb k 0 (λ z. omega arith)))
        go false ih = ih

    above_head : (n k : ℕ) → suc k + n ≡ suc (home + len v f) → above π v f k ≡ head_of 0 (those (suc k) n P)
    unfolding above
    above_head n k e = ap (λ (m : ℕ). seek m (suc k) P) (let z : home + len v f - k ≡ n = omega arith in z) ∙ sym (head_seek n (suc k) P)

    head_some : (n k : ℕ) → head_of 0 (those k n P) ≢ 0 → P (head_of 0 (those k n P)) ≡ true
    unfolding head_of those
    head_some zero k h = absurd (h refl)
    head_some (suc n) k h = go (P k) refl h (head_some n (suc k))
      where
        go : (t : Bool) → P k ≡ t → head_of 0 (pick t (k ∷ those (suc k) n P) (those (suc k) n P)) ≢ 0 → (head_of 0 (those (suc k) n P) ≢ 0 → P (head_of 0 (those (suc k) n P)) ≡ true)
            → P (head_of 0 (pick t (k ∷ those (suc k) n P) (those (suc k) n P))) ≡ true
        go true q h ih = q
        go false q h ih = ih h

    chained_from : Links π v f → (n k b : ℕ) → 0 < k → k + n ≡ suc (home + len v f) → Prev P k b → chained π v (block_or b) (map (spot π v f) (those k n P)) ≡ true
    unfolding those chained
    chained_from lk zero k b p e h = refl
    chained_from lk (suc n) k b p e h = go (P k) refl (λ u. chained_from lk n (suc k) k (omega arith) (omega arith) (onto k p u)) (λ u. chained_from lk n (suc k) b (omega arith) (omega arith) (behind k b u h))
      where
        R : List ℕ
        R = those (suc k) n P

        go : (t : Bool) → P k ≡ t → (P k ≡ true → chained π v (block_or k) (map (spot π v f) R) ≡ true) → (P k ≡ false → chained π v (block_or b) (map (spot π v f) R) ≡ true)
            → chained π v (block_or b) (map (spot π v f) (pick t (k ∷ R) R)) ≡ true
        go false q x y = y q
        go true q x y =
            both_of (eq-eqb _ _ (lk.prev k q ∙ ap (link π v f) (prev_one P k _ b (below_prev π v f k) h) ∙ sym (or_link b (λ z. (h.hit z).0))))
            (both_of (eq-eqb _ _ (lk.next k q ∙ ap (link π v f) (above_head n k (omega arith)) ∙ sym (or_link (head_of 0 R) (head_some n (suc k))) ∙ ap (or_nil π.drive) (sym (head_map n (suc k) (omega arith)))))
            (subst (λ (z : ℕ). chained π v z (map (spot π v f) R) ≡ true) (ap (λ (t : Bool). pick t 0 (spot π v f k)) (ne_eqb k 0 (λ z. omega arith))) (x q)))

    -- the links of a linked file chain its blocks
    pub chained_blocks : Links π v f → chained π v 0 blocks ≡ true
    unfolding blocks
    chained_blocks lk = chained_from lk (span (len v f)) (low (len v f)) 0 (low_pos (len v f) (wf_of π v f wf).short) (omega (arith, span_end (len v f))) none_below

    -- how many
    pub blocks_length : length blocks ≡ size π v f
    unfolding blocks size
    blocks_length = length-map (those (low (len v f)) (span (len v f)) P) (spot π v f) ∙ length_those P (low (len v f)) (span (len v f))

    -- each once, and no other
    occ_map : (j n k : ℕ) → P j ≡ true → occ (spot π v f j) (map (spot π v f) (those k n P)) ≡ occ j (those k n P)
    unfolding those occ
    occ_map j zero k p = refl
    occ_map j (suc n) k p = go (P k) refl (occ_map j n (suc k) p)
      where
        same : P k ≡ true → eqb (spot π v f j) (spot π v f k) ≡ eqb j k
        same q = on (eqb j k) refl
          where
            on : (t : Bool) → eqb j k ≡ t → eqb (spot π v f j) (spot π v f k) ≡ t
            on true z = eq-eqb _ _ (ap (spot π v f) (eqb-true j k z))
            on false z = ne_eqb _ _ (λ y. eqb-false j k z (sym (key_back π v f cf wf j p) ∙ ap (key v) y ∙ key_back π v f cf wf k q))

        go : (t : Bool) → P k ≡ t → occ (spot π v f j) (map (spot π v f) (those (suc k) n P)) ≡ occ j (those (suc k) n P)
            → occ (spot π v f j) (map (spot π v f) (pick t (k ∷ those (suc k) n P) (those (suc k) n P))) ≡ occ j (pick t (k ∷ those (suc k) n P) (those (suc k) n P))
        go true q ih = ap₂ (λ (t : Bool) (x : ℕ). pick t 1 0 + x) (same q) ih
        go false q ih = ih

    pub occ_mine : (j : ℕ) → P j ≡ true → occ (spot π v f j) blocks ≡ 1
    unfolding blocks
    occ_mine j p =
        occ_map j (span (len v f)) (low (len v f)) p
        ∙ occ_in P j (low (len v f)) (span (len v f)) (present_low π v f j p) (omega (arith, present_high π v f j p, span_end (len v f)))
        ∙ ap (λ (t : Bool). pick t 1 0) p

    occ_none : (b n k : ℕ) → ((j : ℕ) → P j ≡ true → spot π v f j ≢ b) → occ b (map (spot π v f) (those k n P)) ≡ 0
    unfolding those occ
    occ_none b zero k h = refl
    occ_none b (suc n) k h = go (P k) refl (occ_none b n (suc k) h)
      where
        go : (t : Bool) → P k ≡ t → occ b (map (spot π v f) (those (suc k) n P)) ≡ 0 → occ b (map (spot π v f) (pick t (k ∷ those (suc k) n P) (those (suc k) n P))) ≡ 0
        go true q ih = ap₂ (λ (t : Bool) (x : ℕ). pick t 1 0 + x) (ne_eqb b (spot π v f k) (λ z. h k q (sym z))) ih
        go false q ih = ih

    pub occ_other : (b : ℕ) → ((j : ℕ) → P j ≡ true → spot π v f j ≢ b) → occ b blocks ≡ 0
    unfolding blocks
    occ_other b h = occ_none b (span (len v f)) (low (len v f)) h

    within_from : (n k : ℕ) → within π (map (spot π v f) (those k n P)) ≡ true
    unfolding those within
    within_from zero k = refl
    within_from (suc n) k = go (P k) refl (within_from n (suc k))
      where
        go : (t : Bool) → P k ≡ t → within π (map (spot π v f) (those (suc k) n P)) ≡ true → within π (map (spot π v f) (pick t (k ∷ those (suc k) n P) (those (suc k) n P))) ≡ true
        go true q ih = both_of (member π v f cf wf k q).ins ih
        go false q ih = ih

    pub within_blocks : within π blocks ≡ true
    unfolding blocks
    within_blocks = within_from (span (len v f)) (low (len v f))

    -- the first and the last
    pub head_blocks : head_of 0 blocks ≡ spot π v f (least π v f)
    unfolding blocks least
    head_blocks =
        head_map (span (len v f)) (low (len v f)) (low_pos (len v f) (wf_of π v f wf).short)
        ∙ ap block_or (head_seek (span (len v f)) (low (len v f)) P)
        ∙ ap (λ (t : Bool). pick t 0 (spot π v f (seek (span (len v f)) (low (len v f)) P))) (ne_eqb _ 0 (least_present π v f wf).0)

    last_from : (n k x : ℕ) → 0 < n → k + n ≡ suc (home + len v f) → last_of x (map (spot π v f) (those k n P)) ≡ spot π v f (home + len v f)
    unfolding those last_of
    last_from zero k x l e = absurd (omega arith)
    last_from (suc zero) k x l e =
        let z : k ≡ home + len v f = omega arith in
        ap (λ (t : Bool). last_of x (map (spot π v f) (pick t (k ∷ []) []))) (ap P z ∙ (wf_of π v f wf).ends) ∙ ap (spot π v f) z
    last_from (suc (suc n)) k x l e = go (P k) (λ y. last_from (suc n) (suc k) y (omega arith) (omega arith))
      where
        go : (t : Bool) → ((y : ℕ) → last_of y (map (spot π v f) (those (suc k) (suc n) P)) ≡ spot π v f (home + len v f))
            → last_of x (map (spot π v f) (pick t (k ∷ those (suc k) (suc n) P) (those (suc k) (suc n) P))) ≡ spot π v f (home + len v f)
        go true ih = ih (spot π v f k)
        go false ih = ih x

    pub last_blocks : (x : ℕ) → last_of x blocks ≡ spot π v f (home + len v f)
    unfolding blocks
    last_blocks x = last_from (span (len v f)) (low (len v f)) x (omega (arith, span_end (len v f), low_home (len v f))) (omega (arith, span_end (len v f)))
