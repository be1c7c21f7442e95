-- A view some of whose blocks are repaired already has the same files, the same owned blocks, and the same repair.
use Rattle.std.specs.Prelude.{◌≡◌, ◌⊎◌, ◌≢◌, List, Bool, ℕ, ◌<◌, leb}
use Rattle.std.proofs.Math.Path.{refl, sym, ap}
use Rattle.std.proofs.Common.{◌∙◌, arith}
use Rattle.std.proofs.Math.Logic.{inl, inr}
use Rattle.std.proofs.Math.Bool.{true, false}
use Rattle.std.proofs.Math.Dec.{ltb, eqb}
use borrow.Author.Tests.{ltb-true, eqb-true, ne_eqb, lt-leb}
use Rattle.base.specs.Tests.{pick, both}
use Rattle.image.specs.View.{View, Rec, put, put2}
use Rattle.volume.specs.Words.{next_at, previous_at}
use Rattle.volume.specs.Keys.{home, child, first}
use Rattle.volume.specs.Files.{owned, unowned}
use Rattle.volume.specs.declared.Partition.{Partition}
use Rattle.frame.specs.Soft.{tally_word, spare}
use Rattle.volume.specs.Plans.{trimmed, shaped, content, relinked, freed, repaired}
use Rattle.volume.proofs.Steps.{both_no_2}

-- ---- what repair leaves

pub links_off : (x y : ℕ) (r : Rec) (w : ℕ) → w ≢ 4 → w ≢ 5 → w ≢ 6 → w ≢ 7 → put2 next_at x (put2 previous_at y r) w ≡ r w
unfolding put put2
links_off x y r w n4 n5 n6 n7 = simp (ne_eqb w 4 n4, ne_eqb w 5 n5, ne_eqb w 6 n6, ne_eqb w 7 n7)

module _ (n k : ℕ) where
  trimmed_off : (r : Rec) (w : ℕ) → both (leb 8 w) (leb n (first (child k w))) ≡ false → trimmed n k r w ≡ r w
  unfolding trimmed
  trimmed_off r w h = ap (λ (t : Bool). pick t 0 (r w)) h

  -- a word that is not spare is kept
  pub shaped_keeps : (r : Rec) (w : ℕ) → (w < 8) ⊎ (pick (eqb k home) (tally_word w) (both (ltb k home) (leb n (first (child k w)))) ≡ false) → shaped n k r w ≡ r w
  unfolding shaped both
  shaped_keeps r w h = go (eqb k home) refl (ltb k home) refl h
    where
      go : (t : Bool) → eqb k home ≡ t → (u : Bool) → ltb k home ≡ u → (w < 8) ⊎ (pick t (tally_word w) (both u (leb n (first (child k w)))) ≡ false)
          → pick u (trimmed n k r) r w ≡ r w
      go true q true z h = absurd (omega (arith, eqb-true k home q, ltb-true k home z))
      go false q true z (inl l) = trimmed_off r w (ap (λ (x : Bool). both x (leb n (first (child k w)))) (lt-leb 8 w l))
      go false q true z (inr l) = trimmed_off r w (both_no_2 (leb 8 w) (leb n (first (child k w))) l)
      go t q false z h = refl

  -- done twice it is done once
  abbrev Over : Rec → Rec → Type 0
  Over r r' = (w : ℕ) → w ≢ 4 → w ≢ 5 → w ≢ 6 → w ≢ 7 → r' w ≡ r w

  trimmed_twice : (r r' : Rec) (w : ℕ) → r' w ≡ trimmed n k r w → trimmed n k r w ≡ trimmed n k r' w
  unfolding trimmed
  trimmed_twice r r' w q = go (both (leb 8 w) (leb n (first (child k w)))) q
    where
      go : (t : Bool) → r' w ≡ pick t 0 (r w) → pick t 0 (r w) ≡ pick t 0 (r' w)
      go true q = refl
      go false q = sym q

  pub shaped_twice : (r r' : Rec) → Over (shaped n k r) r' → (w : ℕ) → w ≢ 4 → w ≢ 5 → w ≢ 6 → w ≢ 7 → shaped n k r w ≡ shaped n k r' w
  unfolding shaped
  shaped_twice r r' h w n4 n5 n6 n7 = go (ltb k home) h
    where
      go : (u : Bool) → Over (pick u (trimmed n k r) r) r' → pick u (trimmed n k r) r w ≡ pick u (trimmed n k r') r' w
      go true h = trimmed_twice r r' w (h w n4 n5 n6 n7)
      go false h = sym (h w n4 n5 n6 n7)

-- ---- block by block: as it was, or repaired

module _ (π : Partition) (v : View) where
  pub repaired_mine : (fr : List ℕ) (b : ℕ) → owned π v b ≡ true → repaired π v fr b ≡ relinked π v b
  unfolding repaired
  repaired_mine fr b h = ap (λ (t : Bool). pick t (relinked π v b) (freed π v fr b)) h

  pub repaired_free : (fr : List ℕ) (b : ℕ) → owned π v b ≡ false → repaired π v fr b ≡ freed π v fr b
  unfolding repaired
  repaired_free fr b h = ap (λ (t : Bool). pick t (relinked π v b) (freed π v fr b)) h

  relinked_off : (b w : ℕ) → w ≢ 4 → w ≢ 5 → w ≢ 6 → w ≢ 7 → relinked π v b w ≡ content π v b w
  unfolding relinked
  relinked_off b w n4 n5 n6 n7 = links_off _ _ (content π v b) w n4 n5 n6 n7

  pub relinked_keeps : (b w : ℕ) → w ≢ 4 → w ≢ 5 → w ≢ 6 → w ≢ 7 → (w < 8) ⊎ (spare π v b w ≡ false) → relinked π v b w ≡ v b w
  unfolding content spare
  relinked_keeps b w n4 n5 n6 n7 h = relinked_off b w n4 n5 n6 n7 ∙ shaped_keeps _ _ (v b) w h

  abbrev pub Mid : View → Type 0
  Mid v' = (b : ℕ) → b ≢ π.s → (v' b ≡ v b) ⊎ (v' b ≡ repaired π v (unowned π v) b)
