-- The records that a write stores are records: 264 words below 65,536.
use Rattle.std.specs.Prelude.{◌≡◌, ◌≢◌, Bool, ℕ, suc, ◌+◌, ◌≤◌, ◌<◌}
use Rattle.std.proofs.Math.Path.{refl}
use Rattle.std.proofs.Math.Bool.{true, false}
use native.Mathlib.Omega.{arith}
use Rattle.std.proofs.Math.Dec.{eqb}
use borrow.Author.Tests.{eqb-false, leb-true}
use Rattle.base.specs.Tests.{pick}
use Rattle.base.specs.Laws.{both_left}
use Rattle.base.specs.Sums.{count_both}
use Rattle.drive.specs.Address.{pda, lda}
use Rattle.drive.specs.Fits.{pda_small, lda_small}
use Rattle.drive.proofs.Names.{address_small}
use Rattle.image.specs.View.{View, Rec}
use Rattle.image.specs.Saves.{with_data}
use Rattle.image.specs.Stores.{Fits}
use Rattle.volume.specs.Keys.{home, number, slot, low, span}
use Rattle.volume.proofs.KeyLaws.{slot_high, span_end, number_small}
use Rattle.volume.specs.Files.{inside, spot}
use Rattle.volume.specs.declared.Partition.{Partition}
use Rattle.volume.specs.Plans.{free_at}
use Rattle.volume.specs.Writes.{put2_if, over, counted, needs, is_new, fresh, present', spot', above', below', least', size', link', low_address, empty, base, holds, entered, ended, body, grown}
use Rattle.frame.specs.Soft.{cand_in}
use Rattle.frame.specs.Fitting.{put_fits, put2_fits, blank_fits, Words, data_fits}
use Rattle.growth.specs.Ready.{Ready}
use Rattle.growth.specs.Afterwards.{len_short, spot_in_inside}
use Rattle.growth.specs.Neighbours.{above'_is, below'_is, least'_there}
use Rattle.volume.proofs.Readings.{inside_of}

-- an entry, where it is put
if_fits : (t : Bool) (i x : ℕ) {r : Rec} → i < 263 → (t ≡ true → x < 4294967296) → Fits r → Fits (put2_if t i x r)
unfolding put2_if
if_fits true i x l h r = put2_fits i x l (h refl) r
if_fits false i x l h r = r

module _ (π : Partition) (v : View) (f r : ℕ) (dat : Rec) (ok : Ready π v f r) (few : π.e < 69552) where
  inside_few : (b : ℕ) → inside π b ≡ true → b < 69552
  inside_few b i = omega (arith, (inside_of π b i).1)

  free_few : (i : ℕ) → i ≤ needs π v f r → free_at π v i < 69552
  free_few i l = inside_few (free_at π v i) (ok.room i l).0

  -- links, counts and addresses fit their words
  pub link_small : (j : ℕ) → (j ≢ 0 → present' π v f r j ≡ true) → link' π v f r j < 4294967296
  unfolding link'
  link_small j h = go (eqb j 0) refl
    where
      go : (t : Bool) → eqb j 0 ≡ t → pick t 0 (pda π.drive (spot' π v f r j)) < 4294967296
      go true q = omega arith
      go false q = pda_small π.drive _ (inside_few _ (spot_in_inside π v f r ok j (h (eqb-false j 0 q))))

  size_small : size' π v f r < 65536
  unfolding size'
  size_small = omega (arith, count_both (span (suc r)) (λ i. present' π v f r (low (suc r) + i)), span_end (suc r), len_short π v f r ok.file)

  entered_fits : (k : ℕ) {x : Rec} → Fits x → Fits (entered π v f r dat k x)
  unfolding entered
  entered_fits k h = one 0 (one 1 (one 2 h))
    where
      one : (i : ℕ) {x : Rec} → Fits x → Fits (put2_if (holds π v f r dat i k) (slot (over r i)) (lda π.drive (free_at π v i)) x)
      one i h = if_fits (holds π v f r dat i k) (slot (over r i)) _ (omega (arith, slot_high (over r i)))
          (λ q. let l = leb-true (suc i) (needs π v f r) (both_left _ _ q) in lda_small π.drive _ (free_few i (omega arith))) h

  module _ (vf : (b : ℕ) → Fits (v b)) (df : Words 256 dat) where
    ended_fits : {x : Rec} → Fits x → Fits (ended π v f r dat x)
    unfolding ended
    ended_fits h =
        put_fits 258 r (omega arith) (omega (arith, ok.file.far))
        (put2_fits 259 _ (omega arith) (address_small π.drive _ _ (omega (arith, (vf f).small 259, (vf f).small 260)) (free_few 0 (omega arith))) h)

    counted_fits : {x : Rec} → Fits x → Fits (counted (size' π v f r) (number (least' π v f r)) (low_address π v f r) x)
    unfolding counted
    counted_fits h =
        put_fits 257 _ (omega arith) size_small (put_fits 261 _ (omega arith) (number_small (least' π v f r))
        (put2_fits 262 _ (omega arith) (address_small π.drive _ _ (omega (arith, (vf f).small 262, (vf f).small 263)) (inside_few _ (spot_in_inside π v f r ok _ (least'_there π v f r ok.file).1))) h))

    empty_fits : (k : ℕ) → Fits (empty π v f r dat k)
    unfolding empty
    empty_fits k =
        put2_fits 0 _ (omega arith) (pda_small π.drive f (inside_few f (cand_in π v f ok.cand)))
        (put_fits 2 _ (omega arith) (number_small k) (put_fits 3 _ (omega arith) ((vf (fresh π v f r k)).small 3) blank_fits))

    base_fits : (k : ℕ) → Fits (base π v f r dat k)
    unfolding base
    base_fits k = go (is_new π v f r k) (eqb k (over r 0))
      where
        go : (t u : Bool) → Fits (pick t (pick u (with_data dat (empty π v f r dat k)) (empty π v f r dat k)) (v (spot π v f k)))
        go true true = data_fits df (empty_fits k)
        go true false = empty_fits k
        go false u = vf (spot π v f k)

    body_fits : (k : ℕ) → Fits (body π v f r dat k)
    unfolding body
    body_fits k = go (eqb k home)
      where
        go : (t : Bool) → Fits (pick t (counted (size' π v f r) (number (least' π v f r)) (low_address π v f r) (ended π v f r dat (entered π v f r dat home (v f)))) (entered π v f r dat k (base π v f r dat k)))
        go true = counted_fits (ended_fits (entered_fits home (vf f)))
        go false = entered_fits k (base_fits k)

    pub record_fits : (k : ℕ) → Fits (grown π v f r dat k)
    unfolding grown
    record_fits k =
        put2_fits 4 _ (omega arith) (link_small (above' π v f r k) (λ n. ((above'_is π v f r ok.file k).hit n).0))
        (put2_fits 6 _ (omega arith) (link_small (below' π v f r k) (λ n. ((below'_is π v f r ok.file k).hit n).0)) (body_fits k))
