-- The records that repair stores are words that fit.
use Rattle.std.specs.Prelude.{◌≡◌, ◌≢◌, Bool, not, ℕ, suc, ◌-◌, ◌≤◌, ◌<◌, ltb}
use Rattle.std.proofs.Math.Path.{refl, subst}
use Rattle.std.proofs.Common.{sym}
use Rattle.std.proofs.Math.Bool.{true, false}
use native.Mathlib.Omega.{arith}
use Rattle.std.proofs.Math.Dec.{eqb}
use Rattle.std.proofs.lemmas.Bool.{eqb-false}
use Rattle.base.specs.Tests.{pick}
use Rattle.drive.specs.Address.{pda, or_nil}
use Rattle.drive.specs.Fits.{pda_small}
use Rattle.image.specs.View.{View}
use Rattle.image.specs.Stores.{Fits}
use Rattle.volume.specs.Keys.{home}
use Rattle.volume.specs.Files.{within, len, spot, present, file_of, key, owned, unowned, above, below, link}
use Rattle.volume.specs.declared.Partition.{Partition}
use Rattle.volume.proofs.Readings.{inside_of}
use Rattle.volume.proofs.Index.{own, member, file_candidate, file_formed}
use Rattle.volume.proofs.Order.{above_next, below_prev}
use Rattle.volume.specs.Plans.{trimmed, shaped, content, relinked, freed, repaired}
use Rattle.frame.specs.Chain.{above_in, below_in, within_those}
use Rattle.frame.specs.Fitting.{put_fits, put2_fits, trimmed_fits}
use Rattle.frame.specs.Repair.{repaired_mine, repaired_free}

pub unowned_in : (π : Partition) (v : View) → π.s < π.e → within π (unowned π v) ≡ true
unfolding unowned
unowned_in π v order = within_those (λ b. not (owned π v b)) π (suc π.s) (π.e - π.s) (omega arith) (omega arith)

module _ (π : Partition) (v : View) (few : π.e < 69552) where
  or_small : (b : ℕ) → b ≤ π.e → or_nil π.drive b < 4294967296
  or_small b l = go (eqb b 0)
    where
      go : (t : Bool) → pick t 0 (pda π.drive b) < 4294967296
      go true = omega arith
      go false = pda_small π.drive b (omega (arith, few))

  content_fits : (b : ℕ) → Fits (v b) → Fits (content π v b)
  unfolding content shaped
  content_fits b h = go (ltb (key v b) home)
    where
      go : (t : Bool) → Fits (pick t (trimmed (len v (file_of π v b)) (key v b) (v b)) (v b))
      go true = trimmed_fits _ _ h
      go false = h

  -- the links of an owned block, to keys that are present
  module _ (b : ℕ) (o : owned π v b ≡ true) where
    link_small : (k : ℕ) → (k ≢ 0 → present π v (file_of π v b) k ≡ true) → link π v (file_of π v b) k < 4294967296
    unfolding link
    link_small k h = go (eqb k 0) refl
      where
        go : (t : Bool) → eqb k 0 ≡ t → pick t 0 (pda π.drive (spot π v (file_of π v b) k)) < 4294967296
        go true q = omega arith
        go false q =
            let i = (own π v b o).file in
            let m = member π v _ (file_candidate π v _ i) (file_formed π v _ i) k (h (eqb-false k 0 q)) in
            pda_small π.drive _ (omega (arith, few, (inside_of π _ m.ins).1))

    pub next_small : link π v (file_of π v b) (above π v (file_of π v b) (key v b)) < 4294967296
    next_small = link_small _ (λ n. ((above_next π v _ (key v b)).hit n).0)

    pub prev_small : link π v (file_of π v b) (below π v (file_of π v b) (key v b)) < 4294967296
    prev_small = link_small _ (λ n. ((below_prev π v _ (key v b)).hit n).0)

  -- the record that repair stores in block b
  pub repaired_fits : π.s < π.e → (b : ℕ) → Fits (v b) → Fits (repaired π v (unowned π v) b)
  unfolding relinked freed
  repaired_fits order b h = go (owned π v b) refl
    where
      go : (t : Bool) → owned π v b ≡ t → Fits (repaired π v (unowned π v) b)
      go true o =
          subst Fits (sym (repaired_mine π v (unowned π v) b o))
          (put2_fits 4 _ (omega arith) (next_small b o) (put2_fits 6 _ (omega arith) (prev_small b o) (content_fits b h)))
      go false o =
          let w = unowned_in π v order in
          subst Fits (sym (repaired_free π v (unowned π v) b o))
          (put2_fits 0 0 (omega arith) (omega arith) (put_fits 3 _ (omega arith) (omega arith)
          (put2_fits 4 _ (omega arith) (or_small _ (above_in π b (unowned π v) w)) (put2_fits 6 _ (omega arith) (or_small _ (below_in π b (unowned π v) w)) h))))
