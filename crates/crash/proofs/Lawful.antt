-- What makes a store lawful: addresses in the partition fit; a store into its blocks, one into the PIB, and those that put the free chain
-- on from another block.
use Rattle.std.specs.Prelude.{◌≡◌, true, ℕ, ◌+◌, ◌-◌, ◌≤◌, ◌<◌}
use Rattle.std.proofs.Common.{◌∙◌, arith}
use Rattle.drive.specs.Address.{pda, lda, address}
use Rattle.image.specs.View.{View, Rec, pair}
use Rattle.image.specs.Stores.{Fits}
use Rattle.volume.specs.Files.{inside}
use Rattle.volume.specs.declared.Partition.{Partition}
use Rattle.volume.specs.Plans.{new_first, pib_less, as_filler}
use Rattle.frame.specs.Reading.{put2_off}
use Rattle.drive.specs.Fits.{pda_small, lda_small}
use Rattle.drive.proofs.Names.{address_small}
use Rattle.volume.specs.Words.{number_free_at}
use Rattle.frame.specs.Fitting.{put_fits, put2_fits}
use Rattle.volume.proofs.Readings.{inside_of}
use Rattle.crash.specs.Lawful.{Placed, fixed_from, Lawful}

module _ {π : Partition} {v : View} (at : Placed π v) where
  pub pda_fits : (b : ℕ) → b ≤ π.e → pda π.drive b < 4294967296
  pda_fits b h = pda_small π.drive b (omega (arith, at.few))

  pub lda_fits : (b : ℕ) → b ≤ π.e → lda π.drive b < 4294967296
  lda_fits b h = lda_small π.drive b (omega (arith, at.few))

  -- the address that is written over words w and w + 1 of block c
  pub address_fits : (c w b : ℕ) → b ≤ π.e → address π.drive (pair v c w) b < 4294967296
  address_fits c w b h = address_small π.drive (pair v c w) b (omega (arith, (at.fits c).small w, (at.fits c).small (w + 1))) (omega (arith, at.few))

  pub le_end : (b : ℕ) → inside π b ≡ true → b ≤ π.e
  le_end b i = (inside_of π b i).1

  -- a store into the partition's blocks, and one into the PIB
  pub inner : {b : ℕ} {r : Rec} → inside π b ≡ true → Fits r → Lawful π v b r
  inner {b} i h = let n = inside_of π b i in record { from = omega arith; to = n.1; fits = h; pib = λ z. absurd (omega arith) }

  pub at_pib : {r : Rec} → Fits r → ((w : ℕ) → fixed_from ≤ w → r w ≡ v π.s w) → Lawful π v π.s r
  at_pib h k = record { from = omega arith; to = omega (arith, at.low); fits = h; pib = λ _. k }

  number_small : pair v π.s number_free_at < 4294967296
  number_small = omega (arith, (at.fits π.s).small 12, (at.fits π.s).small 13)

  pub first_lawful : (g : ℕ) → inside π g ≡ true → Lawful π v g (new_first v g)
  unfolding new_first
  first_lawful g i = inner i (put2_fits 6 0 (omega arith) (omega arith) (put_fits 3 (as_filler g) (omega arith) (omega arith) (at.fits g)))

  pub less_lawful : (g n : ℕ) → inside π g ≡ true → Lawful π v π.s (pib_less π.drive v π.s g n)
  unfolding pib_less
  less_lawful g n i = at_pib
      (put2_fits 8 _ (omega arith) (address_fits π.s 8 g (le_end g i)) (put2_fits 12 (pair v π.s number_free_at - n) (omega arith) (omega (arith, number_small)) (at.fits π.s)))
      (λ w l. put2_off 8 _ _ w (λ z. omega arith) (λ z. omega arith) ∙ put2_off 12 _ (v π.s) w (λ z. omega arith) (λ z. omega arith))
