-- The record that destroy stores in the file block: no serial, and the old links, but for the previous link where it is the first block;
-- words that fit.
use Rattle.std.specs.Prelude.{◌≡◌, refl, Bool, ℕ, ◌≤◌, ◌<◌}
use Rattle.std.proofs.Common.{sym, true≢false, arith}
use Rattle.std.proofs.Math.Bool.{true, false}
use Rattle.drive.specs.Address.{pda}
use Rattle.image.specs.View.{View}
use Rattle.volume.specs.Plans.{fib_gone}
use Rattle.frame.specs.Reading.{two, put2_off, put2_here}
use Rattle.frame.specs.Fitting.{put2_fits}
use Rattle.image.specs.Stores.{Fits}
use Rattle.crash.specs.Gone.{top_zero, top_word, top_prev, top_fits}

-- on drive d, FreeHead naming h and FreeTail tl
module _ (d : ℕ) (v : View) (h tl : ℕ) where
  pub fib_zero : (f : ℕ) (alone : Bool) → two (fib_gone d v h tl f alone) 0 ≡ 0
  unfolding fib_gone
  fib_zero f true = top_zero d v h tl f
  fib_zero f false = put2_here 0 0 (v f)

  -- a link word that stays
  pub fib_word_is : (f w : ℕ) (alone : Bool) → 4 ≤ w → (alone ≡ true → w < 6) → fib_gone d v h tl f alone w ≡ v f w
  unfolding fib_gone
  fib_word_is f w true l m = top_word d v h tl f w l (m refl)
  fib_word_is f w false l m = put2_off 0 0 (v f) w (λ z. omega arith) (λ z. omega arith)

  pub fib_prev : (f : ℕ) (alone : Bool) → alone ≡ true → two (fib_gone d v h tl f alone) 6 ≡ pda d tl
  unfolding fib_gone
  fib_prev f true q = top_prev d v h tl f
  fib_prev f false q = absurd (true≢false (sym q))

  -- it is one of words that fit
  module _ (fits : (b : ℕ) → Fits (v b)) (small : pda d tl < 4294967296) where
    pub fib_fits : (f : ℕ) (alone : Bool) → Fits (fib_gone d v h tl f alone)
    unfolding fib_gone
    fib_fits f true = top_fits d v h tl fits small f
    fib_fits f false = put2_fits 0 0 (omega arith) (omega arith) (fits f)
