-- The records that destroy stores in a file's blocks: no serial, and the old links, but for the previous link of the first block; words that
-- fit.
use Rattle.std.specs.Prelude.{◌≡◌, ℕ, ◌+◌, ◌*◌, ◌≤◌, ◌<◌}
use Rattle.std.proofs.Common.{◌∙◌, arith}
use Rattle.std.proofs.Math.Path.{ap₂}
use Rattle.drive.specs.Address.{pda}
use Rattle.image.specs.View.{View}
use Rattle.volume.specs.Plans.{gone, top_gone, as_filler}
use Rattle.frame.specs.Reading.{two, put_off, put2_off, put2_here}
use Rattle.frame.specs.Fitting.{put_fits, put2_fits}
use Rattle.image.specs.Stores.{Fits}

-- on drive d, FreeHead naming h and FreeTail tl
module _ (d : ℕ) (v : View) (h tl : ℕ) where
  pub gone_zero : (b : ℕ) → two (gone v h b) 0 ≡ 0
  unfolding gone
  gone_zero b = put2_here 0 0 _

  pub top_zero : (b : ℕ) → two (top_gone d v h tl b) 0 ≡ 0
  unfolding top_gone
  top_zero b =
      ap₂ (λ (x y : ℕ). x + 65536 * y) (put2_off 6 _ (gone v h b) 0 (λ z. omega arith) (λ z. omega arith)) (put2_off 6 _ (gone v h b) 1 (λ z. omega arith) (λ z. omega arith)) ∙ gone_zero b

  -- a link word that stays in the record of a block: all but the previous link of the first
  pub gone_word : (b w : ℕ) → 4 ≤ w → gone v h b w ≡ v b w
  unfolding gone
  gone_word b w l = put2_off 0 0 _ w (λ z. omega arith) (λ z. omega arith) ∙ put_off 3 _ (v b) w (λ z. omega arith)

  pub top_word : (b w : ℕ) → 4 ≤ w → w < 6 → top_gone d v h tl b w ≡ v b w
  unfolding top_gone
  top_word b w l m = put2_off 6 _ _ w (λ z. omega arith) (λ z. omega arith) ∙ gone_word b w l

  pub top_prev : (b : ℕ) → two (top_gone d v h tl b) 6 ≡ pda d tl
  unfolding top_gone
  top_prev b = put2_here 6 _ (gone v h b)

  -- they are words that fit
  module _ (fits : (b : ℕ) → Fits (v b)) where
    pub gone_fits : (b : ℕ) → Fits (gone v h b)
    unfolding gone
    gone_fits b = put2_fits 0 0 (omega arith) (omega arith) (put_fits 3 (as_filler h) (omega arith) (omega arith) (fits b))

    module _ (small : pda d tl < 4294967296) where
      pub top_fits : (b : ℕ) → Fits (top_gone d v h tl b)
      unfolding top_gone
      top_fits b = put2_fits 6 _ (omega arith) small (gone_fits b)
