-- Repair's stores are lawful.
use Rattle.std.specs.Prelude.{◌≡◌, List, true, length}
use Rattle.std.proofs.Common.{◌∙◌, arith}
use Rattle.std.proofs.Math.Bool.{not}
use Prim.Native.Nat.{ℕ, zero, suc, ◌+◌, ◌-◌, ◌≤◌, ◌<◌}
use Rattle.base.specs.Tests.{tab_from}
use Rattle.image.specs.View.{View}
use Rattle.volume.specs.Files.{unowned, owned, within}
use Rattle.volume.specs.declared.Partition.{Partition}
use Rattle.volume.specs.Plans.{st, stores, repair_stores, repair_plan, repaired, repaired_pib}
use Rattle.frame.specs.Reading.{put2_off}
use Rattle.frame.proofs.Turn.{Each, each_append}
use Rattle.frame.specs.Chain.{head_in, last_in, length_most}
use Rattle.frame.specs.Fitting.{put2_fits}
use Rattle.crash.specs.Lawful.{Placed, Lawful}
use Rattle.crash.proofs.Lawful.{address_fits, at_pib}
use Rattle.frame.specs.Fitted.{unowned_in, repaired_fits}

module _ {π : Partition} {v : View} (at : Placed π v) where
  abbrev fr : List ℕ
  fr = unowned π v

  fr_in : within π fr ≡ true
  fr_in = unowned_in π v at.low

  fr_few : length fr < 4294967296
  unfolding unowned
  fr_few = omega (arith, length_most (λ b. not (owned π v b)) (suc π.s) (π.e - π.s), at.few)

  tab_lawful : (i k : ℕ) → π.s < i → i + k ≤ suc π.e → Each (Lawful π v) (tab_from i k (λ b. st b (repaired π v fr b)))
  unfolding tab_from
  tab_lawful i zero h m = tt
  tab_lawful i (suc k) h m =
      (record { from = omega arith; to = omega arith; fits = repaired_fits π v at.few at.low i (at.fits i); pib = λ z. absurd (omega arith) }, tab_lawful (suc i) k (omega arith) (omega arith))

  pub repair_lawful : Each (Lawful π v) (repair_stores π v)
  unfolding stores repair_plan repaired_pib
  repair_lawful =
      each_append (Lawful π v) (tab_from (suc π.s) (π.e - π.s) (λ b. st b (repaired π v fr b))) _ (tab_lawful (suc π.s) (π.e - π.s) (omega arith) (omega (arith, at.low))) (
        at_pib at (put2_fits 8 _ (omega arith) (address_fits at π.s 8 _ (head_in π fr fr_in)) (put2_fits 10 _ (omega arith) (address_fits at π.s 10 _ (last_in π 0 fr (omega arith) fr_in))
            (put2_fits 12 (length fr) (omega arith) fr_few (at.fits π.s))))
            (λ w l. put2_off 8 _ _ w (λ z. omega arith) (λ z. omega arith) ∙ put2_off 10 _ _ w (λ z. omega arith) (λ z. omega arith) ∙ put2_off 12 _ (v π.s) w (λ z. omega arith) (λ z. omega arith)),
        tt,
      )
