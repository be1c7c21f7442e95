-- A write of the block after the last keeps what every call owes.
use Rattle.std.specs.Prelude.{◌≡◌, Bool, true, ℕ, suc, ◌+◌}
use Rattle.std.proofs.Common.{sym, ap, ◌∙◌, arith, le-ltb}
use Rattle.base.specs.Tests.{pick}
use Rattle.image.specs.View.{View, Rec, after}
use Rattle.volume.specs.Files.{len, name, present}
use Rattle.volume.specs.declared.Partition.{Partition}
use Rattle.volume.specs.Plans.{stores}
use Rattle.volume.specs.Writes.{over, spot', write_plan}
use Rattle.frame.specs.Fitting.{Words}
use Rattle.crash.specs.SameFile.{data_here}
use Rattle.crash.specs.Lawful.{Placed, Lawful}
use Rattle.crash.proofs.Lawful.{inner, first_lawful, less_lawful}
use Rattle.crash.specs.Effect.{Written}
use Rattle.crash.proofs.Effect.{here_data}
use Rattle.crash.proofs.Owes.{Owes}
use Rattle.growth.specs.Promise.{Writing, Grew}
use Rattle.growth.proofs.Promise.{write_good, write_sound, write_grew, write_each, spot_in_inside, first_in, grown_fits}

module _ {π : Partition} {v : View} {f r : ℕ} (W : Writing π v f r) (dat : Rec) where
  abbrev X : View
  X = after (stores (write_plan π v f r dat)) v

  grew : Grew π v f r dat X
  grew = write_grew π v f r W dat

  new_here : present π X f (292 + r) ≡ true
  new_here = data_here π X f grew.file r (omega (arith, grew.length))

  new_name : name π X f r ≡ spot' π v f r (over r 0)
  unfolding over
  new_name = grew.where_is_at (292 + r) (sym (grew.there (292 + r)) ∙ new_here)

  module _ (at : Placed π v) where
    written : Written π v X f r dat
    written = record {
      file = grew.file;
      long = grew.length ∙ sym (ap (λ (t : Bool). pick t (len v f) (suc r)) (le-ltb r (len v f) (omega (arith, W.next))));
      here = λ x l. ap (λ (b : ℕ). X b x) new_name ∙ grew.wrote x l;
      rest = λ i l _ x m.
          let p : present π v f (292 + i) ≡ true = here_data π at.low at.pos v W.ok f W.cf i l in
          ap (λ (b : ℕ). X b x) (grew.kept (292 + i) p) ∙ grew.bytes (292 + i) (omega arith) p x m;
      kind = grew.kind;
      text = grew.text;
    }

    pub write_owes : Words 256 dat → Owes π v (write_plan π v f r dat) f (λ w. Written π v w f r dat)
    write_owes k = record {
      good = write_good π v f r W dat;
      whole = write_sound π v f r W dat at.low;
      effect = written;
      lawful = write_each π v f r W dat (Lawful π v) (λ j p. inner at (spot_in_inside π v f r W j p) (grown_fits π v f r W dat at.few at.fits k j p)) (first_lawful at _ (first_in π v f r W)) (less_lawful at _ _ (first_in π v f r W));
    }
