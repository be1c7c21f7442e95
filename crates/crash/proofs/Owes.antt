-- What every call owes in a sound partition, and that create, describe, replace, destroy and repair keep it.
use Rattle.std.specs.Prelude.{◌≡◌, true, false, length}
use Rattle.std.proofs.Common.{◌∙◌, subst, arith}
use mathlib.Core.List.{List, [], ◌∷◌, ◌++◌}
use Prim.Native.Nat.{ℕ, zero, suc, ◌+◌, ◌-◌, ◌<◌}
use Rattle.base.specs.Tests.{tab_from}
use Rattle.image.specs.View.{View, Rec, Store, after, upd}
use Rattle.volume.specs.Files.{unowned, candidate, len, present, free, free_head, sound, is_file}
use Rattle.volume.specs.declared.Partition.{Partition}
use Rattle.volume.proofs.Frame.{Clean, Agree, formed, agree_unowned}
use Rattle.volume.specs.Plans.{st, Plan, stores, create_plan, describe_plan, destroy_plan, repair_plan, repaired, repaired_pib}
use Rattle.volume.specs.Writes.{replace_plan}
use Rattle.frame.proofs.Turn.{Each, each_append, after_append, Calm, calm_pib, calm_agree}
use Rattle.frame.proofs.Decides.{Good}
use Rattle.frame.specs.Sound.{sound_clean, spare_block}
use Rattle.frame.proofs.Repair.{repaired_quiet}
use Rattle.frame.proofs.Mended.{sound_is}
use Rattle.frame.specs.Fitting.{Words}
use Rattle.crash.specs.SameFile.{SameFiles}
use Rattle.crash.specs.Lawful.{Placed, Lawful}
use Rattle.crash.proofs.LawfulRepair.{repair_lawful}
use Rattle.crash.proofs.Create.{create_good, create_sound, create_lawful}
use Rattle.crash.proofs.OneBlock.{describe_good, describe_sound, replace_good, replace_sound, describe_lawful, replace_lawful}
use Rattle.crash.proofs.Destroy.{destroy_good, destroy_sound, destroy_lawful}
use Rattle.crash.specs.Effect.{Created, Written, Described}
use Rattle.crash.proofs.Effect.{here_data, created, described, replaced, removed, mended_same}
use Rattle.volume.proofs.Readings.{candidate_in}

-- a plan changes file f alone, at its deciding store; whole, it leaves a sound partition, in which E holds; each of its stores is lawful
pub record Owes (π : Partition) (v : View) (P : Plan) (f : ℕ) (E : View → Type 0) : Type 0 where
  pub good : Good π v P f
  pub whole : sound π (after (stores P) v) ≡ true
  pub effect : E (after (stores P) v)
  pub lawful : Each (Lawful π v) (stores P)

module _ (π : Partition) (v : View) (at : Placed π v) (ok : sound π v ≡ true) where
  pub create_owes : (kind : ℕ) → kind < 65536 → 1 < length (free π v) → Owes π v (create_plan π v kind) (free_head π v) (λ w. Created π v w (free_head π v) kind)
  create_owes kind k room = record {
    good = create_good π v ok room kind;
    whole = create_sound π v ok room kind at.low at.pos;
    effect = created π at.low at.pos v ok kind room;
    lawful = create_lawful π v ok room kind at k;
  }

  module _ (f : ℕ) (c : candidate π v f ≡ true) where
    pub describe_owes : {n : ℕ} (dat : Rec) → Words n dat → Owes π v (describe_plan v f dat) f (λ w. Described π v w f dat)
    describe_owes dat k = record {
      good = describe_good π v ok f c dat;
      whole = describe_sound π v ok f c dat at.low;
      effect = described π at.low at.pos v ok f c dat;
      lawful = describe_lawful π v ok f c at dat k;
    }

    pub replace_owes : (r : ℕ) (dat : Rec) → Words 256 dat → r < len v f → Owes π v (replace_plan π v f r dat) f (λ w. Written π v w f r dat)
    replace_owes r dat k l =
        let p : present π v f (292 + r) ≡ true = here_data π at.low at.pos v ok f c r l in
        record {
          good = replace_good π v ok f c r dat p;
          whole = replace_sound π v ok f c r dat p at.low;
          effect = replaced π at.low at.pos v ok f c r dat l;
          lawful = replace_lawful π v ok f c r dat p at k;
        }

    pub destroy_owes : Owes π v (destroy_plan π v f) f (λ w. is_file π w f ≡ false)
    destroy_owes = record {
      good = destroy_good π v ok f c;
      whole = destroy_sound π v ok f c at.low at.pos;
      effect = removed π at.low at.pos v ok f c;
      lawful = destroy_lawful π v ok f c at;
    }

  -- ---- repair: no file is changed, and block 0 is none
  clean : Clean π v
  clean = sound_clean π v ok

  tab_calm : (i k : ℕ) → Each (Calm π v) (tab_from i k (λ b. st b (repaired π v (unowned π v) b)))
  unfolding tab_from
  tab_calm i zero = tt
  tab_calm i (suc k) = (repaired_quiet π v clean i, tab_calm (suc i) k)

  no_file : candidate π v 0 ≡ true → ⊥
  no_file h = omega (arith, (candidate_in π v 0 h).0)

  repair_good : Good π v (repair_plan π v) 0
  unfolding repair_plan after
  repair_good = record {
    early = tab_calm (suc π.s) (π.e - π.s);
    turn = record { others = λ g _ h. ag.kept g h; cands = λ g _. ag.cands g };
    form = λ h. absurd (no_file (ag.cands 0 ∙ h));
    left = λ z. spare_block π v ok (agree_unowned π v D clean (formed π ag) ∙ z);
    late = tt;
  }
    where
      xs : List Store
      xs = tab_from (suc π.s) (π.e - π.s) (λ b. st b (repaired π v (unowned π v) b))

      x : Store
      x = st π.s (repaired_pib π v (unowned π v))

      D : View
      D = upd (after xs v) x.at x.rec

      ag : Agree π v D
      ag = subst (Agree π v) (after_append xs (x ∷ []) v) (calm_agree π v clean (xs ++ (x ∷ [])) (each_append (Calm π v) xs (x ∷ []) (tab_calm (suc π.s) (π.e - π.s)) (calm_pib π v, tt)))

  pub repair_owes : Owes π v (repair_plan π v) 0 (λ w. SameFiles π v w)
  repair_owes = record { good = repair_good; whole = sound_is π v clean (spare_block π v ok) at.low at.pos; effect = mended_same π at.low at.pos v ok; lawful = repair_lawful at }
