-- A run of stores with a deciding one, cut anywhere, and then repairs that are cut too: what is left, the same for every call.
use Rattle.std.specs.Prelude.{◌≡◌, ◌≢◌, take}
use Rattle.std.proofs.Common.{sym, ◌∙◌, subst}
use Rattle.std.proofs.Math.Path.{ap, fun_ext}
use mathlib.Core.List.{List, [], ◌∷◌, ◌++◌}
use Prim.Native.Nat.{ℕ, suc, ◌-◌, ◌≤◌, ◌<◌}
use native.Mathlib.Omega.{arith}
use Rattle.std.proofs.Math.ListN.{length}
use Rattle.image.specs.View.{View, Store, after, upd}
use Rattle.volume.specs.Files.{unowned, sound}
use Rattle.volume.specs.declared.Partition.{Partition}
use Rattle.volume.proofs.Frame.{Clean, Agree, formed, agree_clean, agree_unowned}
use Rattle.frame.proofs.Repair.{mid_agree}
use Rattle.frame.proofs.Restart.{Part, start, again, finish}
use Rattle.frame.proofs.Mended.{sound_is, mended_agree}
use Rattle.frame.proofs.Turn.{each_take, after_append, cut_early, cut_late, Calm, calm_agree, turn_clean}
use Rattle.frame.proofs.Decides.{Decides}
use Rattle.crash.specs.SameFile.{SameFile, SameFiles}
use Rattle.crash.proofs.SameFile.{file_trans, file_sym, agree_same, turn_same}
use Rattle.crash.specs.Cut.{mended, Repairs, none, more, Survives}

-- ---- repair, cut and begun again any number of times, then finished

module _ (π : Partition) where
  module _ (g : π.s < π.e) (p : 0 < π.s) where
    repairs_part : (v : View) (c : Clean π v) {u : View} → Repairs π v u → Part π v c u
    repairs_part v c none = start π v c
    repairs_part v c (more r k) = again π v c _ (repairs_part v c r) k

    pub survives : (v : View) → Clean π v → unowned π v ≢ [] → {u : View} → Repairs π v u → Survives π v u
    survives v c n {u} r = record {
      clean = agree_clean π v u c (formed π mid);
      spare = λ z. n (agree_unowned π v u c (formed π mid) ∙ z);
      sound = ap (sound π) whole ∙ sound_is π v c n g p;
      files = subst (SameFiles π v) (sym whole) (agree_same π v (mended π v) c (mended_agree π v c));
    }
      where
        mid : Agree π v u
        mid = mid_agree π v c u (repairs_part v c r).blocks

        whole : mended π u ≡ mended π v
        whole = fun_ext (finish π v c u (repairs_part v c r))

    pub survives_as : {v w u : View} → SameFiles π v w → Survives π w u → Survives π v u
    survives_as a r = record { clean = r.clean; spare = r.spare; sound = r.sound; files = λ f. file_trans (a f) (r.files f) }

    -- ---- a run of stores with a deciding one
    module _ (v : View) (c : Clean π v) (n : unowned π v ≢ []) (before : List Store) (x : Store) (rest : List Store) where
      abbrev decided : View
      decided = upd (after before v) x.at x.rec

      module _ (f : ℕ) (y : Decides π v before x rest f) where
        abbrev stores : List Store
        stores = before ++ (x ∷ rest)

        clean₁ : Clean π decided
        clean₁ = turn_clean π v c decided f y.turn y.form

        late_agree : (j : ℕ) → Agree π decided (after (take j rest) decided)
        late_agree j = calm_agree π decided clean₁ (take j rest) (each_take (Calm π decided) j rest y.late)

        late_is : (k : ℕ) → length before < k → after (take k stores) v ≡ after (take (k - suc (length before)) rest) decided
        unfolding after
        late_is k l =
            ap (λ (ys : List Store). after ys v) (cut_late k before (x ∷ rest) (omega arith))
            ∙ after_append before (take (k - length before) (x ∷ rest)) v
            ∙ ap (λ (m : ℕ). after (take m (x ∷ rest)) (after before v)) (let z : k - length before ≡ suc (k - suc (length before)) = omega arith in z)

        early_agree : (k : ℕ) → k ≤ length before → Agree π v (after (take k stores) v)
        early_agree k l = subst (λ (ys : List Store). Agree π v (after ys v)) (sym (cut_early k before (x ∷ rest) l)) (calm_agree π v c (take k before) (each_take (Calm π v) k before y.early))

        from : (a u : View) → Clean π a → unowned π a ≢ [] → (w : View) → Agree π a w → Repairs π w u → Survives π a u
        from a u ca na w ag r = survives_as (agree_same π a w ca ag) (survives w (agree_clean π a w ca (formed π ag)) (λ z. na (agree_unowned π a w ca (formed π ag) ∙ z)) r)

        pub cut_before : (k : ℕ) → k ≤ length before → {u : View} → Repairs π (after (take k stores) v) u → Survives π v u
        cut_before k l {u} r = from v u c n _ (early_agree k l) r

        cut_decided : (k : ℕ) → length before < k → {u : View} → Repairs π (after (take k stores) v) u → Survives π decided u
        cut_decided k l {u} r = from decided u clean₁ y.left _ (subst (Agree π decided) (sym (late_is k l)) (late_agree (k - suc (length before)))) r

        whole_is : after stores v ≡ after rest decided
        unfolding after
        whole_is = after_append before (x ∷ rest) v

        whole_agree : Agree π decided (after stores v)
        whole_agree = subst (Agree π decided) (sym whole_is) (calm_agree π decided clean₁ rest y.late)

        -- the whole run has the files of its deciding store
        pub decided_same : SameFiles π decided (after stores v)
        decided_same = agree_same π decided (after stores v) clean₁ whole_agree

        pub cut_after : (k : ℕ) → length before < k → {u : View} → Repairs π (after (take k stores) v) u → Survives π (after stores v) u
        cut_after k l r = survives_as (λ g. file_sym (decided_same g)) (cut_decided k l r)

        -- the whole run changes no other file
        pub others_same : (g : ℕ) → g ≢ f → SameFile π v (after stores v) g
        others_same g ne = file_trans (turn_same π v decided c clean₁ f y.turn g ne) (decided_same g)

        pub whole_agrees : Agree π decided (after stores v)
        whole_agrees = whole_agree
