-- One call on a sound partition, stopped after any number of its stores, and then repairs that are stopped too: all or nothing.
use Rattle.std.specs.Prelude.{◌≡◌, ◌≢◌, [], Bool, ℕ, zero, suc, ◌+◌, take, length}
use Rattle.std.proofs.Math.Path.{refl}
use Rattle.std.proofs.Common.{subst, ltb-true, ltb-false}
use Rattle.std.proofs.Math.Bool.{true, false}
use Rattle.std.proofs.Math.Dec.{ltb}
use Rattle.base.specs.Tests.{pick}
use Rattle.image.specs.View.{View, after}
use Rattle.volume.specs.Files.{unowned, sound}
use Rattle.volume.specs.declared.Partition.{Partition}
use Rattle.volume.proofs.Frame.{Clean}
use Rattle.volume.specs.Plans.{stores}
use Rattle.frame.specs.Sound.{sound_clean, spare_block}
use Rattle.volume.specs.Calls.{Planned, decided}
use Rattle.crash.specs.SameFile.{SameFile}
use Rattle.crash.proofs.SameFile.{file_refl}
use Rattle.crash.specs.Cut.{Repairs, Survives}
use Rattle.crash.proofs.Cut.{survives, cut_before, cut_after, others_same}
use Rattle.crash.specs.Lawful.{Placed}
use Rattle.crash.proofs.Settled.{Settled, refused, done}

none : (k : ℕ) (v : View) → after (take k []) v ≡ v
unfolding after
none zero v = refl
none (suc k) v = refl

module _ {π : Partition} {v : View} (at : Placed π v) (ok : sound π v ≡ true) where
  cl : Clean π v
  cl = sound_clean π v ok

  some : unowned π v ≢ []
  some = spare_block π v ok

  module _ {f : ℕ} {E : View → Type 0} where
    -- whole, or refused, it leaves a sound partition
    pub whole_sound : {x : Planned} → Settled π v f E x → sound π (after x.list v) ≡ true
    unfolding after
    whole_sound (refused y) = ok
    whole_sound (done a P o) = o.whole

    -- and the other files as they were
    pub whole_others : {x : Planned} → Settled π v f E x → (g : ℕ) → g ≢ f → SameFile π v (after x.list v) g
    unfolding after stores
    whole_others (refused y) g n = file_refl π v g
    whole_others (done a P o) g n = others_same π at.low at.pos v cl some P.before P.deciding P.rest f o.good g n

    -- stopped after k stores, and repaired up to u: the next repair is not refused, and ends with the files of before the call, or of the
    -- whole call if the deciding store was made
    pub stopped_survives : {x : Planned} → Settled π v f E x → (k : ℕ) {u : View} → Repairs π (after (take k x.list) v) u
        → Survives π (pick (ltb 0 (decided x.deciding k)) (after x.list v) v) u
    unfolding after stores decided
    stopped_survives (refused y) k {u} r = survives π at.low at.pos v cl some (subst (λ (w : View). Repairs π w u) (none k v) r)
    stopped_survives (done a P o) k {u} r = go (ltb (length P.before) k) refl r
      where
        go : (t : Bool) → ltb (length P.before) k ≡ t → Repairs π (after (take k (stores P)) v) u → Survives π (pick (ltb 0 (pick t 1 0 + 0)) (after (stores P) v) v) u
        go true q r = cut_after π at.low at.pos v cl some P.before P.deciding P.rest f o.good k (ltb-true _ _ q) r
        go false q r = cut_before π at.low at.pos v cl some P.before P.deciding P.rest f o.good k (ltb-false _ _ q) r
