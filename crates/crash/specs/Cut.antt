-- Repair, cut and begun again any number of times, and what the next one, run to its end, leaves.
use Rattle.std.specs.Prelude.{◌≡◌, ◌≢◌, true, take}
use mathlib.Core.List.{[]}
use Prim.Native.Nat.{ℕ}
use Rattle.image.specs.View.{View, after}
use Rattle.volume.specs.Files.{unowned, sound}
use Rattle.volume.specs.declared.Partition.{Partition}
use Rattle.volume.proofs.Frame.{Clean}
use Rattle.volume.specs.Plans.{repair_stores}
use Rattle.crash.specs.SameFile.{SameFiles}

module _ (π : Partition) where
  abbrev pub mended : View → View
  mended u = after (repair_stores π u) u

  -- u is reached from v by repairs, each cut somewhere
  pub data Repairs (v : View) : View → Type 0 where
    none : Repairs v v
    more : {u : View} → Repairs v u → (k : ℕ) → Repairs v (after (take k (repair_stores π u)) u)

  -- a repair of u is not refused; it leaves a sound partition with w's files
  pub record Survives (w u : View) : Type 0 where
    pub clean : Clean π u
    pub spare : unowned π u ≢ []
    pub sound : sound π (mended u) ≡ true
    pub files : SameFiles π w (mended u)
