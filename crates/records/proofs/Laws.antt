-- Blocks of a partition in the image, and saves that stand for stores.
use Rattle.std.specs.Prelude.{Option, Some, None}
use mathlib.Core.Path.{◌≡◌, ap, ◌∙◌}
use mathlib.Core.List.{List, [], ◌∷◌}
use Prim.Native.Nat.{ℕ, ◌≤◌}
use native.Mathlib.Omega.{arith}
use lib.ListN.{get_or}
use Rattle.image.specs.View.{Store}
use Rattle.image.specs.Saves.{store_of, Made}
use Rattle.image.specs.declared.Save.{Save}
use Rattle.volume.specs.declared.Partition.{Partition}
use Rattle.volume.specs.Reads.{Lies}
use Rattle.records.specs.Records.{Block, StandsFor}

-- a block up to the partition's last lies in the image
pub block_in : {π : Partition} {l : List ℕ} → Lies π l → (b : ℕ) → b ≤ π.e → Block l b
block_in o b h = record { within = omega (arith, o.within); few = omega (arith, o.few) }

-- a save of a block of the image, or none
pub stands : {l : List ℕ} {b : ℕ} {s : Store} {x : Save} → store_of x ≡ s → x.at ≡ b → Block l b → StandsFor l (s ∷ []) (Some x)
stands p q r = record { list = ap (λ s. s ∷ []) p; fits = omega (arith, q, r.within) }

pub stands_none : {l : List ℕ} {ss : List Store} → [] ≡ ss → StandsFor l ss None
stands_none e = record { list = e; fits = tt }

-- a save that makes one store makes that one
pub one : {l : List ℕ} {s : Store} {x : Save} → StandsFor l (s ∷ []) (Some x) → store_of x ≡ s
one {l} {s} h = ap (λ ss. get_or ss 0 s) h.list

pub made_as : {limit : ℕ} {ss ts : List Store} {l l' : List ℕ} {n : ℕ} → ss ≡ ts → Made limit ss l l' n → Made limit ts l l' n
made_as e m = rw e at m

pub stands_as : {l : List ℕ} {ss ts : List Store} {x : Option Save} → ss ≡ ts → StandsFor l ss x → StandsFor l ts x
stands_as e s = record { list = s.list ∙ e; fits = s.fits }
