-- Stores of the code, and runs of them under a limit.
use Rattle.std.specs.Prelude.{◌≡◌, List, [], ◌∷◌, Option, Some, None, IfSome, All, ℕ, ◌+◌, ◌-◌, ◌*◌, ◌≤◌, leb, ltb, length, take, get_or}
use Rattle.std.specs.List.{flat_map}
use Rattle.base.specs.Tests.{pick, both}
use Rattle.image.specs.View.{Rec, Store}
use Rattle.image.specs.Image.{rec_of}
use Rattle.image.specs.Stores.{stored}
use Rattle.image.specs.declared.Save.{Save}

-- the store that a save makes; those of a save that may be absent; those of a list of such saves, in order
abbrev pub store_of : Save → Store
store_of s = record { at = s.at; rec = rec_of s.rec }

abbrev pub stores_of : Option Save → List Store
stores_of None = []
stores_of (Some s) = store_of s ∷ []

abbrev pub all_stores : List (Option Save) → List Store
all_stores = flat_map stores_of

-- word k of a buffer of words
unfoldable pub words : List ℕ → Rec
words d k = get_or d (2 * k) 0 + 256 * get_or d (2 * k + 1) 0

-- a record with other data; with another description
unfoldable pub with_data : Rec → Rec → Rec
with_data dat r w = pick (ltb w 8) (r w) (dat (w - 8))

unfoldable pub with_text : Rec → Rec → Rec
with_text dat r w = pick (both (leb 8 w) (ltb w 60)) (dat (w - 8)) (r w)

-- l' is l after the first `room` of the stores, and what is left of the room
pub record Applied (room : ℕ) (ss : List Store) (l l' : List ℕ) (left : ℕ) : Type 0 where
  pub image : l' ≡ stored (take room ss) l
  pub rest : left ≡ room - length ss

-- l' is l after the first `limit` of the stores, and n is how many these are
pub record Made (limit : ℕ) (ss : List Store) (l l' : List ℕ) (n : ℕ) : Type 0 where
  pub image : l' ≡ stored (take limit ss) l
  pub count : n ≡ length (take limit ss)

-- a save lies in the image; each save of a list does
abbrev pub Fit : List ℕ → Save → Type 0
Fit l s = 528 * s.at + 528 ≤ length l

abbrev pub AllFit : List ℕ → List (Option Save) → Type 0
AllFit l = All (λ s. IfSome s (Fit l))
