-- What the builders of records ask and give: blocks that lie in the image, saves that stand for stores, and the plans over plain numbers.
use Rattle.std.specs.Prelude.{◌≡◌, List, [], ◌∷◌, Option, IfSome, ℕ, ◌+◌, ◌*◌, ◌<◌, ◌≤◌, length}
use Rattle.image.specs.View.{View, Rec, Store, pair}
use Rattle.image.specs.Image.{view}
use Rattle.image.specs.Saves.{stores_of, with_data, with_text, Fit}
use Rattle.image.specs.declared.Save.{Save}
use Rattle.volume.specs.Words.{number_free_at}
use Rattle.volume.specs.Plans.{Plan, st, new_first, pib_less, fresh_fib}

-- block b lies in the image l, and no drive has more blocks
pub record Block (l : List ℕ) (b : ℕ) : Type 0 where
  pub within : 528 * b + 528 ≤ length l
  pub few : b < 69552

-- a save that may be absent, in the image l, that makes just the stores ss
pub record StandsFor (l : List ℕ) (ss : List Store) (x : Option Save) : Type 0 where
  pub list : stores_of x ≡ ss
  pub fits : IfSome x (Fit l)

-- the stores of describe, of replace in block b, and of create in block h with g the first free block afterwards
unfoldable pub described : View → ℕ → Rec → Plan
described v f dat = record { before = []; deciding = st f (with_text dat (v f)); rest = [] }

unfoldable pub replaced : View → ℕ → Rec → Plan
replaced v b dat = record { before = []; deciding = st b (with_data dat (v b)); rest = [] }

unfoldable pub created : ℕ → View → ℕ → ℕ → ℕ → ℕ → Plan
created d v s h g kind =
    record { before = []; deciding = st h (fresh_fib d v h kind); rest = st g (new_first v g) ∷ (st s (pib_less d v s g 1) ∷ []) }

-- the blocks and counts of a destroy: as in `destroyed`
pub record Destroys (l : List ℕ) (s f n top last tail : ℕ) : Type 0 where
  pub s_in : Block l s
  pub f_in : Block l f
  pub top_in : Block l top
  pub last_in : Block l last
  pub tail_in : Block l tail
  pub n_few : n < 65536
  pub free_few : pair (view l) s number_free_at < 69552
