-- What each changing call answers and stores, of the image's bytes l: its refusals in their order (docs/FORMAT.md, 7.4), the values, the
-- list of stores with the deciding one's place (9.2), and the file named or created.
use Rattle.volume.specs.declared.Unfit.TheVariants.{Length, Name}
use Rattle.volume.specs.Outcome.{Outcome}
use Rattle.std.specs.Prelude.{◌≡◌, List, [], ◌∷◌, ℕ, ◌+◌, leb, ltb, eqb, length, take, Option, Some, None, Ok, Err}
use Rattle.base.specs.Tests.{pick}
use Rattle.base.specs.declared.Refusal.{Refusal}
use Rattle.base.specs.declared.Refusal.TheVariants.{Malformed, Unsound, NoCandidate, BadBlock, Full, NothingFree}
use Rattle.image.specs.View.{View, Rec, Store}
use Rattle.image.specs.Image.{view}
use Rattle.image.specs.Stores.{stored}
use Rattle.image.specs.Saves.{words}
use Rattle.volume.specs.Keys.{reach}
use Rattle.volume.specs.Files.{partition_of, candidate, len, sound, free, free_head, unowned}
use Rattle.volume.specs.declared.Partition.{Partition}
use Rattle.volume.specs.Answers.{partition, in_partition, lowest_malformed}
use Rattle.volume.specs.Names.{good_name}
use Rattle.volume.specs.Plans.{Plan, stores, create_plan, describe_plan, destroy_plan, repair_plan}
use Rattle.volume.specs.Writes.{needs, write_plan, replace_plan}
use Rattle.volume.specs.Outcome.{Lent, unfit_refusal}
use Rattle.volume.specs.declared.Answer.{Answer}

-- what a call comes to, its stores in order, and the places of the deciding ones among them
pub record Planned : Type 0 where
  pub outcome : Outcome
  pub list : List Store
  pub deciding : List ℕ

-- how many of the deciding stores are among the first k
unfoldable pub decided : List ℕ → ℕ → ℕ
decided [] k = 0
decided (i ∷ is) k = pick (ltb i k) 1 0 + decided is k

-- nothing is stored under a refusal
abbrev pub refuse : Refusal → Planned
refuse y = record { outcome = Err y; list = []; deciding = [] }

-- a call that is done, with the value a
abbrev pub finish : ℕ → Plan → Planned
finish a p = record { outcome = Ok (Some (a, 0, 0)); list = stores p; deciding = length p.before ∷ [] }

-- ---- refusals 1 to 5 and 12, on the unchanged image

-- 3 and 12, which the buffer alone decides, and then k
abbrev pub lending : Lent → Planned → Planned
lending (Ok u) k = k
lending (Err w) k = refuse (unfit_refusal w)

-- a block, and a description, as lent
unfoldable pub lent_block : List ℕ → Lent
lent_block block = pick (eqb (length block) 512) (Ok tt) (Err Length)

unfoldable pub lent_text : List ℕ → Lent
lent_text text = pick (eqb (length text) 104) (pick (good_name text) (Ok tt) (Err Name)) (Err Length)

-- 4, and then k
abbrev pub unmarred : Option ℕ → Planned → Planned
unmarred (Some f) k = refuse (Malformed f)
unmarred None k = k

-- 3, 12, 4, 5 in a good partition, and then k
abbrev pub gated : Partition → View → Lent → Planned → Planned
gated π v lent k = lending lent (unmarred (lowest_malformed π v) (pick (sound π v) k (refuse Unsound)))

-- 1, 2, 3, 12, 4, 5, and then k in the sound partition
unfoldable pub through : ℕ → List ℕ → ℕ → Lent → (Partition → Planned) → Planned
through d l s lent k = in_partition refuse (partition d l s) (λ e. let π = partition_of d s e in gated π (view l) lent (k π))

-- ---- refusals 6 to 8 and the plans, in a sound partition

module _ (π : Partition) (v : View) where
  -- how many free blocks there are: 8 unless one is left over
  abbrev pub room : ℕ
  room = length (free π v)

  unfoldable pub create_in : ℕ → Planned
  create_in kind = pick (leb room 1) (refuse Full) (finish (free_head π v) (create_plan π v kind))

  -- block r, which is absent
  unfoldable pub append_in : ℕ → ℕ → Rec → Planned
  append_in f r dat = pick (leb room (needs π v f r)) (refuse Full) (finish 0 (write_plan π v f r dat))

  -- 7 is a block above 32,766 or above L + 1
  unfoldable pub write_in : ℕ → ℕ → Rec → Planned
  write_in f r dat =
      pick (candidate π v f)
      (pick (ltb r reach)
      (pick (ltb r (len v f)) (finish 0 (replace_plan π v f r dat)) (pick (eqb r (len v f)) (append_in f r dat) (refuse BadBlock)))
      (refuse BadBlock))
      (refuse NoCandidate)

  unfoldable pub describe_in : ℕ → Rec → Planned
  describe_in f dat = pick (candidate π v f) (finish 0 (describe_plan v f dat)) (refuse NoCandidate)

  unfoldable pub destroy_in : ℕ → Planned
  destroy_in f = pick (candidate π v f) (finish 0 (destroy_plan π v f)) (refuse NoCandidate)

  -- 9: no unowned block
  unfoldable pub repair_in : Planned
  repair_in = pick (eqb (length (unowned π v)) 0) (refuse NothingFree) (finish 0 (repair_plan π v))

-- ---- the calls

-- a changing call with its arguments; buffers are lists of bytes
pub data Call : Type 0 where
  create : ℕ → Call
  write : ℕ → ℕ → List ℕ → Call
  describe : ℕ → List ℕ → Call
  destroy : ℕ → Call
  repair : Call

-- changing calls are refused by 1 to 8 and 12, repair by 1, 2, 4, 9
unfoldable pub planned : ℕ → List ℕ → ℕ → Call → Planned
planned d l s (create kind) = through d l s (Ok tt) (λ π. create_in π (view l) kind)
planned d l s (write f r block) = through d l s (lent_block block) (λ π. write_in π (view l) f r (words block))
planned d l s (describe f text) = through d l s (lent_text text) (λ π. describe_in π (view l) f (words text))
planned d l s (destroy f) = through d l s (Ok tt) (λ π. destroy_in π (view l) f)
planned d l s repair =
    in_partition refuse (partition d l s) (λ e. let π = partition_of d s e in unmarred (lowest_malformed π (view l)) (repair_in π (view l)))

-- ---- under a limit

-- a call with that plan and limit turned l into l' and answered a: the first `limit` stores were applied, the count is their number, and
-- the rest of the answer is that of the whole call
pub record Answered (limit : ℕ) (p : Planned) (l l' : List ℕ) (a : Answer) : Type 0 where
  pub outcome : a.outcome ≡ p.outcome
  pub made : a.made ≡ length (take limit p.list)
  pub image : l' ≡ stored (take limit p.list) l

-- the answer of a call that is refused, and of one that is done, with the value a after n stores
abbrev pub refusal : Refusal → Answer
refusal y = record { made = 0; outcome = Err y }

abbrev pub completion : ℕ → ℕ → Answer
completion a n = record { made = n; outcome = Ok (Some (a, 0, 0)) }
