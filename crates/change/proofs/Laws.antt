-- What an open gate gives the calls behind it: where the blocks lie that they read and store, and what answers them.
use Rattle.std.specs.Prelude.{Result, Ok, Err}
use mathlib.Core.Path.{◌≡◌, refl, ap, ◌∙◌}
use mathlib.Core.List.{List}
use mathlib.Core.Bool.{true, false}
use Prim.Native.Nat.{ℕ, suc, ◌-◌, ◌≤◌, ◌<◌}
use native.Mathlib.Omega.{arith}
use lib.Seq.{take-nil}
use borrow.Author.Tests.{le-leb, lt-leb}
use Rattle.base.specs.Tests.{occ}
use Rattle.base.specs.declared.Refusal.{Refusal}
use Rattle.base.specs.declared.Refusal.TheVariants.{NoCandidate, Full}
use Rattle.drive.specs.Address.{pda_block}
use Rattle.image.specs.View.{View, Rec, pair}
use Rattle.image.specs.Image.{view}
use Rattle.image.specs.Stores.{stored}
use Rattle.image.specs.Saves.{Made}
use Rattle.volume.specs.Words.{next_at, number_free_at}
use Rattle.volume.specs.Files.{partition_of, candidate, free, free_head}
use Rattle.volume.specs.Outcome.{Lent}
use Rattle.volume.specs.declared.Partition.{Partition}
use Rattle.volume.specs.Plans.{Plan, stores, free_at, free_tail, taken_stores, create_plan, describe_plan}
use Rattle.volume.specs.Calls.{Planned, refuse, finish, through, room, create_in, describe_in, Answered, refusal, completion}
use Rattle.volume.proofs.Readings.{inside_of, candidate_in}
use Rattle.volume.specs.declared.Answer.{Answer}
use Rattle.frame.specs.Sound.{free_in, sound_clean, sound_number, head_free, tail_free}
use Rattle.frame.specs.Taking.{taken}
use Rattle.inspect.specs.Parts.{Opened}
use Rattle.inspect.proofs.Laws.{wf_opened}
use Rattle.records.specs.Records.{Block, created, described}
use Rattle.records.proofs.Laws.{block_in}
use Rattle.change.specs.Gate.{Opens, gate, gate_at, gate_opens, enters, shut}
use Rattle.frame.specs.Chain.{chain_short}

-- ---- answers

-- a refusal stores nothing
pub answered_not : {limit : ℕ} {p : Planned} {l : List ℕ} {a : Answer} (y : Refusal) → p ≡ refuse y → a ≡ refusal y → Answered limit p l l a
unfolding stored
answered_not y h q = rw (h, q) (record { outcome = refl; made = rw take-nil; image = rw take-nil })

-- a call that is done made its plan's stores
pub answered_done : {limit : ℕ} {p : Planned} {l l' : List ℕ} {a n : ℕ} {x : Answer} (q : Plan) → p ≡ finish a q → Made limit (stores q) l l' n → x ≡ completion a n
    → Answered limit p l l' x
answered_done q h m e = rw (h, e) (record { outcome = refl; made = m.count; image = m.image })

pub answered_as : {limit : ℕ} {p q : Planned} {l l' : List ℕ} {a : Answer} → p ≡ q → Answered limit q l l' a → Answered limit p l l' a
answered_as h x = rw h x

-- ---- at the gate, of a buffer that is `lent`: a call that is refused there, and one that goes through

pub gate_passed : {d s e : ℕ} {l : List ℕ} {x lent : Lent} {g : Result ℕ Refusal} → g ≡ gate d l s x → x ≡ lent → g ≡ Ok e → (Opens (partition_of d s e) l) × (lent ≡ Ok tt)
gate_passed q h i = gate_opens _ _ _ _ _ (gate_at _ _ _ q h i)

module _ (d : ℕ) (l : List ℕ) (s : ℕ) (k : Partition → Planned) {x lent : Lent} {limit : ℕ} {a : Answer} {g : Result ℕ Refusal}
    (q : g ≡ gate d l s x) (h : x ≡ lent) where
  pub answered_shut : {y : Refusal} → g ≡ Err y → a ≡ refusal y → Answered limit (through d l s lent k) l l a
  answered_shut {y} i = answered_not y (shut d l s lent k y (gate_at d l s q h i))

  pub answered_open : {e : ℕ} {l' : List ℕ} → g ≡ Ok e → Answered limit (k (partition_of d s e)) l l' a
      → Answered limit (through d l s lent k) l l' a
  answered_open {e} i = answered_as (enters d l s lent k e (gate_at d l s q h i)).goes

-- ---- behind the gate

module _ {π : Partition} {l : List ℕ} (o : Opens π l) where
  pub block_to : (b : ℕ) → b ≤ π.e → Block l b
  block_to = block_in o.lies

  pub block_pib : Block l π.s
  block_pib = block_to π.s (omega (arith, o.lies.order))

  pub block_fib : (f : ℕ) → candidate π (view l) f ≡ true → Block l f
  block_fib f c = block_to f (candidate_in π (view l) f c).1

  pub block_free : (b : ℕ) → 0 < occ b (free π (view l)) → Block l b
  block_free b h = block_to b (inside_of π b (free_in π (view l) o.sound b h)).1

  pub room_is : pair (view l) π.s number_free_at ≡ room π (view l)
  room_is = sound_number π (view l) o.sound

  pub room_few : room π (view l) < 69552
  unfolding free
  room_few = omega (arith, o.lies.few, chain_short π (view l) (π.e - π.s) (free_head π (view l)))

  pub block_head : Block l (free_head π (view l))
  block_head = block_free _ (head_free π (view l) o.sound)

  pub block_tail : Block l (free_tail π (view l))
  block_tail = block_free _ (tail_free π (view l) o.sound)

  -- the free block with place i
  pub block_free_at : (i b : ℕ) → b ≡ free_at π (view l) i → i < room π (view l) → Block l b
  block_free_at i b q h =
      rw q (block_to _ (inside_of π _ (taken π (view l) o.sound (room π (view l)) (omega arith) i h).0).1)

  -- the index of a file can be read
  pub file_opened : (f : ℕ) → candidate π (view l) f ≡ true → Opened π l f
  file_opened f c = wf_opened f o.lies (candidate_in π (view l) f c).1 (sound_clean π (view l) o.sound f c)

-- the free blocks, one behind the other
pub free_first : (π : Partition) (v : View) (h : ℕ) → h ≡ free_head π v → h ≡ free_at π v 0
unfolding free_at
free_first π v h q = q

pub free_next : (π : Partition) (v : View) (i b g : ℕ) → b ≡ free_at π v i → g ≡ pda_block π.drive (pair v b next_at) → g ≡ free_at π v (suc i)
unfolding free_at
free_next π v i b g p q = q ∙ ap (λ (x : ℕ). pda_block π.drive (pair v x next_at)) p

-- ---- describe and create

module _ (π : Partition) (v : View) (f : ℕ) (dat : Rec) where
  pub describe_nowhere : candidate π v f ≡ false → describe_in π v f dat ≡ refuse NoCandidate
  unfolding describe_in
  describe_nowhere c = rw (describe_in, c)

  pub describe_is : candidate π v f ≡ true → describe_in π v f dat ≡ finish 0 (described v f dat)
  unfolding describe_in describe_plan described
  describe_is c = rw (describe_in, c)

module _ (π : Partition) (v : View) (kind : ℕ) where
  pub create_few : (m : ℕ) → m ≡ room π v → m ≤ 1 → create_in π v kind ≡ refuse Full
  unfolding create_in
  create_few m hm n = rw (create_in, le-leb (room π v) 1 (omega arith))

  pub create_is : (m h g : ℕ) → m ≡ room π v → 1 < m → h ≡ free_head π v → g ≡ free_at π v 1
      → create_in π v kind ≡ finish h (created π.drive v π.s h g kind)
  unfolding create_in create_plan taken_stores free_at created
  create_is m h g hm n hh hg = rw (hg, hh, create_in, lt-leb (room π v) 1 (omega arith))
