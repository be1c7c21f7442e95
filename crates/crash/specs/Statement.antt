-- Demand 3, as one statement about images.
--
-- Take a partition that check accepts and any sequence of changing calls on it, each whole or refused, and then one more, stopped after
-- any number k of its stores; a store is whole or absent. Repair, itself stopped and started again any number of times and then run to its
-- end, is never refused, and check accepts the result. Every file but the one that the stopped call names or creates has the same blocks,
-- bytes, kind and description as before that call. That one is wholly as before it, or wholly as after the whole call, by whether the
-- deciding store was made; whether a file is there counts.
use Rattle.volume.specs.Outcome.{Outcome}
use Rattle.std.specs.Prelude.{◌≡◌, ◌≢◌, Bool, true, false, List, [], ◌∷◌, ℕ, ◌<◌, ltb, take, Option, Some, None, Ok, Err}
use Rattle.base.specs.Tests.{pick}
use Rattle.image.specs.Image.{view, Bytes}
use Rattle.image.specs.Stores.{stored}
use Rattle.volume.specs.Words.{data_at, kind_at}
use Rattle.volume.specs.Files.{partition_of, is_file, len, present, spot, name, free_head}
use Rattle.volume.specs.declared.Partition.{Partition}
use Rattle.volume.specs.Answers.{end_of, checked}
use Rattle.volume.specs.Calls.{Call, create, write, describe, destroy, repair, planned, decided}

-- an image is a list of bytes, each below 256; so is a buffer, of any length; a kind is any word
abbrev pub Image : List ℕ → Type 0
Image l = Bytes l

abbrev pub Proper : Call → Type 0
Proper (create kind) = kind < 65536
Proper (write f r block) = Bytes block
Proper (describe f text) = Bytes text
Proper (destroy f) = Unit {0}
Proper repair = Unit {0}

abbrev pub AllProper : List Call → Type 0
AllProper [] = Unit {0}
AllProper (c ∷ cs) = Proper c × AllProper cs

-- the answer is that of a call that was done
abbrev pub is_done : Outcome → Bool
is_done (Ok (Some x)) = true
is_done (Ok None) = false
is_done (Err y) = false

-- on drive d, the partition named by s
module _ (d s : ℕ) where
  -- check accepts it
  abbrev pub Accepted : List ℕ → Type 0
  Accepted l = is_done (checked d l s) ≡ true

  -- the image after the first k stores of a call, after all of them, and after whole calls one after another; a refused call has none
  abbrev pub stopped : List ℕ → Call → ℕ → List ℕ
  stopped l c k = stored (take k (planned d l s c).list) l

  abbrev pub whole : List ℕ → Call → List ℕ
  whole l c = stored (planned d l s c).list l

  unfoldable pub runs : List ℕ → List Call → List ℕ
  runs l [] = l
  runs l (c ∷ cs) = runs (whole l c) cs

  -- the images that repairs, each stopped somewhere, make of l
  pub data Repairs (l : List ℕ) : List ℕ → Type 0 where
    none : Repairs l l
    again : {m : List ℕ} → Repairs l m → (k : ℕ) → Repairs l (stopped m repair k)

  -- the partition as the image's PIB has it
  abbrev pub here : List ℕ → Partition
  here l = partition_of d s (end_of d (view l) s)

  abbrev pub is_file_of : List ℕ → ℕ → Bool
  is_file_of l f = is_file (here l) (view l) f

  -- file f has the same blocks in link order, key by key, the same bytes, kind and description in two images
  pub record SameContent (l l' : List ℕ) (f : ℕ) : Type 0 where
    pub long : len (view l) f ≡ len (view l') f
    pub keys : (k : ℕ) → present (here l) (view l) f k ≡ present (here l') (view l') f k
    pub blocks : (k : ℕ) → present (here l) (view l) f k ≡ true → spot (here l) (view l) f k ≡ spot (here l') (view l') f k
    pub bytes : (r : ℕ) → r < len (view l) f → (k : ℕ) → k < 256
        → view l (name (here l) (view l) f r) (data_at k) ≡ view l' (name (here l') (view l') f r) (data_at k)
    pub kind : view l f kind_at ≡ view l' f kind_at
    pub description : (k : ℕ) → k < 52 → view l f (data_at k) ≡ view l' f (data_at k)

  -- block f is a file in both, with the same content, or in neither
  pub record SameFile (l l' : List ℕ) (f : ℕ) : Type 0 where
    pub there : is_file_of l f ≡ is_file_of l' f
    pub content : is_file_of l f ≡ true → SameContent l l' f

  -- the file that a call names, or creates: the first free block
  abbrev pub named : List ℕ → Call → Option ℕ
  named l (create kind) = Some (free_head (here l) (view l))
  named l (write f r block) = Some f
  named l (describe f text) = Some f
  named l (destroy f) = Some f
  named l repair = None

  -- call c was stopped after k stores of l, and stopped repairs made l' of that: what the next repair, run to its end, gives
  pub record Survives (l : List ℕ) (c : Call) (k : ℕ) (l' : List ℕ) : Type 0 where
    pub not_refused : is_done (planned d l' s repair).outcome ≡ true
    pub accepted : Accepted (whole l' repair)
    pub others : (f : ℕ) → named l c ≢ Some f → SameFile l (whole l' repair) f
    pub all_or_none : (f : ℕ) → named l c ≡ Some f → SameFile (pick (ltb 0 (decided (planned d l s c).deciding k)) (whole l c) l) (whole l' repair) f

-- demand 3
abbrev pub Demand3 : Type 0
Demand3 = (d s : ℕ) (l : List ℕ) → Image l → Accepted d s l
    → (cs : List Call) → AllProper cs → (c : Call) → Proper c → (k : ℕ)
    → (l' : List ℕ) → Repairs d s (stopped d s (runs d s l cs) c k) l'
    → Survives d s (runs d s l cs) c k l'
