-- Demand 3 in the calls' own terms: of images that calls turned into one another, each answering as its contract says. The count of
-- stores made, which the stopped call answers, tells which of the two its file is.
use Rattle.std.specs.Prelude.{◌≡◌, ◌≢◌, List, true, ℕ, ◌≤◌, ltb, length, Some}
use Rattle.base.specs.Tests.{pick}
use Rattle.volume.specs.Calls.{Call, repair, planned, decided, Answered}
use Rattle.volume.specs.declared.Answer.{Answer}
use Rattle.crash.specs.Statement.{Proper, is_done, Accepted, whole, SameFile, named}

module _ (d s : ℕ) where
  -- calls that were let make all their stores turned l into m
  pub data Called (l : List ℕ) : List ℕ → Type 0 where
    begun : Called l l
    called : {m m' : List ℕ} → Called l m → (c : Call) → Proper c → (limit : ℕ) (a : Answer) → length (planned d m s c).list ≤ limit
        → Answered limit (planned d m s c) m m' a → Called l m'

  -- repairs under any limits did
  pub data Repaired (l : List ℕ) : List ℕ → Type 0 where
    begun : Repaired l l
    mended : {m m' : List ℕ} → Repaired l m → (limit : ℕ) (a : Answer) → Answered limit (planned d m s repair) m m' a → Repaired l m'

  -- a call on l answered a, and a last repair turned what came of it into l' and answered a'
  pub record Outlives (l : List ℕ) (c : Call) (a : Answer) (l' : List ℕ) (a' : Answer) : Type 0 where
    pub not_refused : is_done a'.outcome ≡ true
    pub accepted : Accepted d s l'
    pub others : (f : ℕ) → named d s l c ≢ Some f → SameFile d s l l' f
    pub all_or_none : (f : ℕ) → named d s l c ≡ Some f → SameFile d s (pick (ltb 0 (decided (planned d l s c).deciding a.made)) (whole d s l c) l) l' f
