-- What a call that is done does to the file it names: what "as after the whole call" comes to.
use Rattle.std.specs.Prelude.{◌≡◌, ◌≢◌, true, false, ltb}
use Prim.Native.Nat.{ℕ, suc, ◌-◌, ◌≤◌, ◌<◌}
use Rattle.base.specs.Tests.{pick}
use Rattle.image.specs.View.{View, Rec}
use Rattle.image.specs.Saves.{words}
use Rattle.volume.specs.Words.{kind_at}
use Rattle.volume.specs.Files.{len, name, is_file, free_head}
use Rattle.volume.specs.declared.Partition.{Partition}
use Rattle.volume.specs.Calls.{Call, create, write, describe, destroy, repair}
use Rattle.crash.specs.SameFile.{SameFiles}

module _ (π : Partition) (v w : View) where
  -- f is a new file without blocks
  pub record Created (f k : ℕ) : Type 0 where
    pub file : is_file π w f ≡ true
    pub empty : len w f ≡ 0
    pub kind : w f kind_at ≡ k
    pub text : (x : ℕ) → 8 ≤ x → x < 60 → w f x ≡ 0

  -- block r of f has the words given, one block more if r was L + 1; the other blocks, kind and description stay
  pub record Written (f r : ℕ) (dat : Rec) : Type 0 where
    pub file : is_file π w f ≡ true
    pub long : len w f ≡ pick (ltb r (len v f)) (len v f) (suc r)
    pub here : (x : ℕ) → 8 ≤ x → w (name π w f r) x ≡ dat (x - 8)
    pub rest : (i : ℕ) → i < len v f → i ≢ r → (x : ℕ) → 8 ≤ x → w (name π w f i) x ≡ v (name π v f i) x
    pub kind : w f kind_at ≡ v f kind_at
    pub text : (x : ℕ) → 8 ≤ x → x < 60 → w f x ≡ v f x

  -- f has the description given; blocks and kind stay
  pub record Described (f : ℕ) (dat : Rec) : Type 0 where
    pub file : is_file π w f ≡ true
    pub long : len w f ≡ len v f
    pub bytes : (i : ℕ) → i < len v f → (x : ℕ) → 8 ≤ x → w (name π w f i) x ≡ v (name π v f i) x
    pub kind : w f kind_at ≡ v f kind_at
    pub text : (x : ℕ) → 8 ≤ x → x < 60 → w f x ≡ dat (x - 8)

-- by the call
abbrev pub Effect : Partition → Call → View → View → Type 0
Effect π (create kind) v w = Created π v w (free_head π v) kind
Effect π (write f r block) v w = Written π v w f r (words block)
Effect π (describe f text) v w = Described π v w f (words text)
Effect π (destroy f) v w = is_file π w f ≡ false
Effect π repair v w = SameFiles π v w
