-- Check accepts an image exactly if it holds a good partition that is sound; then a call comes to its plan, and a repair of a partition
-- without a malformed candidate, and with an unowned block, to repair's.
use Rattle.std.specs.Prelude.{◌≡◌, ◌≢◌, Bool, true, false, ℕ, Option, Some, None, Result, Ok, Err}
use Rattle.base.specs.declared.Refusal.{Refusal}
use Rattle.std.proofs.Math.Path.{refl, ap, ap₂, subst}
use Rattle.std.proofs.Common.{sym, ◌∙◌, true≢false, ne_eqb}
use mathlib.Core.List.{List, [], ◌∷◌}
use native.Mathlib.Omega.{arith}
use Rattle.std.proofs.Math.ListN.{length}
use Rattle.base.specs.Tests.{pick}
use Rattle.image.specs.View.{View}
use Rattle.image.specs.Saves.{words}
use Rattle.image.specs.Image.{view, Bytes}
use Rattle.volume.specs.declared.Unfit.TheVariants.{Length, Name}
use Rattle.volume.specs.Files.{partition_of, unowned, free_head, sound}
use Rattle.volume.specs.declared.Partition.{Partition}
use Rattle.volume.proofs.Frame.{Clean, of_clean}
use Rattle.volume.specs.Plans.{repair_plan}
use Rattle.frame.specs.Sound.{sound_clean}
use Rattle.base.specs.declared.Refusal.TheVariants.{BadBuffer, Unsound, NothingFree, BadName}
use Rattle.volume.specs.Answers.{partition, lowest_malformed, checked, check_in, check_clean, tallied, in_partition}
use Rattle.volume.specs.Calls.{Call, create, write, describe, destroy, repair, Planned, refuse, finish, planned, lending, lent_block, lent_text, through, unmarred, repair_in, create_in, write_in, describe_in, destroy_in}
use Rattle.volume.proofs.Readings.{fine_block, fine_text}
use Rattle.volume.specs.Outcome.{Lent}
use Rattle.frame.specs.Fitting.{words_of}
use Rattle.crash.proofs.Settled.{Settled, refused, create_settled, describe_settled, destroy_settled, write_settled, repair_settled}
use Rattle.crash.specs.SameFile.{SameFiles}
use Rattle.crash.specs.Effect.{Effect}
use Rattle.crash.proofs.Held.{Held, placed}
use Rattle.crash.specs.Statement.{Proper, is_done, Accepted}

-- ---- acceptance

-- an image that check accepts, with its end
pub record Sound (d s : ℕ) (l : List ℕ) : Type 0 where
  pub end : ℕ
  pub held : Held (partition_of d s end) l
  pub is : sound (partition_of d s end) (view l) ≡ true

pub accepted_sound : (d s : ℕ) (l : List ℕ) → Bytes l → Accepted d s l → Sound d s l
unfolding checked check_in
accepted_sound d s l b h = go (partition d l s) refl h
  where
    go : (x : Result ℕ Refusal) → partition d l s ≡ x → is_done (in_partition Err x (λ e. check_clean (partition_of d s e) (view l) (lowest_malformed (partition_of d s e) (view l)))) ≡ true → Sound d s l
    go (Err y) q k = absurd (true≢false (sym k))
    go (Ok e) q k = record { end = e; held = record { good = q; bytes = b }; is = on (lowest_malformed π₁ (view l)) k }
      where
        π₁ : Partition
        π₁ = partition_of d s e

        last : (t : Bool) → is_done (pick t (tallied π₁ (view l)) (Err Unsound)) ≡ true → t ≡ true
        last true k = refl
        last false k = k

        on : (m : Option ℕ) → is_done (check_clean π₁ (view l) m) ≡ true → sound π₁ (view l) ≡ true
        on (Some f) k = absurd (true≢false (sym k))
        on None k = last (sound π₁ (view l)) k

module _ {π : Partition} {l : List ℕ} (h : Held π l) where
  pub sound_accepted : sound π (view l) ≡ true → Accepted π.drive π.s l
  unfolding checked check_in tallied
  sound_accepted ok =
      ap (λ (x : Result ℕ Refusal). is_done (in_partition Err x (λ e. check_in (partition_of π.drive π.s e) (view l)))) h.good
      ∙ ap (λ (m : Option ℕ). is_done (check_clean π (view l) m)) (of_clean π (view l) (sound_clean π (view l) ok)) ∙ ap (λ (t : Bool). is_done (pick t (tallied π (view l)) (Err Unsound))) ok

  -- ---- what a call comes to

  -- in a sound partition there is no refusal 1, 2, 4 or 5
  through_is : sound π (view l) ≡ true → (lent : Lent) (k : Partition → Planned) → through π.drive l π.s lent k ≡ lending lent (k π)
  unfolding through
  through_is ok lent k =
      ap (λ (x : Result ℕ Refusal). in_partition refuse x (λ e. let ρ = partition_of π.drive π.s e in lending lent (unmarred (lowest_malformed ρ (view l)) (pick (sound ρ (view l)) (k ρ) (refuse Unsound))))) h.good
      ∙ ap₂ (λ (m : Option ℕ) (t : Bool). lending lent (unmarred m (pick t (k π) (refuse Unsound)))) (of_clean π (view l) (sound_clean π (view l) ok)) ok

  through_settled : sound π (view l) ≡ true → {f : ℕ} {E : View → Type 0} (lent : Lent) (k : Partition → Planned) → (lent ≡ Ok tt → Settled π (view l) f E (k π))
      → Settled π (view l) f E (through π.drive l π.s lent k)
  through_settled ok {f} {E} lent k q = subst (Settled π (view l) f E) (sym (through_is ok lent k)) (go lent q)
    where
      go : (x : Lent) → (x ≡ Ok tt → Settled π (view l) f E (k π)) → Settled π (view l) f E (lending x (k π))
      go (Ok u) q = q refl
      go (Err Length) q = refused BadBuffer
      go (Err Name) q = refused BadName

  -- the block that a call names or creates; repair names none, and block 0 is no file
  abbrev pub block : Call → ℕ
  block (create kind) = free_head π (view l)
  block (write f r data₀) = f
  block (describe f text) = f
  block (destroy f) = f
  block repair = 0

  repair_through : Clean π (view l) → planned π.drive l π.s repair ≡ repair_in π (view l)
  unfolding planned
  repair_through c =
      ap (λ (x : Result ℕ Refusal). in_partition refuse x (λ e. let ρ = partition_of π.drive π.s e in unmarred (lowest_malformed ρ (view l)) (repair_in ρ (view l)))) h.good
      ∙ ap (λ (m : Option ℕ). unmarred m (repair_in π (view l))) (of_clean π (view l) c)

  -- every call
  pub settled : sound π (view l) ≡ true → (c : Call) → Proper c → Settled π (view l) (block c) (Effect π c (view l)) (planned π.drive l π.s c)
  unfolding planned
  settled ok (create kind) k = through_settled ok (Ok tt) (λ ρ. create_in ρ (view l) kind) (λ _. create_settled π (view l) (placed h) ok kind k)
  settled ok (write f r bytes) k = through_settled ok (lent_block bytes) (λ ρ. write_in ρ (view l) f r (words bytes)) (λ q. write_settled π (view l) (placed h) ok f r (words bytes) (words_of 256 bytes k (fine_block bytes q)))
  settled ok (describe f text) k = through_settled ok (lent_text text) (λ ρ. describe_in ρ (view l) f (words text)) (λ q. describe_settled π (view l) (placed h) ok f (words text) (words_of 52 text k (fine_text text q).0))
  settled ok (destroy f) k = through_settled ok (Ok tt) (λ ρ. destroy_in ρ (view l) f) (λ _. destroy_settled π (view l) (placed h) ok f)
  settled ok repair k = subst (Settled π (view l) 0 (SameFiles π (view l))) (sym (repair_through (sound_clean π (view l) ok))) (repair_settled π (view l) (placed h) ok)

  -- repair, where no candidate is malformed and a block is not owned
  pub repair_is : Clean π (view l) → unowned π (view l) ≢ [] → planned π.drive l π.s repair ≡ finish 0 (repair_plan π (view l))
  unfolding repair_in
  repair_is c n = repair_through c ∙ ap (λ (t : Bool). pick t (refuse NothingFree) (finish 0 (repair_plan π (view l)))) (ne_eqb (length (unowned π (view l))) 0 (some (unowned π (view l)) n))
    where
      some : (m : List ℕ) → m ≢ [] → length m ≢ 0
      some [] q z = q refl
      some (x ∷ m) q z = omega arith
