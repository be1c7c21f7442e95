-- Refusal 12 is given exactly where image, partition and length are good and the name is not; and the call `name` finds no rule broken in just the
-- names that describe takes.
use Rattle.std.proofs.Math.Path.{◌≡◌, refl}
use Rattle.std.proofs.Common.{sym, ap, ◌∙◌, true≢false, arith}
use Rattle.std.specs.Prelude.{◌≢◌, Bool, List, ℕ, eqb, length, Option, Some, None, is_none, Ok, Err}
use Rattle.std.proofs.Math.Bool.{true, false}
use borrow.Author.Tests.{eqb-true, eq-eqb}
use Rattle.base.specs.Tests.{pick, both}
use Rattle.base.specs.declared.Refusal.{Refusal}
use Rattle.base.specs.declared.Refusal.TheVariants.{BadImage, BadPartition, BadBuffer, Malformed, Unsound, NoCandidate, BadName}
use Rattle.base.specs.Refusals.{number}
use Rattle.image.specs.Image.{view}
use Rattle.image.specs.Saves.{words}
use Rattle.volume.specs.declared.Unfit.TheVariants.{Length, Name}
use Rattle.volume.specs.Outcome.{Outcome}
use Rattle.volume.specs.Files.{partition_of, candidate, sound}
use Rattle.volume.specs.Answers.{partition, lowest_malformed}
use Rattle.volume.specs.Names.{name_length, good_length, good_name, fault_at, first_broken, name_answer}
use Rattle.volume.specs.Plans.{describe_plan}
use Rattle.volume.specs.Calls.{refuse, finish, lending, lent_text, unmarred, through, describe_in, planned, describe}
use Rattle.volume.proofs.Same.{same_values}
use Rattle.volume.proofs.Readings.{in_part}
use Rattle.volume.specs.Outcome.{Lent}
use Rattle.names.specs.Laws.{good_is}

-- neither 1, 2 nor 3 applies, and the name is bad
pub record Untyped (d : ℕ) (l : List ℕ) (s : ℕ) (text : List ℕ) : Type 0 where
  pub e : ℕ
  pub good : partition d l s ≡ Ok e
  pub long : length text ≡ 104
  pub bad : good_name text ≡ false

other : (y : Refusal) → number y ≢ 12 → ◌≡◌ {A = Outcome} (Err y) (Err BadName) → ⊥
other y n h = let i : y ≡ BadName = cc in n (ap number i)

wrong_name : (text : List ℕ) → lent_text text ≡ Err Name → (length text ≡ 104) × (good_name text ≡ false)
unfolding lent_text
wrong_name text h = go (eqb (length text) 104) refl (good_name text) refl h
  where
    go : (t : Bool) → eqb (length text) 104 ≡ t → (u : Bool) → good_name text ≡ u → ◌≡◌ {A = Lent} (pick t (pick u (Ok tt) (Err Name)) (Err Length)) (Err Name) → (length text ≡ 104) × (good_name text ≡ false)
    go true q false r h = (eqb-true _ _ q, r)
    go true q true r h = let z : ◌≡◌ {A = ℕ} 0 1 = cc in absurd (omega arith)
    go false q u r h = let z : ◌≡◌ {A = ℕ} 0 1 = cc in absurd (omega arith)

module _ (d : ℕ) (l : List ℕ) (s f : ℕ) (text : List ℕ) where
  -- behind 3 and 12 nothing is refused by 12
  later : (m : Option ℕ) (t c : Bool)
      → (unmarred m (pick t (pick c (finish 0 (describe_plan (view l) f (words text))) (refuse NoCandidate)) (refuse Unsound))).outcome ≡ Err BadName → ⊥
  later (Some x) t c h = other (Malformed x) (λ z. omega arith) h
  later None false c h = other Unsound (λ z. omega arith) h
  later None true false h = other NoCandidate (λ z. omega arith) h
  later None true true h = let z : ◌≡◌ {A = ℕ} 0 1 = cc in omega arith

  pub untyped : (planned d l s (describe f text)).outcome ≡ Err BadName → Untyped d l s text
  unfolding planned through describe_in
  untyped = in_part (λ x. x.outcome ≡ Err BadName → Untyped d l s text) refuse (λ h. absurd (other BadImage (λ z. omega arith) h)) (λ h. absurd (other BadPartition (λ z. omega arith) h)) d l s _
      (λ e g. go e g (lent_text text) refl)
    where
      go : (e : ℕ) → partition d l s ≡ Ok e → (x : Lent) → lent_text text ≡ x
          → (lending x (unmarred (lowest_malformed (partition_of d s e) (view l)) (pick (sound (partition_of d s e) (view l)) (describe_in (partition_of d s e) (view l) f (words text)) (refuse Unsound)))).outcome ≡ Err BadName
          → Untyped d l s text
      go e g (Ok u) q h = absurd (later (lowest_malformed (partition_of d s e) (view l)) (sound (partition_of d s e) (view l)) (candidate (partition_of d s e) (view l) f) h)
      go e g (Err Length) q h = absurd (other BadBuffer (λ z. omega arith) h)
      go e g (Err Name) q h = let w = wrong_name text q in record { e = e; good = g; long = w.0; bad = w.1 }

  pub untyped_refused : Untyped d l s text → planned d l s (describe f text) ≡ refuse BadName
  unfolding planned through lent_text
  untyped_refused u = rw (planned, through, u.good, lent_text, eq-eqb (length text) 104 u.long, u.bad)

-- ---- the call `name`

module _ (text : List ℕ) (long : length text ≡ 104) where
  pub taken_unbroken : good_name text ≡ true → name_answer text ≡ Ok (Some (0, 0, 0))
  unfolding name_answer both
  taken_unbroken h = rw (name_answer, eq-eqb (length text) 104 long) (go (good_length (name_length text)) (first_broken text) (sym (good_is text) ∙ h))
    where
      go : (t : Bool) (x : Option ℕ) → both t (is_none x) ≡ true → pick t (fault_at text x) (Ok (Some (1, 0, 0))) ≡ Ok (Some (0, 0, 0))
      go true None q = refl
      go true (Some i) q = absurd (true≢false (sym q))
      go false x q = absurd (true≢false (sym q))

  pub unbroken_taken : name_answer text ≡ Ok (Some (0, 0, 0)) → good_name text ≡ true
  unfolding name_answer both
  unbroken_taken h = good_is text ∙ go (good_length (name_length text)) (first_broken text) (rw (name_answer, eq-eqb (length text) 104 long) at h)
    where
      go : (t : Bool) (x : Option ℕ) → pick t (fault_at text x) (Ok (Some (1, 0, 0))) ≡ Ok (Some (0, 0, 0)) → both t (is_none x) ≡ true
      go true None z = refl
      go true (Some i) z = absurd (omega (arith, (same_values z).1))
      go false x z = absurd (omega (arith, (same_values z).0))
