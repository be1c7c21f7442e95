-- What the definitions of a good name say to the code, which goes by one test after another, and searches for the first place.
use Rattle.std.specs.Prelude.{◌≡◌, ◌≢◌, Bool, not, ◌||◌, List, ℕ, ◌+◌, ◌≤◌, ◌<◌, leb, is_none, is_some, Option, Some, None}
use Rattle.std.proofs.Math.Path.{refl}
use Rattle.std.proofs.Common.{sym, ap, ◌∙◌}
use Rattle.std.proofs.Math.Bool.{true, false}
use native.Mathlib.Omega.{arith}
use Rattle.std.proofs.Math.Dec.{eqb}
use borrow.Author.Tests.{le-ltb, lt-ltb, le-leb, lt-leb, leb-true, eq-eqb, ne_eqb}
use Rattle.base.specs.Tests.{both, all}
use Rattle.base.specs.Laws.{all_of, both_right}
use Rattle.volume.proofs.Steps.{all_no, both_no_2, lowest_at, lowest_passes}
use Rattle.volume.proofs.Readings.{lowest_none}
use Rattle.volume.specs.declared.Rule.{Rule}
use Rattle.volume.specs.declared.Rule.TheVariants as rules
use Rattle.volume.specs.Names.{name_length, character, has, spells, final, dots, broken, broken_number, good_length, good_name, first_broken}

module _ (text : List ℕ) (i : ℕ) where
  -- ---- a character

  pub has_not : (c : ℕ) → name_length text ≤ i → false ≡ has text i c
  unfolding has both
  has_not c h = rw (has, le-ltb i (name_length text) h)

  pub has_is : (c x : ℕ) → i < name_length text → x ≡ character text i → eqb x c ≡ has text i c
  unfolding has both
  has_is c x l q = rw (has, lt-ltb i (name_length text) l, q)

  -- ---- a final ">"

  pub final_not : i + 1 ≢ name_length text → false ≡ final text i
  unfolding final both
  final_not h = rw (final, ne_eqb (i + 1) (name_length text) h)

  pub final_is : i + 1 ≡ name_length text → has text i 62 ≡ final text i
  unfolding final both
  final_is h = rw (final, eq-eqb (i + 1) (name_length text) h)

  -- ---- ">.>" and ">..>"

  ways : (a b c d e : Bool) → (both a (both b (both c true)) || both a (both b (both d (both e true)))) ≡ both a (both b (c || both d e))
  unfolding both
  ways true true true d e = refl
  ways true true false true true = refl
  ways true true false true false = refl
  ways true true false false e = refl
  ways true false c d e = refl
  ways false b c d e = refl

  second : i + 1 + 1 ≡ i + 2
  second = omega arith

  third : i + 1 + 1 + 1 ≡ i + 3
  third = omega arith

  pub dots_is : dots text i ≡ both (has text i 62) (both (has text (i + 1) 46) (has text (i + 2) 62 || both (has text (i + 2) 46) (has text (i + 3) 62)))
  unfolding dots spells
  dots_is = rw (← second, ← third) (ways (has text i 62) (has text (i + 1) 46) (has text (i + 1 + 1) 62) (has text (i + 1 + 1) 46) (has text (i + 1 + 1 + 1) 62))

  -- ---- a rule broken, or none

  pub broken_few : broken_number (broken text i) ≤ 5
  broken_few = go (broken text i)
    where
      go : (r : Option Rule) → broken_number r ≤ 5
      go (Some rules.Length) = omega arith
      go (Some rules.Control) = omega arith
      go (Some rules.Reserved) = omega arith
      go (Some rules.Final) = omega arith
      go (Some rules.Dots) = omega arith
      go None = omega arith

  pub breaks : (x : Option Rule) → x ≡ broken text i → (x ≡ None → ⊥) → is_some (broken text i) ≡ true
  breaks x q h = go x q h
    where
      go : (y : Option Rule) → y ≡ broken text i → (y ≡ None → ⊥) → is_some (broken text i) ≡ true
      go (Some r) z k = ap is_some (sym z)
      go None z k = absurd (k refl)

  pub keeps : (x : Option Rule) → x ≡ broken text i → x ≡ None → is_some (broken text i) ≡ false
  keeps x q h = ap is_some (sym q ∙ h)

-- ---- the length

pub length_short : (n : ℕ) → n < 1 → good_length n ≡ false
unfolding good_length both
length_short n h = rw (good_length, lt-leb 1 n h)

pub length_long : (n : ℕ) → 80 < n → good_length n ≡ false
unfolding good_length
length_long n h = both_no_2 (leb 1 n) _ (lt-leb n 80 h)

pub length_good : (n : ℕ) → 1 ≤ n → n ≤ 80 → good_length n ≡ true
unfolding good_length both
length_good n h k = rw (good_length, le-leb 1 n h, le-leb n 80 k)

pub length_most : (n : ℕ) → good_length n ≡ true → n ≤ 80
unfolding good_length
length_most n h = leb-true n 80 (both_right (leb 1 n) _ h)

-- what the code found of a length
pub length_is : {n m : ℕ} {r b : Bool} → n ≡ m → r ≡ good_length n → r ≡ b → good_length m ≡ b
length_is p q h = ap good_length (sym p) ∙ sym q ∙ h

-- ---- the name

module _ (text : List ℕ) where
  pub found_inside : (i : ℕ) → first_broken text ≡ Some i → i < name_length text
  unfolding first_broken
  found_inside i q = omega (arith, lowest_at _ 0 (name_length text) i q)

  -- no place breaks a rule just where the search finds none
  unbroken : all (name_length text) (λ i. is_none (broken text i)) ≡ is_none (first_broken text)
  unfolding first_broken
  unbroken = go (first_broken text) refl
    where
      go : (x : Option ℕ) → first_broken text ≡ x → all (name_length text) (λ i. is_none (broken text i)) ≡ is_none x
      go (Some i) q = all_no (name_length text) (λ j. is_none (broken text j)) i (found_inside i q) (ap not (lowest_passes _ 0 (name_length text) i q))
      go None q = all_of (name_length text) (λ j. is_none (broken text j)) (λ i l. ap not (lowest_none _ (name_length text) 0 q i (omega arith) (omega (arith, l))))

  -- a name is good just where its length is and the search finds nothing
  pub good_is : good_name text ≡ both (good_length (name_length text)) (is_none (first_broken text))
  unfolding good_name
  good_is = ap (both (good_length (name_length text))) unbroken
