-- One law for each way through the code that reads an entry.
use Rattle.std.specs.Prelude.{◌≡◌, List, [], ◌∷◌, ℕ, ◌+◌, ◌-◌, ◌*◌, ◌/◌, ◌%◌, ◌≤◌, ◌<◌, eqb, length, get_or, take, drop, Option, Some, None}
use Rattle.std.proofs.Math.Path.{refl, sym, ap}
use Rattle.std.proofs.Common.{◌∙◌, subst, add-one, mul-le-mul, rules}
use mathlib.Core.Bool.{Bool, true, false, not}
use native.Mathlib.Omega.{arith}
use borrow.Author.Tests.{lt-leb, le-leb, leb-true, ne_eqb, eq-eqb, eqb-true, not-true, not-false}
use Rattle.base.specs.Tests.{pick, both, every}
use Rattle.base.specs.Laws.{both_right, every_at}
use Rattle.drive.specs.Address.{lda_block, is_lda}
use Rattle.image.specs.View.{pair}
use Rattle.image.specs.Image.{view}
use Rattle.volume.specs.Words.{file_type_at}
use Rattle.volume.specs.Files.{is_file, name}
use Rattle.volume.specs.declared.Partition.{Partition}
use Rattle.volume.proofs.Steps.{every_no, and_true, ne_of, eq_of}
use Rattle.directory.specs.Directory.{upper, same_name, Selection, weigh, hash, is_rule, selected, name_length, taken_at, is_directory, file_at, target_of, met_target, place_of, met_at, what_of}
use Rattle.directory.specs.declared.Target.{Target}
use Rattle.directory.specs.declared.Target.TheVariants.{File, Directory, Dangling}

-- ---- capitals

pub upper_low : (x c : ℕ) → x ≡ c → x < 97 → x ≡ upper c
unfolding upper both
upper_low x c h l = rw (lt-leb 97 c (omega arith), upper, both) h

pub upper_high : (x c : ℕ) → x ≡ c → 97 ≤ x → 122 < x → x ≡ upper c
unfolding upper both
upper_high x c h k l = rw (le-leb 97 c (omega arith), lt-leb c 122 (omega arith), upper, both) h

pub upper_letter : (x c : ℕ) → x ≡ c → 97 ≤ x → x ≤ 122 → x - 32 ≡ upper c
unfolding upper both
upper_letter x c h k l = rw (le-leb 97 c (omega arith), le-leb c 122 (omega arith), upper, both) (ap (λ (z : ℕ). z - 32) h)

pub ruleset uppers = (upper_low, upper_high, upper_letter, rules)

-- ---- the same name

module _ (a b : List ℕ) where
  pub same_short : (length a ≡ length b → ⊥) → eqb (length a) (length b) ≡ same_name a b
  unfolding same_name both
  same_short h = rw (ne_eqb _ _ h, same_name, both)

-- ---- the rule

pub product : {a b : ℕ} → a < 256 → b < 256 → a * b ≤ 65025
product {a} {b} h k = let i : a ≤ 255 = omega arith in let j : b ≤ 255 = omega arith in let z : a * b ≤ 255 * 255 = mul-le-mul i j in z

-- the sum after i letters
pub record Weighed (rule x : List ℕ) (i sum : ℕ) : Type 0 where
  pub is : sum ≡ weigh rule x i
  pub small : sum ≤ 65025 * (i + 1)

pub weigh_starts : (rule x : List ℕ) (w p : ℕ) → w ≡ get_or rule 0 0 → p ≡ w * length x → p ≤ 65025 → Weighed rule x 0 p
unfolding weigh
weigh_starts rule x w p q h k = record { is = h ∙ ap (λ (z : ℕ). z * length x) q; small = omega arith }

pub weigh_next : (rule x : List ℕ) (i sum w u p : ℕ) → Weighed rule x i sum → w ≡ get_or rule (i + 1) 0 → u ≡ upper (get_or x i 0) → p ≡ w * u → p ≤ 65025 → Weighed rule x (i + 1) (sum + p)
unfolding weigh
weigh_next rule x i sum w u p s q v h k = record { is = go; small = (let z = s.small in omega arith) }
  where
    go : sum + p ≡ weigh rule x (i + 1)
    go = rw (add-one, weigh) (rw (← s.is, ← v) (ap (λ (z : ℕ). sum + z) (h ∙ rw (q, add-one))))

pub weigh_ends : (rule x : List ℕ) (i sum n : ℕ) → Weighed rule x i sum → i ≤ n → n ≤ i → n ≡ length x → sum % 31 ≡ hash rule x
unfolding hash
weigh_ends rule x i sum n s l m h = let z : i ≡ length x = omega arith in rw (hash, ← z) (ap (λ (y : ℕ). y % 31) s.is)

pub ruleset weighs = (weigh_starts, weigh_next, weigh_ends, rules)

-- a rule with a byte has 26
pub rule_long : (rule : List ℕ) → is_rule rule ≡ true → 1 ≤ length rule → length rule ≡ 26
unfolding is_rule
rule_long rule h l = go (eqb (length rule) 0) refl (eqb (length rule) 26) refl
  where
    go : (t : Bool) → eqb (length rule) 0 ≡ t → (u : Bool) → eqb (length rule) 26 ≡ u → length rule ≡ 26
    go true p u q = let z : length rule ≡ 0 = eqb-true _ _ p in absurd (omega arith)
    go false p true q = eqb-true _ _ q
    go false p false q = absurd (mathlib.Core.Bool.true≢false (sym (rw (is_rule, p, q) at h)))

pub select_any : (rule x : List ℕ) (r : ℕ) → length rule < 1 → true ≡ selected rule x r
unfolding selected
select_any rule x r h = rw (eq-eqb (length rule) 0 (omega arith), selected)

pub select_by : (rule x : List ℕ) (r h : ℕ) → 1 ≤ length rule → h ≡ hash rule x → eqb (r % 31) h ≡ selected rule x r
unfolding selected
select_by rule x r h l q = rw (ne_eqb (length rule) 0 (λ z. absurd (omega arith)), selected, q)

pub ruleset selects = (rule_long, select_any, select_by, rules)

-- examples: the hash of "Ab" under weights 1, 2, 3 is (2 + 130 + 198) % 31; with no rule any block is selected
pub example_hash : hash (1 ∷ 2 ∷ 3 ∷ []) (65 ∷ 98 ∷ []) ≡ 20
unfolding hash weigh upper both
example_hash = refl

pub example_selected : selected [] (65 ∷ []) 7 ≡ true
unfolding selected
example_selected = refl

-- ---- taken

module _ (l : List ℕ) (sel : Selection) (r at : ℕ) where
  pub taken_even : (x : ℕ) → x ≡ get_or l at 0 → (x % 2 ≡ 1 → ⊥) → false ≡ taken_at l sel r at
  unfolding taken_at
  taken_even x q h = sym (every_no _ 0 (ne_of (ap (λ (z : ℕ). z % 2) q) refl h))

  pub taken_short : (n : ℕ) → n ≡ get_or l (at + 6) 0 → n < 1 → false ≡ taken_at l sel r at
  unfolding taken_at
  taken_short n q h = sym (every_no _ 1 (lt-leb 1 (get_or l (at + 6) 0) (omega arith)))

  pub taken_long : (n : ℕ) → n ≡ get_or l (at + 6) 0 → 25 < n → false ≡ taken_at l sel r at
  unfolding taken_at
  taken_long n q h = sym (every_no _ 2 (lt-leb (get_or l (at + 6) 0) 25 (omega arith)))

  pub taken_last : (x n : ℕ) (a : Bool) → x ≡ get_or l at 0 → x % 2 ≡ 1 → n ≡ get_or l (at + 6) 0 → 1 ≤ n → n ≤ 25
      → a ≡ sel (take (at + 7 + n - (at + 7)) (drop (at + 7) l)) r → a ≡ taken_at l sel r at
  unfolding taken_at every
  taken_last x n a q h p u v z =
      let i : at + 7 + n - (at + 7) ≡ n = omega arith in
      rw (eq_of (ap (λ (z : ℕ). z % 2) q) refl h, le-leb 1 (get_or l (at + 6) 0) (omega arith), le-leb (get_or l (at + 6) 0) 25 (omega arith), taken_at, every) (z ∙ rw (i, p) (sym (and_true _)))

  -- a name that is taken has at most 25 letters
  pub taken_fits : taken_at l sel r at ≡ true → name_length l at ≤ 25
  unfolding taken_at
  taken_fits h = leb-true _ _ (every_at _ h 2)

pub ruleset takes = (taken_even, taken_short, taken_long, taken_last, rules)

-- ---- the target of an address

module _ (π : Partition) (l : List ℕ) (x t : ℕ) (g : Bool) (p : t ≡ lda_block π.drive x) (q : g ≡ is_lda π.drive x t) where
  pub target_odd : not g ≡ true → None ≡ file_at π l x
  unfolding file_at both
  target_odd h = rw (file_at, ← p, ← q, not-true g h, both)

  known : (r : Bool) → r ≡ is_file π (view l) t → not g ≡ false → pick r (Some t) None ≡ file_at π l x
  unfolding file_at both
  known r z h = rw (file_at, ← p, ← q, not-false g h, both, ← z)

  pub target_file : (r : Bool) → r ≡ is_file π (view l) t → r ≡ true → not g ≡ false → Some t ≡ file_at π l x
  target_file r z u h = rw u at (known r z h)

  pub target_none : (r : Bool) → r ≡ is_file π (view l) t → r ≡ false → not g ≡ false → None ≡ file_at π l x
  target_none r z u h = rw u at (known r z h)

pub ruleset targets = (target_odd, target_file, target_none, rules)

-- what fileAt answers is a file
pub file_at_is : (π : Partition) (l : List ℕ) (x t : ℕ) → file_at π l x ≡ Some t → is_file π (view l) t ≡ true
unfolding file_at
file_at_is π l x t h = go (both (is_lda π.drive x b) (is_file π (view l) b)) refl
  where
    b : ℕ
    b = lda_block π.drive x

    go : (u : Bool) → both (is_lda π.drive x b) (is_file π (view l) b) ≡ u → is_file π (view l) t ≡ true
    go true q = let z = rw (q, file_at) at h in let y : b ≡ t = cc in rw (← y) (both_right _ _ q)
    go false q = let z = rw (q, file_at) at h in cc

-- the code's test of the file type
pub directory_as : (l : List ℕ) (f i : ℕ) → i ≡ view l f file_type_at → eqb i 3 ≡ is_directory l f
unfolding is_directory
directory_as l f i q = ap (λ (z : ℕ). eqb z 3) q

-- ---- what an entry is

-- what a target is, by the file that the address decodes to
module _ (π : Partition) (l : List ℕ) (b i : ℕ) {w : ℕ} {x : Option ℕ} (u : w ≡ pair (view l) b (9 + 16 * i)) (k : x ≡ file_at π l w) where
  is_target : met_target l x ≡ met_target l (target_of π l b i)
  is_target = ap (met_target l) (k ∙ ap (file_at π l) u)

  pub target_dangles : x ≡ None → Dangling ≡ met_target l (target_of π l b i)
  target_dangles y = rw y at is_target

  pub target_directory : {t : ℕ} {d : Bool} → x ≡ Some t → d ≡ is_directory l t → d ≡ true → Directory t ≡ met_target l (target_of π l b i)
  target_directory y v c = rw (← v, c) at (rw y at is_target)

  pub target_plain : {t : ℕ} {d : Bool} → x ≡ Some t → d ≡ is_directory l t → d ≡ false → File t ≡ met_target l (target_of π l b i)
  target_plain y v c = rw (← v, c) at (rw y at is_target)

pub ruleset aims = (target_dangles, target_directory, target_plain, rules)

module _ (π : Partition) (l : List ℕ) (sel : Selection) (f j b : ℕ) (q : b ≡ name π (view l) f (j / 16)) (a : Bool) (z : a ≡ taken_at l sel (j / 16) (528 * b + 16 + 32 * (j % 16))) where
  pub met_skip : a ≡ false → None ≡ met_at π l sel f j
  unfolding met_at
  met_skip h = rw (met_at, ← q, ← z, h)

  pub met_takes : {t : Target} → a ≡ true → t ≡ met_target l (target_of π l b (j % 16)) → Some t ≡ met_at π l sel f j
  unfolding met_at
  met_takes h u = rw (met_at, ← q, ← z, h) (ap (λ (t : Target). Some t) u)

pub ruleset mets = (met_skip, met_takes, not-true, not-false, rules)

-- a target that is no file dangles
abbrev pub Lands : Partition → List ℕ → Target → Type 0
Lands π l (File t) = is_file π (view l) t ≡ true
Lands π l (Directory t) = is_file π (view l) t ≡ true
Lands π l Dangling = Unit {0}

pub target_lands : (π : Partition) (l : List ℕ) (w : ℕ) → Lands π l (met_target l (file_at π l w))
target_lands π l w = go (file_at π l w) refl
  where
    kind : (t : ℕ) (u : Bool) → is_file π (view l) t ≡ true → Lands π l (pick u (Directory t) (File t))
    kind t true h = h
    kind t false h = h

    go : (x : Option ℕ) → file_at π l w ≡ x → Lands π l (met_target l x)
    go (Some t) q = kind t (is_directory l t) (file_at_is π l w t q)
    go None q = tt

-- an entry that is met: its name is short, and a directory is a file
module _ (π : Partition) (l : List ℕ) (sel : Selection) (f j : ℕ) {x : Target} (h : met_at π l sel f j ≡ Some x) where
  pub met_taken : taken_at l sel (j / 16) (place_of π l f j) ≡ true
  unfolding met_at
  met_taken = go (taken_at l sel (j / 16) (place_of π l f j)) refl
    where
      go : (u : Bool) → taken_at l sel (j / 16) (place_of π l f j) ≡ u → u ≡ true
      go true q = refl
      go false q = let z = rw (met_at, q) at h in cc

  pub met_short : name_length l (place_of π l f j) ≤ 25
  met_short = taken_fits l sel (j / 16) (place_of π l f j) met_taken

  pub met_target_is : met_target l (target_of π l (name π (view l) f (j / 16)) (j % 16)) ≡ x
  unfolding met_at
  met_target_is = let z = rw (met_at, met_taken) at h in cc

  pub met_what : what_of x ≤ 2
  met_what = go x
    where
      go : (t : Target) → what_of t ≤ 2
      go (File t) = omega arith
      go (Directory t) = omega arith
      go Dangling = omega arith

  pub met_is_file : {t : ℕ} → x ≡ Directory t → is_file π (view l) t ≡ true
  met_is_file d = subst (Lands π l) (met_target_is ∙ d) (target_lands π l _)
