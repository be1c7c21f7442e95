-- The ways through the code that tests an index: its pointer blocks, its unused entries, and well formed. Assumes nothing.
use mathlib.Core.Path.{◌≡◌, refl, sym, ap, ◌∙◌}
use mathlib.Core.List.{List, [], ◌∷◌}
use mathlib.Core.Bool.{Bool, true, false, ◌&&◌}
use Prim.Native.Nat.{ℕ, zero, suc, ◌+◌, ◌-◌, ◌*◌, ◌/◌, ◌≤◌, ◌<◌}
use native.Mathlib.Omega.{arith}
use lib.Bits.{bit_or, or_add_and, and_le_l, and_le_r}
use lib.Dec.{ltb, leb, eqb}
use lib.IntN.{ℤ}
use borrow.Author.Tests.{ltb-true, ltb-false, lt-ltb, le-ltb, eq-eqb, ne_eqb, eqb-true, eqb-false}
use Rattle.std.specs.Prelude.{min, Some, cond}
use Rattle.std.specs.List.{find, range_with_len}
use Rattle.base.specs.Tests.{pick, both, every, all}
use Rattle.base.proofs.Chains.{all_list}
use Rattle.std.proofs.Math.Bool.{and_assoc}
use Rattle.std.specs.List.{fold, list_all, range_with_len}
use Rattle.image.specs.View.{View, pair}
use Rattle.image.specs.Image.{view}
use Rattle.image.specs.Signed.{signed}
use Rattle.volume.specs.Words.{last_block_at}
use Rattle.volume.specs.Keys.{home, reach, up, low}
use Rattle.volume.proofs.KeyLaws.{first_up, first_pointer, low_pos, up_far, closed_ptr}
use Rattle.volume.specs.Files.{well_formed, len, spot}
use Rattle.volume.specs.declared.Partition.{Partition}
use Rattle.volume.specs.Answers.{lowest}
use Rattle.volume.proofs.Steps.{every_no, and_true, both_no}
use Rattle.volume.specs.Closed.{nearest}
use Rattle.volume.proofs.Closed.{asked_near}
use Rattle.volume.specs.Reads.{Lies}
use Rattle.volume.proofs.Readings.{inside_of}
use Rattle.inspect.specs.Numbers.{last_good, blocks_to, last_good_is, blocks_to_is}
use Rattle.inspect.specs.Form.{nil_from, double_test, doubles_good, entries_good, index_good, nils_good, numbers_good, form_good, form_closed, named_member, double_named}
use Rattle.inspect.specs.Parts.{Readable}
use Rattle.inspect.proofs.Laws.{held_near}

-- ---- how many pointer blocks n blocks need

pub ptrs_few : (p n : ℕ) → p ≡ 289 - low n → n ≤ reach → p ≤ 256
unfolding low
ptrs_few p n q h = omega (arith, few (ltb 64 n))
  where
    few : (t : Bool) → 33 ≤ pick t (289 - (n + 63) / 128) home
    few true = omega arith
    few false = omega arith

pub ptrs_below : (p n i : ℕ) → p ≡ 289 - low n → i < p → 64 + 128 * i < n
ptrs_below p n i q h = omega (arith, closed_ptr n (288 - i) (omega arith) (omega arith), first_pointer (288 - i) (omega arith))

pub ptrs_enough : (p n : ℕ) → p ≡ 289 - low n → n ≤ reach → n ≤ 64 + 128 * p
unfolding low
ptrs_enough p n q h = go (ltb 64 n) refl q
  where
    go : (t : Bool) → ltb 64 n ≡ t → p ≡ 289 - pick t (289 - (n + 63) / 128) home → n ≤ 64 + 128 * p
    go true j r = omega arith
    go false j r = omega (arith, ltb-false 64 n j)

-- the block that names a pointer block over data lies in the partition, where -2 and -3 are named well
pub holder_in : (π : Partition) (v : View) (f p n i : ℕ) → p ≡ 289 - low n → n ≤ reach → i < p → f ≤ π.e → doubles_good π v f n ≡ true → spot π v f (up (288 - i)) ≤ π.e
holder_in π v f p n i q s h e g = go (ltb 256 (288 - i)) refl
  where
    go : (t : Bool) → ltb 256 (288 - i) ≡ t → spot π v f (up (288 - i)) ≤ π.e
    go true z = rw (← held_near π v f (288 - i) (ltb-true 256 (288 - i) z) (omega arith)) e
    go false z =
        let l = ltb-false 256 (288 - i) z in
        let u = up_far (288 - i) l in
        let o : 0 < 288 - i = omega (arith, low_pos n s) in
        let a = closed_ptr n (288 - i) (omega arith) (omega arith) in
        let b = first_up (288 - i) (λ x. omega (arith, x)) in
        (inside_of π _ (named_member π v f (up (288 - i)) (double_named π v f n g (up (288 - i)) (asked_near n (up (288 - i)) (omega (arith, u)) (omega arith)) (omega (arith, u)) (omega (arith, u)))).ins).1

-- the FIB names -2 and -3
pub double_held : (π : Partition) (v : View) (f i : ℕ) → i < 2 → f ≤ π.e → spot π v f (up (290 - i)) ≤ π.e
double_held π v f i l e = rw (← held_near π v f (290 - i) (omega arith) (omega arith)) e

-- blocks below the next pointer block's are those of this one
pub least_reach : (k a n j r : ℕ) → n ≡ min (k - a) 128 → n ≤ j → r < k → r < a + 128 → r < a + j
least_reach k a n j r q l h u = omega arith

-- no blocks need no entry
pub index_none : (π : Partition) (v : View) (f n : ℕ) → n ≡ 0 → true ≡ index_good π v f n
unfolding index_good doubles_good entries_good both all low
index_none π v f n h = rw (h)

-- the others need of -2 and -3 those that are asked for, and then the rest
module _ (π : Partition) (v : View) (f n : ℕ) where
  pub doubles_is : {k : ℕ} {r : Bool} → k ≡ nearest n → r ≡ all (291 - k) (double_test π v f) → r ≡ true → doubles_good π v f n ≡ true
  unfolding doubles_good
  doubles_is h q t = sym (q ∙ ap (λ (x : ℕ). all (291 - x) (double_test π v f)) h) ∙ t

  pub index_is : {r : Bool} → doubles_good π v f n ≡ true → r ≡ entries_good π v f n → r ≡ index_good π v f n
  unfolding index_good both
  index_is h q = q ∙ sym (rw h)

  pub index_not : {k : ℕ} {r : Bool} → k ≡ nearest n → r ≡ all (291 - k) (double_test π v f) → r ≡ false → false ≡ index_good π v f n
  unfolding index_good doubles_good both
  index_not h q t = sym (both_no _ _ (sym (q ∙ ap (λ (x : ℕ). all (291 - x) (double_test π v f)) h) ∙ t))

-- ---- the walk that gathers the bits of the entries from k on

eqb_or : (a b : ℕ) → eqb (bit_or a b) 0 ≡ (eqb a 0 && eqb b 0)
eqb_or a b = go (eqb a 0) refl (eqb b 0) refl
  where
    go : (t : Bool) → eqb a 0 ≡ t → (u : Bool) → eqb b 0 ≡ u → eqb (bit_or a b) 0 ≡ (t && u)
    go true p true q = eq-eqb (bit_or a b) 0 (omega (arith, or_add_and a b, eqb-true a 0 p, eqb-true b 0 q))
    go true p false q = ne_eqb (bit_or a b) 0 (λ z. eqb-false b 0 q (omega (arith, or_add_and a b, and_le_l a b, z)))
    go false p u q = ne_eqb (bit_or a b) 0 (λ z. eqb-false a 0 p (omega (arith, or_add_and a b, and_le_r a b, z)))

or_all : (x : ℕ → ℕ) (b a n : ℕ) → eqb (fold (λ c i. bit_or c (x i)) b (range_with_len a n)) 0 ≡ (eqb b 0 && list_all (λ i. eqb (x i) 0) (range_with_len a n))
or_all x b a zero = sym (and_true (eqb b 0))
or_all x b a (suc n) =
    let rest = list_all (λ i. eqb (x i) 0) (range_with_len (a + 1) n) in
    or_all x (bit_or b (x a)) (a + 1) n ∙ ap (λ (t : Bool). t && rest) (eqb_or b (x a)) ∙ and_assoc (eqb b 0) (eqb (x a) 0) rest

-- the entries from k on, or'ed
pub nils_are : (v : View) (f w k n : ℕ) {r : ℕ} → r ≡ fold (λ b i. bit_or b (pair v f (w + 2 * i))) 0 (range_with_len k (n - k)) → eqb r 0 ≡ all n (nil_from v f w k)
nils_are v f w k n h = ap (λ (z : ℕ). eqb z 0) h ∙ or_all _ 0 k (n - k) ∙ all_list (λ i. eqb (pair v f (w + 2 * i)) 0) (nil_from v f w k) k n (λ i l. rw (lt-ltb i k l)) (λ i l m. rw (le-ltb i k l))

-- ---- the ways through `well_formed`, which reads L, that is z, and from it n

-- a list of four tests of which three passed is the fourth
pub every_last : (a b c d : Bool) → a ≡ true → b ≡ true → c ≡ true → d ≡ every (a ∷ b ∷ c ∷ d ∷ [])
unfolding every
every_last a b c d p q r = sym (and_true d) ∙ rw (p, q, r)

module _ (π : Partition) (v : View) (f : ℕ) (z : ℤ) (hz : z ≡ signed (v f last_block_at)) (small : v f last_block_at < 65536) where
  last_is : last_good z ≡ leb (len v f) reach
  unfolding len
  last_is = ap last_good hz ∙ last_good_is (v f last_block_at) small

  pub wf_long : last_good z ≡ false → false ≡ well_formed π v f
  unfolding form_good
  wf_long h = sym (form_closed π v f ∙ every_no _ 0 (sym last_is ∙ h))

  module _ (good : last_good z ≡ true) (n : ℕ) (hn : n ≡ blocks_to z) where
    len_is : n ≡ len v f
    unfolding len
    len_is = hn ∙ ap blocks_to hz ∙ blocks_to_is (v f last_block_at) small (ap last_good (sym hz) ∙ good)

    pub wf_index : {r : Bool} → r ≡ index_good π v f n → r ≡ false → false ≡ well_formed π v f
    unfolding form_good
    wf_index q t = sym (form_closed π v f ∙ every_no _ 1 (ap (index_good π v f) (sym len_is) ∙ sym q ∙ t))

    pub wf_nil : {r : Bool} → r ≡ nils_good v f n → r ≡ false → false ≡ well_formed π v f
    unfolding form_good
    wf_nil q t = sym (form_closed π v f ∙ every_no _ 2 (ap (nils_good v f) (sym len_is) ∙ sym q ∙ t))

    pub wf_rest : {r : Bool} → index_good π v f n ≡ true → nils_good v f n ≡ true → r ≡ numbers_good π v f n → r ≡ well_formed π v f
    unfolding form_good
    wf_rest i j q =
        q ∙ ap (numbers_good π v f) len_is
        ∙ every_last _ _ _ _ (sym last_is ∙ good) (ap (index_good π v f) (sym len_is) ∙ i) (ap (nils_good v f) (sym len_is) ∙ j) ∙ sym (form_closed π v f)

-- and then its index can be read
pub wf_readable : {π : Partition} {l : List ℕ} (f : ℕ) (z : ℤ) (n : ℕ) → Lies π l → f ≤ π.e → z ≡ signed (view l f last_block_at) → view l f last_block_at < 65536
    → last_good z ≡ true → (n ≡ blocks_to z) × (n ≤ reach) → index_good π (view l) f n ≡ true
    → Readable π l f × (n ≡ len (view l) f)
wf_readable {π} {l} f z n i h hz small good hn g =
    let q = len_is π (view l) f z hz small good n hn.0 in
    (record { lies = i; here = h; short = rw (← q) hn.1; good = rw (← q) g }, q)

-- ---- a search

pub find_lowest : (p : ℕ → Bool) (a n : ℕ) → find p (range_with_len a n) ≡ lowest p a n
unfolding lowest
find_lowest p a zero = refl
find_lowest p a (suc n) = go (p a) (find_lowest p (a + 1) n)
  where
    go : (t : Bool) → find p (range_with_len (a + 1) n) ≡ lowest p (a + 1) n
        → cond t (Some a) (find p (range_with_len (a + 1) n)) ≡ elim t [ true ↦ Some a | false ↦ lowest p (a + 1) n ]
    go true h = refl
    go false h = h
