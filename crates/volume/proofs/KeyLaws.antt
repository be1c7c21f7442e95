-- The laws of keys. All arithmetic on the rows of the index is here.
use Rattle.std.specs.Prelude.{◌≡◌, refl, ◌≢◌, Bool, true, false, ℕ, zero, suc, ◌+◌, ◌-◌, ◌*◌, ◌/◌, ◌%◌, ◌≤◌, ◌<◌, eqb, ltb}
use Rattle.std.proofs.Common.{sym, ap, ap₂, ◌∙◌, subst, arith, eqb-true, ltb-true, ltb-false, lt-ltb, le-ltb, ne_eqb}
use Rattle.std.proofs.lemmas.Bool.{eqb-false}
use Rattle.base.specs.Tests.{pick}
use Rattle.volume.specs.Words.{slot_at}
use Rattle.volume.specs.Keys.{home, reach, key_of, number, up, slot, child, first, low, span}

-- how many entries lead to a key
unfoldable pub level : ℕ → ℕ
level k = pick (ltb 355 k) (pick (ltb 4451 k) 3 2) (pick (eqb k home) 0 (pick (ltb 256 k) 1 2))

-- what holds of holder, word, first block and level in each row of the index holds of them at any key
rows : (Q : ℕ → ℕ → ℕ → ℕ → Type 0) (k : ℕ)
    → (4451 < k → Q (288 - (k - 356) / 128) (8 + 2 * ((k - 356) % 128)) (k - 292) 3)
    → (355 < k → k ≤ 4451 → Q (288 - (k - 356) / 128) (8 + 2 * ((k - 356) % 128)) (k - 292) 2)
    → (291 < k → k ≤ 355 → Q 291 (60 + 2 * (k - 292)) (k - 292) 1)
    → (k ≡ 291 → Q 291 (252 + 2 * (290 - k)) 0 0)
    → (288 < k → k < 291 → Q 291 (252 + 2 * (290 - k)) (4160 + 16384 * (290 - k)) 1)
    → (256 < k → k ≤ 288 → Q 291 (188 + 2 * (288 - k)) (64 + 128 * (288 - k)) 1)
    → (k ≤ 256 → Q (290 - (256 - k) / 128) (8 + 2 * ((256 - k) % 128)) (64 + 128 * (288 - k)) 2)
    → Q (up k) (slot k) (first k) (level k)
unfolding up slot first level
rows Q k r1 r2 r3 r4 r5 r6 r7 = go (ltb 355 k) refl (ltb 4451 k) refl (ltb 291 k) refl (eqb k 291) refl (ltb 288 k) refl (ltb 256 k) refl
  where
    go : (a : Bool) → ltb 355 k ≡ a → (b : Bool) → ltb 4451 k ≡ b → (c : Bool) → ltb 291 k ≡ c → (d : Bool) → eqb k 291 ≡ d → (e : Bool) → ltb 288 k ≡ e
        → (g : Bool) → ltb 256 k ≡ g
        → Q (pick a (288 - (k - 356) / 128) (pick g 291 (290 - (256 - k) / 128)))
        (pick a (8 + 2 * ((k - 356) % 128)) (pick c (60 + 2 * (k - 292)) (pick e (252 + 2 * (290 - k)) (pick g (188 + 2 * (288 - k)) (8 + 2 * ((256 - k) % 128))))))
        (pick c (k - 292) (pick d 0 (pick e (4160 + 16384 * (290 - k)) (64 + 128 * (288 - k)))))
        (pick a (pick b 3 2) (pick d 0 (pick g 1 2)))
    go true pa true pb true pc d pd e pe g pg = r1 (ltb-true 4451 k pb)
    go true pa false pb true pc d pd e pe g pg = r2 (ltb-true 355 k pa) (ltb-false 4451 k pb)
    go true pa b pb false pc d pd e pe g pg = absurd (omega (arith, ltb-true 355 k pa, ltb-false 291 k pc))
    go false pa b pb true pc true pd e pe g pg = absurd (omega (arith, eqb-true k 291 pd, ltb-true 291 k pc))
    go false pa b pb true pc false pd e pe true pg = r3 (ltb-true 291 k pc) (ltb-false 355 k pa)
    go false pa b pb true pc false pd e pe false pg = absurd (omega (arith, ltb-true 291 k pc, ltb-false 256 k pg))
    go false pa b pb false pc true pd true pe true pg = r4 (eqb-true k 291 pd)
    go false pa b pb false pc true pd false pe g pg = absurd (omega (arith, eqb-true k 291 pd, ltb-false 288 k pe))
    go false pa b pb false pc true pd true pe false pg = absurd (omega (arith, eqb-true k 291 pd, ltb-false 256 k pg))
    go false pa b pb false pc false pd true pe true pg = r5 (ltb-true 288 k pe) (omega (arith, ltb-false 291 k pc, eqb-false k 291 pd))
    go false pa b pb false pc false pd true pe false pg = absurd (omega (arith, ltb-true 288 k pe, ltb-false 256 k pg))
    go false pa b pb false pc false pd false pe true pg = r6 (ltb-true 256 k pg) (ltb-false 288 k pe)
    go false pa b pb false pc false pd false pe false pg = r7 (ltb-false 256 k pg)

level_home : level 291 < 1
unfolding level
level_home = omega arith

level_near : (u : ℕ) → 256 < u → u < 291 → level u ≡ 1
unfolding level
level_near u a b = simp (le-ltb 355 u (omega arith), ne_eqb u 291 (λ z. omega arith), lt-ltb 256 u a)

level_far : (u : ℕ) → u ≤ 256 → level u ≡ 2
unfolding level
level_far u a = simp (le-ltb 355 u (omega arith), ne_eqb u 291 (λ z. omega arith), le-ltb 256 u a)

pub first_home : first home ≡ 0
unfolding first
first_home = refl

pub first_data : (k : ℕ) → home < k → first k ≡ k - 292
unfolding first
first_data k h = simp (lt-ltb 291 k h)

pub first_doubles : (k : ℕ) → 288 < k → k < 291 → first k ≡ 4160 + 16384 * (290 - k)
unfolding first
first_doubles k a b = simp (le-ltb 291 k (omega arith), ne_eqb k 291 (λ z. omega arith), lt-ltb 288 k a)

pub first_pointer : (k : ℕ) → k ≤ 288 → first k ≡ 64 + 128 * (288 - k)
unfolding first
first_pointer k a = simp (le-ltb 291 k (omega arith), ne_eqb k 291 (λ z. omega arith), le-ltb 288 k a)

-- a holder lies nearer to the FIB
pub up_level : (k : ℕ) → k ≢ home → level (up k) < level k
up_level k n = rows (λ u _ _ l. level u < l) k
    (λ a. lev3 (omega arith)) (λ a b. lev2 (omega arith) (omega arith)) (λ a b. level_home) (λ a. absurd (n a)) (λ a b. level_home) (λ a b. level_home)
    (λ a. lev2 (omega arith) (omega arith))
  where
    lev2 : {u : ℕ} → 256 < u → u < 291 → level u < 2
    lev2 {u} a b = omega (arith, level_near u a b)

    lev3 : {u : ℕ} → u ≤ 256 → level u < 3
    lev3 {u} a = omega (arith, level_far u a)

pub level_few : (k : ℕ) → level k ≤ 3
level_few k = rows (λ _ _ _ l. l ≤ 3) k (λ _. omega arith) (λ _ _. omega arith) (λ _ _. omega arith) (λ _. omega arith) (λ _ _. omega arith) (λ _ _. omega arith) (λ _. omega arith)

pub level_zero : (k : ℕ) → level k ≤ 0 → k ≡ home
level_zero k = rows (λ _ _ _ l. l ≤ 0 → k ≡ home) k
    (λ _ h. absurd (omega arith)) (λ _ _ h. absurd (omega arith)) (λ _ _ h. absurd (omega arith)) (λ q h. q) (λ _ _ h. absurd (omega arith)) (λ _ _ h. absurd (omega arith)) (λ _ h. absurd (omega arith))

-- what holds of the FIB, and of a key if of its holder, holds of every key
pub key_ind : (P : ℕ → Type 0) → P home → ((k : ℕ) → k ≢ home → P (up k) → P k) → (k : ℕ) → P k
key_ind P b s k = go (suc (level k)) k (omega arith)
  where
    go : (n k : ℕ) → level k < n → P k
    go zero k l = absurd (omega arith)
    go (suc n) k l = at (eqb k home) refl (λ m. go n (up k) m)
      where
        at : (t : Bool) → eqb k home ≡ t → (level (up k) < n → P (up k)) → P k
        at true q ih = subst P (sym (eqb-true k home q)) b
        at false q ih = let ne = eqb-false k home q in s k ne (ih (omega (arith, up_level k ne)))

-- no data block names another
pub up_most : (k : ℕ) → up k ≤ home
up_most k = rows (λ u _ _ _. u ≤ home) k (λ _. omega arith) (λ _ _. omega arith) (λ _ _. omega arith) (λ _. omega arith) (λ _ _. omega arith) (λ _ _. omega arith) (λ _. omega arith)

-- what L asks for has a holder that L asks for
pub first_up : (k : ℕ) → k ≢ home → first (up k) ≤ first k
first_up k n = rows (λ u _ g _. first u ≤ g) k
    (λ a. ptr (omega arith) (omega arith)) (λ a b. ptr (omega arith) (omega arith)) (λ a b. fib) (λ a. absurd (n a)) (λ a b. fib) (λ a b. fib) (λ a. far a (ltb 0 k) refl)
  where
    ptr : {u g : ℕ} → u ≤ 288 → 64 + 128 * (288 - u) ≤ g → first u ≤ g
    ptr {u} {g} a b = omega (arith, first_pointer u a)

    fib : {g : ℕ} → first home ≤ g
    fib {g} = omega (arith, first_home)

    far : k ≤ 256 → (t : Bool) → ltb 0 k ≡ t → first (290 - (256 - k) / 128) ≤ 64 + 128 * (288 - k)
    far a true q = let p = ltb-true 0 k q in omega (arith, first_doubles (290 - (256 - k) / 128) (omega arith) (omega arith))
    far a false q = let p = ltb-false 0 k q in omega (arith, first_pointer (290 - (256 - k) / 128) (omega arith))

-- what n blocks ask for lies between the least key and the last block
pub low_home : (n : ℕ) → low n ≤ home
unfolding low
low_home n = go (ltb 64 n)
  where
    go : (t : Bool) → pick t (289 - (n + 63) / 128) 291 ≤ 291
    go true = omega arith
    go false = omega arith

pub low_pos : (n : ℕ) → n ≤ reach → 0 < low n
unfolding low
low_pos n h = go (ltb 64 n)
  where
    go : (t : Bool) → 0 < pick t (289 - (n + 63) / 128) 291
    go true = omega arith
    go false = omega arith

low_le : (k n : ℕ) → (64 < n → 289 - (n + 63) / 128 ≤ k) → (n ≤ 64 → home ≤ k) → low n ≤ k
unfolding low
low_le k n a b = go (ltb 64 n) refl
  where
    go : (t : Bool) → ltb 64 n ≡ t → pick t (289 - (n + 63) / 128) 291 ≤ k
    go true q = a (ltb-true 64 n q)
    go false q = b (ltb-false 64 n q)

pub asked_low : (k n : ℕ) → first k < n → low n ≤ k
asked_low k n = rows (λ _ _ g _. g < n → low n ≤ k) k
    (λ a h. low_le k n (λ m. omega arith) (λ m. omega arith)) (λ a b h. low_le k n (λ m. omega arith) (λ m. omega arith))
    (λ a b h. low_le k n (λ m. omega arith) (λ m. omega arith)) (λ a h. low_le k n (λ m. omega arith) (λ m. omega arith))
    (λ a b h. low_le k n (λ m. omega arith) (λ m. omega arith)) (λ a b h. low_le k n (λ m. omega arith) (λ m. omega arith))
    (λ a h. low_le k n (λ m. omega arith) (λ m. omega arith))

pub asked_high : (k n : ℕ) → first k < n → k ≤ home + n
asked_high k n = rows (λ _ _ g _. g < n → k ≤ home + n) k
    (λ a h. omega arith) (λ a b h. omega arith) (λ a b h. omega arith) (λ a h. omega arith) (λ a b h. omega arith) (λ a b h. omega arith) (λ a h. omega arith)

-- the block L is asked for
pub last_asked : (n : ℕ) → 0 < n → first (home + n) < n
last_asked n p = omega (arith, first_data (home + n) (omega arith))

pub span_end : (n : ℕ) → low n + span n ≡ home + suc n
unfolding span
span_end n = omega (arith, low_home n)

-- the FIB's entries
pub fib_keys : (k : ℕ) → k ≢ home → up k ≡ home → (257 ≤ k) × (k < 356)
fib_keys k n = rows (λ u _ _ _. u ≡ home → (257 ≤ k) × (k < 356)) k
    (λ a h. absurd (omega arith)) (λ a b h. absurd (omega arith)) (λ a b h. (omega arith, omega arith)) (λ a h. absurd (n a)) (λ a b h. (omega arith, omega arith))
    (λ a b h. (omega arith, omega arith)) (λ a h. absurd (omega arith))

pub near_keys : (k : ℕ) → 257 ≤ k → k < 356 → up k ≡ home
near_keys k l m = rows (λ u _ _ _. u ≡ home) k
    (λ a. absurd (omega arith)) (λ a b. absurd (omega arith)) (λ a b. refl) (λ a. refl) (λ a b. refl) (λ a b. refl) (λ a. absurd (omega arith))

-- where an entry may stand; in the FIB
pub slot_low : (k : ℕ) → 8 ≤ slot k
slot_low k = rows (λ _ w _ _. 8 ≤ w) k (λ _. omega arith) (λ _ _. omega arith) (λ _ _. omega arith) (λ _. omega arith) (λ _ _. omega arith) (λ _ _. omega arith) (λ _. omega arith)

pub slot_high : (k : ℕ) → slot k ≤ 262
slot_high k = rows (λ _ w _ _. w ≤ 262) k (λ a. omega arith) (λ a b. omega arith) (λ a b. omega arith) (λ a. omega arith) (λ a b. omega arith) (λ a b. omega arith) (λ a. omega arith)

pub slot_fib : (k : ℕ) → k ≢ home → up k ≡ home → (60 ≤ slot k) × (slot k ≤ 254)
slot_fib k n = rows (λ u w _ _. u ≡ home → (60 ≤ w) × (w ≤ 254)) k
    (λ a h. absurd (omega arith)) (λ a b h. absurd (omega arith)) (λ a b h. (omega arith, omega arith)) (λ a h. absurd (n a)) (λ a b h. (omega arith, omega arith))
    (λ a b h. (omega arith, omega arith)) (λ a h. absurd (omega arith))

-- a pointer block is no data block and not the FIB
pub up_pos : (k : ℕ) → k < 37220 → 0 < up k
up_pos k h = rows (λ u _ _ _. 0 < u) k (λ _. omega arith) (λ _ _. omega arith) (λ _ _. omega arith) (λ _. omega arith) (λ _ _. omega arith) (λ _ _. omega arith) (λ _. omega arith)

-- ---- entries and keys lead to each other

child_home : (w : ℕ) → child home w ≡ pick (ltb w 188) (292 + (w - 60) / 2) (pick (ltb w 252) (288 - (w - 188) / 2) (290 - (w - 252) / 2))
unfolding child
child_home w = refl

child_double : (q w : ℕ) → 288 < q → q < 291 → child q w ≡ 256 - 128 * (290 - q) - (w - 8) / 2
unfolding child
child_double q w a b = simp (ne_eqb q 291 (λ z. omega arith), lt-ltb 288 q a)

child_ptr : (q w : ℕ) → q ≤ 288 → child q w ≡ 356 + 128 * (288 - q) + (w - 8) / 2
unfolding child
child_ptr q w a = simp (ne_eqb q 291 (λ z. omega arith), le-ltb 288 q a)

far_back : (t x : ℕ) → t < 256 → x < 2 → 256 - 128 * (290 - (290 - t / 128)) - (8 + 2 * (t % 128) + x - 8) / 2 ≡ 256 - t
far_back t x h l =
    let a : 290 - (290 - t / 128) ≡ t / 128 = omega arith in
    let b : (8 + 2 * (t % 128) + x - 8) / 2 ≡ t % 128 = omega arith in
    ap₂ (λ (y z : ℕ). 256 - 128 * y - z) a b ∙ omega arith

-- the two words of an entry belong to its key
pub child_slot : (k x : ℕ) → 0 < k → k < 37220 → k ≢ home → x < 2 → child (up k) (slot k + x) ≡ k
child_slot k x p m n l = rows (λ u w _ _. child u (w + x) ≡ k) k
    (λ a. child_ptr _ _ (omega arith) ∙ omega arith)
    (λ a b. child_ptr _ _ (omega arith) ∙ omega arith)
    (λ a b. child_home _ ∙ simp (lt-ltb (60 + 2 * (k - 292) + x) 188 (omega arith)) (omega arith))
    (λ a. absurd (n a))
    (λ a b. child_home _ ∙ simp (le-ltb (252 + 2 * (290 - k) + x) 188 (omega arith), le-ltb (252 + 2 * (290 - k) + x) 252 (omega arith)) (omega arith))
    (λ a b. child_home _ ∙ simp (le-ltb (188 + 2 * (288 - k) + x) 188 (omega arith), lt-ltb (188 + 2 * (288 - k) + x) 252 (omega arith)) (omega arith))
    (λ a. child_double _ _ (omega arith) (omega arith) ∙ far_back (256 - k) x (omega arith) l ∙ omega arith)

-- ---- numbers

pub key_number : (k : ℕ) → k < 65536 → key_of (number k) ≡ k
unfolding key_of number
key_number k h = omega arith

pub number_home : number home ≡ 65535
unfolding number
number_home = refl

pub number_small : (k : ℕ) → number k < 65536
unfolding number
number_small k = omega arith

pub number_fib : (k : ℕ) → k < 65536 → number k ≡ 65535 → k ≡ home
unfolding number
number_fib k h q = omega arith

-- ---- the entries of a pointer block

pub up_far : (c : ℕ) → c ≤ 256 → up c ≡ 290 - (256 - c) / 128
unfolding up
up_far c a = simp (le-ltb 355 c (omega arith), le-ltb 256 c a)

pub up_data : (c : ℕ) → 355 < c → up c ≡ 288 - (c - 356) / 128
unfolding up
up_data c a = simp (lt-ltb 355 c a)

far_up : (q i : ℕ) → 288 < q → q < 291 → i < 128 → 290 - (256 - (256 - 128 * (290 - q) - i)) / 128 ≡ q
far_up q i a b l =
    let c : 256 - (256 - 128 * (290 - q) - i) ≡ 128 * (290 - q) + i = omega arith in
    ap (λ (x : ℕ). 290 - x / 128) c ∙ omega arith

near_up : (q i : ℕ) → q ≤ 288 → i < 128 → 288 - (356 + 128 * (288 - q) + i - 356) / 128 ≡ q
near_up q i a l =
    let c : 356 + 128 * (288 - q) + i - 356 ≡ 128 * (288 - q) + i = omega arith in
    ap (λ (x : ℕ). 288 - x / 128) c ∙ omega arith

-- an entry of a pointer block is that of a key
pub child_of : (q w : ℕ) → 0 < q → q < home → 8 ≤ w → w < 264 → (up (child q w) ≡ q) × ((0 < child q w) × (child q w < 37220))
child_of q w p h l m = go (ltb 288 q) refl
  where
    go : (t : Bool) → ltb 288 q ≡ t → (up (child q w) ≡ q) × ((0 < child q w) × (child q w < 37220))
    go true z =
        let a = ltb-true 288 q z in
        let c = child_double q w a h in
        (ap up c ∙ up_far (256 - 128 * (290 - q) - (w - 8) / 2) (omega arith) ∙ far_up q ((w - 8) / 2) a h (omega arith), (omega arith, omega arith))
    go false z =
        let a = ltb-false 288 q z in
        let c = child_ptr q w a in
        (ap up c ∙ up_data (356 + 128 * (288 - q) + (w - 8) / 2) (omega arith) ∙ near_up q ((w - 8) / 2) a (omega arith), (omega arith, omega arith))

pub slot_far : (c : ℕ) → c ≤ 256 → slot c ≡ 8 + 2 * ((256 - c) % 128)
unfolding slot
slot_far c a = simp (le-ltb 355 c (omega arith), le-ltb 291 c (omega arith), le-ltb 288 c (omega arith), le-ltb 256 c a)

pub slot_data : (c : ℕ) → 355 < c → slot c ≡ 8 + 2 * ((c - 356) % 128)
unfolding slot
slot_data c a = simp (lt-ltb 355 c a)

far_slot : (q i : ℕ) → 288 < q → q < 291 → i < 128 → (256 - (256 - 128 * (290 - q) - i)) % 128 ≡ i
far_slot q i a b l =
    let c : 256 - (256 - 128 * (290 - q) - i) ≡ 128 * (290 - q) + i = omega arith in
    ap (λ (x : ℕ). x % 128) c ∙ omega arith

near_slot : (q i : ℕ) → q ≤ 288 → i < 128 → (356 + 128 * (288 - q) + i - 356) % 128 ≡ i
near_slot q i a l =
    let c : 356 + 128 * (288 - q) + i - 356 ≡ 128 * (288 - q) + i = omega arith in
    ap (λ (x : ℕ). x % 128) c ∙ omega arith

-- and stands where the key's entry does
pub child_word : (q i : ℕ) → q < home → i < 128 → slot (child q (8 + 2 * i)) ≡ 8 + 2 * i
child_word q i h l = go (ltb 288 q) refl
  where
    half : (8 + 2 * i - 8) / 2 ≡ i
    half = omega arith

    go : (t : Bool) → ltb 288 q ≡ t → slot (child q (8 + 2 * i)) ≡ 8 + 2 * i
    go true z =
        let a = ltb-true 288 q z in
        ap slot (child_double q (8 + 2 * i) a h ∙ ap (λ (x : ℕ). 256 - 128 * (290 - q) - x) half) ∙ slot_far (256 - 128 * (290 - q) - i) (omega arith)
        ∙ ap (λ (x : ℕ). 8 + 2 * x) (far_slot q i a h l)
    go false z =
        let a = ltb-false 288 q z in
        ap slot (child_ptr q (8 + 2 * i) a ∙ ap (λ (x : ℕ). 356 + 128 * (288 - q) + x) half) ∙ slot_data (356 + 128 * (288 - q) + i) (omega arith)
        ∙ ap (λ (x : ℕ). 8 + 2 * x) (near_slot q i a l)

-- entries of a pointer block stand at even words
pub slot_even : (k : ℕ) → up k < home → slot k ≡ 8 + 2 * ((slot k - 8) / 2)
slot_even k = rows (λ u w _ _. u < home → w ≡ 8 + 2 * ((w - 8) / 2)) k
    (λ a h. omega arith) (λ a b h. omega arith) (λ a b h. absurd (omega arith)) (λ a h. absurd (omega arith)) (λ a b h. absurd (omega arith)) (λ a b h. absurd (omega arith)) (λ a h. omega arith)

pub up_home : up home ≡ home
unfolding up
up_home = refl

-- the two words of an entry of a pointer block lead to one key
pub child_pair : (q w x : ℕ) → q < home → (w - 8) / 2 ≡ (x - 8) / 2 → child q w ≡ child q x
child_pair q w x h e = go (ltb 288 q) refl
  where
    go : (t : Bool) → ltb 288 q ≡ t → child q w ≡ child q x
    go true z = let a = ltb-true 288 q z in child_double q w a h ∙ ap (λ (y : ℕ). 256 - 128 * (290 - q) - y) e ∙ sym (child_double q x a h)
    go false z = let a = ltb-false 288 q z in child_ptr q w a ∙ ap (λ (y : ℕ). 356 + 128 * (288 - q) + y) e ∙ sym (child_ptr q x a)

-- ---- rows of the index, by number

pub row_direct : (r : ℕ) → r < 64 → (up (292 + r) ≡ home) × (slot (292 + r) ≡ 60 + 2 * r)
row_direct r l = rows (λ u w _ _. (u ≡ home) × (w ≡ 60 + 2 * r)) (292 + r)
    (λ a. absurd (omega arith)) (λ a b. absurd (omega arith)) (λ a b. (refl, omega arith)) (λ a. absurd (omega arith)) (λ a b. absurd (omega arith)) (λ a b. absurd (omega arith)) (λ a. absurd (omega arith))

pub row_data : (r : ℕ) → 64 ≤ r → (up (292 + r) ≡ 288 - (r - 64) / 128) × (slot (292 + r) ≡ 8 + 2 * ((r - 64) % 128))
row_data r l = (up_data (292 + r) (omega arith) ∙ ap (λ (x : ℕ). 288 - x / 128) e, slot_data (292 + r) (omega arith) ∙ ap (λ (x : ℕ). 8 + 2 * (x % 128)) e)
  where
    e : 292 + r - 356 ≡ r - 64
    e = omega arith

pub row_ptr : (j : ℕ) → j < 32 → (up (288 - j) ≡ home) × (slot (288 - j) ≡ 188 + 2 * j)
row_ptr j l = rows (λ u w _ _. (u ≡ home) × (w ≡ 188 + 2 * j)) (288 - j)
    (λ a. absurd (omega arith)) (λ a b. absurd (omega arith)) (λ a b. absurd (omega arith)) (λ a. absurd (omega arith)) (λ a b. absurd (omega arith)) (λ a b. (refl, omega arith)) (λ a. absurd (omega arith))

-- the pointer blocks over data from the least key on are asked for
pub closed_ptr : (n k : ℕ) → low n ≤ k → k < 289 → first k < n
unfolding low
closed_ptr n k a b = go (ltb 64 n) refl a
  where
    go : (t : Bool) → ltb 64 n ≡ t → pick t (289 - (n + 63) / 128) home ≤ k → first k < n
    go true q l = omega (arith, first_pointer k (omega arith), ltb-true 64 n q)
    go false q l = absurd (omega arith)

pub row_double : (i : ℕ) → i < 2 → (up (290 - i) ≡ home) × (slot (290 - i) ≡ 252 + 2 * i)
row_double i l = rows (λ u w _ _. (u ≡ home) × (w ≡ 252 + 2 * i)) (290 - i)
    (λ a. absurd (omega arith)) (λ a b. absurd (omega arith)) (λ a b. absurd (omega arith)) (λ a. absurd (omega arith)) (λ a b. (refl, omega arith)) (λ a b. absurd (omega arith)) (λ a. absurd (omega arith))

-- entry i of a pointer block is that of i keys on, or back: of data, or of pointer blocks
pub child_data : (k i : ℕ) → k ≤ 288 → child k (slot_at i) ≡ 356 + 128 * (288 - k) + i
unfolding child
child_data k i a = simp (ne_eqb k 291 (λ z. omega arith), le-ltb 288 k (omega arith)) (omega arith)

child_pointer : (k i : ℕ) → 288 < k → k < home → child k (slot_at i) ≡ 256 - 128 * (290 - k) - i
child_pointer k i a b = child_double k (8 + 2 * i) a b ∙ ap (λ (x : ℕ). 256 - 128 * (290 - k) - x) (let z : (8 + 2 * i - 8) / 2 ≡ i = omega arith in z)

-- the blocks that an entry of pointer block k leads to begin so far behind those of the entry before it
pub child_first : (k i : ℕ) → k < home → i < 128 → first (child k (slot_at i)) ≡ first k + pick (ltb 288 k) (128 * i) i
child_first k i a l = go (ltb 288 k) refl
  where
    go : (t : Bool) → ltb 288 k ≡ t → first (child k (slot_at i)) ≡ first k + pick t (128 * i) i
    go true q =
        let b = ltb-true 288 k q in
        ap first (child_pointer k i b a) ∙ omega (arith, first_pointer (256 - 128 * (290 - k) - i) (omega arith), first_doubles k b a)
    go false q =
        let b = ltb-false 288 k q in
        ap first (child_data k i b) ∙ first_data (356 + 128 * (288 - k) + i) (omega arith) ∙ omega (arith, first_pointer k b)
