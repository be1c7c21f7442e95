-- The parts of the records that repair stores, over plain numbers: the PIB, and words that are made nil.
use Rattle.std.specs.Prelude.{◌≡◌, refl, List, ℕ, ◌+◌, ◌-◌, ◌*◌, ◌/◌, ◌≤◌, ◌<◌, leb, ltb, length, get_or, replicate, ◌≢◌, eqb, set}
use Rattle.std.proofs.Math.Path.{sym, fun_ext}
use Rattle.std.proofs.Common.{ap, ap₂, ◌∙◌, arith, rules, ltb-true, ltb-false, leb-true, le-leb, lt-ltb, le-ltb, length-set, get_or-set_same, get_or-set_other, eqb-true}
use mathlib.Core.Bool.{Bool, true, false}
use Rattle.std.proofs.lemmas.Bool.{leb-false, eqb-false}
use Rattle.std.proofs.lemmas.List.{places}
use borrow.Rule.Slice.PartMut.{put_mid}
use Rattle.base.specs.Tests.{pick, both}
use Rattle.base.specs.Laws.{iff_eq, both_left, both_right, both_of}
use Rattle.drive.specs.Address.{address}
use Rattle.image.specs.View.{View, Rec, pair, put2}
use Rattle.image.specs.Image.{rec_of}
use Rattle.volume.specs.Words.{slot_at, free_head_at, free_tail_at, number_free_at}
use Rattle.volume.specs.Keys.{home, child, first}
use Rattle.volume.proofs.KeyLaws.{child_pair}
use Rattle.volume.specs.Closed.{entries_of}
use Rattle.volume.proofs.Closed.{entry_asked}
use Rattle.volume.specs.Plans.{trimmed, shaped}

-- the PIB s of n free blocks from `first` to `last`
unfoldable pub pib_record : ℕ → View → ℕ → ℕ → ℕ → ℕ → Rec
pib_record d v s first last n =
    put2 free_head_at (address d (pair v s free_head_at) first) (put2 free_tail_at (address d (pair v s free_tail_at) last) (put2 number_free_at n (v s)))

-- a record whose words from a on are nil
unfoldable pub cleared : ℕ → Rec → Rec
cleared a r w = pick (leb a w) 0 (r w)

-- pointer block k of a file with n blocks: the entries that L does not ask for begin at this word
pub trimmed_is : (n k m : ℕ) (x : List ℕ) → m ≡ entries_of n k → k < home → trimmed n k (rec_of x) ≡ cleared (slot_at m) (rec_of x)
unfolding trimmed cleared rec_of
trimmed_is n k m x e h = fun_ext (λ w. go w _ (ltb w 264) refl)
  where
    -- an entry that L asks for
    asked : (w : ℕ) → 8 ≤ w → w < 264 → ltb (first (child k w)) n ≡ ltb ((w - 8) / 2) m
    asked w a l =
        ap (λ (q : ℕ). ltb (first q) n) (child_pair k w (slot_at ((w - 8) / 2)) (omega arith) (omega arith)) ∙ entry_asked n k ((w - 8) / 2) h (omega arith)
        ∙ ap (ltb ((w - 8) / 2)) (sym e)

    there : (w : ℕ) → w < 264 → both (leb 8 w) (leb n (first (child k w))) ≡ true → leb (slot_at m) w ≡ true
    there w l q =
        let a = leb-true 8 w (both_left _ _ q) in
        let z = sym (asked w a l) ∙ le-ltb (first (child k w)) n (leb-true n _ (both_right (leb 8 w) _ q)) in
        le-leb _ w (omega (arith, ltb-false ((w - 8) / 2) m z))

    back : (w : ℕ) → w < 264 → leb (slot_at m) w ≡ true → both (leb 8 w) (leb n (first (child k w))) ≡ true
    back w l q =
        let a = leb-true (slot_at m) w q in
        let z = asked w (omega arith) l ∙ le-ltb ((w - 8) / 2) m (omega arith) in
        both_of (le-leb 8 w (omega arith)) (le-leb n _ (ltb-false (first (child k w)) n z))

    nil : (t u : Bool) → ◌≡◌ {A = ℕ} (pick t 0 0) (pick u 0 0)
    nil true true = refl
    nil true false = refl
    nil false true = refl
    nil false false = refl

    go : (w y : ℕ) (t : Bool) → ltb w 264 ≡ t → pick (both (leb 8 w) (leb n (first (child k w)))) 0 (pick t y 0) ≡ pick (leb (slot_at m) w) 0 (pick t y 0)
    go w y true q = let l = ltb-true w 264 q in ap (λ (t : Bool). pick t 0 y) (iff_eq _ _ (there w l) (back w l))
    go w y false q = nil (both (leb 8 w) (leb n (first (child k w)))) (leb (slot_at m) w)

module _ (n k : ℕ) (r : Rec) where
  pub shaped_pointer : k < home → trimmed n k r ≡ shaped n k r
  unfolding shaped
  shaped_pointer h = sym (ap (λ (t : Bool). pick t (trimmed n k r) r) (lt-ltb k home h))

  pub shaped_other : home ≤ k → r ≡ shaped n k r
  unfolding shaped
  shaped_other h = sym (ap (λ (t : Bool). pick t (trimmed n k r) r) (le-ltb k home h))

-- the bytes of r with nil ones from word w on
module _ (r : List ℕ) (w : ℕ) (h : length r ≡ 528) (l : w ≤ 264) where
  abbrev filled : List ℕ
  filled = put_mid (2 * w) (528 - 2 * w) r (replicate (528 - 2 * w) 0)

  kept : (j : ℕ) → j < 2 * w → get_or filled j 0 ≡ get_or r j 0
  kept j m = search (rules, places)

  nil : (j : ℕ) → 2 * w ≤ j → j < 528 → get_or filled j 0 ≡ 0
  nil j m n = search (rules, places)

  filled_is : rec_of filled ≡ cleared w (rec_of r)
  unfolding rec_of cleared
  filled_is = fun_ext (λ y. go y (ltb y 264) refl (leb w y) refl)
    where
      go : (y : ℕ) (t : Bool) → ltb y 264 ≡ t → (u : Bool) → leb w y ≡ u
          → pick t (get_or filled (2 * y) 0 + 256 * get_or filled (2 * y + 1) 0) 0 ≡ pick u 0 (pick t (get_or r (2 * y) 0 + 256 * get_or r (2 * y + 1) 0) 0)
      go y true p true q =
          let m = ltb-true y 264 p in
          let n = leb-true w y q in
          ap₂ (λ (i j : ℕ). i + 256 * j) (nil (2 * y) (omega arith) (omega arith)) (nil (2 * y + 1) (omega arith) (omega arith))
      go y true p false q = let n = leb-false w y q in ap₂ (λ (i j : ℕ). i + 256 * j) (kept (2 * y) (omega arith)) (kept (2 * y + 1) (omega arith))
      go y false p true q = refl
      go y false p false q = refl

  pub filled_with : {x : List ℕ} {n : ℕ} → x ≡ replicate n 0 → n ≡ 528 - 2 * w → rec_of (put_mid (2 * w) (528 - 2 * w) r x) ≡ cleared w (rec_of r)
  filled_with e q = rw (e, q) filled_is

-- x is r with its bytes from a up to i nil
pub record Clearing (r x : List ℕ) (a i : ℕ) : Type 0 where
  pub whole : length x ≡ 528
  pub before : (j : ℕ) → j < a → get_or x j 0 ≡ get_or r j 0
  pub nil : (j : ℕ) → a ≤ j → j < i → get_or x j 0 ≡ 0

pub clear_starts : (r : List ℕ) (a : ℕ) → length r ≡ 528 → Clearing r r a a
clear_starts r a h = record { whole = h; before = λ j l. refl; nil = λ j l m. absurd (omega arith) }

pub clear_next : {r x : List ℕ} {a i : ℕ} → Clearing r x a i → a ≤ i → i < 528 → Clearing r (set x i 0) a (i + 1)
clear_next {r} {x} {a} {i} c h l = record {
  whole = length-set x i 0 ∙ c.whole;
  before = λ j m. get_or-set_other x i j 0 0 (λ q. omega arith) ∙ c.before j m;
  nil = λ j m u. go j m (eqb j i) refl (omega arith);
}
  where
    go : (j : ℕ) → a ≤ j → (t : Bool) → eqb j i ≡ t → j ≤ i → get_or (set x i 0) j 0 ≡ 0
    go j m true q u = ap (λ (n : ℕ). get_or (set x i 0) n 0) (eqb-true j i q) ∙ get_or-set_same x i 0 0 (omega (arith, c.whole))
    go j m false q u = let n : j ≢ i = eqb-false j i q in get_or-set_other x i j 0 0 n ∙ c.nil j m (omega arith)

pub clear_end : {r x : List ℕ} {a i : ℕ} (w : ℕ) → Clearing r x a i → a ≡ 2 * w → 528 ≤ i → rec_of x ≡ cleared w (rec_of r)
unfolding rec_of cleared
clear_end {r} {x} {a} {i} w c e h = fun_ext (λ y. go y (ltb y 264) refl (leb w y) refl)
  where
    go : (y : ℕ) (t : Bool) → ltb y 264 ≡ t → (u : Bool) → leb w y ≡ u
        → pick t (get_or x (2 * y) 0 + 256 * get_or x (2 * y + 1) 0) 0 ≡ pick u 0 (pick t (get_or r (2 * y) 0 + 256 * get_or r (2 * y + 1) 0) 0)
    go y true p true q =
        let m = ltb-true y 264 p in
        let n = leb-true w y q in
        ap₂ (λ (i j : ℕ). i + 256 * j) (c.nil (2 * y) (omega arith) (omega arith)) (c.nil (2 * y + 1) (omega arith) (omega arith))
    go y true p false q =
        let n : y < w = lower (ltb y w) refl in
        ap₂ (λ (i j : ℕ). i + 256 * j) (c.before (2 * y) (omega arith)) (c.before (2 * y + 1) (omega arith))
      where
        lower : (t : Bool) → ltb y w ≡ t → y < w
        lower true z = ltb-true y w z
        lower false z = absurd (mathlib.Core.Bool.false≢true (sym q ∙ le-leb w y (ltb-false y w z)))
    go y false p true q = refl
    go y false p false q = refl
