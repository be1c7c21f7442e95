-- Laws of records that are changed and of stores under a limit.
use mathlib.Core.Path.{◌≡◌, refl, sym, ap, ap₂, ◌∙◌, fun_ext}
use mathlib.Core.List.{List, [], ◌∷◌, ◌++◌, append-nil}
use mathlib.Core.Bool.{Bool, true, false, false≢true}
use mathlib.Core.Logic.{◌≢◌}
use Prim.Native.Nat.{ℕ, zero, suc, ◌+◌, ◌-◌, ◌*◌, ◌/◌, ◌%◌, ◌≤◌, ◌<◌}
use native.Mathlib.Omega.{arith}
use native.Mathlib.Nat.{sub-zero, zero-sub, suc-sub-suc, not-suc-le-zero}
use lib.Dec.{ltb, eqb, leb}
use lib.ListN.{get_or, length, take, drop, set, length-append, length-take, length-drop, length-set, get_or-append, get_or-eq_default, replicate, get_or-replicate, drop_of_length-le}
use lib.Seq.{get_or-set_same, get_or-set_other, length-take-le, get_or-take, get_or-drop, get_or-append-add, take-nil, take_all, drop-drop}
use borrow.Author.Tests.{ltb-true, ltb-false, lt-ltb, le-ltb, eqb-true, eqb-false, leb-true, le-leb, lt-leb}
use Rattle.std.specs.Prelude.{Option, None}
use Rattle.std.proofs.lemmas.List.{take_more}
use Rattle.std.proofs.lemmas.Grind.{flat_map-append}
use Rattle.base.specs.Tests.{pick, both}
use Rattle.image.specs.View.{Store, put, blank}
use Rattle.image.specs.Image.{view, rec_of, rec_at, Bytes}
use Rattle.image.specs.Stores.{bytes_of, lay, over, stored, In, bytes_rec}
use Rattle.image.specs.Saves.{stores_of, all_stores, words, with_data, with_text, Applied, Made}
use Rattle.image.specs.declared.Save.{Save}

-- ---- copies

-- a part of n bytes is n bytes long
pub span : (a n : ℕ) → a + n - a ≡ n
span a n = omega arith

-- a copy into a part
pub put_lay : (b src t : List ℕ) (at : ℕ) → at + length src ≤ length b
    → t ≡ src → take at b ++ (t ++ drop (at + length src - at) (drop at b)) ≡ lay b at src
unfolding lay
put_lay b src t at h e = rw (e, span, drop-drop, lay)

-- record b, copied out
pub copied_out : (l : List ℕ) (b k : ℕ) → k ≡ 528 → In l b → rec_of (take k (drop (528 * b) l)) ≡ view l b
unfolding rec_of view
copied_out l b k e h = rw e (fun_ext (λ w. go w (ltb w 264) refl))
  where
    go : (w : ℕ) (t : Bool) → ltb w 264 ≡ t → rec_of (take 528 (drop (528 * b) l)) w ≡ view l b w
    go w true q =
        let x = ltb-true w 264 q in
        let lo : 2 * w < 528 = omega arith in
        let hi : 2 * w + 1 < 528 = omega arith in
        let z : 528 * b + (2 * w + 1) ≡ 528 * b + 2 * w + 1 = omega arith in
        rw q (rw (get_or-take 528 (drop (528 * b) l) (2 * w) 0 lo, get_or-take 528 (drop (528 * b) l) (2 * w + 1) 0 hi, get_or-drop, get_or-drop, z))
    go w false q = rw q

-- a word replaced
pub word_set : (r : List ℕ) (w v : ℕ) → length r ≡ 528 → w < 264 → rec_of (set (set r (2 * w) (v % 256)) (2 * w + 1) (v / 256)) ≡ put w v (rec_of r)
unfolding rec_of put
word_set r w v h k = fun_ext (λ x. go x (ltb x 264) refl (eqb x w) refl)
  where
    r' : List ℕ
    r' = set (set r (2 * w) (v % 256)) (2 * w + 1) (v / 256)

    other : (i : ℕ) → i ≢ 2 * w → i ≢ 2 * w + 1 → get_or r' i 0 ≡ get_or r i 0
    other i m n = rw (get_or-set_other (set r (2 * w) (v % 256)) (2 * w + 1) i (v / 256) 0 n, get_or-set_other r (2 * w) i (v % 256) 0 m)

    go : (x : ℕ) (t : Bool) → ltb x 264 ≡ t → (u : Bool) → eqb x w ≡ u → pick t (get_or r' (2 * x) 0 + 256 * get_or r' (2 * x + 1) 0) 0 ≡ pick u v (pick t (get_or r (2 * x) 0 + 256 * get_or r (2 * x + 1) 0) 0)
    go x true q true z =
        let e : x ≡ w = eqb-true x w z in
        let lo : ℕ = 2 * w in
        let a : lo < length r = omega arith in
        let b : lo + 1 < length (set r lo (v % 256)) = simp length-set (omega arith) in
        let n : lo ≢ lo + 1 = λ e. omega arith in
        rw (e, get_or-set_same (set r lo (v % 256)) (lo + 1) (v / 256) 0 b, get_or-set_other (set r lo (v % 256)) (lo + 1) lo (v / 256) 0 n, get_or-set_same r lo (v % 256) 0 a) (omega arith)
    go x true q false z =
        let n : x ≢ w = eqb-false x w z in
        ap₂ (λ (i j : ℕ). i + 256 * j) (other (2 * x) (λ e. n (omega arith)) (λ e. omega arith)) (other (2 * x + 1) (λ e. omega arith) (λ e. n (omega arith)))
    go x false q true z = absurd (let e : x ≡ w = eqb-true x w z in let m : 264 ≤ x = ltb-false x 264 q in omega arith)
    go x false q false z = refl

pub blank_rec : rec_of (replicate 528 0) ≡ blank
unfolding rec_of blank
blank_rec = fun_ext (λ w. go w (ltb w 264) refl)
  where
    go : (w : ℕ) (t : Bool) → ltb w 264 ≡ t → pick t (get_or (replicate 528 0) (2 * w) 0 + 256 * get_or (replicate 528 0) (2 * w + 1) 0) 0 ≡ 0
    go w true q =
        let k : w < 264 = ltb-true w 264 q in
        let a : 2 * w < 528 = omega arith in
        let b : 2 * w + 1 < 528 = omega arith in
        ap₂ (λ (i j : ℕ). i + 256 * j) (get_or-replicate 528 (2 * w) 0 0 a) (get_or-replicate 528 (2 * w + 1) 0 0 b)
    go w false q = refl

-- the bytes d from byte 16 of r on, the words of d in between
module _ (r d : List ℕ) (n : ℕ) (hr : length r ≡ 528) (hd : length d ≡ 2 * n) (hn : 2 * n ≤ 512) where
  abbrev pub mid : List ℕ
  mid = take 16 r ++ (d ++ drop (2 * n) (drop 16 r))

  front : length (take 16 r) ≡ 16
  front = length-take-le 16 r (omega arith)

  mid_before : (i : ℕ) → i < 16 → get_or mid i 0 ≡ get_or r i 0
  mid_before i h =
      let f : length (take 16 r) ≡ 16 = front in
      let g : i < length (take 16 r) = omega arith in
      rw (get_or-append (take 16 r) _ 0 i g, get_or-take)

  mid_within : (k : ℕ) → k < 2 * n → get_or mid (16 + k) 0 ≡ get_or d k 0
  mid_within k h =
      let g : k < length d = omega arith in
      let e : get_or mid (length (take 16 r) + k) 0 ≡ get_or (d ++ drop (2 * n) (drop 16 r)) k 0 = get_or-append-add (take 16 r) _ k 0 in
      (rw front at e) ∙ get_or-append d _ 0 k g

  mid_after : (k : ℕ) → get_or mid (16 + (2 * n + k)) 0 ≡ get_or r (16 + (2 * n + k)) 0
  mid_after k =
      let e : get_or mid (length (take 16 r) + (2 * n + k)) 0 ≡ get_or (d ++ drop (2 * n) (drop 16 r)) (2 * n + k) 0 = get_or-append-add (take 16 r) _ (2 * n + k) 0 in
      let g : get_or (d ++ drop (2 * n) (drop 16 r)) (length d + k) 0 ≡ get_or (drop (2 * n) (drop 16 r)) k 0 = get_or-append-add d _ k 0 in
      (rw front at e) ∙ (rw hd at g) ∙ get_or-drop (2 * n) (drop 16 r) k 0 ∙ get_or-drop 16 r (2 * n + k) 0

  pub mid_word : (w : ℕ) → w < 264 → rec_of mid w ≡ pick (both (leb 8 w) (ltb w (8 + n))) (words d (w - 8)) (rec_of r w)
  unfolding both words
  mid_word w h = go (leb 8 w) refl (ltb w (8 + n)) refl
    where
      go : (t : Bool) → leb 8 w ≡ t → (u : Bool) → ltb w (8 + n) ≡ u → rec_of mid w ≡ pick (both t u) (words d (w - 8)) (rec_of r w)
      go true p true q =
          let a = leb-true 8 w p in
          let b : w < 8 + n = ltb-true w (8 + n) q in
          let x : 2 * w ≡ 16 + 2 * (w - 8) = omega arith in
          let y : 2 * w + 1 ≡ 16 + (2 * (w - 8) + 1) = omega arith in
          rec_at mid w h ∙ ap₂ (λ (i j : ℕ). get_or mid i 0 + 256 * get_or mid j 0) x y
          ∙ ap₂ (λ (i j : ℕ). i + 256 * j) (mid_within (2 * (w - 8)) (omega arith)) (mid_within (2 * (w - 8) + 1) (omega arith))
      go true p false q =
          let a = leb-true 8 w p in
          let b : 8 + n ≤ w = ltb-false w (8 + n) q in
          let k : ℕ = w - 8 - n in
          let x : 2 * w ≡ 16 + (2 * n + 2 * k) = omega arith in
          let y : 2 * w + 1 ≡ 16 + (2 * n + (2 * k + 1)) = omega arith in
          rec_at mid w h ∙ ap₂ (λ (i j : ℕ). get_or mid i 0 + 256 * get_or mid j 0) x y
          ∙ ap₂ (λ (i j : ℕ). i + 256 * j) (mid_after (2 * k)) (mid_after (2 * k + 1))
          ∙ ap₂ (λ (i j : ℕ). get_or r i 0 + 256 * get_or r j 0) (sym x) (sym y) ∙ sym (rec_at r w h)
      go false p u q =
          let a : w < 8 = lower p in
          rec_at mid w h ∙ ap₂ (λ (i j : ℕ). i + 256 * j) (mid_before (2 * w) (omega arith)) (mid_before (2 * w + 1) (omega arith)) ∙ sym (rec_at r w h)
        where
          lower : leb 8 w ≡ false → w < 8
          lower p = at (ltb w 8) refl
            where
              at : (t : Bool) → ltb w 8 ≡ t → w < 8
              at true q = ltb-true w 8 q
              at false q = absurd (false≢true (sym p ∙ le-leb 8 w (ltb-false w 8 q)))

pub data_set : (r d t : List ℕ) → length r ≡ 528 → length d ≡ 512 → t ≡ d
    → rec_of (take 16 r ++ (t ++ drop 512 (drop 16 r))) ≡ with_data (words d) (rec_of r)
unfolding with_data words both rec_of
data_set r d t hr hd e =
    rw e (fun_ext (λ w. go w (ltb w 264) refl (ltb w 8) refl))
  where
    go : (w : ℕ) (t : Bool) → ltb w 264 ≡ t → (u : Bool) → ltb w 8 ≡ u → rec_of (take 16 r ++ (d ++ drop 512 (drop 16 r))) w ≡ pick u (rec_of r w) (words d (w - 8))
    go w true q true z = let m : w < 8 = ltb-true w 8 z in mid_word r d 256 hr hd (omega arith) w (ltb-true w 264 q) ∙ rw (lt-leb 8 w m)
    go w true q false z = let m : 8 ≤ w = ltb-false w 8 z in let k : w < 264 = ltb-true w 264 q in mid_word r d 256 hr hd (omega arith) w k ∙ rw (le-leb 8 w m, lt-ltb w 264 k)
    go w false q true z = absurd (let m : w < 8 = ltb-true w 8 z in let k : 264 ≤ w = ltb-false w 264 q in omega arith)
    go w false q false z =
        let k : 264 ≤ w = ltb-false w 264 q in
        let a : length d ≤ 2 * (w - 8) = omega arith in
        let b : length d ≤ 2 * (w - 8) + 1 = omega arith in
        rw q (rw (get_or-eq_default d 0 a, get_or-eq_default d 0 b))

pub text_set : (r d t : List ℕ) → length r ≡ 528 → length d ≡ 104 → t ≡ d
    → rec_of (take 16 r ++ (t ++ drop 104 (drop 16 r))) ≡ with_text (words d) (rec_of r)
unfolding with_text words both rec_of
text_set r d t hr hd e =
    rw e (fun_ext (λ w. go w (ltb w 264) refl))
  where
    go : (w : ℕ) (t : Bool) → ltb w 264 ≡ t → rec_of (take 16 r ++ (d ++ drop 104 (drop 16 r))) w ≡ pick (both (leb 8 w) (ltb w 60)) (words d (w - 8)) (rec_of r w)
    go w true q = mid_word r d 52 hr hd (omega arith) w (ltb-true w 264 q)
    go w false q = let k : 264 ≤ w = ltb-false w 264 q in let a : 60 ≤ w = omega arith in let b : 8 ≤ w = omega arith in rw (q, le-leb 8 w b, le-ltb w 60 a)

-- ---- a store

-- a copy of all of r over the first bytes of p
pub copied : (r t p : List ℕ) → length r ≡ 528 → Bytes r → t ≡ r → t ++ drop 528 p ≡ bytes_of (rec_of r) ++ drop 528 p
copied r t p h b e = rw (e, bytes_rec r h b)

-- a record stored in the part from 528 * b on is the record stored in the whole
pub stored_at : (l r : List ℕ) (b k : ℕ) (t : List ℕ) → length l ≡ 528 * b + k → t ≡ r ++ drop 528 (take k (drop (528 * b) l))
    → take (528 * b) l ++ (t ++ drop k (drop (528 * b) l)) ≡ over l b r
unfolding over
stored_at l r b k t h e =
    let m : length (drop (528 * b) l) ≤ k = simp length-drop (omega arith) in
    rw (e, take_all k (drop (528 * b) l) m, drop_of_length-le (drop (528 * b) l) m, append-nil, drop-drop)

-- ---- stores under a limit

pub step_made : (room : ℕ) (s : Store) (l l' : List ℕ) → 0 < room → l' ≡ over l s.at (bytes_of s.rec) → Applied room (s ∷ []) l l' (room - 1)
unfolding stored
step_made zero s l l' h p = absurd (not-suc-le-zero h)
step_made (suc n) s l l' h p = record { image = p ∙ ap (λ (ss : List Store). stored ss (over l s.at (bytes_of s.rec))) (sym (take-nil n)); rest = refl }

pub step_full : (room : ℕ) (s : Store) (l : List ℕ) → room ≤ 0 → Applied room (s ∷ []) l l room
unfolding stored
step_full zero s l h = record { image = refl; rest = refl }
step_full (suc n) s l h = absurd (not-suc-le-zero h)

pub not_yet : (room : ℕ) (l : List ℕ) → Applied room [] l l room
unfolding stored
not_yet room l = record { image = rw take-nil; rest = omega arith }

take_append : (n : ℕ) (ss ts : List Store) → take n (ss ++ ts) ≡ take n ss ++ take (n - length ss) ts
take_append n [] ts = rw (take-nil, sub-zero)
take_append zero (s ∷ ss) ts = rw zero-sub
take_append (suc n) (s ∷ ss) ts = rw (suc-sub-suc, take_append n ss ts)

stored_append : (ss ts : List Store) (l : List ℕ) → stored (ss ++ ts) l ≡ stored ts (stored ss l)
unfolding stored
stored_append [] ts l = refl
stored_append (s ∷ ss) ts l = stored_append ss ts (over l s.at (bytes_of s.rec))

-- one run of stores after another
pub then : {room x y : ℕ} {ss ts : List Store} {l l₁ l₂ : List ℕ} → Applied room ss l l₁ x → Applied x ts l₁ l₂ y → Applied room (ss ++ ts) l l₂ y
then {room} {x} {y} {ss} {ts} {l} {l₁} {l₂} p q =
    record {
      image = q.image ∙ rw (p.image, p.rest, take_append room ss ts, stored_append);
      rest = simp length-append (omega (arith, p.rest, q.rest));
    }

-- a run of the first i saves of a list, and then that of the next one, which is o
pub next : {room x y : ℕ} {l l₁ l₂ : List ℕ} (ss : List (Option Save)) (i : ℕ) {o : Option Save} → i < length ss → get_or ss i None ≡ o
    → Applied room (all_stores (take i ss)) l l₁ x → Applied x (stores_of o) l₁ l₂ y → Applied room (all_stores (take (i + 1) ss)) l l₂ y
next ss i h e p q = rw (take_more ss i None h, flat_map-append, append-nil, e) (then p q)

-- what a call answers: its room less what is left of it
pub made : {limit x n : ℕ} {ss : List Store} {l l' : List ℕ} → n ≡ limit - x → Applied limit ss l l' x → Made limit ss l l' n
made {limit} {x} {n} {ss} e p = record { image = p.image; count = simp length-take (omega (arith, p.rest)) }
