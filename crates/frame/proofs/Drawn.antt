-- The free chain without its first n blocks, which a call has taken: what create and write share.
use Rattle.std.specs.Prelude.{◌≡◌, ◌⊎◌, ◌≢◌, Bool, ltb, length}
use Rattle.std.proofs.Math.Path.{refl, sym, ap, ap₂}
use Rattle.std.proofs.Common.{◌∙◌, subst, inl, inr, true≢false, arith, length-append}
use mathlib.Core.List.{List, [], ◌∷◌, ◌++◌}
use Rattle.std.proofs.Math.Bool.{true, false}
use Prim.Native.Nat.{ℕ, zero, suc, ◌+◌, ◌-◌, ◌*◌, ◌≤◌, ◌<◌}
use Rattle.std.proofs.Math.Dec.{eqb}
use borrow.Author.Tests.{ltb-true, ltb-false, eqb-true, eqb-false, eq-eqb}
use Rattle.base.specs.Tests.{pick, head_of, last_of, occ}
use Rattle.base.specs.Laws.{both_left, both_right, both_of}
use Rattle.drive.specs.Address.{or_nil, is_lda}
use Rattle.image.specs.View.{View, Rec, pair, put2}
use Rattle.volume.specs.Words.{next_at, previous_at}
use Rattle.volume.specs.Files.{inside, within, owned, free, free_head, chained, sound}
use Rattle.volume.specs.declared.Partition.{Partition}
use Rattle.drive.proofs.Names.{address_names}
use Rattle.volume.specs.Plans.{free_at, new_first, pib_less}
use Rattle.frame.specs.Reading.{two, put2_off, put2_here, put_off}
use Rattle.frame.specs.Sound.{Starts, occ_here, occ_more, after₁, firsts, free_starts, free_in, free_not, free_once, sound_once, sound_within, sound_chained, sound_tail, sound_number}
use Rattle.frame.proofs.FreeChain.{IsFree}
use Rattle.frame.specs.Taking.{occ_append, from, from_next, free_from, occ_from}
use Rattle.frame.specs.Joined.{within_end, chained_end, chained_links, last_both}

-- ---- the first blocks of a chain

module _ (π : Partition) (v : View) where
  pub firsts_end : (n b : ℕ) → firsts π v (suc n) b ≡ firsts π v n b ++ (from π v b n ∷ [])
  firsts_end zero b = refl
  firsts_end (suc n) b = ap (λ (l : List ℕ). b ∷ l) (firsts_end n (after₁ π v b) ∙ ap (λ (x : ℕ). firsts π v n (after₁ π v b) ++ (x ∷ [])) (from_next π v b n))

  pub firsts_length : (n b : ℕ) → length (firsts π v n b) ≡ n
  firsts_length zero b = refl
  firsts_length (suc n) b = ap suc (firsts_length n (after₁ π v b))

  pub record Reached (n b x : ℕ) : Type 0 where
    pub i : ℕ
    pub less : i < n
    pub is : x ≡ from π v b i

  pub firsts_back : (n b x : ℕ) → 0 < occ x (firsts π v n b) → Reached n b x
  unfolding occ
  firsts_back zero b x h = absurd (omega arith)
  firsts_back (suc n) b x h = go (eqb x b) refl h (firsts_back n (after₁ π v b) x)
    where
      go : (t : Bool) → eqb x b ≡ t → 0 < pick t 1 0 + occ x (firsts π v n (after₁ π v b)) → (0 < occ x (firsts π v n (after₁ π v b)) → Reached n (after₁ π v b) x) → Reached (suc n) b x
      go true q h ih = record { i = 0; less = omega arith; is = eqb-true x b q }
      go false q h ih = let y = ih (omega arith) in record { i = suc y.i; less = omega (arith, y.less); is = y.is ∙ from_next π v b y.i }

append_two : (l m n : List ℕ) → (l ++ m) ++ n ≡ l ++ (m ++ n)
append_two [] m n = refl
append_two (x ∷ l) m n = ap (λ (k : List ℕ). x ∷ k) (append_two l m n)

module _ (π : Partition) (v : View) (so : sound π v ≡ true) (n : ℕ) (room : n < length (free π v)) where
  -- b is one of the n blocks taken
  pub record Taken (b : ℕ) : Type 0 where
    pub i : ℕ
    pub less : i < n
    pub is : b ≡ free_at π v i

  -- a view in which they are owned, and else only the new first free block and the PIB count as changed
  pub record Drawn (W : View) : Type 0 where
    pub first : W (free_at π v n) ≡ new_first v (free_at π v n)
    pub pib : W π.s ≡ pib_less π.drive v π.s (free_at π v n) n
    pub kept : (b : ℕ) → inside π b ≡ true → owned π v b ≡ false → ((i : ℕ) → i ≤ n → free_at π v i ≢ b) → W b ≡ v b
    pub old : (b : ℕ) → owned π v b ≡ true → owned π W b ≡ true
    pub new : (i : ℕ) → i < n → owned π W (free_at π v i) ≡ true
    pub back : (b : ℕ) → owned π W b ≡ true → (owned π v b ≡ true) ⊎ Taken b

  s : Starts (firsts π v (suc n) (free_head π v)) (free π v)
  s = free_starts π v so (suc n) room

  -- what is left of the chain
  pub left : List ℕ
  left = free_at π v n ∷ s.rest

  free_is : free π v ≡ firsts π v n (free_head π v) ++ left
  unfolding left
  free_is =
      s.is ∙ ap (λ (l : List ℕ). l ++ s.rest) (firsts_end π v n (free_head π v))
      ∙ append_two (firsts π v n (free_head π v)) _ s.rest
      ∙ ap (λ (x : ℕ). firsts π v n (free_head π v) ++ (x ∷ s.rest)) (sym (free_from π v n))

  occ_both : (b : ℕ) → occ b (free π v) ≡ occ b (firsts π v n (free_head π v)) + occ b left
  occ_both b = ap (occ b) free_is ∙ occ_append b (firsts π v n (free_head π v)) left

  in_free : (b : ℕ) → 0 < occ b left → 0 < occ b (free π v)
  in_free b m = omega (arith, m, occ_both b)

  taken_occ : (i : ℕ) → i < n → 0 < occ (free_at π v i) (firsts π v n (free_head π v))
  taken_occ i l = subst (λ (x : ℕ). 0 < occ x (firsts π v n (free_head π v))) (sym (free_from π v i)) (occ_from π v n (free_head π v) i l)

  -- what is left was not taken
  left_apart : (b : ℕ) → 0 < occ b left → (i : ℕ) → i < n → free_at π v i ≢ b
  left_apart b m i l z =
      omega (arith, subst (λ (x : ℕ). 0 < occ x (firsts π v n (free_head π v))) z (taken_occ i l), m, occ_both b, free_once π v so b (in_free b m))

  g_left : 0 < occ (free_at π v n) left
  unfolding left
  g_left = omega (arith, occ_here (free_at π v n) s.rest)

  rest_apart : (b : ℕ) → 0 < occ b s.rest → free_at π v n ≢ b
  unfolding left
  rest_apart b m z =
      omega (arith, m, occ_both (free_at π v n), occ_here (free_at π v n) s.rest, free_once π v so (free_at π v n) (in_free (free_at π v n) g_left), ap (λ (y : ℕ). occ y s.rest) z)

  module _ (W : View) (d : Drawn W) where
    left_kept : (b : ℕ) → 0 < occ b left → free_at π v n ≢ b → W b ≡ v b
    left_kept b m ne = d.kept b (free_in π v so b (in_free b m)) (free_not π v so b (in_free b m)) (λ i l. go i l (eqb i n) refl)
      where
        go : (i : ℕ) → i ≤ n → (t : Bool) → eqb i n ≡ t → free_at π v i ≢ b
        go i l true q z = ne (ap (free_at π v) (sym (eqb-true i n q)) ∙ z)
        go i l false q z = left_apart b m i (omega (arith, eqb-false i n q)) z

    ways : chained π W 0 left ≡ true
    unfolding left chained new_first
    ways =
        let k = chained_end π v 0 (firsts π v n (free_head π v)) (free_at π v n ∷ s.rest) (sym (ap (chained π v 0) free_is) ∙ sound_chained π v so) in
        both_of (eq-eqb _ 0 (ap (λ (x : Rec). two x 6) d.first ∙ put2_here 6 0 _))
        (both_of (ap (λ (x : ℕ). eqb x (or_nil π.drive (head_of 0 s.rest))) (ap (λ (x : Rec). two x 4) d.first ∙ next) ∙ both_left _ _ (both_right _ _ k))
        (chained_links π v W (free_at π v n) s.rest (λ b m. same b (left_kept b (omega (arith, m, occ_more b (free_at π v n) s.rest)) (rest_apart b m))) (both_right _ _ (both_right _ _ k))))
      where
        same : (b : ℕ) → W b ≡ v b → (pair W b next_at ≡ pair v b next_at) × (pair W b previous_at ≡ pair v b previous_at)
        same b q = (ap (λ (x : Rec). two x next_at) q, ap (λ (x : Rec). two x previous_at) q)

        next : two (new_first v (free_at π v n)) 4 ≡ pair v (free_at π v n) 4
        next = ap₂ (λ (x y : ℕ). x + 65536 * y)
            (put2_off 6 0 _ 4 (λ z. omega arith) (λ z. omega arith) ∙ put_off 3 _ _ 4 (λ z. omega arith))
            (put2_off 6 0 _ 5 (λ z. omega arith) (λ z. omega arith) ∙ put_off 3 _ _ 5 (λ z. omega arith))

    once : (b : ℕ) → inside π b ≡ true → occ b left ≡ pick (owned π W b) 0 1
    once b i = go (owned π v b) refl (owned π W b) refl
      where
        all : (t : Bool) → owned π v b ≡ t → occ b (firsts π v n (free_head π v)) + occ b left ≡ pick t 0 1
        all t q = sym (occ_both b) ∙ sound_once π v so b i ∙ ap (λ (x : Bool). pick x 0 1) q

        go : (t : Bool) → owned π v b ≡ t → (u : Bool) → owned π W b ≡ u → occ b left ≡ pick u 0 1
        go true q true p = omega (arith, all true q)
        go true q false p = absurd (true≢false (sym (d.old b q) ∙ p))
        go false q true p = on (d.back b p)
          where
            on : (owned π v b ≡ true) ⊎ Taken b → occ b left ≡ 0
            on (inl x) = absurd (true≢false (sym x ∙ q))
            on (inr x) = omega (arith, all false q, subst (λ (a : ℕ). 0 < occ a (firsts π v n (free_head π v))) (sym x.is) (taken_occ x.i x.less))
        go false q false p = on (ltb 0 (occ b (firsts π v n (free_head π v)))) refl
          where
            on : (t : Bool) → ltb 0 (occ b (firsts π v n (free_head π v))) ≡ t → occ b left ≡ 1
            on true z =
                let x = firsts_back π v n (free_head π v) b (ltb-true 0 _ z) in
                absurd (true≢false (sym (d.new x.i x.less) ∙ ap (owned π W) (free_from π v x.i ∙ sym x.is) ∙ p))
            on false z = omega (arith, all false q, ltb-false 0 (occ b (firsts π v n (free_head π v))) z)

    -- what is left is the free chain
    pub drawn_free : IsFree π W left
    unfolding left pib_less head_of last_of
    drawn_free = record {
      inn = within_end π (firsts π v n (free_head π v)) left (sym (ap (within π) free_is) ∙ sound_within π v so);
      ways = ways;
      once = once;
      head = ap (λ (x : ℕ). is_lda π.drive x (free_at π v n)) (ap (λ (x : Rec). two x 8) d.pib ∙ put2_here 8 _ _) ∙ address_names π.drive _ (free_at π v n);
      tail = ap₂ (is_lda π.drive) (ap (λ (x : Rec). two x 10) d.pib ∙ pair_off _ 10 (omega arith) (omega arith)) (sym (last_both 0 (firsts π v n (free_head π v)) left) ∙ sym (ap (last_of 0) free_is)) ∙ sound_tail π v so;
      number = ap (λ (x : Rec). two x 12) d.pib ∙ number _;
      some = omega arith;
    }
      where
        base : Rec
        base = put2 12 (pair v π.s 12 - n) (v π.s)

        pair_off : (a x : ℕ) → 10 ≤ x → x < 11 → two (put2 8 a base) x ≡ pair v π.s x
        pair_off a x l m = ap₂ (λ (y z : ℕ). y + 65536 * z)
            (put2_off 8 _ base x (λ z. omega arith) (λ z. omega arith) ∙ put2_off 12 _ (v π.s) x (λ z. omega arith) (λ z. omega arith))
            (put2_off 8 _ base (x + 1) (λ z. omega arith) (λ z. omega arith) ∙ put2_off 12 _ (v π.s) (x + 1) (λ z. omega arith) (λ z. omega arith))

        number : (a : ℕ) → two (put2 8 a base) 12 ≡ length (free_at π v n ∷ s.rest)
        number a =
            ap₂ (λ (y z : ℕ). y + 65536 * z) (put2_off 8 _ base 12 (λ z. omega arith) (λ z. omega arith)) (put2_off 8 _ base 13 (λ z. omega arith) (λ z. omega arith))
            ∙ put2_here 12 (pair v π.s 12 - n) (v π.s)
            ∙ omega (arith, sound_number π v so, ap length free_is, length-append (firsts π v n (free_head π v)) left, firsts_length π v n (free_head π v))
