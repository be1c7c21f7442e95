-- The chain from a block; the free chain that repair builds is walked as the ascending list of the unowned blocks.
use Rattle.std.specs.Prelude.{◌≡◌, ◌⊎◌, ◌≢◌, Bool, ltb}
use Rattle.std.proofs.Math.Path.{refl, sym, ap, ap₂, fun_ext}
use Rattle.std.proofs.Common.{◌∙◌}
use Rattle.std.proofs.Math.Logic.{inl, inr}
use mathlib.Core.List.{List, [], ◌∷◌}
use Rattle.std.proofs.Math.Bool.{true, false}
use Prim.Native.Nat.{ℕ, zero, suc, ◌+◌, ◌-◌, ◌≤◌, ◌<◌}
use native.Mathlib.Omega.{arith}
use Rattle.std.proofs.Math.Dec.{eqb}
use Rattle.std.proofs.Math.ListN.{length}
use borrow.Author.Tests.{eqb-true, eqb-false, lt-ltb, le-ltb, eq-eqb, ne_eqb}
use Rattle.base.specs.Tests.{pick, count, those, occ, head_of, last_of, above, below}
use Rattle.drive.specs.Address.{pda, pda_block, or_nil}
use Rattle.drive.specs.Laws.{pda_back, pda_pos}
use Rattle.image.specs.View.{View, pair}
use Rattle.base.specs.Laws.{both_of, both_left, both_right}
use Rattle.volume.specs.Words.{next_at, previous_at}
use Rattle.volume.specs.Files.{chain, chained, within}
use Rattle.volume.specs.declared.Partition.{Partition}
use Rattle.volume.proofs.Readings.{inside_of, of_inside}
use Rattle.base.specs.Sums.{count_both}

-- ---- the chain from a block, by its link

module _ (π : Partition) (v : View) where
  pub chain_end : (fuel b : ℕ) → pair v b next_at ≡ 0 → chain π v (suc fuel) b ≡ b ∷ []
  unfolding chain
  chain_end fuel b q = rw (eq-eqb _ _ q, chain)

  pub chain_more : (fuel b : ℕ) → pair v b next_at ≢ 0 → chain π v (suc fuel) b ≡ b ∷ chain π v fuel (pda_block π.drive (pair v b next_at))
  unfolding chain
  chain_more fuel b n = rw (ne_eqb _ _ n, chain)

  pub chain_on : (fuel b c : ℕ) → pair v b next_at ≡ pda π.drive c → chain π v (suc fuel) b ≡ b ∷ chain π v fuel c
  chain_on fuel b c q = chain_more fuel b (λ z. omega (arith, pda_pos π.drive c, q)) ∙ ap (λ (x : ℕ). b ∷ chain π v fuel x) (ap (pda_block π.drive) q ∙ pda_back π.drive c)

  pub head_chain : (fuel b : ℕ) → head_of 0 (chain π v (suc fuel) b) ≡ b
  unfolding chain head_of
  head_chain fuel b = refl

  pub chain_short : (fuel b : ℕ) → length (chain π v fuel b) ≤ fuel
  unfolding chain
  chain_short zero b = omega arith
  chain_short (suc fuel) b = go (eqb (pair v b next_at) 0) (chain_short fuel (pda_block π.drive (pair v b next_at)))
    where
      go : (t : Bool) → length (chain π v fuel (pda_block π.drive (pair v b next_at))) ≤ fuel
          → length (b ∷ elim t [ true ↦ [] | false ↦ chain π v fuel (pda_block π.drive (pair v b next_at)) ]) ≤ suc fuel
      go true ih = omega arith
      go false ih = omega arith

-- ---- numbers of blocks in a list of the partition's are at most e

module _ (π : Partition) where
  pub head_in : (l : List ℕ) → within π l ≡ true → head_of 0 l ≤ π.e
  unfolding within head_of
  head_in [] h = omega arith
  head_in (x ∷ l) h = (inside_of π x (both_left _ _ h)).1

  pub last_in : (d : ℕ) (l : List ℕ) → d ≤ π.e → within π l ≡ true → last_of d l ≤ π.e
  unfolding within last_of
  last_in d [] m h = m
  last_in d (x ∷ l) m h = last_in x l (inside_of π x (both_left _ _ h)).1 (both_right _ _ h)

  pub above_in : (b : ℕ) (l : List ℕ) → within π l ≡ true → above b l ≤ π.e
  unfolding within above
  above_in b [] h = omega arith
  above_in b (x ∷ l) h = go (ltb b x) (above_in b l (both_right _ _ h))
    where
      go : (t : Bool) → above b l ≤ π.e → pick t x (above b l) ≤ π.e
      go true ih = (inside_of π x (both_left _ _ h)).1
      go false ih = ih

  pub below_in : (b : ℕ) (l : List ℕ) → within π l ≡ true → below b l ≤ π.e
  unfolding within below
  below_in b [] h = omega arith
  below_in b (x ∷ l) h = go (ltb x b) (eqb (below b l) 0) (below_in b l (both_right _ _ h))
    where
      go : (t u : Bool) → below b l ≤ π.e → pick t (pick u x (below b l)) 0 ≤ π.e
      go true true ih = (inside_of π x (both_left _ _ h)).1
      go true false ih = ih
      go false u ih = omega arith

-- ---- numbers in a row that pass

module _ (P : ℕ → Bool) where
  above_all : (b i k : ℕ) → b < i → above b (those i k P) ≡ head_of 0 (those i k P)
  unfolding above head_of those
  above_all b i zero h = refl
  above_all b i (suc k) h = go (P i) (above_all b (suc i) k (omega arith))
    where
      go : (t : Bool) → above b (those (suc i) k P) ≡ head_of 0 (those (suc i) k P)
          → above b (pick t (i ∷ those (suc i) k P) (those (suc i) k P)) ≡ head_of 0 (pick t (i ∷ those (suc i) k P) (those (suc i) k P))
      go true ih = ap (λ (u : Bool). pick u i (above b (those (suc i) k P))) (lt-ltb b i h)
      go false ih = ih

  -- the first above b: the first of those after b
  pub above_those : (b i k : ℕ) → i ≤ b → b < i + k → above b (those i k P) ≡ head_of 0 (those (suc b) (i + k - suc b) P)
  unfolding above head_of those
  above_those b i zero l h = absurd (omega arith)
  above_those b i (suc k) l h = go (P i) ∙ pickb (eqb b i) refl (λ m. above_those b (suc i) k m (omega arith))
    where
      go : (t : Bool) → above b (pick t (i ∷ those (suc i) k P) (those (suc i) k P)) ≡ above b (those (suc i) k P)
      go true = ap (λ (u : Bool). pick u i (above b (those (suc i) k P))) (le-ltb b i l)
      go false = refl

      pickb : (t : Bool) → eqb b i ≡ t → (suc i ≤ b → above b (those (suc i) k P) ≡ head_of 0 (those (suc b) (suc i + k - suc b) P))
          → above b (those (suc i) k P) ≡ head_of 0 (those (suc b) (i + suc k - suc b) P)
      pickb true q ih =
          let z = eqb-true b i q in
          above_all b (suc i) k (omega arith) ∙ ap₂ (λ (x y : ℕ). head_of 0 (those (suc x) y P)) (sym z) (let w : k ≡ i + suc k - suc b = omega arith in w)
      pickb false q ih =
          let z = eqb-false b i q in
          ih (omega arith) ∙ ap (λ (y : ℕ). head_of 0 (those (suc b) y P)) (let w : suc i + k - suc b ≡ i + suc k - suc b = omega arith in w)

  pub head_least : (i k : ℕ) → (head_of 0 (those i k P) ≡ 0) ⊎ (i ≤ head_of 0 (those i k P))
  unfolding head_of those
  head_least i zero = inl refl
  head_least i (suc k) = go (P i) (head_least (suc i) k)
    where
      go : (t : Bool) → (head_of 0 (those (suc i) k P) ≡ 0) ⊎ (suc i ≤ head_of 0 (those (suc i) k P))
          → (head_of 0 (pick t (i ∷ those (suc i) k P) (those (suc i) k P)) ≡ 0) ⊎ (i ≤ head_of 0 (pick t (i ∷ those (suc i) k P) (those (suc i) k P)))
      go true ih = inr (omega arith)
      go false (inl z) = inl z
      go false (inr z) = inr (omega arith)

  pub occ_low : (b i k : ℕ) → b < i → occ b (those i k P) ≡ 0
  unfolding occ those
  occ_low b i zero h = refl
  occ_low b i (suc k) h = go (P i) (occ_low b (suc i) k (omega arith))
    where
      go : (t : Bool) → occ b (those (suc i) k P) ≡ 0 → occ b (pick t (i ∷ those (suc i) k P) (those (suc i) k P)) ≡ 0
      go true ih = ap₂ (λ (u : Bool) (n : ℕ). pick u 1 0 + n) (ne_eqb b i (λ z. omega arith)) ih
      go false ih = ih

  pub occ_in : (b i k : ℕ) → i ≤ b → b < i + k → occ b (those i k P) ≡ pick (P b) 1 0
  unfolding occ those
  occ_in b i zero l h = absurd (omega arith)
  occ_in b i (suc k) l h = go (eqb b i) refl (P i) refl (λ m. occ_in b (suc i) k m (omega arith))
    where
      go : (u : Bool) → eqb b i ≡ u → (t : Bool) → P i ≡ t → (suc i ≤ b → occ b (those (suc i) k P) ≡ pick (P b) 1 0)
          → occ b (pick t (i ∷ those (suc i) k P) (those (suc i) k P)) ≡ pick (P b) 1 0
      go true q true r ih =
          ap₂ (λ (u : Bool) (n : ℕ). pick u 1 0 + n) q (occ_low b (suc i) k (omega (arith, eqb-true b i q)))
          ∙ ap (λ (u : Bool). pick u 1 0) (sym r ∙ ap P (sym (eqb-true b i q)))
      go true q false r ih = occ_low b (suc i) k (omega (arith, eqb-true b i q)) ∙ ap (λ (u : Bool). pick u 1 0) (sym r ∙ ap P (sym (eqb-true b i q)))
      go false q true r ih = ap₂ (λ (u : Bool) (n : ℕ). pick u 1 0 + n) q (ih (omega (arith, eqb-false b i q))) ∙ omega arith
      go false q false r ih = ih (omega (arith, eqb-false b i q))

  pub head_zero : (i k : ℕ) → 0 < i → head_of 0 (those i k P) ≡ 0 → those i k P ≡ []
  unfolding head_of those
  head_zero i zero p h = refl
  head_zero i (suc k) p h = go (P i) h (head_zero (suc i) k (omega arith))
    where
      go : (t : Bool) → head_of 0 (pick t (i ∷ those (suc i) k P) (those (suc i) k P)) ≡ 0 → (head_of 0 (those (suc i) k P) ≡ 0 → those (suc i) k P ≡ []) → pick t (i ∷ those (suc i) k P) (those (suc i) k P) ≡ []
      go true q ih = absurd (omega arith)
      go false q ih = ih q

  -- ---- the walk

  module _ (π : Partition) (u : View) where
    -- each block that passes points to the next that does
    abbrev pub Next : ℕ → ℕ → Type 0
    Next i k = (b : ℕ) → i ≤ b → b < i + k → P b ≡ true → pair u b next_at ≡ or_nil π.drive (head_of 0 (those (suc b) (i + k - suc b) P))

    next_down : (i k : ℕ) → Next i (suc k) → Next (suc i) k
    next_down i k h b l m q = h b (omega arith) (omega arith) q ∙ ap (λ (y : ℕ). or_nil π.drive (head_of 0 (those (suc b) y P))) (let w : i + suc k - suc b ≡ suc i + k - suc b = omega arith in w)

    pub walk : (i k fuel : ℕ) → 0 < i → k ≤ fuel → Next i k → those i k P ≢ [] → chain π u fuel (head_of 0 (those i k P)) ≡ those i k P
    unfolding those head_of
    walk i zero fuel p l h n = absurd (n refl)
    walk i (suc k) zero p l h n = absurd (omega arith)
    walk i (suc k) (suc fuel) p l h n = go (P i) refl n (walk (suc i) k fuel (omega arith) (omega arith) (next_down i k h)) (walk (suc i) k (suc fuel) (omega arith) (omega arith) (next_down i k h))
      where
        R : List ℕ
        R = those (suc i) k P

        go : (t : Bool) → P i ≡ t → pick t (i ∷ R) R ≢ [] → (R ≢ [] → chain π u fuel (head_of 0 R) ≡ R) → (R ≢ [] → chain π u (suc fuel) (head_of 0 R) ≡ R)
            → chain π u (suc fuel) (head_of 0 (pick t (i ∷ R) R)) ≡ pick t (i ∷ R) R
        go true q ne ih ih' = on (eqb (head_of 0 R) 0) refl
          where
            hx : pair u i next_at ≡ or_nil π.drive (head_of 0 R)
            hx = h i (omega arith) (omega arith) q ∙ ap (λ (y : ℕ). or_nil π.drive (head_of 0 (those (suc i) y P))) (let w : i + suc k - suc i ≡ k = omega arith in w)

            on : (z : Bool) → eqb (head_of 0 R) 0 ≡ z → chain π u (suc fuel) i ≡ i ∷ R
            on true z =
                chain_end π u fuel i (hx ∙ ap (λ (t : Bool). pick t 0 (pda π.drive (head_of 0 R))) z)
                ∙ ap (λ (l : List ℕ). i ∷ l) (sym (head_zero (suc i) k (omega arith) (eqb-true _ _ z)))
            on false z =
                chain_on π u fuel i (head_of 0 R) (hx ∙ ap (λ (t : Bool). pick t 0 (pda π.drive (head_of 0 R))) z)
                ∙ ap (λ (l : List ℕ). i ∷ l) (ih (λ w. eqb-false (head_of 0 R) 0 z (ap (head_of 0) w)))
        go false q ne ih ih' = ih' ne

    abbrev pub Prev : ℕ → ℕ → ℕ → Type 0
    Prev before i k = (b : ℕ) → i ≤ b → b < i + k → P b ≡ true → pair u b previous_at ≡ or_nil π.drive (last_of before (those i (b - i) P))

    pub chained_those : (before i k : ℕ) → Next i k → Prev before i k → chained π u before (those i k P) ≡ true
    unfolding those chained last_of
    chained_those before i zero h g = refl
    chained_those before i (suc k) h g =
        go (P i) refl (λ q. chained_those i (suc i) k (next_down i k h) (λ b l m r. g b (omega arith) (omega arith) r ∙ ap (or_nil π.drive) (last_step b l true q)))
        (λ q. chained_those before (suc i) k (next_down i k h) (λ b l m r. g b (omega arith) (omega arith) r ∙ ap (or_nil π.drive) (last_step b l false q)))
      where
        R : List ℕ
        R = those (suc i) k P

        last_step : (b : ℕ) → suc i ≤ b → (t : Bool) → P i ≡ t → last_of before (those i (b - i) P) ≡ last_of (pick t i before) (those (suc i) (b - suc i) P)
        last_step b l t q =
            ap (λ (n : ℕ). last_of before (those i n P)) (let w : b - i ≡ suc (b - suc i) = omega arith in w)
            ∙ ap (λ (x : Bool). last_of before (pick x (i ∷ those (suc i) (b - suc i) P) (those (suc i) (b - suc i) P))) q ∙ split t
          where
            split : (t : Bool) → last_of before (pick t (i ∷ those (suc i) (b - suc i) P) (those (suc i) (b - suc i) P)) ≡ last_of (pick t i before) (those (suc i) (b - suc i) P)
            split true = refl
            split false = refl

        go : (t : Bool) → P i ≡ t → (P i ≡ true → chained π u i R ≡ true) → (P i ≡ false → chained π u before R ≡ true) → chained π u before (pick t (i ∷ R) R) ≡ true
        go true q a b =
            both_of (eq-eqb _ _ (g i (omega arith) (omega arith) q ∙ ap (λ (n : ℕ). or_nil π.drive (last_of before (those i n P))) (let w : i - i ≡ 0 = omega arith in w)))
            (both_of (eq-eqb _ _ (h i (omega arith) (omega arith) q ∙ ap (λ (n : ℕ). or_nil π.drive (head_of 0 (those (suc i) n P))) (let w : i + suc k - suc i ≡ k = omega arith in w))) (a q))
        go false q a b = b q

  below_none : (b i k : ℕ) → b ≤ i → below b (those i k P) ≡ 0
  unfolding below those
  below_none b i zero h = refl
  below_none b i (suc k) h = go (P i) (below_none b (suc i) k (omega arith))
    where
      go : (t : Bool) → below b (those (suc i) k P) ≡ 0 → below b (pick t (i ∷ those (suc i) k P) (those (suc i) k P)) ≡ 0
      go true ih = ap (λ (x : Bool). pick x (let r = below b (those (suc i) k P) in pick (eqb r 0) i r) 0) (le-ltb i b h)
      go false ih = ih

  last_pos : (x i k : ℕ) → 0 < x → 0 < i → 0 < last_of x (those i k P)
  unfolding last_of those
  last_pos x i zero h p = h
  last_pos x i (suc k) h p = go (P i) (last_pos i (suc i) k p (omega arith)) (last_pos x (suc i) k h (omega arith))
    where
      go : (t : Bool) → 0 < last_of i (those (suc i) k P) → 0 < last_of x (those (suc i) k P) → 0 < last_of x (pick t (i ∷ those (suc i) k P) (those (suc i) k P))
      go true a b = a
      go false a b = b

  last_or : (x i k : ℕ) → 0 < i → pick (eqb (last_of 0 (those i k P)) 0) x (last_of 0 (those i k P)) ≡ last_of x (those i k P)
  unfolding last_of those
  last_or x i zero p = refl
  last_or x i (suc k) p = go (P i) (last_or x (suc i) k (omega arith))
    where
      R : List ℕ
      R = those (suc i) k P

      go : (t : Bool) → pick (eqb (last_of 0 R) 0) x (last_of 0 R) ≡ last_of x R → pick (eqb (last_of 0 (pick t (i ∷ R) R)) 0) x (last_of 0 (pick t (i ∷ R) R)) ≡ last_of x (pick t (i ∷ R) R)
      go true ih = ap (λ (z : Bool). pick z x (last_of i R)) (ne_eqb (last_of i R) 0 (λ z. omega (arith, last_pos i (suc i) k p (omega arith))))
      go false ih = ih

  pub below_those : (b i k : ℕ) → 0 < i → i ≤ b → b ≤ i + k → below b (those i k P) ≡ last_of 0 (those i (b - i) P)
  unfolding below those last_of
  below_those b i zero p l h = ap (λ (n : ℕ). last_of 0 (those i n P)) (let w : 0 ≡ b - i = omega arith in w)
  below_those b i (suc k) p l h = pickb (eqb b i) refl (λ m. below_those b (suc i) k (omega arith) m (omega arith))
    where
      R : List ℕ
      R = those (suc i) k P

      L : List ℕ
      L = those (suc i) (b - suc i) P

      go : (t : Bool) → i < b → below b R ≡ last_of 0 L → below b (pick t (i ∷ R) R) ≡ last_of 0 (pick t (i ∷ L) L)
      go true m ih =
          ap (λ (x : Bool). pick x (let r = below b R in pick (eqb r 0) i r) 0) (lt-ltb i b m)
          ∙ ap (λ (r : ℕ). pick (eqb r 0) i r) ih ∙ last_or i (suc i) (b - suc i) (omega arith)
      go false m ih = ih

      pickb : (t : Bool) → eqb b i ≡ t → (suc i ≤ b → below b R ≡ last_of 0 L) → below b (pick (P i) (i ∷ R) R) ≡ last_of 0 (those i (b - i) P)
      pickb true q ih =
          below_none b i (suc k) (omega (arith, eqb-true b i q))
          ∙ ap (λ (n : ℕ). last_of 0 (those i n P)) (let z = eqb-true b i q in let w : 0 ≡ b - i = omega arith in w)
      pickb false q ih =
          let z = eqb-false b i q in
          go (P i) (omega arith) (ih (omega arith)) ∙ ap (λ (n : ℕ). last_of 0 (those i n P)) (let w : suc (b - suc i) ≡ b - i = omega arith in w)

  pub within_those : (π : Partition) (i k : ℕ) → π.s < i → i + k ≤ suc π.e → within π (those i k P) ≡ true
  unfolding within those
  within_those π i zero h l = refl
  within_those π i (suc k) h l = go (P i) (within_those π (suc i) k (omega arith) (omega arith))
    where
      go : (t : Bool) → within π (those (suc i) k P) ≡ true → within π (pick t (i ∷ those (suc i) k P) (those (suc i) k P)) ≡ true
      go true ih = both_of (of_inside π i h (omega arith)) ih
      go false ih = ih

  -- ---- how many

  count_low : (Q : ℕ → Bool) (k : ℕ) → count (suc k) Q ≡ pick (Q 0) 1 0 + count k (λ i. Q (suc i))
  unfolding count
  count_low Q zero = refl
  count_low Q (suc k) = ap (λ (n : ℕ). pick (Q (suc k)) 1 0 + n) (count_low Q k) ∙ omega arith

  pub length_those : (i k : ℕ) → length (those i k P) ≡ count k (λ j. P (i + j))
  unfolding those count
  length_those i zero = refl
  length_those i (suc k) =
      go (P i)
      ∙ ap₂ (λ (x y : ℕ). x + y) (ap (λ (n : ℕ). pick (P n) 1 0) (let w : i ≡ i + 0 = omega arith in w))
      (length_those (suc i) k ∙ ap (count k) (fun_ext (λ j. ap P (let w : suc i + j ≡ i + suc j = omega arith in w))))
      ∙ sym (count_low (λ j. P (i + j)) k)
    where
      go : (t : Bool) → length (pick t (i ∷ those (suc i) k P) (those (suc i) k P)) ≡ pick t 1 0 + length (those (suc i) k P)
      go true = omega arith
      go false = omega arith

  pub length_most : (i k : ℕ) → length (those i k P) ≤ k
  length_most i k = omega (arith, length_those i k, count_both k (λ j. P (i + j)))
