-- The walk of the free chain: laws for the loop, and what its answer says of the chain. Assumes nothing.
use Rattle.std.specs.Prelude.{Result, Ok, Err}
use mathlib.Core.Path.{◌≡◌, refl, sym, ◌∙◌, ap}
use mathlib.Core.List.{List, [], ◌∷◌}
use mathlib.Core.Bool.{Bool, true, false, not, true≢false}
use Prim.Native.Nat.{ℕ, zero, suc, ◌+◌, ◌-◌, ◌≤◌, ◌<◌}
use native.Mathlib.Omega.{arith}
use lib.Dec.{ltb, leb, eqb}
use lib.ListN.{length}
use borrow.Author.Tests.{le-ltb, lt-leb, eq-eqb, eqb-true, eqb-false}
use Rattle.base.specs.Tests.{pick, both, last_of, head_of}
use Rattle.drive.specs.Address.{pda, pda_block, or_nil}
use Rattle.drive.specs.Ranges.{block_of}
use Rattle.image.specs.View.{View, pair}
use Rattle.base.specs.Laws.{both_of, both_left, both_right, both_true}
use Rattle.volume.specs.Words.{next_at, previous_at}
use Rattle.volume.specs.Files.{inside, owned, within, chain, chained}
use Rattle.volume.specs.declared.Partition.{Partition}
use Rattle.volume.proofs.Readings.{inside_of, or_pda}
use Rattle.volume.proofs.Steps.{more, none, both_no, both_no_2}
use Rattle.verify.specs.Walks.{onward, step_at, walk}
use Rattle.verify.specs.declared.Step.{Step}
use Rattle.verify.specs.declared.Step.TheVariants.{Bad, End, On}
use Rattle.verify.specs.declared.Chain.{Chain}
use Rattle.frame.specs.Chain.{chain_end, chain_more}

-- blocks that are not in s+1..e
pub low_out : (π : Partition) (b : ℕ) → b ≤ π.s → inside π b ≡ false
unfolding inside
low_out π b h = both_no (ltb π.s b) (leb b π.e) (le-ltb π.s b h)

pub high_out : (π : Partition) (b : ℕ) → π.e < b → inside π b ≡ false
unfolding inside
high_out π b h = both_no_2 (ltb π.s b) (leb b π.e) (lt-leb b π.e h)

-- where the next link x leads, by the block whose PDA it is
pub onward_by : (π : Partition) (x : ℕ) {c : ℕ} → c ≡ block_of π.drive x → pick (eqb x 0) End (pick (inside π c) (On c) Bad) ≡ onward π x
unfolding onward
onward_by π x {c} h = go (eqb (pda π.drive block) x) refl
  where
    block : ℕ
    block = pda_block π.drive x

    go : (t : Bool) → eqb (pda π.drive block) x ≡ t → pick (eqb x 0) End (pick (inside π c) (On c) Bad) ≡ onward π x
    go true q = rw (h, q, both_true (inside π block), onward)
    go false q = rw (h, q, both_no_2 (inside π block) false refl, low_out π 0 (omega arith), onward)

-- the loop: n passed of at most m, at block b with the address `own`; w is the answer of the whole
pub record Walking (π : Partition) (v : View) (m before own b n : ℕ) (w : Result Chain ℕ) : Type 0 where
  pub left : walk π v (m - n) before b n ≡ w
  pub here : b ≤ π.e
  pub address : own ≡ pda π.drive b

-- a step leads to a block of the partition, by its address
step_on : (π : Partition) (v : View) (before b c : ℕ) → step_at π v before b ≡ On c → (c ≤ π.e) × (pair v b next_at ≡ pda π.drive c)
unfolding step_at onward both
step_on π v before b c h = go (owned π v b) refl (eqb (pair v b previous_at) before) refl (eqb x 0) refl (inside π (pda_block π.drive x)) refl (eqb (pda π.drive (pda_block π.drive x)) x) refl
  where
    x : ℕ
    x = pair v b next_at

    go : (t : Bool) → owned π v b ≡ t → (u : Bool) → eqb (pair v b previous_at) before ≡ u → (y : Bool) → eqb x 0 ≡ y
        → (z : Bool) → inside π (pda_block π.drive x) ≡ z → (w : Bool) → eqb (pda π.drive (pda_block π.drive x)) x ≡ w → (c ≤ π.e) × (x ≡ pda π.drive c)
    go true p u q y r z i w j = let k = rw (p, step_at) at h in let z : ◌≡◌ {A = ℕ} 0 1 = cc in absurd (omega arith)
    go false p false q y r z i w j = let k = rw (p, q, step_at) at h in let z : ◌≡◌ {A = ℕ} 0 1 = cc in absurd (omega arith)
    go false p true q true r z i w j = let k = rw (p, q, r, step_at, onward) at h in let z : ◌≡◌ {A = ℕ} 0 1 = cc in absurd (omega arith)
    go false p true q false r false i w j = let k = rw (p, q, r, i, step_at, onward, both) at h in let z : ◌≡◌ {A = ℕ} 0 1 = cc in absurd (omega arith)
    go false p true q false r true i false j = let k = rw (p, q, r, i, j, step_at, onward, both) at h in let z : ◌≡◌ {A = ℕ} 0 1 = cc in absurd (omega arith)
    go false p true q false r true i true j =
        let k = rw (p, q, r, i, j, step_at, onward, both) at h in
        let m : pda_block π.drive x ≡ c = cc in
        (omega (arith, (inside_of π (pda_block π.drive x) i).1), sym (eqb-true _ _ j) ∙ ap (pda π.drive) m)

module _ {π : Partition} {v : View} {m before own b n : ℕ} {w : Result Chain ℕ} (g : Walking π v m before own b n w) where
  pub walk_out : m ≤ n → Err b ≡ w
  unfolding walk
  walk_out l = rw (none l, walk) at g.left

  pub walk_bad : {r : Step} → n < m → r ≡ step_at π v before b → r ≡ Bad → Err b ≡ w
  unfolding walk
  walk_bad l q t = rw (more l, ← q, t, walk) at g.left

  pub walk_end : {r : Step} → n < m → r ≡ step_at π v before b → r ≡ End → Ok (record { blocks = n + 1; last = b }) ≡ w
  unfolding walk
  walk_end l q t = rw (more l, ← q, t, walk) at g.left

  pub walk_on : {r : Step} {c x : ℕ} → n < m → r ≡ step_at π v before b → r ≡ On c → x ≡ pair v b next_at → Walking π v m own x c (n + 1) w
  unfolding walk
  walk_on {c = c} l q t e =
      let s = step_on π v before b c (sym q ∙ t) in
      record { left = rw (← g.address) at (rw (more l, ← q, t, walk) at g.left); here = s.0; address = e ∙ s.1 }

-- ---- what the walk's answer says of the chain

module _ (π : Partition) (v : View) where
  -- no block of a list is owned
  unfoldable pub none_owned : List ℕ → Bool
  none_owned [] = true
  none_owned (b ∷ bs) = both (not (owned π v b)) (none_owned bs)

  pub record Fine (before : ℕ) (l : List ℕ) : Type 0 where
    pub ins : within π l ≡ true
    pub links : chained π v before l ≡ true
    pub unowned : none_owned l ≡ true

  pub data Verdict (before n : ℕ) (l : List ℕ) : Result Chain ℕ → Type 0 where
    fine : {m z : ℕ} → Fine before l → m ≡ n + length l → z ≡ last_of 0 l → Verdict before n l (Ok (record { blocks = m; last = z }))
    wrong : {x : ℕ} → (Fine before l → ⊥) → Verdict before n l (Err x)

  module _ (before b : ℕ) (l : List ℕ) where
    pub fine_owned : owned π v b ≡ true → Fine before (b ∷ l) → ⊥
    unfolding none_owned
    fine_owned h g = let q = both_left _ _ g.unowned in true≢false (sym q ∙ rw h)

    pub fine_prev : Fine before (b ∷ l) → eqb (pair v b previous_at) (or_nil π.drive before) ≡ true
    unfolding chained
    fine_prev g = both_left _ _ g.links

    pub fine_next : Fine before (b ∷ l) → pair v b next_at ≡ or_nil π.drive (head_of 0 l)
    unfolding chained
    fine_next g = eqb-true _ _ (both_left _ _ (both_right _ _ g.links))

    pub fine_here : Fine before (b ∷ l) → inside π b ≡ true
    unfolding within
    fine_here g = both_left _ _ g.ins

    pub fine_rest : Fine before (b ∷ l) → Fine b l
    unfolding within chained none_owned
    fine_rest g = record { ins = both_right _ _ g.ins; links = both_right _ _ (both_right _ _ g.links); unowned = both_right _ _ g.unowned }

    pub fine_cons : inside π b ≡ true → owned π v b ≡ false → eqb (pair v b previous_at) (or_nil π.drive before) ≡ true → pair v b next_at ≡ or_nil π.drive (head_of 0 l) → Fine b l → Fine before (b ∷ l)
    unfolding within chained none_owned
    fine_cons i o p n g = record { ins = both_of i g.ins; links = both_of p (both_of (eq-eqb _ _ n) g.links); unowned = both_of (ap not o) g.unowned }

  fine_nil : (before : ℕ) → Fine before []
  unfolding within chained none_owned
  fine_nil before = record { ins = refl; links = refl; unowned = refl }

  last_chain : (k b c : ℕ) → last_of 0 (b ∷ chain π v (suc k) c) ≡ last_of 0 (chain π v (suc k) c)
  unfolding chain last_of
  last_chain k b c = refl

  -- a fine list goes on where the link leads
  fine_on : (k before b : ℕ) → (pair v b next_at ≡ 0 → ⊥) → Fine before (b ∷ chain π v k (pda_block π.drive (pair v b next_at)))
      → both (inside π (pda_block π.drive (pair v b next_at))) (eqb (pda π.drive (pda_block π.drive (pair v b next_at))) (pair v b next_at)) ≡ true
  unfolding chain head_of
  fine_on zero before b h g = absurd (h (fine_next before b _ g))
  fine_on (suc k) before b h g =
      let i = fine_here b _ _ (fine_rest before b _ g) in
      both_of i (eq-eqb _ _ (sym (fine_next before b _ g ∙ or_pda π _ i)))

  extend : (before b n k : ℕ) {w : Result Chain ℕ} → inside π b ≡ true → owned π v b ≡ false → eqb (pair v b previous_at) (or_nil π.drive before) ≡ true
      → both (inside π (pda_block π.drive (pair v b next_at))) (eqb (pda π.drive (pda_block π.drive (pair v b next_at))) (pair v b next_at)) ≡ true
      → Verdict b (n + 1) (chain π v (suc k) (pda_block π.drive (pair v b next_at))) w
      → Verdict before n (b ∷ chain π v (suc k) (pda_block π.drive (pair v b next_at))) w
  unfolding head_of chain
  extend before b n k ib o p i (fine g m z) =
      fine (fine_cons before b _ ib o p (sym (eqb-true _ _ (both_right _ _ i)) ∙ sym (or_pda π _ (both_left _ _ i))) g)
      (m ∙ omega arith) (z ∙ sym (last_chain k b (pda_block π.drive (pair v b next_at))))
  extend before b n k ib o p i (wrong h) = wrong (λ g. h (fine_rest before b _ g))

  chain_owned : (k before b : ℕ) → owned π v b ≡ true → Fine before (chain π v (suc k) b) → ⊥
  unfolding chain
  chain_owned k before b h g = fine_owned before b _ h g

  chain_prev : (k before b : ℕ) → Fine before (chain π v (suc k) b) → eqb (pair v b previous_at) (or_nil π.drive before) ≡ true
  unfolding chain
  chain_prev k before b g = fine_prev before b _ g

  walk_step : (k before b n : ℕ) → inside π b ≡ true
      → (owned π v b ≡ false → eqb (pair v b previous_at) (or_nil π.drive before) ≡ true → (pair v b next_at ≡ 0 → ⊥)
      → both (inside π (pda_block π.drive (pair v b next_at))) (eqb (pda π.drive (pda_block π.drive (pair v b next_at))) (pair v b next_at)) ≡ true
      → Verdict before n (b ∷ chain π v k (pda_block π.drive (pair v b next_at))) (walk π v k (pda π.drive b) (pda_block π.drive (pair v b next_at)) (n + 1)))
      → Verdict before n (chain π v (suc k) b) (walk π v (suc k) (or_nil π.drive before) b n)
  unfolding walk step_at onward head_of last_of
  walk_step k before b n ib rec = go (owned π v b) refl (eqb (pair v b previous_at) (or_nil π.drive before)) refl (eqb x 0) refl (both (inside π c) (eqb (pda π.drive c) x)) refl
    where
      x : ℕ
      x = pair v b next_at

      c : ℕ
      c = pda_block π.drive x

      go : (t : Bool) → owned π v b ≡ t → (u : Bool) → eqb (pair v b previous_at) (or_nil π.drive before) ≡ u → (y : Bool) → eqb x 0 ≡ y → (z : Bool) → both (inside π c) (eqb (pda π.drive c) x) ≡ z
          → Verdict before n (chain π v (suc k) b) (walk π v (suc k) (or_nil π.drive before) b n)
      go true p u q y r z i = rw (p, walk, step_at) (wrong (chain_owned k before b p))
      go false p false q y r z i = rw (p, q, walk, step_at) (wrong (λ g. true≢false (sym (chain_prev k before b g) ∙ q)))
      go false p true q true r z i = rw (p, q, chain_end π v k b (eqb-true _ _ r), walk, step_at, onward, r) (fine {m = n + 1} {z = b} (fine_cons before b [] ib p q (eqb-true x 0 r) (fine_nil b)) (omega arith) refl)
      go false p true q false r false i = rw (p, q, chain_more π v k b (eqb-false _ _ r), walk, step_at, onward, r, i) (wrong (λ g. true≢false (sym (fine_on k before b (eqb-false _ _ r) g) ∙ i)))
      go false p true q false r true i = rw (p, q, chain_more π v k b (eqb-false _ _ r), walk, step_at, onward, r, i) (rec p q (eqb-false _ _ r) i)

  pub walk_says : (k before b n : ℕ) → inside π b ≡ true → Verdict before n (chain π v (suc k) b) (walk π v (suc k) (or_nil π.drive before) b n)
  unfolding walk chain head_of
  walk_says zero before b n ib = walk_step zero before b n ib (λ o p x i. wrong (λ g. x (fine_next before b [] g)))
  walk_says (suc k) before b n ib = walk_step (suc k) before b n ib (λ o p x i. extend before b n k ib o p i (rw (or_pda π b ib) at (walk_says k b (pda_block π.drive (pair v b next_at)) (n + 1) (both_left _ _ i))))
