-- The free chain's tests, by what the walk and the count find. Assumes nothing.
use Rattle.std.specs.Prelude.{Result, Ok, Err}
use mathlib.Core.Path.{◌≡◌, refl, sym, ap, ◌∙◌}
use mathlib.Core.List.{List}
use mathlib.Core.Bool.{Bool, true, false, true≢false}
use Prim.Native.Nat.{ℕ, suc, ◌-◌, ◌≤◌, ◌<◌}
use native.Mathlib.Omega.{arith}
use lib.ListN.{length}
use borrow.Author.Tests.{lt-ltb}
use Rattle.base.specs.Tests.{pick, every, all, count, last_of, head_of}
use Rattle.image.specs.View.{View}
use Rattle.volume.proofs.Steps.{every_no}
use Rattle.volume.specs.Files.{inside, within, chain, chained, free, free_head, once_test, free_sound}
use Rattle.volume.specs.declared.Partition.{Partition}
use Rattle.verify.specs.Walks.{walk, walked, named, free_at}
use Rattle.verify.specs.declared.Chain.{Chain}
use Rattle.verify.proofs.Free.{Fine, Verdict, fine, wrong, walk_says, fine_here}
use Rattle.verify.proofs.Pigeon.{all_there, there_many, there_none}
use Rattle.frame.specs.Chain.{last_in, head_chain}

module _ (π : Partition) (v : View) where
  chain_head : (k b : ℕ) → Fine π v 0 (chain π v (suc k) b) → inside π b ≡ true
  unfolding chain
  chain_head k b g = fine_here π v 0 b _ g

  pub walked_says : π.s < π.e → Verdict π v 0 0 (free π v) (walked π v)
  unfolding walked free
  walked_says h = rw more (go (inside π (free_head π v)) refl)
    where
      more : π.e - π.s ≡ suc (π.e - π.s - 1)
      more = omega arith

      go : (t : Bool) → inside π (free_head π v) ≡ t
          → Verdict π v 0 0 (chain π v (suc (π.e - π.s - 1)) (free_head π v)) (pick (inside π (free_head π v)) (walk π v (suc (π.e - π.s - 1)) 0 (free_head π v) 0) (Err π.s))
      go true i = rw i (walk_says π v (π.e - π.s - 1) 0 (free_head π v) 0 i)
      go false i = rw i (wrong (λ g. true≢false (sym (chain_head (π.e - π.s - 1) (free_head π v) g) ∙ i)))

  tests_no : (Fine π v 0 (free π v) → ⊥) → free_sound π v ≡ false
  unfolding free_sound
  tests_no h = go (all (π.e - π.s) (once_test π v c)) refl (within π c) refl (chained π v 0 c) refl
    where
      c : List ℕ
      c = free π v

      go : (x : Bool) → all (π.e - π.s) (once_test π v c) ≡ x → (y : Bool) → within π c ≡ y → (z : Bool) → chained π v 0 c ≡ z → free_sound π v ≡ false
      go false p y q z r = every_no _ 0 p
      go true p false q z r = every_no _ 1 q
      go true p true q false r = every_no _ 2 r
      go true p true q true r = absurd (h (record { ins = q; links = r; unowned = there_none π v c q p }))

  tests_few : π.s < π.e → (length (free π v) ≡ count (π.e - π.s) (free_at π v) → ⊥) → free_sound π v ≡ false
  unfolding free_sound
  tests_few low h = go (all (π.e - π.s) (once_test π v c)) refl (within π c) refl
    where
      c : List ℕ
      c = free π v

      go : (x : Bool) → all (π.e - π.s) (once_test π v c) ≡ x → (y : Bool) → within π c ≡ y → free_sound π v ≡ false
      go false p y q = every_no _ 0 p
      go true p false q = every_no _ 1 q
      go true p true q = absurd (h (there_many π v low c q p))

  by_wrong : {l : List ℕ} {w : Result Chain ℕ} {x : ℕ} → Verdict π v 0 0 l w → w ≡ Err x → Fine π v 0 l → ⊥
  by_wrong (fine g m z) q f = let z : ◌≡◌ {A = ℕ} 0 1 = cc in omega arith
  by_wrong (wrong h) q f = h f

  pub record Counts (l : List ℕ) (c : Chain) : Type 0 where
    pub good : Fine π v 0 l
    pub many : c.blocks ≡ length l
    pub final : c.last ≡ last_of 0 l

  by_free : {l : List ℕ} {w : Result Chain ℕ} (c : Chain) → Verdict π v 0 0 l w → w ≡ Ok c → Counts l c
  by_free {l = l} c (fine {m = m} {z = z} g p q) h =
      let a : record { blocks = m; last = z } ≡ c = cc in
      let b : m ≡ length l = omega arith in
      record { good = g; many = sym (ap (λ (x : Chain). x.blocks) a) ∙ b; final = sym (ap (λ (x : Chain). x.last) a) ∙ q }
  by_free c (wrong g) h = let z : ◌≡◌ {A = ℕ} 0 1 = cc in absurd (omega arith)

  module _ (h : π.s < π.e) {r : Result Chain ℕ} (q : r ≡ walked π v) where
    pub free_wrong : {x : ℕ} → r ≡ Err x → false ≡ free_sound π v
    free_wrong t = sym (tests_no (by_wrong (walked_says h) (sym q ∙ t)))

    pub free_counts : (c : Chain) → r ≡ Ok c → Counts (free π v) c
    free_counts c t = by_free c (walked_says h) (sym q ∙ t)

  some_of : (k b : ℕ) → 0 < length (chain π v (suc k) b)
  unfolding chain
  some_of k b = omega arith

  module _ (h : π.s < π.e) where
    more : π.e - π.s ≡ suc (π.e - π.s - 1)
    more = omega arith

    pub head_is : head_of 0 (free π v) ≡ free_head π v
    unfolding free
    head_is = rw more (head_chain π v (π.e - π.s - 1) (free_head π v))

    pub some_is : 0 < length (free π v)
    unfolding free
    some_is = rw more (some_of (π.e - π.s - 1) (free_head π v))

  module _ (h : π.s < π.e) (c : Chain) (g : Counts (free π v) c) where
    pub free_few : (c.blocks ≡ count (π.e - π.s) (free_at π v) → ⊥) → false ≡ free_sound π v
    free_few m = sym (tests_few h (λ z. m (g.many ∙ z)))

    pub chain_rest : c.blocks ≡ count (π.e - π.s) (free_at π v) → named π v c.blocks c.last ≡ free_sound π v
    unfolding free_sound named every
    chain_rest m =
        rw (all_there π v h (free π v) g.good (sym g.many ∙ m), g.good.ins, g.good.links, head_is h, ← g.final, lt-ltb 0 (length (free π v)) (some_is h), ← g.many)

    pub last_is_in : c.last ≤ π.e
    last_is_in = rw g.final (last_in π 0 (free π v) (omega arith) g.good.ins)
