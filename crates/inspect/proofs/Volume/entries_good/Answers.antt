use mathlib.Core.Path.{refl, sym, ap, ◌∙◌}
use Prim.Native.Nat.{ℕ, ◌-◌}
use native.Mathlib.Omega.{arith}
use Rattle.volume.proofs.Readings.{inside_of}
use Rattle.volume.proofs.Steps.{index_starts, index_few_fails, index_enter, index_next, index_to, index_end, index_ptr_fails, index_data_fails}
use Rattle.inspect.specs.Form.{entries_good, named_member}
use Rattle.inspect.proofs.Laws.{entry_is}
use Rattle.inspect.proofs.Ways.{ptrs_few, ptrs_below, ptrs_enough, holder_in, least_reach}
use Rattle.inspect.proofs.Volume.entries_good.Goals as goal

pub returns-then-not-direct_good : goal.returns-then-not-direct_good
unfolding entries_good
returns-then-not-direct_good c = index_few_fails _ _ _ _ _ (omega (arith, c.min.ensures)) c.direct_good.ensures (c.if-not-direct_good.true)

pub index-init : goal.index-init
unfolding entries_good
index-init c = (refl, index_starts _ _ _ _ _ c.direct_good.ensures (c.if-not-direct_good.false) c.min.ensures)

pub overflow_sub-i : goal.overflow_sub-i
overflow_sub-i c = omega (arith, ptrs_few _ _ (c.saturating_sub-pointers.ensures ∙ ap (λ (x : ℕ). 289 - x) c.low.ensures.0) c.requires.1)

pub ptr_named-requires : goal.ptr_named-requires
ptr_named-requires c = let h = c.requires in let q = c.saturating_sub-pointers.ensures ∙ ap (λ (x : ℕ). 289 - x) c.low.ensures.0 in (h.0, c.pda-own.ensures.0, omega (arith, ptrs_few _ _ q h.1), omega arith, holder_in _ _ _ _ _ _ q h.1 c.index-test.true h.0 h.2)

pub overflow_sub-i-in-index : goal.overflow_sub-i-in-index
overflow_sub-i-in-index c = omega (arith, ptrs_few _ _ (c.saturating_sub-pointers.ensures ∙ ap (λ (x : ℕ). 289 - x) c.low.ensures.0) c.requires.1)

pub ptr-q-requires : goal.ptr-q-requires
ptr-q-requires c = let h = c.requires in let q = c.saturating_sub-pointers.ensures ∙ ap (λ (x : ℕ). 289 - x) c.low.ensures.0 in (h.0, omega (arith, ptrs_few _ _ q h.1), omega arith, holder_in _ _ _ _ _ _ q h.1 c.index-test.true h.0 h.2)

pub overflow_mul-i : goal.overflow_mul-i
overflow_mul-i c = omega (arith, ptrs_below _ _ _ (c.saturating_sub-pointers.ensures ∙ ap (λ (x : ℕ). 289 - x) c.low.ensures.0) c.index-test.true, c.requires.1)

pub overflow_add-i : goal.overflow_add-i
overflow_add-i c = omega (arith, ptrs_below _ _ _ (c.saturating_sub-pointers.ensures ∙ ap (λ (x : ℕ). 289 - x) c.low.ensures.0) c.index-test.true, c.requires.1)

pub overflow_sub-n : goal.overflow_sub-n
overflow_sub-n c = omega (arith, ptrs_below _ _ _ (c.saturating_sub-pointers.ensures ∙ ap (λ (x : ℕ). 289 - x) c.low.ensures.0) c.index-test.true)

pub loop-j-init : goal.loop-j-init
loop-j-init c = (c.index.invariant.0, index_enter c.index.invariant.1 c.ptr_named.ensures (c.if-not-ptr_named.false))

pub entry_named-requires : goal.entry_named-requires
entry_named-requires c = let h = c.requires in (rw c.ptr-q.ensures.0 (inside_of _ _ (named_member _ _ _ _ (sym c.ptr_named.ensures ∙ c.if-not-ptr_named.false)).ins).1, omega (arith, h.1, c.min-m.ensures, c.loop-j-test.true), omega (arith, c.min-m.ensures))

pub loop-j-preserved : goal.loop-j-preserved
loop-j-preserved c = (c.loop-j.invariant.0, index_next c.loop-j.invariant.1 (entry_is _ _ _ _ _ c.pda-own.ensures.0 c.ptr-q.ensures.0 (omega (arith, c.min-m.ensures)) c.entry_named.ensures) (c.if-not-entry_named.false) _ (omega arith))

pub index-preserved : goal.index-preserved
index-preserved c = (c.loop-j.invariant.0, index_to c.loop-j.invariant.1 _ (λ r l u. least_reach _ _ _ _ r c.min-m.ensures c.loop-j-test.false l (omega arith)))

pub returns-after-index : goal.returns-after-index
unfolding entries_good
returns-after-index c = let h = c.requires in c.index.invariant.0 ∙ index_end c.index.invariant.1 (rw (c.saturating_sub-pointers.ensures ∙ ap (λ (x : ℕ). 289 - x) c.low.ensures.0) at c.index-test.false) (omega (arith, ptrs_enough _ _ (c.saturating_sub-pointers.ensures ∙ ap (λ (x : ℕ). 289 - x) c.low.ensures.0) h.1))

pub returns-then-not-ptr_named : goal.returns-then-not-ptr_named
unfolding entries_good
returns-then-not-ptr_named c = index_ptr_fails c.index.invariant.1 (rw (c.saturating_sub-pointers.ensures ∙ ap (λ (x : ℕ). 289 - x) c.low.ensures.0) at c.index-test.true) c.ptr_named.ensures (c.if-not-ptr_named.true)

pub returns-then-not-entry_named : goal.returns-then-not-entry_named
unfolding entries_good
returns-then-not-entry_named c = index_data_fails c.loop-j.invariant.1 (let h = c.min-m.ensures in let j = c.loop-j-test.true in omega arith) (entry_is _ _ _ _ _ c.pda-own.ensures.0 c.ptr-q.ensures.0 (omega (arith, c.min-m.ensures)) c.entry_named.ensures) (c.if-not-entry_named.true)
