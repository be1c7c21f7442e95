use mathlib.Core.Path.{sym, ◌∙◌}
use native.Mathlib.Omega.{arith}
use Rattle.volume.proofs.Steps.{every_no, ne_of, eq_of}
use Rattle.inspect.specs.Form.{numbers_good}
use Rattle.volume.proofs.KeyLaws.{number_small}
use Rattle.inspect.proofs.Signs.{passed_word, passed_fits}
use Rattle.inspect.proofs.Laws.{read_last, read_low}
use Rattle.inspect.proofs.Ways.{every_last}
use Rattle.inspect.proofs.Volume.numbers_good.Goals as goal

pub returns-then-word-size_of : goal.returns-then-word-size_of
unfolding numbers_good
returns-then-word-size_of c = sym (every_no _ 0 (ne_of c.word.ensures.0 c.size_of.ensures.0 c.if-word-size_of.true))

pub at_key-last-requires : goal.at_key-last-requires
at_key-last-requires c = (c.requires.0, read_last c.requires.0 _ c.requires.1)

pub returns-then-not-is_lda : goal.returns-then-not-is_lda
unfolding numbers_good
returns-then-not-is_lda c = sym (every_no _ 1 (sym (rw (c.at_key-last.ensures.0, c.pair.ensures.0) at c.is_lda.ensures) ∙ c.if-not-is_lda.true))

pub is_number-requires : goal.is_number-requires
is_number-requires c = let o = c.requires.0 in (omega (arith, o.lies.within, o.here), omega arith, passed_fits _ _ (record { sfits = c.number_of.type_inv }) c.number_of.ensures)

pub returns-then-not-is_number : goal.returns-then-not-is_number
unfolding numbers_good
returns-then-not-is_number c = sym (every_no _ 2 (sym (rw (passed_word _ _ (record { sfits = c.number_of.type_inv }) c.number_of.ensures (number_small _), c.low-low.ensures.0) at c.is_number.ensures) ∙ c.if-not-is_number.true))

pub at_key-top-requires : goal.at_key-top-requires
at_key-top-requires c = (c.requires.0, read_low c.requires.0 _ _ c.requires.1 c.low-low.ensures.0)

pub returns : goal.returns
unfolding numbers_good
returns c = rw (c.at_key-top.ensures.0, c.pair-2.ensures.0, c.low-low.ensures.0) at c.is_lda-2.ensures ∙ every_last _ _ _ _ (eq_of c.word.ensures.0 c.size_of.ensures.0 c.if-word-size_of.false) (sym (rw (c.at_key-last.ensures.0, c.pair.ensures.0) at c.is_lda.ensures) ∙ c.if-not-is_lda.false) (sym (rw (passed_word _ _ (record { sfits = c.number_of.type_inv }) c.number_of.ensures (number_small _), c.low-low.ensures.0) at c.is_number.ensures) ∙ c.if-not-is_number.false)
