use mathlib.Core.Path.{sym, ◌∙◌}
use borrow.Author.Rules.{rules}
use Rattle.inspect.proofs.Signs.{passed}
use Rattle.inspect.proofs.Ways.{wf_long, wf_index, wf_nil, wf_rest, wf_readable}
use Rattle.inspect.proofs.Volume.well_formed.Goals as goal

pub returns-then-not-last_good : goal.returns-then-not-last_good
returns-then-not-last_good c = wf_long _ _ _ _ (passed _ _ (record { sfits = c.signed_word-l.type_inv }) c.signed_word-l.ensures.0) c.signed_word-l.ensures.1 (sym c.last_good.ensures ∙ c.if-not-last_good.true)

pub blocks_to-n-requires : goal.blocks_to-n-requires
blocks_to-n-requires c = sym c.last_good.ensures ∙ c.if-not-last_good.false

pub returns-then-not-index_good : goal.returns-then-not-index_good
returns-then-not-index_good c = wf_index _ _ _ _ (passed _ _ (record { sfits = c.signed_word-l.type_inv }) c.signed_word-l.ensures.0) c.signed_word-l.ensures.1 (sym c.last_good.ensures ∙ c.if-not-last_good.false) _ c.blocks_to-n.ensures.0 c.index_good.ensures (c.if-not-index_good.true)

pub returns-then-not-nils_good : goal.returns-then-not-nils_good
returns-then-not-nils_good c = wf_nil _ _ _ _ (passed _ _ (record { sfits = c.signed_word-l.type_inv }) c.signed_word-l.ensures.0) c.signed_word-l.ensures.1 (sym c.last_good.ensures ∙ c.if-not-last_good.false) _ c.blocks_to-n.ensures.0 c.nils_good.ensures (c.if-not-nils_good.true)

pub numbers_good-requires : goal.numbers_good-requires
numbers_good-requires c = let r = wf_readable _ _ _ (search rules) c.requires (passed _ _ (record { sfits = c.signed_word-l.type_inv }) c.signed_word-l.ensures.0) c.signed_word-l.ensures.1 (sym c.last_good.ensures ∙ c.if-not-last_good.false) c.blocks_to-n.ensures (sym c.index_good.ensures ∙ c.if-not-index_good.false) in (r.0, r.1)

pub returns : goal.returns
returns c = wf_rest _ _ _ _ (passed _ _ (record { sfits = c.signed_word-l.type_inv }) c.signed_word-l.ensures.0) c.signed_word-l.ensures.1 (sym c.last_good.ensures ∙ c.if-not-last_good.false) _ c.blocks_to-n.ensures.0 (sym c.index_good.ensures ∙ c.if-not-index_good.false) (sym c.nils_good.ensures ∙ c.if-not-nils_good.false) c.numbers_good.ensures
