use mathlib.Core.Path.{ap, ◌∙◌}
use native.Mathlib.Omega.{arith}
use Rattle.volume.specs.Keys.{low}
use Rattle.volume.proofs.KeyLaws.{number_small}
use Rattle.volume.specs.Writes.{counted}
use Rattle.growth.specs.Afterwards.{home_there}
use Rattle.inspect.proofs.Signs.{passed_word, passed_fits}
use Rattle.append.proofs.Numbers.{low_there}
use Rattle.append.proofs.Laws.{behind, number_last, body_fib}
use borrow.Author.Rules.{rules}
use Rattle.append.proofs.Planned.fib_save.Goals as goal

pub block_of-top-requires : goal.block_of-top-requires
block_of-top-requires c = low_there _ _ _ _ (behind c.args.self.now.appends) _ (c.low-low.ensures.0 ∙ ap low (omega arith))

pub entered-x-requires : goal.entered-x-requires
entered-x-requires c = (home_there _ _ _ _, omega arith)

pub with_signed-x-requires : goal.with_signed-x-requires
with_signed-x-requires c = (search rules, passed_fits _ _ (record { sfits = c.number_of.type_inv }) c.number_of.ensures)

pub with_signed-x-requires-2 : goal.with_signed-x-requires-2
with_signed-x-requires-2 c = (search rules, passed_fits _ _ (record { sfits = c.number_of-2.type_inv }) c.number_of-2.ensures)

pub key_save-requires : goal.key_save-requires
key_save-requires c = home_there _ _ _ _

pub returns : goal.returns
unfolding counted
returns c = λ dat. c.key_save.ensures dat (rw (c.with_word-x.ensures, c.size_of.ensures.0, c.with_signed-x-2.ensures, passed_word _ _ (record { sfits = c.number_of-2.type_inv }) c.number_of-2.ensures (number_small _), c.with_pair-x-2.ensures, c.with_signed-x.ensures, passed_word _ _ (record { sfits = c.number_of.type_inv }) c.number_of.ensures (number_small _), number_last _ c.args.self.now.appends.far, c.with_pair-x.ensures, c.address-low_at.ensures.0, c.pair-2.ensures.0, c.address-last_at.ensures.0, c.pair.ensures.0) (body_fib c.args.self.now.appends dat _ _ _ c.low-low.ensures.0 c.block_of-top.ensures.0 (c.entered-x.ensures dat)))
