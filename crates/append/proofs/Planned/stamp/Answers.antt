use Rattle.volume.proofs.KeyLaws.{number_small}
use Rattle.volume.specs.Writes.{empty}
use Rattle.growth.specs.Afterwards.{present_new}
use Rattle.inspect.proofs.Signs.{passed_word, passed_fits}
use Rattle.append.proofs.Laws.{key_small}
use borrow.Author.Rules.{rules}
use Rattle.append.proofs.Planned.stamp.Goals as goal

pub number_of-requires : goal.number_of-requires
number_of-requires c = key_small c.args.self.now.appends _ (present_new _ _ _ _ _ c.requires)

pub with_signed-x-requires : goal.with_signed-x-requires
with_signed-x-requires c = (search rules, passed_fits _ _ (record { sfits = c.number_of.type_inv }) c.number_of.ensures)

pub returns : goal.returns
unfolding empty
returns c = λ dat. rw (c.with_pair.ensures, c.pda.ensures.0, c.with_signed-x.ensures, passed_word _ _ (record { sfits = c.number_of.type_inv }) c.number_of.ensures (number_small _), c.with_word-x.ensures, c.word-filler.ensures.0, c.fresh.ensures, c.blank.ensures)
