use mathlib.Core.Path.{ap, ◌∙◌}
use Rattle.volume.specs.Files.{link}
use Rattle.inspect.proofs.Laws.{opened_below}
use Rattle.links.proofs.Laws.{prev_is, key_pos, key_few}
use Rattle.links.proofs.prev_of.Goals as goal

pub prev_key-requires : goal.prev_key-requires
prev_key-requires c = (c.len.ensures.1, key_pos c.args.file.now.opened _ c.requires, key_few c.args.file.now.opened _ c.requires)

pub link_to-requires : goal.link_to-requires
link_to-requires c = let o = c.args.file.now.opened in let z = prev_is o c.len.ensures.0 _ c.requires c.prev_key.ensures in λ n. rw z (opened_below o _ c.requires (λ y. n (z ∙ y)))

pub returns : goal.returns
returns c = c.link_to.ensures ∙ ap (link _ _ _) (prev_is c.args.file.now.opened c.len.ensures.0 _ c.requires c.prev_key.ensures)
