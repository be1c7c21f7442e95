use mathlib.Core.Path.{ap, ◌∙◌}
use Rattle.volume.specs.Files.{link}
use Rattle.inspect.proofs.Laws.{opened_above}
use Rattle.links.proofs.Laws.{next_is, key_few}
use Rattle.links.proofs.next_of.Goals as goal

pub next_key-requires : goal.next_key-requires
next_key-requires c = (c.len.ensures.1, key_few c.args.file.now.opened _ c.requires)

pub link_to-requires : goal.link_to-requires
link_to-requires c = let o = c.args.file.now.opened in let z = next_is o c.len.ensures.0 _ c.requires c.next_key.ensures in λ n. rw z (opened_above o _ c.requires (λ y. n (z ∙ y)))

pub returns : goal.returns
returns c = c.link_to.ensures ∙ ap (link _ _ _) (next_is c.args.file.now.opened c.len.ensures.0 _ c.requires c.next_key.ensures)
