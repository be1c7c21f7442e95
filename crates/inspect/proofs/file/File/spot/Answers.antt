use borrow.Author.Rules.{rules}
use Rattle.inspect.proofs.Laws.{opened_read}
use Rattle.inspect.proofs.file.File.spot.Goals as goal

pub at_key-requires : goal.at_key-requires
at_key-requires c = (opened_read (search rules), c.requires)
