use borrow.Author.Rules.{rules}
use Rattle.inspect.proofs.Laws.{opened_len}
use Rattle.inspect.proofs.file.File.len.Goals as goal

pub len-requires : goal.len-requires
len-requires c = opened_len {π = c.args.self.now.volume.p} (search rules)
