use mathlib.Core.Path.{sym, ◌∙◌}
use Rattle.directory.specs.Entries.{file_at_is}
use Rattle.directory.proofs.Laws.{file_inside}
use Rattle.directory.proofs.entry.target_of.Goals as goal

pub is_directory-requires : goal.is_directory-requires
is_directory-requires c = file_inside _ _ c.args.volume.now.lies _ (file_at_is _ _ _ _ (sym c.file_at.ensures ∙ c.in-Some.is))
