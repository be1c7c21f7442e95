use Rattle.std.proofs.Common.{sym, ◌∙◌, arith}
use Rattle.std.proofs.lemmas.List.{length-take-le}
use Rattle.image.proofs.Laws.{copied}
use Rattle.image.proofs.store.Goals as goal

pub copy_from_slice-requires : goal.copy_from_slice-requires
copy_from_slice-requires c = let h = c.requires in length-take-le 528 c.args.part.now h.0 ∙ sym h.1

pub returns : goal.returns
returns c = let a = c.args in copied a.r.now c.copy_from_slice.new.self a.part.now c.requires.1 (λ i. omega (arith, c.shared_slice_known-1.given i)) c.copy_from_slice.ensures.after
