use Rattle.append.proofs.Planned.is_new.Goals as goal

pub returns : goal.returns
returns c = c.is_new.ensures _ c.args.self.now.appends
