use mathlib.Core.Path.{sym, ◌∙◌}
use Rattle.verify.proofs.Chains.{free_wrong, free_counts, free_few, chain_rest, last_is_in}
use Rattle.verify.proofs.Surveys.{free_rest}
use Rattle.verify.proofs.free_good.Goals as goal

pub overflow_sub-volume-2 : goal.overflow_sub-volume-2
overflow_sub-volume-2 c = (free_rest _ _ _ c.requires).0

pub returns-then-chain-volume : goal.returns-then-chain-volume
returns-then-chain-volume c = free_few _ _ c.args.clean.now.volume.lies.order _ (free_counts _ _ c.args.clean.now.volume.lies.order c.walked.ensures _ c.in-Ok.is) (λ z. c.if-chain-volume.true (z ∙ sym (free_rest _ _ _ c.requires).1))

pub chain_named-requires : goal.chain_named-requires
chain_named-requires c = (last_is_in _ _ c.args.clean.now.volume.lies.order _ (free_counts _ _ c.args.clean.now.volume.lies.order c.walked.ensures _ c.in-Ok.is))

pub returns-in_default : goal.returns-in_default
returns-in_default c = free_wrong _ _ c.args.clean.now.volume.lies.order c.walked.ensures c.in_default.is

pub returns : goal.returns
returns c = c.chain_named.ensures ∙ chain_rest _ _ c.args.clean.now.volume.lies.order _ (free_counts _ _ c.args.clean.now.volume.lies.order c.walked.ensures _ c.in-Ok.is) (c.if-chain-volume.false ∙ (free_rest _ _ _ c.requires).1)
