use Rattle.image.specs.View.{blank}
use Rattle.records.proofs.Laws.{made_as}
use Rattle.append.proofs.Laws.{above_has}
use Rattle.append.proofs.Row.{row}
use borrow.Author.Rules.{rules}
use Rattle.append.proofs.append_store.Goals as goal

pub inner_save-above-requires : goal.inner_save-above-requires
inner_save-above-requires c = above_has c.requires _ c.up-ptr.ensures.0 _ c.up-dbl.ensures.0

pub perform-requires : goal.perform-requires
perform-requires c = search (rules, c.data_save.ensures.fits, (c.inner_save-pointer.ensures blank).fits, (c.inner_save-double.ensures blank).fits, (c.inner_save-below.ensures blank).fits, (c.inner_save-above.ensures blank).fits, (c.inner_save-last.ensures blank).fits, (c.inner_save-top.ensures blank).fits, (c.fib_save.ensures blank).fits, c.first_save.ensures.fits, c.pib_less_save.ensures.fits)

pub returns : goal.returns
returns c = made_as (row c.requires _ _ _ _ c.up-ptr.ensures.0 c.up-dbl.ensures.0 c.low.ensures.0 c.data_save.ensures (c.inner_save-pointer.ensures _) (c.inner_save-double.ensures _) (c.inner_save-below.ensures _) (c.inner_save-above.ensures _) (c.inner_save-last.ensures _) (c.inner_save-top.ensures _) (c.fib_save.ensures _) c.first_save.ensures c.pib_less_save.ensures) c.perform.ensures
