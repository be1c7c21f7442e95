use mathlib.Core.Path.{refl}
use native.Mathlib.Omega.{arith}
use Rattle.links.specs.declared.Clean.{Clean}
use Rattle.blocks.specs.Ready.{Ready}
use Rattle.blocks.specs.Relink.{filed, file_opened}
use Rattle.blocks.proofs.relinked.Goals as goal

ready : (x : Clean) → Ready x.volume.p x.volume.img.now
ready x = record { lies = x.volume.lies; none = x.unmarred }

pub invariant_of-file : goal.invariant_of-file
invariant_of-file c = record { opened = file_opened _ (ready c.args.clean.now) c.requires.1 c.pair.ensures.0 c.pda_block-f.ensures.0 }

pub next_of-next-requires : goal.next_of-next-requires
next_of-next-requires c = let h = filed _ (ready c.args.clean.now) c.requires.1 c.pair.ensures.0 c.pda_block-f.ensures.0 refl c.key_in-k.ensures.0 in h.here

pub prev_of-previous-requires : goal.prev_of-previous-requires
prev_of-previous-requires c = let h = filed _ (ready c.args.clean.now) c.requires.1 c.pair.ensures.0 c.pda_block-f.ensures.0 refl c.key_in-k.ensures.0 in h.here

pub content-x-requires : goal.content-x-requires
content-x-requires c = let h = filed _ (ready c.args.clean.now) c.requires.1 c.pair.ensures.0 c.pda_block-f.ensures.0 c.len.ensures.0 c.key_in-k.ensures.0 in (omega (arith, c.requires.0, c.args.clean.now.volume.lies.within), h.short)

pub with_pair-x-requires : goal.with_pair-x-requires
with_pair-x-requires c = (omega arith, rw c.prev_of-previous.ensures (filed _ (ready c.args.clean.now) c.requires.1 c.pair.ensures.0 c.pda_block-f.ensures.0 refl c.key_in-k.ensures.0).previous)

pub with_pair-requires : goal.with_pair-requires
with_pair-requires c = (omega arith, rw c.next_of-next.ensures (filed _ (ready c.args.clean.now) c.requires.1 c.pair.ensures.0 c.pda_block-f.ensures.0 refl c.key_in-k.ensures.0).next)

pub returns : goal.returns
returns c = rw (c.with_pair.ensures, c.with_pair-x.ensures, c.content-x.ensures, c.next_of-next.ensures, c.prev_of-previous.ensures) (filed _ (ready c.args.clean.now) c.requires.1 c.pair.ensures.0 c.pda_block-f.ensures.0 c.len.ensures.0 c.key_in-k.ensures.0).is
