-- The ways through destroy: what it comes to, and where its blocks lie.
use mathlib.Core.Path.{◌≡◌, sym, ap, ◌∙◌}
use mathlib.Core.List.{List}
use mathlib.Core.Bool.{true, false}
use Prim.Native.Nat.{ℕ, ◌+◌, ◌≤◌, ◌<◌}
use lib.Dec.{eqb}
use Rattle.image.specs.View.{View}
use Rattle.image.specs.Image.{view}
use Rattle.base.specs.declared.Refusal.TheVariants.{NoCandidate}
use Rattle.volume.specs.Keys.{home, low}
use Rattle.volume.specs.Closed.{size_of}
use Rattle.volume.proofs.Closed.{least_closed, size_closed}
use Rattle.volume.specs.Files.{candidate, well_formed, len, spot, present, free_head}
use Rattle.volume.specs.declared.Partition.{Partition}
use Rattle.volume.specs.Plans.{destroyed, destroy_plan, free_tail}
use Rattle.volume.specs.Calls.{refuse, finish, destroy_in}
use Rattle.inspect.specs.Parts.{Opened}
use Rattle.inspect.proofs.Laws.{opened_least, opened_last}
use Rattle.records.specs.Records.{Block, Destroys}
use Rattle.change.specs.Gate.{Opens}
use Rattle.change.proofs.Laws.{block_to, block_pib, block_fib, room_is, room_few}

module _ (π : Partition) (v : View) (f : ℕ) where
  pub destroy_nowhere : candidate π v f ≡ false → destroy_in π v f ≡ refuse NoCandidate
  unfolding destroy_in
  destroy_nowhere c = rw (destroy_in, c)

  -- k blocks, the first key a, n blocks in use
  pub destroy_is : (k a n top last tail h : ℕ) → candidate π v f ≡ true → well_formed π v f ≡ true → k ≡ len v f → a ≡ low k → n ≡ size_of k
      → top ≡ spot π v f a → last ≡ spot π v f (home + k) → tail ≡ free_tail π v → h ≡ free_head π v
      → destroy_in π v f ≡ finish 0 (destroyed π.drive v π.s f (eqb a home) (eqb k 0) n top last tail h)
  unfolding destroy_in destroy_plan
  destroy_is k a n top last tail h c wf hk ha hn ht hl htl hh = rw (ht, hl, htl, hh, hn, ha, hk, destroy_in, c, least_closed π v f wf, size_closed π v f wf)

-- the first key of an open file
pub first_here : {π : Partition} {l : List ℕ} {f : ℕ} → Opened π l f → (k a : ℕ) → k ≡ len (view l) f → a ≡ low k → present π (view l) f a ≡ true
first_here {π} {l} {f} o k a hk ha = ap (present π (view l) f) (ha ∙ ap low hk ∙ sym (least_closed π (view l) f o.formed)) ∙ opened_least o

-- and the last
pub last_here : {π : Partition} {l : List ℕ} {f : ℕ} → Opened π l f → (k : ℕ) → k ≡ len (view l) f → present π (view l) f (home + k) ≡ true
last_here {π} {l} {f} o k hk = ap (λ (m : ℕ). present π (view l) f (home + m)) hk ∙ opened_last o

pub destroys : {π : Partition} {l : List ℕ} → Opens π l → {f : ℕ} → candidate π (view l) f ≡ true
    → (n top last tail : ℕ) → n < 65536 → top ≤ π.e → last ≤ π.e → Block l tail → Destroys l π.s f n top last tail
destroys o {f} c n top last tail hn ht hl b =
    record {
      s_in = block_pib o;
      f_in = block_fib o f c;
      top_in = block_to o top ht;
      last_in = block_to o last hl;
      tail_in = b;
      n_few = hn;
      free_few = rw (room_is o) (room_few o);
    }
