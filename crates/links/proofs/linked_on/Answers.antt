use mathlib.Core.Path.{◌≡◌, sym, ◌∙◌}
use mathlib.Core.Bool.{true}
use mathlib.Core.Logic.{◌≢◌}
use Prim.Native.Nat.{ℕ, ◌≤◌}
use native.Mathlib.Omega.{arith}
use Rattle.image.specs.Image.{view}
use Rattle.volume.specs.Keys.{up}
use Rattle.volume.specs.Closed.{stays, next_key}
use Rattle.volume.specs.Files.{spot, present}
use Rattle.inspect.proofs.Laws.{opened_least, opened_read, read_few, read_holder}
use Rattle.links.proofs.Laws.{first_is, next_is, key_high, key_few}
use Rattle.links.proofs.Walk.{tails_none, tails_are, held_on, read_on, Turn, link_starts, link_tail, link_end, link_fails, link_next, next_there, next_more}
use Rattle.links.proofs.linked_on.Goals as goal
use Rattle.links.proofs.linked_on.Goals.{Joined-k-lt-HOME, After-pair-x, then-k-lt-HOME+else-not-tail_good, else-k-lt-HOME, then-stays, else-stays}

-- the turn, where the next key is known: the ways by which the tail is good have met
turn : (c : Joined-k-lt-HOME) {j : ℕ} → j ≡ next_key c.len-n.result c.loop-k.k → (let a = c.args in let w = c.loop-k in Turn a.file.now.volume.p a.file.now.volume.img.now a.file.now.f w.k w.before w.b w.own j)
turn c h =
    let g = c.loop-k.invariant.0 in
    record {
      at = g;
      tailed = elim c.if-k-lt-HOME.branch [
        | then-k-lt-HOME+else-not-tail_good w ↦ tails_are _ _ _ c.loop-k.k (omega (arith, w.if-k-lt-HOME.true)) c.len-n.ensures.0 g.here w.tail_good.ensures ∙ w.if-not-tail_good.false
        | else-k-lt-HOME w ↦ tails_none _ _ _ c.loop-k.k (omega (arith, w.if-k-lt-HOME.false))
      ];
      next = next_is c.args.file.now.opened c.len-n.ensures.0 _ g.there h;
    }

-- the next key is present
there : (c : Joined-k-lt-HOME) {j : ℕ} → j ≡ next_key c.len-n.result c.loop-k.k → j ≢ 0 → (let a = c.args in present a.file.now.volume.p (view a.file.now.volume.img.now) a.file.now.f j ≡ true)
there c h n = next_there c.args.file.now.opened (turn c h) n

-- the block that names it, where that stays
kept : (c : Joined-k-lt-HOME) {j : ℕ} → j ≡ next_key c.len-n.result c.loop-k.k → stays j ≡ true → (let a = c.args in c.loop-k.q ≡ spot a.file.now.volume.p (view a.file.now.volume.img.now) a.file.now.f (up j))
kept c h s = held_on _ _ _ c.len-n.result _ c.loop-k.invariant.1 h s

-- both ways have met: the next key's block, and the one that names it; the next key is present, and where it stays its holder does
fetched : (c : After-pair-x) → (let a = c.args in let j = c.next_key-j.result in
    present a.file.now.volume.p (view a.file.now.volume.img.now) a.file.now.f j ≡ true → (stays j ≡ true → c.loop-k.q ≡ spot a.file.now.volume.p (view a.file.now.volume.img.now) a.file.now.f (up j))
    → (c.if-stays.c ≡ spot a.file.now.volume.p (view a.file.now.volume.img.now) a.file.now.f j) × (c.if-stays.c ≤ a.file.now.volume.p.e))
fetched c t k =
    elim c.if-stays.branch [
      | then-stays w ↦ read_on c.args.file.now.opened _ t (sym c.stays.ensures ∙ w.if-stays.true) (k (sym c.stays.ensures ∙ w.if-stays.true)) (w.c-is ∙ w.read-c.ensures)
      | else-stays w ↦ (w.c-is ∙ w.spot-c.ensures.0, rw w.c-is w.spot-c.ensures.1)
    ]

held : (c : After-pair-x) → (let a = c.args in let j = c.next_key-j.result in
    (stays j ≡ true → c.loop-k.q ≡ spot a.file.now.volume.p (view a.file.now.volume.img.now) a.file.now.f (up j)) → c.if-stays.q ≡ spot a.file.now.volume.p (view a.file.now.volume.img.now) a.file.now.f (up j))
held c k =
    elim c.if-stays.branch [
      | then-stays w ↦ w.q-is ∙ k (sym c.stays.ensures ∙ w.if-stays.true)
      | else-stays w ↦ w.q-is ∙ w.holder_of-q.ensures.0
    ]

pub spot-b-requires : goal.spot-b-requires
spot-b-requires c = let o = c.args.file.now.opened in rw (first_is o c.len-n.ensures.0 c.low-k.ensures.0) (opened_least o)

pub loop-k-init : goal.loop-k-init
loop-k-init c =
    let o = c.args.file.now.opened in
    let low = c.low-k.ensures in
    (link_starts o (first_is o c.len-n.ensures.0 low.0) c.spot-b.ensures c.pda-own.ensures.0, λ l. absurd (omega (arith, l, low.2)))

pub returns-then-not-tail_good : goal.returns-then-not-tail_good
returns-then-not-tail_good c =
    let g = c.loop-k.invariant.0 in
    link_tail c.args.file.now.opened g (tails_are _ _ _ _ (omega arith) c.len-n.ensures.0 g.here c.tail_good.ensures ∙ c.if-not-tail_good.true)

pub next_key-j-requires : goal.next_key-j-requires
next_key-j-requires c = (c.len-n.ensures.1, key_few c.args.file.now.opened _ c.loop-k.invariant.0.there)

pub returns-then-j-eq0 : goal.returns-then-j-eq0
returns-then-j-eq0 c = link_end c.args.file.now.opened (turn (goal.at.returns-then-j-eq0 c).Joined-k-lt-HOME c.next_key-j.ensures) c.if-j-eq0.true c.link_good.ensures

pub read-c-requires : goal.read-c-requires
read-c-requires c =
    let o = opened_read c.args.file.now.opened in
    let z = rw (← kept (goal.at.read-c-requires c).Joined-k-lt-HOME c.next_key-j.ensures (sym c.stays.ensures ∙ c.if-stays.true)) at (read_holder o _ (there (goal.at.read-c-requires c).Joined-k-lt-HOME c.next_key-j.ensures c.if-j-eq0.false)) in
    (omega (arith, o.lies.within, z), omega (arith, (read_few o _ (there (goal.at.read-c-requires c).Joined-k-lt-HOME c.next_key-j.ensures c.if-j-eq0.false)).1))

pub holder_of-q-requires : goal.holder_of-q-requires
holder_of-q-requires c = (opened_read c.args.file.now.opened, there (goal.at.holder_of-q-requires c).Joined-k-lt-HOME c.next_key-j.ensures c.if-j-eq0.false)

pub spot-c-requires : goal.spot-c-requires
spot-c-requires c = there (goal.at.spot-c-requires c).Joined-k-lt-HOME c.next_key-j.ensures c.if-j-eq0.false

pub leads-requires : goal.leads-requires
leads-requires c =
    let o = c.args.file.now.opened in
    (c.loop-k.invariant.0.within, c.pair-x.ensures.0, c.pair-x.ensures.1, omega (arith, (fetched (goal.at.leads-requires c).After-pair-x (there (goal.at.leads-requires c).Joined-k-lt-HOME c.next_key-j.ensures c.if-j-eq0.false) (kept (goal.at.leads-requires c).Joined-k-lt-HOME c.next_key-j.ensures)).1, o.lies.few))

pub returns-then-not-leads : goal.returns-then-not-leads
returns-then-not-leads c =
    let o = c.args.file.now.opened in
    link_fails o (turn (goal.at.returns-then-not-leads c).Joined-k-lt-HOME c.next_key-j.ensures) c.if-j-eq0.false (fetched (goal.at.returns-then-not-leads c).After-pair-x (there (goal.at.returns-then-not-leads c).Joined-k-lt-HOME c.next_key-j.ensures c.if-j-eq0.false) (kept (goal.at.returns-then-not-leads c).Joined-k-lt-HOME c.next_key-j.ensures)) c.leads.ensures c.if-not-leads.true

pub loop-k-smaller : goal.loop-k-smaller
loop-k-smaller c =
    let g = turn (goal.at.loop-k-smaller c).Joined-k-lt-HOME c.next_key-j.ensures in
    let o = c.args.file.now.opened in
    let n = c.if-j-eq0.false in
    omega (arith, next_more o g n, c.len-n.ensures.0, key_high o _ (next_there o g n))

pub loop-k-preserved : goal.loop-k-preserved
loop-k-preserved c =
    let o = c.args.file.now.opened in
    (link_next o (turn (goal.at.loop-k-preserved c).Joined-k-lt-HOME c.next_key-j.ensures) c.if-j-eq0.false (fetched (goal.at.loop-k-preserved c).After-pair-x (there (goal.at.loop-k-preserved c).Joined-k-lt-HOME c.next_key-j.ensures c.if-j-eq0.false) (kept (goal.at.loop-k-preserved c).Joined-k-lt-HOME c.next_key-j.ensures)) c.leads.ensures c.if-not-leads.false c.pair-x.ensures.0, λ l. held (goal.at.loop-k-preserved c).After-pair-x (kept (goal.at.loop-k-preserved c).Joined-k-lt-HOME c.next_key-j.ensures))
