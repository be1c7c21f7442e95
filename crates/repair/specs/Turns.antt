-- One block repaired: the record that the code makes of the image as it is, free or relinked, is the definition's.
use Rattle.std.specs.Prelude.{◌≡◌, true, ℕ, suc, ◌+◌, ◌-◌, ◌*◌, ◌≤◌, ◌<◌, length}
use Rattle.std.proofs.Math.Path.{sym, subst}
use Rattle.std.proofs.Common.{◌∙◌, arith}
use mathlib.Core.List.{List, [], ◌∷◌}
use Rattle.std.proofs.Math.Bool.{false}
use borrow.Author.Tests.{not-true, not-false}
use Rattle.base.specs.Tests.{those, head_of, above, below}
use Rattle.drive.specs.Address.{or_nil}
use Rattle.image.specs.View.{Rec, Store, put, put2}
use Rattle.image.specs.Image.{view}
use Rattle.image.specs.Saves.{Applied}
use Rattle.volume.specs.Words.{serial_at, filler_at, next_at, previous_at}
use Rattle.volume.specs.Files.{owned, unowned}
use Rattle.volume.specs.declared.Partition.{Partition}
use Rattle.volume.specs.Plans.{st, as_filler, relinked, freed, repaired}
use Rattle.frame.specs.Repair.{repaired_mine, repaired_free}
use Rattle.repair.specs.declared.Progress.{Progress}
use Rattle.blocks.specs.Standing.{head_under, stand_hit, stand_miss, stand_below, stand_above, stand_on, stand_past, last_few, many_few}
use Rattle.repair.specs.Mending.{is_free, Turn, Turned}

module _ {π : Partition} {l : List ℕ} {first b : ℕ} {t : Progress} (g : Turn π l first b t) where
  -- where b, its neighbours and the count lie
  pub turn_in : 528 * b + 528 ≤ length l
  turn_in = omega (arith, g.high, g.ready.lies.within)

  pub turn_above : (x : ℕ) → x ≡ head_of 0 (those (b + 1) (suc π.e - (b + 1)) (is_free π (view l))) → x < 69552
  turn_above x q = omega (arith, g.high, g.ready.lies.few, head_under (is_free π (view l)) (b + 1) (suc π.e - (b + 1)) (omega arith))

  pub turn_below : t.last < 69552
  turn_below = omega (arith, g.ready.lies.few, last_few g.stand g.low g.high)

  pub turn_count : t.count < 69552
  turn_count = omega (arith, g.ready.lies.few, many_few g.stand g.low g.high)

  pub turn_mine : (b ≡ t.next → ⊥) → owned π (view l) b ≡ true
  turn_mine n = not-false _ (stand_miss g.stand g.low g.high n)

  -- an unowned block, and the first unowned one above it
  pub turned_free : {l' : List ℕ} {ss : List Store} {left x : ℕ} {R : Rec} → b ≡ t.next → x ≡ head_of 0 (those (b + 1) (suc π.e - (b + 1)) (is_free π (view l)))
      → R ≡ put2 serial_at 0 (put filler_at (as_filler first) (put2 next_at (or_nil π.drive x) (put2 previous_at (or_nil π.drive t.last) (view l b))))
      → ss ≡ st b R ∷ [] → Applied t.left ss l l' left → Turned π l l' b t (record { left = left; last = b; next = x; count = t.count + 1 })
  unfolding freed unowned
  turned_free {l'} {ss} {left} {x} {R} h q e j p =
      let hit = stand_hit g.stand g.low g.high h in
      let o : owned π (view l) b ≡ false = not-true _ hit in
      let up : above b (unowned π (view l)) ≡ x = stand_above g.stand g.low g.high ∙ sym q in
      let down : below b (unowned π (view l)) ≡ t.last = stand_below g.stand g.low g.high in
      let w : repaired π (view l) (unowned π (view l)) b ≡ R = repaired_free π (view l) (unowned π (view l)) b o ∙ rw (up, down, ← g.head) (sym e) in
      record {
        store = subst (λ (r : Rec). Applied t.left (st b r ∷ []) l l' left) (sym w) (subst (λ (xs : List Store). Applied t.left xs l l' left) j p);
        stand = stand_on g.stand g.low g.high hit q;
      }

  -- an owned block
  pub turned_mine : {l' : List ℕ} {ss : List Store} {left : ℕ} {R : Rec} → (b ≡ t.next → ⊥) → R ≡ relinked π (view l) b
      → ss ≡ st b R ∷ [] → Applied t.left ss l l' left → Turned π l l' b t (record { left = left; last = t.last; next = t.next; count = t.count })
  turned_mine {l'} {ss} {left} {R} n e j p =
      let w : repaired π (view l) (unowned π (view l)) b ≡ R = repaired_mine π (view l) (unowned π (view l)) b (turn_mine n) ∙ sym e in
      record {
        store = subst (λ (r : Rec). Applied t.left (st b r ∷ []) l l' left) (sym w) (subst (λ (xs : List Store). Applied t.left xs l l' left) j p);
        stand = stand_past g.stand g.low g.high (stand_miss g.stand g.low g.high n);
      }
