-- The blocks that a write takes for its new keys: each lies in the partition, is free, and is taken for one key alone.
use Rattle.std.specs.Prelude.{◌≡◌, refl, Bool, true, false, ℕ, ltb}
use Rattle.std.proofs.Common.{sym, ap, ◌∙◌, subst, arith, ltb-true, ltb-false}
use Rattle.image.specs.View.{View}
use Rattle.volume.specs.Files.{inside, owned}
use Rattle.volume.specs.declared.Partition.{Partition}
use Rattle.volume.specs.Plans.{free_at}
use Rattle.volume.specs.Writes.{over, is_new, fresh}
use Rattle.growth.specs.Ready.{Ready}
use Rattle.growth.specs.Path.{Placed, placed, fresh_at}

module _ (π : Partition) (v : View) (f r : ℕ) (ok : Ready π v f r) where
  -- the block of a new key lies in the partition, and is free
  fresh_room : (k : ℕ) → is_new π v f r k ≡ true → (inside π (fresh π v f r k) ≡ true) × (owned π v (fresh π v f r k) ≡ false)
  fresh_room k h =
      let p = placed π v f r ok.file k h in
      subst (λ (b : ℕ). (inside π b ≡ true) × (owned π v b ≡ false)) (sym (ap (fresh π v f r) p.is ∙ fresh_at π v f r ok.file p.i p.less)) (ok.room p.i (omega (arith, p.less)))

  pub fresh_in : (k : ℕ) → is_new π v f r k ≡ true → inside π (fresh π v f r k) ≡ true
  fresh_in k h = (fresh_room k h).0

  pub fresh_free : (k : ℕ) → is_new π v f r k ≡ true → owned π v (fresh π v f r k) ≡ false
  fresh_free k h = (fresh_room k h).1

  -- different new keys have different blocks
  pub fresh_one : (j k : ℕ) → is_new π v f r j ≡ true → is_new π v f r k ≡ true → fresh π v f r j ≡ fresh π v f r k → j ≡ k
  fresh_one j k a b q =
      let x = placed π v f r ok.file j a in
      let y = placed π v f r ok.file k b in
      let e = sym (fresh_at π v f r ok.file x.i x.less) ∙ ap (fresh π v f r) (sym x.is) ∙ q ∙ ap (fresh π v f r) y.is ∙ fresh_at π v f r ok.file y.i y.less in
      go x y e (ltb x.i y.i) refl (ltb y.i x.i) refl
    where
      go : (x : Placed π v f r ok.file j) (y : Placed π v f r ok.file k) → free_at π v x.i ≡ free_at π v y.i → (t : Bool) → ltb x.i y.i ≡ t → (u : Bool) → ltb y.i x.i ≡ u → j ≡ k
      go x y e true l u m = absurd (ok.apart x.i y.i (ltb-true _ _ l) (omega (arith, y.less)) e)
      go x y e false l true m = absurd (ok.apart y.i x.i (ltb-true _ _ m) (omega (arith, x.less)) (sym e))
      go x y e false l false m = x.is ∙ ap (over r) (let z : x.i ≡ y.i = omega (arith, ltb-false x.i y.i l, ltb-false y.i x.i m) in z) ∙ sym y.is
