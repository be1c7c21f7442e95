-- Before its deciding store, the FIB's, a write changes nothing that counts: new blocks are free, and what an old block gains is an entry that L does not ask for.
use Rattle.std.specs.Prelude.{◌≡◌, refl, ◌⊎◌, ◌≢◌, List, [], ◌∷◌, map, Bool, true, false, ℕ, suc, ◌+◌, ◌≤◌, ◌<◌, leb, ltb}
use Rattle.std.proofs.Common.{sym, ap, ap₂, ◌∙◌, subst, inl, inr, true≢false, arith, ltb-true, ltb-false, eqb-true, lt-ltb, ne_eqb, le-leb, leb-true}
use Rattle.base.specs.Tests.{pick, both}
use Rattle.base.specs.Laws.{both_left, both_right, both_of}
use Rattle.image.specs.View.{View, Rec}
use Rattle.volume.specs.Keys.{home, number, up, slot, child, first}
use Rattle.volume.proofs.KeyLaws.{child_slot, number_fib, up_most}
use Rattle.volume.specs.Files.{len, spot, present, above, below}
use Rattle.volume.specs.declared.Partition.{Partition}
use Rattle.volume.proofs.Index.{spot_home, member, file_back, present_few}
use Rattle.volume.specs.Writes.{over, needs, is_new, fresh, present', spot', above', below', base, holds, grown, store}
use Rattle.frame.specs.Soft.{tally_word, headed, headed_rel, spare, spare_at, Soft}
use Rattle.frame.proofs.Turn.{Each, Calm, calm_soft, calm_free, Mine, mine_calm}
use Rattle.growth.specs.Ready.{Ready}
use Rattle.growth.specs.Path.{Placed, over_up, placed, new_absent, new_beyond, new_not_home, over_pos, over_few, new_inner}
use Rattle.growth.specs.Room.{fresh_free}
use Rattle.growth.specs.Lists.{All, mem}
use Rattle.growth.specs.Afterwards.{present_new, present_old, present_split, spot_new, new_old, spot_is}
use Rattle.growth.specs.Grown.{grown_off, grown_head, base_old, body_inner, entered_off, new_number}
use Rattle.volume.proofs.Frame.{SameHead}

module _ (π : Partition) (v : View) (f r : ℕ) (dat : Rec) (ok : Ready π v f r) where
  -- the one old block that names a new one
  pub gains_is : (i : ℕ) → i < needs π v f r → present π v f (over r (suc i)) ≡ true → suc i ≡ needs π v f r
  gains_is i l p = go (ltb (suc i) (needs π v f r)) refl
    where
      go : (t : Bool) → ltb (suc i) (needs π v f r) ≡ t → suc i ≡ needs π v f r
      go true q = absurd (true≢false (sym p ∙ new_absent π v f r ok.file (suc i) (ltb-true _ _ q)))
      go false q = omega (arith, ltb-false (suc i) (needs π v f r) q)

  -- an old block keeps its header
  base_is : (k : ℕ) → present π v f k ≡ true → (w : ℕ) → base π v f r dat k w ≡ v (spot π v f k) w
  base_is k p w = ap (λ (x : Rec). x w) (base_old π v f r dat k (new_old π v f r ok.file k p))

  pub head_old : (k : ℕ) → present π v f k ≡ true → SameHead (v (spot π v f k)) (grown π v f r dat k)
  head_old k p = record { low = low 0 (omega arith); high = low 1 (omega arith); rel = low 2 (omega arith) }
    where
      low : (w : ℕ) → w < 4 → v (spot π v f k) w ≡ grown π v f r dat k w
      low w l = sym (grown_head π v f r dat ok.file k w l ∙ base_is k p w)

  soft_old : (k : ℕ) → present π v f k ≡ true → k ≢ home → Soft π v (spot π v f k) (grown π v f r dat k)
  soft_old k p n = record {
    head = head_old k p;
    words = λ w l s. sym (grown_off π v f r dat k w (λ z. omega arith) (λ z. omega arith) (λ z. omega arith) (λ z. omega arith)
        ∙ ap (λ (x : Rec). x w) (body_inner π v f r dat k n) ∙ entered_off π v f r dat k w _ (λ i m h. off w s i h) ∙ base_is k p w);
  }
    where
      off : (w : ℕ) → spare π v (spot π v f k) w ≡ false → (i : ℕ) → holds π v f r dat i k ≡ true → (w ≢ slot (over r i)) × (w ≢ slot (over r i) + 1)
      off w s i h = ((λ z. no 0 (omega arith) (omega arith)), no 1 (omega arith))
        where
          less : i < needs π v f r
          less = leb-true (suc i) (needs π v f r) (both_left _ _ h)

          e : over r (suc i) ≡ k
          e = eqb-true (over r (suc i)) k (both_right _ _ h)

          no : (y : ℕ) → y < 2 → w ≢ slot (over r i) + y
          no y m z = true≢false (sym spared ∙ s)
            where
              holder : up (over r i) ≡ k
              holder = over_up r i ∙ e

              mine : child k w ≡ over r i
              mine = ap₂ child (sym holder) z ∙ child_slot (over r i) y (over_pos π v f r ok.file i (omega (arith, less))) (over_few π v f r ok.file i) (new_not_home π v f r ok.file i less) m

              far : len v f ≤ first (child k w)
              far = subst (λ (j : ℕ). len v f ≤ first j) (sym mine) (new_beyond π v f r ok.file i less)

              spared : spare π v (spot π v f k) w ≡ true
              spared =
                  spare_at π v f ok.cand ok.file.formed k w p
                  ∙ ap (λ (t : Bool). pick t (tally_word w) (both (ltb k home) (leb (len v f) (first (child k w))))) (ne_eqb k home n)
                  ∙ both_of (lt-ltb k home (omega (arith, up_most (over r i), holder, n))) (le-leb _ _ far)

  quiet_new : (k : ℕ) → is_new π v f r k ≡ true → Calm π v (spot' π v f r k) (grown π v f r dat k)
  quiet_new k h =
      subst (λ (b : ℕ). Calm π v b (grown π v f r dat k)) (sym (spot_new π v f r k h))
      (calm_free π v (fresh_free π v f r ok k h) (headed_rel π (fresh π v f r k) (grown π v f r dat k)
      (λ z. new_inner π v f r ok.file k h (number_fib k (few (placed π v f r ok.file k h)) (sym (new_number π v f r dat ok.file k h) ∙ z)))))
    where
      few : Placed π v f r ok.file k → k < 65536
      few x = omega (arith, x.is, over_few π v f r ok.file x.i)

  -- a key that may stand before the deciding one: new, or old and not the FIB's
  abbrev pub Early : ℕ → Type 0
  Early k = (is_new π v f r k ≡ true) ⊎ ((present π v f k ≡ true) × (k ≢ home))

  pub early_present : (k : ℕ) → Early k → present' π v f r k ≡ true
  early_present k (inl h) = present_new π v f r k h
  early_present k (inr h) = present_old π v f r k h.0

  quiet_early : (k : ℕ) → Early k → Calm π v (spot' π v f r k) (grown π v f r dat k)
  quiet_early k (inl h) = quiet_new k h
  quiet_early k (inr h) = subst (λ (b : ℕ). Calm π v b (grown π v f r dat k)) (sym (spot_is π v f r ok.file k h.0)) (calm_soft π v (soft_old k h.0 h.1))

  pub calm_keys : (ks : List ℕ) → All Early ks → Each (Calm π v) (map (store π v f r dat) ks)
  calm_keys [] h = tt
  calm_keys (k ∷ ks) h = (quiet_early k h.0, calm_keys ks h.1)

  -- whatever is stored for a key of the file changes that file alone
  pub mine_key : (k : ℕ) → present' π v f r k ≡ true → Mine π v f (spot' π v f r k) (grown π v f r dat k)
  mine_key k p = go (present_split π v f r k p)
    where
      go : (is_new π v f r k ≡ true) ⊎ (present π v f k ≡ true) → Mine π v f (spot' π v f r k) (grown π v f r dat k)
      go (inl h) = mine_calm π v f _ _ (quiet_new k h)
      go (inr h) = subst (λ (b : ℕ). Mine π v f b (grown π v f r dat k)) (sym (spot_is π v f r ok.file k h)) (λ _. inr ((λ _. file_back π v f ok.cand ok.file.formed k h), no))
        where
          rel : grown π v f r dat k 2 ≡ number k
          rel =
              grown_head π v f r dat ok.file k 2 (omega arith) ∙ ap (λ (x : Rec). x 2) (base_old π v f r dat k (new_old π v f r ok.file k h))
              ∙ (member π v f ok.cand ok.file.formed k h).num

          no : spot π v f k ≢ f → headed π (spot π v f k) (grown π v f r dat k) ≡ false
          no ne = headed_rel π (spot π v f k) (grown π v f r dat k)
              (λ z. ne (ap (spot π v f) (number_fib k (omega (arith, present_few π v f ok.cand ok.file.formed k h)) (sym rel ∙ z)) ∙ spot_home π v f))

  -- keys that will do as those before the deciding one: only such; among them all new ones, the block that gains an entry, and every block
  -- that gets another neighbour
  pub record Order (fr : List ℕ) : Type 0 where
    pub early : All Early fr
    pub news : (k : ℕ) → is_new π v f r k ≡ true → mem k fr ≡ true
    pub gain : over r (needs π v f r) ≢ home → mem (over r (needs π v f r)) fr ≡ true
    pub near : (k : ℕ) → present π v f k ≡ true → k ≢ home → mem k fr ≡ false → (above' π v f r k ≡ above π v f k) × (below' π v f r k ≡ below π v f k)
