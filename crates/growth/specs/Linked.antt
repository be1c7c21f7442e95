-- Where a write is done, the file is linked.
use Rattle.std.specs.Prelude.{◌≡◌, refl, ◌⊎◌, ◌≢◌, Bool, true, false, ℕ, suc, ◌≤◌, ◌<◌, eqb}
use Rattle.std.proofs.Common.{sym, ap₂, ◌∙◌, subst, inl, inr, arith}
use Rattle.std.proofs.Math.Path.{ap}
use Rattle.std.proofs.lemmas.Bool.{eqb-false}
use Rattle.base.specs.Tests.{pick}
use Rattle.base.specs.Laws.{pick_same, never}
use Rattle.drive.specs.Address.{pda, lda}
use Rattle.image.specs.View.{View, Rec, pair}
use Rattle.volume.specs.Words.{next_at, previous_at, slot_at}
use Rattle.volume.specs.Keys.{home, up, child, first}
use Rattle.volume.proofs.KeyLaws.{child_of, child_word, low_pos, up_home}
use Rattle.volume.specs.Files.{len, spot, present, entry, well_formed, above, below, link}
use Rattle.volume.specs.declared.Partition.{Partition}
use Rattle.volume.proofs.Index.{present_low, wf_of}
use Rattle.volume.proofs.Order.{above_next, below_prev}
use Rattle.volume.specs.Writes.{is_new, fresh, present', spot', above', below', link', grown}
use Rattle.frame.specs.Reading.{two}
use Rattle.frame.proofs.FreeChain.{Links}
use Rattle.growth.specs.Ready.{Tails, Ready}
use Rattle.growth.specs.Path.{new_first_at}
use Rattle.growth.specs.Afterwards.{present_not, len_more, spot_is}
use Rattle.growth.specs.Written.{Written, written_present, written_spot, written_above, written_below, written_formed}
use Rattle.growth.specs.Grown.{grown_next, grown_prev}
use Rattle.growth.specs.Done.{Left, Done, done_written}

module _ (π : Partition) (v : View) (f r : ℕ) (dat : Rec) (ok : Ready π v f r) (tails : Tails π v f) (W : View) (d : Done π v f r dat ok W) where
  w : Written π v f r W
  w = done_written π v f r dat ok W d

  wf : well_formed π W f ≡ true
  wf = written_formed π v f r ok tails W w

  there : (k : ℕ) → present π W f k ≡ true → present' π v f r k ≡ true
  there k p = sym (written_present π v f r ok tails W w k) ∙ p

  link_same : (j : ℕ) → (j ≢ 0 → present π W f j ≡ true) → link π W f j ≡ link' π v f r j
  unfolding link link'
  link_same j h = pick_same (eqb j 0) (λ _. refl) (λ q. ap (pda π.drive) (written_spot π v f r ok tails W w j (there j (h (eqb-false j 0 q)))))

  link_old : (j : ℕ) → (j ≢ 0 → present π v f j ≡ true) → link π v f j ≡ link' π v f r j
  unfolding link link'
  link_old j h = pick_same (eqb j 0) (λ _. refl) (λ q. ap (pda π.drive) (sym (spot_is π v f r ok.file j (h (eqb-false j 0 q)))))

  module _ (old : Links π v f) where
    -- one link of k, at word i: to x in W, to y before, to z by the plan
    side : (k i x y z : ℕ) → present π W f k ≡ true → two (grown π v f r dat k) i ≡ link' π v f r z → (present π v f k ≡ true → pair v (spot π v f k) i ≡ link π v f y)
        → (x ≢ 0 → present π W f x ≡ true) → (y ≢ 0 → present π v f y ≡ true) → x ≡ z → (Left π v f r dat ok W k → z ≡ y) → pair W (spot π W f k) i ≡ link π W f x
    side k i x y z p g o hx hy e l =
        ap (λ (b : ℕ). pair W b i) (written_spot π v f r ok tails W w k (there k p)) ∙ go (d.each k (there k p)) ∙ ap (link' π v f r) (sym e) ∙ sym (link_same x hx)
      where
        go : (W (spot' π v f r k) ≡ grown π v f r dat k) ⊎ Left π v f r dat ok W k → pair W (spot' π v f r k) i ≡ link' π v f r z
        go (inl a) = ap (λ (u : Rec). two u i) a ∙ g
        go (inr a) =
            ap (λ (u : Rec). two u i) a.same ∙ ap (λ (b : ℕ). pair v b i) (spot_is π v f r ok.file k a.old) ∙ o a.old
            ∙ link_old y hy ∙ ap (link' π v f r) (sym (l a))

    next_is : (k : ℕ) → present π W f k ≡ true → pair W (spot π W f k) next_at ≡ link π W f (above π W f k)
    next_is k p = side k next_at _ (above π v f k) (above' π v f r k) p (grown_next π v f r dat k) (old.next k)
        (λ n. ((above_next π W f k).hit n).0) (λ n. ((above_next π v f k).hit n).0) (written_above π v f r ok tails W w k) (λ a. a.over_it)

    prev_is : (k : ℕ) → present π W f k ≡ true → pair W (spot π W f k) previous_at ≡ link π W f (below π W f k)
    prev_is k p = side k previous_at _ (below π v f k) (below' π v f r k) p (grown_prev π v f r dat k) (old.prev k)
        (λ n. ((below_prev π W f k).hit n).0) (λ n. ((below_prev π v f k).hit n).0) (written_below π v f r ok tails W w k) (λ a. a.under_it)

    tail_is : (k i : ℕ) → k < home → present π W f k ≡ true → i < 128 → len W f ≤ first (child k (slot_at i)) → pair W (spot π W f k) (slot_at i) ≡ 0
    tail_is k i l p m h =
        ap₂ (λ (b x : ℕ). pair W b x) (written_spot π v f r ok tails W w k (there k p) ∙ ap (spot' π v f r) (sym a.0)) (sym (child_word k i l m))
        ∙ w.entries (child k (slot_at i)) n a.1.0 a.1.1 held
        ∙ ap (λ (t : Bool). pick t (lda π.drive (fresh π v f r (child k (slot_at i)))) (pick (is_new π v f r (up (child k (slot_at i)))) 0 (entry π v f (child k (slot_at i))))) not_new
        ∙ go (is_new π v f r (up (child k (slot_at i)))) refl
      where
        a : (up (child k (slot_at i)) ≡ k) × ((0 < child k (slot_at i)) × (child k (slot_at i) < 37220))
        a = child_of k (slot_at i) (omega (arith, present_low π W f k p, low_pos (len W f) (wf_of π W f wf).short)) l (omega arith) (omega arith)

        n : child k (slot_at i) ≢ home
        n z = omega (arith, sym a.0 ∙ ap up z, up_home)

        held : present' π v f r (up (child k (slot_at i))) ≡ true
        held = ap (present' π v f r) a.0 ∙ there k p

        more : suc r ≤ first (child k (slot_at i))
        more = subst (λ (x : ℕ). x ≤ first (child k (slot_at i))) w.length h

        not_new : is_new π v f r (child k (slot_at i)) ≡ false
        not_new = never _ (λ z. omega (arith, new_first_at π v f r ok.file _ z, more))

        go : (t : Bool) → is_new π v f r (up (child k (slot_at i))) ≡ t → pick t 0 (entry π v f (child k (slot_at i))) ≡ 0
        go true z = refl
        go false z = tails _ n a.1.0 a.1.1 (sym (present_not π v f r _ z) ∙ held) (omega (arith, more, len_more π v f r ok.file))

    pub file_links : Links π W f
    file_links = record { next = next_is; prev = prev_is; tail = tail_is }
