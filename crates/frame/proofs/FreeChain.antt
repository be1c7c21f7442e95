-- What makes a file linked, and what makes a partition sound: linked files, and a list that is its free chain. A list of distinct blocks is
-- no longer than the partition, so that the walk along the chain comes to its end.
use Rattle.std.specs.Prelude.{◌≡◌, Bool, ◌||◌, not, eqb, ◌≢◌}
use Rattle.std.proofs.Math.Path.{refl, ap}
use Rattle.std.proofs.Common.{sym, ◌∙◌, subst}
use mathlib.Core.List.{List, [], ◌∷◌}
use Rattle.std.proofs.Math.Bool.{true, false}
use Prim.Native.Nat.{ℕ, zero, suc, ◌+◌, ◌-◌, ◌≤◌, ◌<◌}
use native.Mathlib.Omega.{arith}
use Rattle.std.proofs.Math.ListN.{length}
use borrow.Author.Tests.{ltb-false, eqb-true, lt-ltb, le-ltb, eq-eqb, lt-leb, leb-false}
use Rattle.base.specs.Tests.{pick, both, every, head_of, last_of, occ, count}
use Rattle.drive.specs.Address.{is_lda}
use Rattle.image.specs.View.{View, Rec, pair}
use Rattle.base.specs.Laws.{cons_same, all_at, all_of, every_at, both_left, both_right, both_of}
use Rattle.base.specs.Sums.{sum, sum_add, sum_nil, sum_most, sum_here, sum_same, count_sum}
use Rattle.volume.specs.Words.{next_at, previous_at, slot_at, free_head_at, free_tail_at, number_free_at}
use Rattle.volume.specs.Keys.{home, child, first}
use Rattle.volume.specs.Files.{inside, within, candidate, len, spot, present, well_formed, owned, above, below, link, link_test, linked, free, chain, chained, sound, free_sound, file_of, block_at}
use Rattle.volume.specs.declared.Partition.{Partition}
use Rattle.volume.proofs.Index.{span_at, span_of, unless_at, unless_of, or_at, or_of, present_low, present_high, member_owned, file_back}
use Rattle.volume.proofs.Frame.{Clean, Shape, kept_len, kept_present, kept_spot, kept_next, kept_prev}
use Rattle.frame.specs.Reading.{two}
use Rattle.drive.proofs.Names.{lda_block_is}
use Rattle.frame.specs.Chain.{chain_end, chain_on}
use Rattle.volume.proofs.Readings.{inside_of, or_pda, of_inside}
use Rattle.frame.proofs.Turn.{Turn}
use Rattle.frame.specs.Sound.{sound_clean, sound_linked}

module _ (π : Partition) (v : View) (f : ℕ) where
  -- linked, rule by rule
  pub record Links : Type 0 where
    pub next : (k : ℕ) → present π v f k ≡ true → pair v (spot π v f k) next_at ≡ link π v f (above π v f k)
    pub prev : (k : ℕ) → present π v f k ≡ true → pair v (spot π v f k) previous_at ≡ link π v f (below π v f k)
    pub tail : (k i : ℕ) → k < home → present π v f k ≡ true → i < 128 → len v f ≤ first (child k (slot_at i)) → pair v (spot π v f k) (slot_at i) ≡ 0

  link_test_holds : linked π v f ≡ true → (k : ℕ) → present π v f k ≡ true → link_test π v f k ≡ true
  unfolding linked
  link_test_holds h k p = span_at (len v f) (link_test π v f) h k (present_low π v f k p) (present_high π v f k p)

  pub links_of : linked π v f ≡ true → Links
  links_of h = record {
    next = λ k p. eqb-true _ _ (every_at _ (unless_at _ _ (link_test_holds h k p) p) 0);
    prev = λ k p. eqb-true _ _ (every_at _ (unless_at _ _ (link_test_holds h k p) p) 1);
    tail = λ k i l p m g. eqb-true _ _ (or_at _ _ (all_at 128 _ (or_at _ _ (every_at _ (unless_at _ _ (link_test_holds h k p) p) 2) (lt-leb home k l)) i m) (le-ltb _ _ g));
  }

  pub of_links : Links → linked π v f ≡ true
  unfolding linked every
  of_links h =
      span_of (len v f) (link_test π v f) (λ k l m. unless_of _ _ (λ p. ap every
      (cons_same (eq-eqb _ _ (h.next k p)) (cons_same (eq-eqb _ _ (h.prev k p))
      (cons_same {l = []} (or_of _ _ (λ q. all_of 128 _ (λ i n. or_of _ _ (λ g. eq-eqb _ _ (h.tail k i (leb-false home k q) p n (ltb-false _ _ g)))))) refl)))))

-- a file of the same form, whose blocks have the same links, and whose pointer blocks the same entries, is linked as it was
pub links_same : (π : Partition) (v W : View) (g : ℕ) → Shape π v W g
    → ((k : ℕ) → present π v g k ≡ true → (pair W (spot π v g k) next_at ≡ pair v (spot π v g k) next_at) × (pair W (spot π v g k) previous_at ≡ pair v (spot π v g k) previous_at))
    → ((k : ℕ) → k < home → present π v g k ≡ true → W (spot π v g k) ≡ v (spot π v g k)) → Links π v g → Links π W g
links_same π v W g s same inner h = record {
  next = λ k p. let q = kept_present π v W g s k ∙ p in ap (λ (b : ℕ). pair W b next_at) (sym (kept_spot π v W g s k q)) ∙ (same k q).0 ∙ h.next k q ∙ kept_next π v W g s k;
  prev = λ k p. let q = kept_present π v W g s k ∙ p in ap (λ (b : ℕ). pair W b previous_at) (sym (kept_spot π v W g s k q)) ∙ (same k q).1 ∙ h.prev k q ∙ kept_prev π v W g s k;
  tail = λ k i l p m n. let q = kept_present π v W g s k ∙ p in
      ap (λ (b : ℕ). pair W b (slot_at i)) (sym (kept_spot π v W g s k q)) ∙ ap (λ (x : Rec). two x (slot_at i)) (inner k l q)
      ∙ h.tail k i l q m (subst (λ (x : ℕ). x ≤ first (child k (slot_at i))) (sym (kept_len π v W g s)) n);
}

-- so is one whose blocks are all as they were
pub links_kept : (π : Partition) (v W : View) (g : ℕ) → Shape π v W g → ((k : ℕ) → present π v g k ≡ true → W (spot π v g k) ≡ v (spot π v g k)) → Links π v g → Links π W g
links_kept π v W g s same = links_same π v W g s (λ k p. (ap (λ (x : Rec). two x next_at) (same k p), ap (λ (x : Rec). two x previous_at) (same k p))) (λ k _. same k)

-- a change of one file of a sound partition that leaves the blocks of the others alone: those are linked as before
pub links_others : (π : Partition) (v D : View) (f : ℕ) → Turn π v D f → sound π v ≡ true → ((b : ℕ) → owned π v b ≡ true → file_of π v b ≢ f → D b ≡ v b)
    → (g : ℕ) → g ≢ f → candidate π D g ≡ true → Links π D g
links_others π v D f t ok h g n k =
    let c = t.cands g n ∙ k in
    let wf = sound_clean π v ok g c in
    links_kept π v D g (t.others g n c).shape (λ i p. h _ (member_owned π v g c wf i p) (λ z. n (sym (file_back π v g c wf i p) ∙ z))) (links_of π v g (sound_linked π v ok g c))

-- ---- a list of distinct blocks of the partition is no longer than the partition

pub length_sum : (π : Partition) (l : List ℕ) → π.s < π.e → within π l ≡ true → length l ≡ sum (π.e - π.s) (λ i. occ (suc (π.s + i)) l)
unfolding within occ
length_sum π [] g h = sym (sum_nil (π.e - π.s))
length_sum π (x ∷ l) g h =
    let i = inside_of π x (both_left _ _ h) in
    omega (arith, length_sum π l g (both_right _ _ h), sum_here π.s (π.e - π.s) x i.0 (omega (arith, i.1)), sum_add (π.e - π.s) (λ i. pick (eqb (suc (π.s + i)) x) 1 0) (λ i. occ (suc (π.s + i)) l))

pub in_range_inside : (π : Partition) (i : ℕ) → i < π.e - π.s → inside π (suc (π.s + i)) ≡ true
in_range_inside π i m = of_inside π (suc (π.s + i)) (omega arith) (omega arith)

-- with each unowned block once, and no other, it is as long as those are many
pub length_unowned : (π : Partition) (v : View) (l : List ℕ) → π.s < π.e → within π l ≡ true → ((b : ℕ) → inside π b ≡ true → occ b l ≡ pick (owned π v b) 0 1)
    → length l ≡ count (π.e - π.s) (λ i. not (owned π v (block_at π i)))
length_unowned π v l g h once =
    length_sum π l g h ∙ sum_same (π.e - π.s) _ _ (λ i m. once (block_at π i) (in_range_inside π i m) ∙ flip (owned π v (block_at π i)))
    ∙ sym (count_sum (π.e - π.s) (λ i. not (owned π v (block_at π i))))
  where
    flip : (t : Bool) → ◌≡◌ {A = ℕ} (pick t 0 1) (pick (not t) 1 0)
    flip true = refl
    flip false = refl

pub pigeons : (π : Partition) (l : List ℕ) → π.s < π.e → within π l ≡ true → ((b : ℕ) → inside π b ≡ true → occ b l ≤ 1) → length l ≤ π.e - π.s
pigeons π l g h k = omega (arith, length_sum π l g h, sum_most (π.e - π.s) (λ i. occ (suc (π.s + i)) l) (λ i m. k (suc (π.s + i)) (in_range_inside π i m)))

module _ (π : Partition) where
  -- ---- the free chain

  module _ (v : View) where
    -- a list is the free chain of v
    pub record IsFree (l : List ℕ) : Type 0 where
      pub inn : within π l ≡ true
      pub ways : chained π v 0 l ≡ true
      pub once : (b : ℕ) → inside π b ≡ true → occ b l ≡ pick (owned π v b) 0 1
      pub head : is_lda π.drive (pair v π.s free_head_at) (head_of 0 l) ≡ true
      pub tail : is_lda π.drive (pair v π.s free_tail_at) (last_of 0 l) ≡ true
      pub number : pair v π.s number_free_at ≡ length l
      pub some : 0 < length l

    chain_list : (fuel x y : ℕ) (l : List ℕ) → within π (y ∷ l) ≡ true → chained π v x (y ∷ l) ≡ true → length (y ∷ l) ≤ fuel → chain π v fuel y ≡ y ∷ l
    unfolding chained head_of within
    chain_list zero x y l h k m = absurd (omega arith)
    chain_list (suc n) x y [] h k m = chain_end π v n y (eqb-true _ _ (both_left _ _ (both_right _ _ k)))
    chain_list (suc n) x y (z ∷ l) h k m =
        chain_on π v n y z (eqb-true _ _ (both_left _ _ (both_right _ _ k)) ∙ or_pda π z (both_left _ _ (both_right _ _ h)))
        ∙ ap (λ (r : List ℕ). y ∷ r) (chain_list n y z l (both_right _ _ h) (both_right _ _ (both_right _ _ k)) (omega arith))

  free_list : (v : View) (l : List ℕ) → π.s < π.e → IsFree v l → free π v ≡ l
  unfolding free head_of
  free_list v [] g h = absurd (omega (arith, h.some))
  free_list v (y ∷ l) g h =
      ap (chain π v (π.e - π.s)) (lda_block_is π.drive _ y h.head)
      ∙ chain_list v (π.e - π.s) 0 y l h.inn h.ways (pigeons π (y ∷ l) g h.inn (λ b n. most (owned π v b) (h.once b n)))
    where
      most : (t : Bool) {n : ℕ} → n ≡ pick t 0 1 → n ≤ 1
      most true q = omega arith
      most false q = omega arith

  pub sound_of : (v : View) (l : List ℕ) → π.s < π.e → IsFree v l → Clean π v → ((f : ℕ) → candidate π v f ≡ true → Links π v f) → sound π v ≡ true
  unfolding sound free_sound every
  sound_of v l g h c k = both_of
      (all_of (π.e - π.s) _ (λ i m. ok (suc (π.s + i)) (candidate π v (suc (π.s + i))) refl))
      (ap every
      (cons_same (all_of (π.e - π.s) _ (λ i m. eq-eqb _ _ (ap (occ (suc (π.s + i))) is ∙ h.once (suc (π.s + i)) (in_range_inside π i m))))
      (cons_same (ap (within π) is ∙ h.inn)
      (cons_same (ap (chained π v 0) is ∙ h.ways)
      (cons_same (ap (λ (x : List ℕ). is_lda π.drive (pair v π.s free_head_at) (head_of 0 x)) is ∙ h.head)
      (cons_same (ap (λ (x : List ℕ). is_lda π.drive (pair v π.s free_tail_at) (last_of 0 x)) is ∙ h.tail)
      (cons_same (eq-eqb _ _ (h.number ∙ ap length (sym is)))
      (cons_same {l = []} (lt-ltb _ _ (subst (λ (x : List ℕ). 0 < length x) (sym is) h.some)) refl))))))))
    where
      ok : (f : ℕ) (t : Bool) → candidate π v f ≡ t → (not t || both (well_formed π v f) (linked π v f)) ≡ true
      ok f true q = both_of (c f q) (of_links π v f (k f q))
      ok f false q = refl

      is : free π v ≡ l
      is = free_list v l g h
