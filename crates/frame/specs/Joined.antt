-- Lists of blocks joined, and chained ones: the end of one, with the same links, with another block before the first, and two joined.
use Rattle.std.specs.Prelude.{◌≡◌, ◌≢◌, true, ℕ, ◌≤◌, ◌<◌, length}
use Rattle.std.proofs.Math.Path.{refl, ap}
use Rattle.std.proofs.Common.{sym, ◌∙◌, subst, arith, eq-eqb}
use mathlib.Core.List.{List, [], ◌∷◌, ◌++◌}
use Rattle.std.proofs.Math.Dec.{eqb}
use Rattle.base.specs.Tests.{head_of, last_of, occ}
use Rattle.base.specs.Laws.{both_left, both_right, both_of}
use Rattle.drive.specs.Address.{or_nil}
use Rattle.image.specs.View.{View, pair}
use Rattle.volume.specs.Words.{next_at, previous_at}
use Rattle.volume.specs.Files.{chained, within}
use Rattle.volume.specs.declared.Partition.{Partition}
use Rattle.frame.specs.Sound.{last_occ, occ_here, occ_more}

pub within_both : (π : Partition) (l m : List ℕ) → within π l ≡ true → within π m ≡ true → within π (l ++ m) ≡ true
unfolding within
within_both π [] m h k = k
within_both π (x ∷ l) m h k = both_of (both_left _ _ h) (within_both π l m (both_right _ _ h) k)

pub head_both : (l m : List ℕ) → 0 < length l → head_of 0 (l ++ m) ≡ head_of 0 l
unfolding head_of
head_both [] m h = absurd (omega arith)
head_both (x ∷ l) m h = refl

pub last_both : (x : ℕ) (l m : List ℕ) → last_of x (l ++ m) ≡ last_of (last_of x l) m
unfolding last_of
last_both x [] m = refl
last_both x (y ∷ l) m = last_both y l m

-- the end of a list within the partition, and of a chained one
pub within_end : (π : Partition) (l m : List ℕ) → within π (l ++ m) ≡ true → within π m ≡ true
unfolding within
within_end π [] m h = h
within_end π (y ∷ l) m h = within_end π l m (both_right _ _ h)

pub chained_end : (π : Partition) (v : View) (x : ℕ) (l m : List ℕ) → chained π v x (l ++ m) ≡ true → chained π v (last_of x l) m ≡ true
unfolding chained last_of
chained_end π v x [] m h = h
chained_end π v x (y ∷ l) m h = chained_end π v y l m (both_right _ _ (both_right _ _ h))

module _ (π : Partition) (v W : View) where
  -- the same links, the same chain
  pub chained_links : (x : ℕ) (l : List ℕ) → ((b : ℕ) → 0 < occ b l → (pair W b next_at ≡ pair v b next_at) × (pair W b previous_at ≡ pair v b previous_at)) → chained π v x l ≡ true → chained π W x l ≡ true
  unfolding chained
  chained_links x [] h k = refl
  chained_links x (y ∷ l) h k =
      let e = h y (omega (arith, occ_here y l)) in
      both_of (ap (λ (z : ℕ). eqb z (or_nil π.drive x)) e.1 ∙ both_left _ _ k)
      (both_of (ap (λ (z : ℕ). eqb z (or_nil π.drive (head_of 0 l))) e.0 ∙ both_left _ _ (both_right _ _ k))
      (chained_links y l (λ b m. h b (omega (arith, m, occ_more b y l))) (both_right _ _ (both_right _ _ k))))

  -- a chain whose first block now has x before it
  pub chained_first : (x : ℕ) (l : List ℕ) → ((b : ℕ) → occ b l ≤ 1) → ((b : ℕ) → 0 < occ b l → pair W b next_at ≡ pair v b next_at)
      → ((b : ℕ) → 0 < occ b l → b ≢ head_of 0 l → pair W b previous_at ≡ pair v b previous_at) → pair W (head_of 0 l) previous_at ≡ or_nil π.drive x → chained π v 0 l ≡ true → chained π W x l ≡ true
  unfolding chained head_of
  chained_first x [] d n p e k = refl
  chained_first x (y ∷ l) d n p e k =
      both_of (eq-eqb _ _ e)
      (both_of (ap (λ (z : ℕ). eqb z (or_nil π.drive (head_of 0 l))) (n y (omega (arith, occ_here y l))) ∙ both_left _ _ (both_right _ _ k))
      (chained_links y l (λ b m. (n b (omega (arith, m, occ_more b y l)), p b (omega (arith, m, occ_more b y l)) (λ z. omega (arith, m, d y, occ_here y l, ap (λ (q : ℕ). occ q l) z)))) (both_right _ _ (both_right _ _ k))))

  -- the chain l, whose last block t now points on to m
  pub chained_join : (x t : ℕ) (l m : List ℕ) → 0 < length l → last_of x l ≡ t → ((b : ℕ) → occ b l ≤ 1)
      → ((b : ℕ) → 0 < occ b l → pair W b previous_at ≡ pair v b previous_at) → ((b : ℕ) → 0 < occ b l → b ≢ t → pair W b next_at ≡ pair v b next_at)
      → pair W t next_at ≡ or_nil π.drive (head_of 0 m) → chained π W t m ≡ true → chained π v x l ≡ true → chained π W x (l ++ m) ≡ true
  unfolding chained last_of head_of
  chained_join x t [] m s q d p n e k h = absurd (omega arith)
  chained_join x t (y ∷ []) m s q d p n e k h =
      both_of (ap (λ (z : ℕ). eqb z (or_nil π.drive x)) (p y (omega (arith, occ_here y []))) ∙ both_left _ _ h)
      (both_of (eq-eqb _ _ (ap (λ (z : ℕ). pair W z next_at) q ∙ e)) (subst (λ (z : ℕ). chained π W z m ≡ true) (sym q) k))
  chained_join x t (y ∷ z ∷ l) m s q d p n e k h =
      let o : 0 < occ y (y ∷ z ∷ l) = omega (arith, occ_here y (z ∷ l)) in
      let ne : y ≢ t = λ w. omega (arith, d t, last_occ y (z ∷ l) (omega arith), ap (λ (u : ℕ). occ u (z ∷ l)) q, occ_here t (z ∷ l), ap (λ (u : ℕ). occ t (u ∷ z ∷ l)) w) in
      both_of (ap (λ (a : ℕ). eqb a (or_nil π.drive x)) (p y o) ∙ both_left _ _ h)
      (both_of (ap (λ (a : ℕ). eqb a (or_nil π.drive z)) (n y o ne) ∙ both_left _ _ (both_right _ _ h))
      (chained_join y t (z ∷ l) m (omega arith) q (λ b. omega (arith, d b, occ_more b y (z ∷ l))) (λ b i. p b (omega (arith, i, occ_more b y (z ∷ l)))) (λ b i. n b (omega (arith, i, occ_more b y (z ∷ l)))) e k
      (both_right _ _ (both_right _ _ h))))
