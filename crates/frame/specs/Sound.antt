-- What soundness gives: every candidate is a linked file, and the free chain has the unowned blocks, each once.
use Rattle.std.specs.Prelude.{◌≡◌, ◌≢◌, Bool, not, ◌||◌}
use Rattle.std.proofs.Math.Path.{refl, ap}
use Rattle.std.proofs.Common.{sym, ◌∙◌, subst, arith}
use mathlib.Core.List.{List, [], ◌∷◌, ◌++◌}
use Rattle.std.proofs.Math.Bool.{true, false}
use Prim.Native.Nat.{ℕ, zero, suc, ◌+◌, ◌-◌, ◌≤◌, ◌<◌}
use Rattle.std.proofs.Math.Dec.{eqb}
use Rattle.std.proofs.Math.ListN.{length}
use borrow.Author.Tests.{ltb-true, eqb-true, eq-eqb}
use Rattle.base.specs.Tests.{pick, both, all, head_of, last_of, occ}
use Rattle.base.specs.Laws.{every_at, both_left, both_right}
use Rattle.drive.specs.Address.{pda_block, lda_block, is_lda}
use Rattle.image.specs.View.{View, pair}
use Rattle.volume.specs.Words.{free_head_at, free_tail_at, next_at, number_free_at}
use Rattle.volume.specs.Files.{inside, within, candidate, well_formed, owned, unowned, linked, file_test, free, free_head, chain, chained, sound, free_sound}
use Rattle.volume.specs.declared.Partition.{Partition}
use Rattle.volume.proofs.Frame.{Clean}
use Rattle.drive.proofs.Names.{lda_block_is}
use Rattle.frame.specs.Chain.{occ_in}
use Rattle.frame.specs.Soft.{cand_in}
use Rattle.volume.proofs.Readings.{inside_of, all_inside}
use Rattle.volume.proofs.Index.{unless_at}

-- x stands in a list behind another, and at its head
pub occ_more : (x y : ℕ) (l : List ℕ) → occ x l ≤ occ x (y ∷ l)
unfolding occ
occ_more x y l = go (eqb x y)
  where
    go : (t : Bool) → occ x l ≤ pick t 1 0 + occ x l
    go true = omega arith
    go false = omega arith

pub occ_here : (x : ℕ) (l : List ℕ) → occ x (x ∷ l) ≡ suc (occ x l)
unfolding occ
occ_here x l = ap (λ (t : Bool). pick t 1 0 + occ x l) (eq-eqb x x refl) ∙ omega arith

-- a list begins with xs
pub record Starts (xs l : List ℕ) : Type 0 where
  pub rest : List ℕ
  pub is : l ≡ xs ++ rest

pub within_occ : (π : Partition) (l : List ℕ) (x : ℕ) → within π l ≡ true → 0 < occ x l → inside π x ≡ true
unfolding within occ
within_occ π [] x h p = absurd (omega arith)
within_occ π (y ∷ l) x h p = go (eqb x y) refl p (within_occ π l x (both_right _ _ h))
  where
    go : (t : Bool) → eqb x y ≡ t → 0 < pick t 1 0 + occ x l → (0 < occ x l → inside π x ≡ true) → inside π x ≡ true
    go true q p ih = subst (λ (z : ℕ). inside π z ≡ true) (sym (eqb-true x y q)) (both_left _ _ h)
    go false q p ih = ih (omega arith)

module _ (π : Partition) (v : View) where
  abbrev pub after₁ : ℕ → ℕ
  after₁ b = pda_block π.drive (pair v b next_at)

  -- b and the next blocks by the links, n in all
  abbrev pub firsts : ℕ → ℕ → List ℕ
  firsts zero b = []
  firsts (suc n) b = b ∷ firsts n (after₁ b)

  pub chain_firsts : (n k b : ℕ) → n ≤ length (chain π v k b) → Starts (firsts n b) (chain π v k b)
  unfolding chain
  chain_firsts zero k b h = record { rest = chain π v k b; is = refl }
  chain_firsts (suc n) zero b h = absurd (omega arith)
  chain_firsts (suc n) (suc k) b h = go (eqb (pair v b next_at) 0) (λ l. chain_firsts n k (after₁ b) l) h
    where
      go : (t : Bool) → (n ≤ length (chain π v k (after₁ b)) → Starts (firsts n (after₁ b)) (chain π v k (after₁ b)))
          → suc n ≤ length (b ∷ elim t [ true ↦ [] | false ↦ chain π v k (after₁ b) ])
          → Starts (b ∷ firsts n (after₁ b)) (b ∷ elim t [ true ↦ [] | false ↦ chain π v k (after₁ b) ])
      go true ih h = one n h
        where
          one : (n : ℕ) → suc n ≤ length (b ∷ []) → Starts (b ∷ firsts n (after₁ b)) (b ∷ [])
          one zero h = record { rest = []; is = refl }
          one (suc n) h = absurd (omega arith)
      go false ih h = let r = ih (omega arith) in record { rest = r.rest; is = ap (λ (l : List ℕ). b ∷ l) r.is }

-- where every block passes its test a candidate is a linked file
pub tested : (π : Partition) (v : View) → all (π.e - π.s) (file_test π v) ≡ true → (f : ℕ) → candidate π v f ≡ true → both (well_formed π v f) (linked π v f) ≡ true
tested π v ok f c = unless_at _ _ (all_inside π (λ b. not (candidate π v b) || both (well_formed π v b) (linked π v b)) ok f (cand_in π v f c)) c

module _ (π : Partition) (v : View) (ok : sound π v ≡ true) where
  formed : (f : ℕ) → candidate π v f ≡ true → both (well_formed π v f) (linked π v f) ≡ true
  unfolding sound
  formed = tested π v (both_left _ _ ok)

  pub sound_clean : Clean π v
  sound_clean f c = both_left _ _ (formed f c)

  pub sound_linked : (f : ℕ) → candidate π v f ≡ true → linked π v f ≡ true
  sound_linked f c = both_right _ _ (formed f c)

  pub sound_once : (b : ℕ) → inside π b ≡ true → occ b (free π v) ≡ pick (owned π v b) 0 1
  unfolding sound free_sound
  sound_once b n = eqb-true _ _ (all_inside π (λ x. eqb (occ x (free π v)) (pick (owned π v x) 0 1)) (every_at _ (both_right _ _ ok) 0) b n)

  -- a block of the free chain lies in the partition, is not owned, and stands there once
  module _ (b : ℕ) (m : 0 < occ b (free π v)) where
    pub free_in : inside π b ≡ true
    unfolding sound free_sound
    free_in = within_occ π (free π v) b (every_at _ (both_right _ _ ok) 1) m

    pub free_not : owned π v b ≡ false
    free_not = go (owned π v b) (sound_once b free_in)
      where
        go : (t : Bool) → occ b (free π v) ≡ pick t 0 1 → t ≡ false
        go true q = absurd (omega (arith, m))
        go false q = refl

    pub free_once : occ b (free π v) ≡ 1
    free_once = sound_once b free_in ∙ ap (λ (t : Bool). pick t 0 1) free_not

  pub sound_some : 1 ≤ length (free π v)
  unfolding sound free_sound
  sound_some = ltb-true 0 (length (free π v)) (every_at _ (both_right _ _ ok) 6)

  pub sound_within : within π (free π v) ≡ true
  unfolding sound free_sound
  sound_within = every_at _ (both_right _ _ ok) 1

  pub sound_chained : chained π v 0 (free π v) ≡ true
  unfolding sound free_sound
  sound_chained = every_at _ (both_right _ _ ok) 2

  pub sound_head : is_lda π.drive (pair v π.s free_head_at) (head_of 0 (free π v)) ≡ true
  unfolding sound free_sound
  sound_head = every_at _ (both_right _ _ ok) 3

  pub sound_tail : is_lda π.drive (pair v π.s free_tail_at) (last_of 0 (free π v)) ≡ true
  unfolding sound free_sound
  sound_tail = every_at _ (both_right _ _ ok) 4

  pub sound_number : pair v π.s number_free_at ≡ length (free π v)
  unfolding sound free_sound
  sound_number = eqb-true _ _ (every_at _ (both_right _ _ ok) 5)

  pub free_starts : (n : ℕ) → n ≤ length (free π v) → Starts (firsts π v n (free_head π v)) (free π v)
  unfolding free
  free_starts n h = chain_firsts π v n (π.e - π.s) (free_head π v) h

  pub head_free : 0 < occ (free_head π v) (free π v)
  head_free =
      let r = free_starts 1 sound_some in
      omega (arith, ap (occ (free_head π v)) r.is, occ_here (free_head π v) r.rest)

-- the last of a list stands in it
pub last_occ : (x : ℕ) (l : List ℕ) → 0 < length l → 0 < occ (last_of x l) l
unfolding last_of
last_occ x [] h = absurd (omega arith)
last_occ x (y ∷ []) h = omega (arith, occ_here y [])
last_occ x (y ∷ z ∷ l) h = omega (arith, last_occ y (z ∷ l) (omega arith), occ_more (last_of z l) y (z ∷ l))

module _ (π : Partition) (v : View) (ok : sound π v ≡ true) where
  last_in : 0 < occ (last_of 0 (free π v)) (free π v)
  last_in = last_occ 0 (free π v) (sound_some π v ok)

  pub tail_is : (lda_block π.drive) (pair v π.s free_tail_at) ≡ last_of 0 (free π v)
  tail_is = lda_block_is π.drive _ _ (sound_tail π v ok)

  pub tail_free : 0 < occ ((lda_block π.drive) (pair v π.s free_tail_at)) (free π v)
  tail_free = subst (λ (x : ℕ). 0 < occ x (free π v)) (sym tail_is) last_in

-- an unowned block of the partition: there is something to chain
pub some_free : (π : Partition) (v : View) (b : ℕ) → inside π b ≡ true → owned π v b ≡ false → unowned π v ≢ []
unfolding unowned occ
some_free π v b n o z =
    let i = inside_of π b n in
    let one = occ_in (λ c. not (owned π v c)) b (suc π.s) (π.e - π.s) i.0 (omega (arith, i.1)) in
    omega (arith, sym (ap (occ b) z) ∙ one ∙ ap (λ (t : Bool). pick (not t) 1 0) o)

pub spare_block : (π : Partition) (v : View) → sound π v ≡ true → unowned π v ≢ []
spare_block π v ok = some_free π v (free_head π v) (free_in π v ok _ (head_free π v ok)) (free_not π v ok _ (head_free π v ok))
