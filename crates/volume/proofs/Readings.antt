-- What the definitions say to code and to laws: where what passed its test lies, what a search without a hit says, and which address is
-- written over an old one.
use Rattle.std.specs.Prelude.{◌≡◌, refl, ◌≢◌, List, Bool, true, false, ℕ, zero, suc, ◌+◌, ◌-◌, ◌*◌, ◌/◌, ◌≤◌, ◌<◌, ◌%◌, length, eqb, Option, Some, None, Ok, Err}
use Rattle.std.proofs.Common.{sym, ap, ◌∙◌, subst, arith, ltb-true, leb-true, eqb-true, ne_eqb, lt-ltb, le-leb}
use Rattle.std.proofs.lemmas.Bool.{eqb-false}
use Rattle.base.specs.Tests.{pick, all}
use Rattle.drive.specs.Address.{blocks, pda, or_nil}
use Rattle.image.specs.View.{View}
use Rattle.image.specs.Image.{view}
use Rattle.base.specs.Laws.{all_at, every_at, both_left, both_right, both_of}
use Rattle.volume.specs.declared.Unfit.TheVariants.{Length, Name}
use Rattle.volume.specs.Outcome.{Lent}
use Rattle.volume.specs.Files.{partition_of, block_at, inside, candidate}
use Rattle.volume.specs.declared.Partition.{Partition}
use Rattle.drive.specs.Laws.{blocks_few}
use Rattle.volume.specs.Answers.{image_good, part_good, end_of, partition, in_partition, lowest}
use Rattle.volume.specs.Names.{good_name}
use Rattle.volume.specs.Calls.{lent_block, lent_text}
use Rattle.base.specs.declared.Refusal.{Refusal}
use Rattle.base.specs.declared.Refusal.TheVariants.{BadImage, BadPartition}
use Rattle.volume.specs.Reads.{Lies, GoodPart}

pub inside_of : (π : Partition) (b : ℕ) → inside π b ≡ true → (π.s < b) × (b ≤ π.e)
unfolding inside
inside_of π b h = (ltb-true π.s b (both_left _ _ h), leb-true b π.e (both_right _ _ h))

pub of_inside : (π : Partition) (b : ℕ) → π.s < b → b ≤ π.e → inside π b ≡ true
unfolding inside
of_inside π b l m = both_of (lt-ltb π.s b l) (le-leb b π.e m)

-- a block of the partition is not the PIB, and has an address
pub off_pib : (π : Partition) (b : ℕ) → inside π b ≡ true → b ≢ π.s
off_pib π b i z = omega (arith, (inside_of π b i).0)

pub or_pda : (π : Partition) (b : ℕ) → inside π b ≡ true → or_nil π.drive b ≡ pda π.drive b
or_pda π b i = ap (λ (t : Bool). pick t 0 (pda π.drive b)) (ne_eqb b 0 (λ z. omega (arith, (inside_of π b i).0)))

-- a test that holds of blocks s + 1 to e
pub all_inside : (π : Partition) (P : ℕ → Bool) → all (π.e - π.s) (λ i. P (block_at π i)) ≡ true → (b : ℕ) → inside π b ≡ true → P b ≡ true
all_inside π P h b i =
    let w = inside_of π b i in
    subst (λ (x : ℕ). P x ≡ true) (let z : suc (π.s + (b - suc π.s)) ≡ b = omega (arith, w.0) in z) (all_at (π.e - π.s) _ h (b - suc π.s) (omega (arith, w.0, w.1)))

-- the lowest that passes is none exactly if none does
pub lowest_none : (p : ℕ → Bool) (n a : ℕ) → lowest p a n ≡ None → (x : ℕ) → a ≤ x → x < a + n → p x ≡ false
unfolding lowest
lowest_none p zero a h x l u = absurd (omega arith)
lowest_none p (suc n) a h x l u = go (p a) refl h (eqb a x) refl (λ q k. lowest_none p n (a + 1) q x k (omega arith))
  where
    go : (t : Bool) → p a ≡ t → ◌≡◌ {A = Option ℕ} (elim t [ true ↦ Some a | false ↦ lowest p (a + 1) n ]) None → (m : Bool) → eqb a x ≡ m → (lowest p (a + 1) n ≡ None → a + 1 ≤ x → p x ≡ false) → p x ≡ false
    go true q h m z ih = let y : ◌≡◌ {A = ℕ} 0 1 = cc in absurd (omega arith)
    go false q h true z ih = ap p (sym (eqb-true a x z)) ∙ q
    go false q h false z ih = ih h (let n = eqb-false a x z in omega arith)

pub none_lowest : (p : ℕ → Bool) (n a : ℕ) → ((x : ℕ) → a ≤ x → x < a + n → p x ≡ false) → lowest p a n ≡ None
unfolding lowest
none_lowest p zero a h = refl
none_lowest p (suc n) a h = let q : p a ≡ false = h a (omega arith) (omega arith) in rw (q, lowest) (none_lowest p n (a + 1) (λ x l u. h x (omega arith) (omega arith)))

-- a buffer that is fine has the call's length, and a description that is has a good name
pub fine_block : (block : List ℕ) → lent_block block ≡ Ok tt → length block ≡ 512
unfolding lent_block
fine_block block h = go (eqb (length block) 512) refl h
  where
    go : (t : Bool) → eqb (length block) 512 ≡ t → ◌≡◌ {A = Lent} (pick t (Ok tt) (Err Length)) (Ok tt) → length block ≡ 512
    go true q h = eqb-true _ _ q
    go false q h = let z : ◌≡◌ {A = ℕ} 0 1 = cc in absurd (omega arith)

pub fine_text : (text : List ℕ) → lent_text text ≡ Ok tt → (length text ≡ 104) × (good_name text ≡ true)
unfolding lent_text
fine_text text h = go (eqb (length text) 104) refl (good_name text) refl h
  where
    go : (t : Bool) → eqb (length text) 104 ≡ t → (u : Bool) → good_name text ≡ u → ◌≡◌ {A = Lent} (pick t (pick u (Ok tt) (Err Name)) (Err Length)) (Ok tt) → (length text ≡ 104) × (good_name text ≡ true)
    go true q true r h = (eqb-true _ _ q, r)
    go true q false r h = let z : ◌≡◌ {A = ℕ} 0 1 = cc in absurd (omega arith)
    go false q u r h = let z : ◌≡◌ {A = ℕ} 0 1 = cc in absurd (omega arith)

pub image_blocks : (d n : ℕ) → image_good d n ≡ true → (528 * (n / 528) ≤ n) × (n / 528 < 69553)
unfolding image_good
image_blocks d n h = (omega arith, (let q : n / 528 ≤ blocks d = leb-true _ _ (every_at _ h 3) in omega (arith, blocks_few d)))

pub good_part : (d : ℕ) (l : List ℕ) (s e : ℕ) → partition d l s ≡ Ok e → GoodPart d l s e
unfolding partition
good_part d l s e h = go (image_good d (length l)) refl (part_good d (length l / 528) (view l) s) refl h
  where
    go : (t : Bool) → image_good d (length l) ≡ t → (u : Bool) → part_good d (length l / 528) (view l) s ≡ u
        → pick t (pick u (Ok (end_of d (view l) s)) (Err BadPartition)) (Err BadImage) ≡ Ok e → GoodPart d l s e
    go true i true p h = record { image = i; part = p; end = cc }
    go true i false p h = let z : ◌≡◌ {A = ℕ} 0 1 = cc in absurd (omega arith)
    go false i u p h = let z : ◌≡◌ {A = ℕ} 0 1 = cc in absurd (omega arith)

-- its image is a row of records
pub whole_records : (d : ℕ) (l : List ℕ) (s e : ℕ) → partition d l s ≡ Ok e → length l ≡ 528 * (length l / 528)
unfolding image_good
whole_records d l s e h = let k : length l % 528 ≡ 0 = eqb-true _ _ (every_at _ (good_part d l s e h).image 2) in omega arith

pub lies : (d : ℕ) (l : List ℕ) (s e : ℕ) → partition d l s ≡ Ok e → Lies (partition_of d s e) l
unfolding image_good part_good
lies d l s e h =
    let g = good_part d l s e h in
    let i = g.image in
    let p = g.part in
    let z = g.end in
    let b = image_blocks d (length l) i in
    let m : end_of d (view l) s < length l / 528 = ltb-true _ _ (every_at _ p 5) in
    let k : end_of d (view l) s - s + 1 ≤ 32767 = leb-true _ _ (every_at _ p 6) in
    record {
      known = leb-true _ _ (every_at _ i 0);
      start = leb-true _ _ (every_at _ p 0);
      order = (let o : s < end_of d (view l) s = ltb-true _ _ (every_at _ p 4) in omega arith);
      within = omega arith;
      few = omega arith;
      small = omega arith;
    }

-- what holds of what comes in a good partition, and of what comes by 1 and by 2, holds of the call
pub in_part : {A : Type 0} (P : A → Type 0) (otherwise : Refusal → A) → P (otherwise BadImage) → P (otherwise BadPartition) → (d : ℕ) (l : List ℕ) (s : ℕ) (k : ℕ → A)
    → ((e : ℕ) → partition d l s ≡ Ok e → P (k e)) → P (in_partition otherwise (partition d l s) k)
unfolding partition
in_part P otherwise one two d l s k h = go (image_good d (length l)) (part_good d (length l / 528) (view l) s) h
  where
    go : (t u : Bool) → ((e : ℕ) → pick t (pick u (Ok (end_of d (view l) s)) (Err BadPartition)) (Err BadImage) ≡ Ok e → P (k e))
        → P (in_partition otherwise (pick t (pick u (Ok (end_of d (view l) s)) (Err BadPartition)) (Err BadImage)) k)
    go true true h = h _ refl
    go true false h = two
    go false u h = one

pub part_start : (d n : ℕ) (v : View) (s : ℕ) → part_good d n v s ≡ true → s < n
unfolding part_good
part_start d n v s h = ltb-true _ _ (every_at _ h 1)

pub candidate_in : (π : Partition) (v : View) (f : ℕ) → candidate π v f ≡ true → (π.s < f) × (f ≤ π.e)
unfolding candidate
candidate_in π v f h = inside_of π f (every_at _ h 0)
