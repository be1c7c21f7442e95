-- Every number that a call answers fits 32 bits: blocks, offsets and counts of a good partition are small.
use Rattle.volume.specs.declared.Unfit.TheVariants.{Length, Name}
use Rattle.volume.specs.Outcome.{Outcome}
use Rattle.std.specs.Prelude.{◌≡◌, Bool, not, List, [], ◌∷◌, leb, eqb, length, take, Option, Some, None, Ok, Err}
use Rattle.std.proofs.Math.Path.{refl}
use Rattle.std.proofs.Common.{sym, ap₂, ◌∙◌, subst}
use Rattle.std.proofs.Math.Bool.{true, false}
use Prim.Native.Nat.{ℕ, zero, suc, ◌+◌, ◌-◌, ◌*◌, ◌<◌, ◌≤◌}
use native.Mathlib.Omega.{arith}
use Rattle.std.proofs.Math.Dec.{ltb}
use borrow.Author.Tests.{ltb-true, leb-true, leb-false}
use Rattle.base.specs.Tests.{pick, count}
use Rattle.base.specs.Refusals.{culprit}
use Rattle.base.specs.declared.Refusal.TheVariants.{Malformed, NoCandidate}
use Rattle.image.specs.View.{View}
use Rattle.image.specs.Image.{view}
use Rattle.image.specs.Saves.{words}
use Rattle.volume.specs.Files.{partition_of, candidate, well_formed, is_file, is_malformed, owned, sound, block_at, len, name, free_head, free, unowned}
use Rattle.volume.specs.declared.Partition.{Partition}
use Rattle.volume.specs.Keys.{reach}
use Rattle.volume.proofs.KeyLaws.{first_data}
use Rattle.volume.proofs.Index.{wf_of, member}
use Rattle.volume.proofs.Readings.{in_part, lies, inside_of, candidate_in}
use Rattle.volume.proofs.Steps.{lowest_at}
use Rattle.volume.specs.Answers.{partition, in_partition, lowest, lowest_malformed, file_above, found_file, next_file, tallied, check_clean, check_in, checked, of_file, show_in, shown, either_of, shown_pair, read_from, plain, described_as, extract_in, extracted}
use Rattle.volume.specs.Calls.{Planned, refuse, lending, lent_block, lent_text, unmarred, through, create_in, append_in, write_in, describe_in, destroy_in, repair_in, planned, Answered, Call, create, write, describe, destroy, repair}
use Rattle.volume.specs.Writes.{needs}
use Rattle.volume.specs.Outcome.{Lent}
use Rattle.volume.specs.declared.Answer.{Answer}
use Rattle.perq.specs.Flat.{flat, Changed, image_number}
use Rattle.perq.specs.declared.PerqAnswer.{PerqAnswer}
use Rattle.frame.specs.Sound.{free_in, head_free}

-- each number of an answer fits
abbrev pub OutcomeFits : Outcome → Type 0
OutcomeFits (Ok (Some x)) = (x.0 < 4294967296) × (x.1 < 4294967296) × (x.2 < 4294967296)
OutcomeFits (Ok None) = Unit {0}
OutcomeFits (Err y) = culprit y < 4294967296

pub pick_fits : (t : Bool) (x y : Outcome) → (t ≡ true → OutcomeFits x) → OutcomeFits y → OutcomeFits (pick t x y)
pick_fits true x y h k = h refl
pick_fits false x y h k = k

-- a search finds nothing in no range; a count is at most its bound
lowest_none : (p : ℕ → Bool) (a n f : ℕ) → n ≡ 0 → lowest p a n ≡ Some f → ⊥
unfolding lowest
lowest_none p a zero f z q = let y : ◌≡◌ {A = ℕ} 0 1 = cc in omega arith
lowest_none p a (suc n) f z q = omega arith

lowest_to : (p : ℕ → Bool) (a e f : ℕ) → lowest p (a + 1) (e - a) ≡ Some f → f ≤ e
lowest_to p a e f q = go (leb a e) refl
  where
    go : (t : Bool) → leb a e ≡ t → f ≤ e
    go true w = omega (arith, leb-true a e w, lowest_at p (a + 1) (e - a) f q)
    go false w = let y = leb-false a e w in absurd (lowest_none p (a + 1) (e - a) f (omega arith) q)

count_most : (k : ℕ) (P : ℕ → Bool) → count k P ≤ k
unfolding count
count_most zero P = omega arith
count_most (suc k) P = go (P k) (count_most k P)
  where
    go : (t : Bool) → count k P ≤ k → pick t 1 0 + count k P ≤ suc k
    go true h = omega arith
    go false h = omega arith

-- 1 and 2 name no block
pub part_fits : (d : ℕ) (l : List ℕ) (s : ℕ) (k : ℕ → Outcome) → ((e : ℕ) → partition d l s ≡ Ok e → OutcomeFits (k e)) → OutcomeFits (in_partition Err (partition d l s) k)
part_fits = in_part OutcomeFits Err (omega arith) (omega arith)

module _ (π : Partition) (v : View) (few : π.e < 69552) where
  file_fits : (f : ℕ) (k : Outcome) → (candidate π v f ≡ true → well_formed π v f ≡ true → OutcomeFits k) → OutcomeFits (of_file π v f k)
  file_fits f k h = go (candidate π v f) refl (well_formed π v f) refl
    where
      go : (t : Bool) → candidate π v f ≡ t → (u : Bool) → well_formed π v f ≡ u → OutcomeFits (pick t (pick u k (Err (Malformed f))) (Err NoCandidate))
      go true c true w = h c w
      go true c false w = omega (arith, (candidate_in π v f c).1)
      go false c u w = omega arith

  check_fits : π.s ≤ π.e → OutcomeFits (check_in π v)
  unfolding check_in lowest_malformed tallied
  check_fits o = go (lowest_malformed π v) refl
    where
      m : ℕ
      m = π.e - π.s

      go : (x : Option ℕ) → lowest_malformed π v ≡ x → OutcomeFits (check_clean π v x)
      go (Some f) q = omega (arith, lowest_at (is_malformed π v) (π.s + 1) (π.e - π.s) f q)
      go None q = pick_fits (sound π v) _ _
          (λ _. (omega (arith, count_most m (λ i. is_file π v (block_at π i))), omega (arith, count_most m (λ i. owned π v (block_at π i))), omega (arith, count_most m (λ i. not (owned π v (block_at π i)))))) (omega arith)

  next_fits : (b : ℕ) → OutcomeFits (found_file (file_above π v b))
  unfolding file_above
  next_fits b = go (file_above π v b) refl
    where
      go : (x : Option ℕ) → file_above π v b ≡ x → OutcomeFits (found_file x)
      go (Some f) q = (omega (arith, lowest_to (is_file π v) (pick (ltb b π.s) π.s b) π.e f q), omega arith, omega arith)
      go None q = tt

  show_fits : (f r : ℕ) → OutcomeFits (show_in π v f r)
  unfolding show_in
  show_fits f r = file_fits f _ (λ c w. pick_fits (ltb r reach) _ _ (λ _. go c w (ltb r (len v f)) refl) (omega arith))
    where
      go : candidate π v f ≡ true → well_formed π v f ≡ true → (t : Bool) → ltb r (len v f) ≡ t → OutcomeFits (pick t (Ok (Some (528 * name π v f r + 16, 512, 0))) (Ok None))
      go c w true q = (omega (arith, few, (inside_of π (name π v f r) (member π v f c w (292 + r) ((wf_of π v f w).full (292 + r) (omega (arith, first_data (292 + r) (omega arith), ltb-true r (len v f) q)))).ins).1), omega arith, omega arith)
      go c w false q = tt

  extract_fits : (f n : ℕ) → OutcomeFits (extract_in π v f n)
  unfolding extract_in
  extract_fits f n = file_fits f _ (λ c w. pick_fits (eqb n (512 * len v f)) _ _ (λ _. (omega (arith, (wf_of π v f w).short), omega arith, omega arith)) (omega arith))

module _ (d : ℕ) (l : List ℕ) (s : ℕ) where
  pub checked_fits : OutcomeFits (checked d l s)
  unfolding checked
  checked_fits = part_fits d l s _ (λ e g. let i = lies d l s e g in check_fits (partition_of d s e) (view l) i.few (omega (arith, i.order)))

  pub next_file_fits : (b : ℕ) → OutcomeFits (next_file d l s b)
  unfolding next_file
  next_file_fits b = part_fits d l s _ (λ e g. next_fits (partition_of d s e) (view l) (lies d l s e g).few b)

  pub shown_fits : (f r : ℕ) → OutcomeFits (shown d l s f r)
  unfolding shown
  shown_fits f r = part_fits d l s _ (λ e g. show_fits (partition_of d s e) (view l) (lies d l s e g).few f r)

  pub read_from_fits : (f r n : ℕ) → OutcomeFits (read_from d l s f r n)
  unfolding read_from
  read_from_fits f r n = part_fits d l s _ (λ e g. pick_fits (eqb n 512) _ _ (λ _. show_fits (partition_of d s e) (view l) (lies d l s e g).few f r) (omega arith))

  pub described_as_fits : (f n : ℕ) → OutcomeFits (described_as d l s f n)
  unfolding described_as
  described_as_fits f n =
      part_fits d l s _ (λ e g. pick_fits (eqb n 104) _ _ (λ _. file_fits (partition_of d s e) (view l) (lies d l s e g).few f _ (λ _ _. (omega arith, omega arith, omega arith))) (omega arith))

  pub extracted_fits : (f n : ℕ) → OutcomeFits (extracted d l s f n)
  unfolding extracted
  extracted_fits f n = part_fits d l s _ (λ e g. extract_fits (partition_of d s e) (view l) (lies d l s e g).few f n)

pub plain_fits : (x : Outcome) → OutcomeFits x → OutcomeFits (plain x)
plain_fits (Ok (Some x)) h = (omega arith, omega arith, omega arith)
plain_fits (Ok None) h = h
plain_fits (Err y) h = h

pub read_fits : (d : ℕ) (l : List ℕ) (s f r n : ℕ) → OutcomeFits (plain (read_from d l s f r n))
read_fits d l s f r n = plain_fits (read_from d l s f r n) (read_from_fits d l s f r n)

-- an answer of show of a pair
pub shown_pair_fits : (d : ℕ) (original repaired : List ℕ) (s f r : ℕ) → OutcomeFits (shown_pair d original repaired s f r).outcome
unfolding shown_pair
shown_pair_fits d original repaired s f r = go (shown d repaired s f r) (shown_fits d repaired s f r) (shown_fits d original s f r)
  where
    go : (x : Outcome) → OutcomeFits x → OutcomeFits (shown d original s f r) → OutcomeFits (either_of x (shown d original s f r)).outcome
    go (Ok (Some x)) h k = h
    go (Ok None) h k = tt
    go (Err y) h k = k

pub shown_pair_image : (d : ℕ) (original repaired : List ℕ) (s f r : ℕ) → image_number (shown_pair d original repaired s f r).image < 4294967296
unfolding shown_pair
shown_pair_image d original repaired s f r = go (shown d repaired s f r)
  where
    go : (x : Outcome) → image_number (either_of x (shown d original s f r)).image < 4294967296
    go (Ok (Some x)) = omega arith
    go (Ok None) = omega arith
    go (Err y) = omega arith

-- ---- changing calls

pickp_fits : (t : Bool) (x y : Planned) → (t ≡ true → OutcomeFits x.outcome) → (t ≡ false → OutcomeFits y.outcome) → OutcomeFits (pick t x y).outcome
pickp_fits true x y h k = h refl
pickp_fits false x y h k = k refl

done_fits : (0 < 4294967296) × (0 < 4294967296) × (0 < 4294967296)
done_fits = (omega arith, omega arith, omega arith)

planned_part : (d : ℕ) (l : List ℕ) (s : ℕ) (k : ℕ → Planned) → ((e : ℕ) → partition d l s ≡ Ok e → OutcomeFits (k e).outcome) → OutcomeFits (in_partition refuse (partition d l s) k).outcome
planned_part = in_part (λ x. OutcomeFits x.outcome) refuse (omega arith) (omega arith)

planned_clean : (π : Partition) (v : View) (x : Planned) → π.e < 69552 → π.s ≤ π.e → OutcomeFits x.outcome → OutcomeFits (unmarred (lowest_malformed π v) x).outcome
unfolding lowest_malformed
planned_clean π v x few o h = go (lowest_malformed π v) refl
  where
    go : (y : Option ℕ) → lowest_malformed π v ≡ y → OutcomeFits (unmarred y x).outcome
    go (Some f) q = omega (arith, lowest_at (is_malformed π v) (π.s + 1) (π.e - π.s) f q)
    go None q = h

lending_fits : (x : Lent) (k : Planned) → OutcomeFits k.outcome → OutcomeFits (lending x k).outcome
lending_fits (Ok u) k h = h
lending_fits (Err Length) k h = omega arith
lending_fits (Err Name) k h = omega arith

through_fits : (d : ℕ) (l : List ℕ) (s : ℕ) (lent : Lent) (k : Partition → Planned)
    → ((e : ℕ) → e < 69552 → sound (partition_of d s e) (view l) ≡ true → OutcomeFits (k (partition_of d s e)).outcome) → OutcomeFits (through d l s lent k).outcome
unfolding through
through_fits d l s lent k h =
    planned_part d l s _ (λ e g. let i = lies d l s e g in
    lending_fits lent _ (planned_clean (partition_of d s e) (view l) _ i.few (omega (arith, i.order)) (pickp_fits (sound (partition_of d s e) (view l)) _ _ (λ ok. h e i.few ok) (λ _. omega arith))))

module _ (d : ℕ) (l : List ℕ) (s e : ℕ) where
  abbrev π : Partition
  π = partition_of d s e

  create_fits : e < 69552 → sound π (view l) ≡ true → (kind : ℕ) → OutcomeFits (create_in π (view l) kind).outcome
  unfolding create_in
  create_fits few ok kind =
      pickp_fits (leb (length (free π (view l))) 1) _ _ (λ _. omega arith)
      (λ _. (omega (arith, (inside_of π (free_head π (view l)) (free_in π (view l) ok _ (head_free π (view l) ok))).1), omega arith, omega arith))

  append_fits : (f r : ℕ) (dat : ℕ → ℕ) → OutcomeFits (append_in π (view l) f r dat).outcome
  unfolding append_in
  append_fits f r dat = pickp_fits (leb (length (free π (view l))) (needs π (view l) f r)) _ _ (λ _. omega arith) (λ _. done_fits)

  write_fits : (f r : ℕ) (dat : ℕ → ℕ) → OutcomeFits (write_in π (view l) f r dat).outcome
  unfolding write_in
  write_fits f r dat =
      pickp_fits (candidate π (view l) f) _ _
      (λ _. pickp_fits (ltb r reach) _ _
      (λ _. pickp_fits (ltb r (len (view l) f)) _ _ (λ _. done_fits) (λ _. pickp_fits (eqb r (len (view l) f)) _ _ (λ _. append_fits f r dat) (λ _. omega arith)))
      (λ _. omega arith))
      (λ _. omega arith)

  describe_fits : (f : ℕ) (dat : ℕ → ℕ) → OutcomeFits (describe_in π (view l) f dat).outcome
  unfolding describe_in
  describe_fits f dat = pickp_fits (candidate π (view l) f) _ _ (λ _. done_fits) (λ _. omega arith)

  destroy_fits : (f : ℕ) → OutcomeFits (destroy_in π (view l) f).outcome
  unfolding destroy_in
  destroy_fits f = pickp_fits (candidate π (view l) f) _ _ (λ _. done_fits) (λ _. omega arith)

  repair_fits : OutcomeFits (repair_in π (view l)).outcome
  unfolding repair_in
  repair_fits = pickp_fits (eqb (length (unowned π (view l))) 0) _ _ (λ _. omega arith) (λ _. done_fits)

pub planned_fits : (d : ℕ) (l : List ℕ) (s : ℕ) (c : Call) → OutcomeFits (planned d l s c).outcome
unfolding planned
planned_fits d l s (create kind) = through_fits d l s (Ok tt) (λ π. create_in π (view l) kind) (λ e few ok. create_fits d l s e few ok kind)
planned_fits d l s (write f r block) = through_fits d l s (lent_block block) (λ π. write_in π (view l) f r (words block)) (λ e few ok. write_fits d l s e f r (words block))
planned_fits d l s (describe f text) = through_fits d l s (lent_text text) (λ π. describe_in π (view l) f (words text)) (λ e few ok. describe_fits d l s e f (words text))
planned_fits d l s (destroy f) = through_fits d l s (Ok tt) (λ π. destroy_in π (view l) f) (λ e few ok. destroy_fits d l s e f)
planned_fits d l s repair =
    planned_part d l s (λ e. unmarred (lowest_malformed (partition_of d s e) (view l)) (repair_in (partition_of d s e) (view l)))
    (λ e g. let i = lies d l s e g in planned_clean (partition_of d s e) (view l) (repair_in (partition_of d s e) (view l)) i.few (omega (arith, i.order)) (repair_fits d l s e))

-- a changing call answered as its plan says: its numbers fit, and flattened it is what `Changed` asks for
take_most : {A : Type 0} (n : ℕ) (l : List A) → length (take n l) ≤ n
take_most zero l = omega arith
take_most (suc n) [] = omega arith
take_most (suc n) (x ∷ l) = let h = take_most n l in omega arith

pub made_fits : {limit : ℕ} {p : Planned} {l l' : List ℕ} {a : Answer} → limit < 4294967296 → Answered limit p l l' a → a.made < 4294967296
made_fits {limit} {p} h x = omega (arith, x.made, take_most limit p.list)

pub answered_fits : (d : ℕ) (l : List ℕ) (s : ℕ) (c : Call) {limit : ℕ} {l' : List ℕ} {a : Answer} → Answered limit (planned d l s c) l l' a → OutcomeFits a.outcome
answered_fits d l s c x = subst OutcomeFits (sym x.outcome) (planned_fits d l s c)

pub changed : {limit : ℕ} {p : Planned} {l l' : List ℕ} {a : Answer} {r : PerqAnswer} → Answered limit p l l' a → r ≡ flat a.made a.outcome → Changed limit p l l' r
changed x q = record { answers = q ∙ ap₂ flat x.made x.outcome; image = x.image }
