-- An image of bytes with a good partition. Lawful stores keep it one, with the same partition, and do to its view what they say.
use Rattle.std.specs.Prelude.{◌≡◌, refl, List, [], ◌∷◌, ◌++◌, ℕ, zero, suc, ◌+◌, ◌-◌, ◌*◌, ◌/◌, ◌≤◌, leb, ltb, take, drop, length, Result, Ok, Err}
use Rattle.base.specs.declared.Refusal.{Refusal}
use Rattle.std.proofs.Common.{ap, ap₂, ◌∙◌, arith}
use Rattle.base.specs.Tests.{pick, every}
use Rattle.drive.specs.Address.{lda_block, is_lda}
use Rattle.image.specs.View.{View, Rec, Store, after, pair}
use Rattle.image.specs.Image.{view, Bytes}
use Rattle.image.specs.Stores.{Fits, Whole, stored, over, bytes_from, bytes_of, view_stored, stored_length}
use Rattle.volume.specs.declared.Partition.{Partition}
use Rattle.frame.proofs.Turn.{Each, each_map, after_each}
use Rattle.base.specs.declared.Refusal.TheVariants.{BadImage, BadPartition}
use Rattle.volume.specs.Words.{partition_end_at, partition_start_at}
use Rattle.volume.specs.Answers.{image_good, part_good, end_of, partition}
use Rattle.volume.specs.Reads.{Lies}
use Rattle.volume.proofs.Readings.{lies, good_part}
use Rattle.frame.specs.Fitting.{view_fits}
use Rattle.crash.specs.Lawful.{Placed, Lawful, fixed_from}

-- ---- bytes

bytes_append : (a b : List ℕ) → Bytes a → Bytes b → Bytes (a ++ b)
bytes_append [] b h k i = k i
bytes_append (x ∷ a) b h k zero = h zero
bytes_append (x ∷ a) b h k (suc i) = bytes_append a b (λ j. h (suc j)) k i

bytes_take : (n : ℕ) (l : List ℕ) → Bytes l → Bytes (take n l)
bytes_take zero l h i = omega arith
bytes_take (suc n) [] h i = omega arith
bytes_take (suc n) (x ∷ l) h zero = h zero
bytes_take (suc n) (x ∷ l) h (suc i) = bytes_take n l (λ j. h (suc j)) i

bytes_drop : (n : ℕ) (l : List ℕ) → Bytes l → Bytes (drop n l)
bytes_drop zero l h i = h i
bytes_drop (suc n) [] h i = h i
bytes_drop (suc n) (x ∷ l) h i = bytes_drop n l (λ j. h (suc j)) i

bytes_from_bytes : (r : Rec) → Fits r → (i k : ℕ) → Bytes (bytes_from r i k)
unfolding bytes_from
bytes_from_bytes r h i zero j = omega arith
bytes_from_bytes r h i (suc k) zero = omega arith
bytes_from_bytes r h i (suc k) (suc zero) = omega (arith, h.small i)
bytes_from_bytes r h i (suc k) (suc (suc j)) = bytes_from_bytes r h (suc i) k j

pub stored_bytes : (ss : List Store) (l : List ℕ) → Bytes l → Each (λ _ r. Fits r) ss → Bytes (stored ss l)
unfolding stored over bytes_of
stored_bytes [] l b h = b
stored_bytes (x ∷ ss) l b h =
    stored_bytes ss (over l x.at (bytes_of x.rec))
    (bytes_append (take (528 * x.at) l) _ (bytes_take (528 * x.at) l b) (bytes_append (bytes_of x.rec) _ (bytes_from_bytes x.rec h.0 0 264) (bytes_drop (528 * x.at + 528) l b))) h.1

-- ---- the partition is read from the length and from the PIB's words 126 to 129

pub same_partition : (d s : ℕ) (l l' : List ℕ) → length l ≡ length l' → pair (view l) s partition_start_at ≡ pair (view l') s partition_start_at → pair (view l) s partition_end_at ≡ pair (view l') s partition_end_at
    → partition d l s ≡ partition d l' s
unfolding partition part_good end_of
same_partition d s l l' n x y = ap₂ (λ (m a : ℕ). F m a (pair (view l) s partition_end_at)) n x ∙ ap (F (length l') (pair (view l') s partition_start_at)) y
  where
    F : ℕ → ℕ → ℕ → Result ℕ Refusal
    F m a b =
        pick (image_good d m)
        (pick (every (leb 1 s ∷ ltb s (m / 528) ∷ is_lda d a s ∷ is_lda d b (lda_block d b) ∷ ltb s (lda_block d b) ∷ ltb (lda_block d b) (m / 528) ∷ leb (lda_block d b - s + 1) 32767 ∷ []))
        (Ok (lda_block d b)) (Err BadPartition))
        (Err BadImage)

-- ---- an image that holds partition π

pub record Held (π : Partition) (l : List ℕ) : Type 0 where
  pub good : partition π.drive l π.s ≡ Ok π.e
  pub bytes : Bytes l

whole_of : (π : Partition) (v : View) (n : ℕ) → 528 * π.e + 528 ≤ n → (ss : List Store) → Each (Lawful π v) ss → Whole n ss
whole_of π v n h [] k = tt
whole_of π v n h (x ∷ ss) k = ((omega (arith, k.0.to), k.0.fits), whole_of π v n h ss k.1)

module _ {π : Partition} {l : List ℕ} (h : Held π l) where
  pub lying : Lies π l
  lying = lies π.drive l π.s π.e h.good

  pub placed : Placed π (view l)
  placed = record { low = lying.order; pos = lying.start; few = lying.few; fits = λ b. view_fits l b h.bytes }

  pub end_is : end_of π.drive (view l) π.s ≡ π.e
  end_is = (good_part π.drive l π.s π.e h.good).end

  module _ (ss : List Store) (k : Each (Lawful π (view l)) ss) where
    fit : Whole (length l) ss
    fit = whole_of π (view l) (length l) lying.within ss k

    pub view_after : view (stored ss l) ≡ after ss (view l)
    view_after = view_stored ss l fit

    pub length_after : length (stored ss l) ≡ length l
    length_after = stored_length ss l fit

    pib_word : (w : ℕ) → fixed_from ≤ w → view (stored ss l) π.s w ≡ view l π.s w
    pib_word w m =
        ap (λ (u : View). u π.s w) view_after
        ∙ after_each (λ b r. b ≡ π.s → r w ≡ view l π.s w) ss (view l) (each_map (Lawful π (view l)) (λ b r. b ≡ π.s → r w ≡ view l π.s w) (λ b r q z. q.pib z w m) ss k) (λ b z. ap (λ (x : ℕ). view l x w) z) π.s refl

    pub held_after : Held π (stored ss l)
    held_after = record {
      good = same_partition π.drive π.s (stored ss l) l length_after
          (ap₂ (λ (x y : ℕ). x + 65536 * y) (pib_word 126 (omega arith)) (pib_word 127 (omega arith)))
          (ap₂ (λ (x y : ℕ). x + 65536 * y) (pib_word 128 (omega arith)) (pib_word 129 (omega arith))) ∙ h.good;
      bytes = stored_bytes ss l h.bytes (each_map (Lawful π (view l)) (λ _ r. Fits r) (λ b r q. q.fits) ss k);
    }
