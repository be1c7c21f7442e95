-- Frame law of stores: a record that differs from a block's in links, filler and spare words alone, and one that is put into a
-- block that no file owns and that does not become a candidate, leave every file as it was.
use Rattle.std.specs.Prelude.{◌≡◌, ◌⊎◌, ◌≢◌, [], ◌∷◌, Bool, ◌&&◌, ℕ, ◌+◌, ◌*◌, ◌≤◌, ◌<◌, leb, ltb}
use Rattle.std.proofs.Math.Path.{refl, ap, ap₂}
use Rattle.std.proofs.Common.{sym, ◌∙◌, subst, inl, inr, arith, add-zero}
use Rattle.std.proofs.Math.Bool.{true, false}
use Rattle.std.proofs.Math.Dec.{eqb}
use borrow.Author.Tests.{eqb-true, eqb-false, le-ltb, ne_eqb, lt-leb}
use Rattle.base.specs.Tests.{pick, both, every}
use Rattle.base.specs.Laws.{every_at}
use Rattle.drive.specs.Address.{pda}
use Rattle.drive.specs.Laws.{pda_pos}
use Rattle.image.specs.View.{View, Rec, pair}
use Rattle.volume.specs.Words.{serial_at}
use Rattle.volume.specs.Keys.{home, up, slot, child, first}
use Rattle.volume.proofs.KeyLaws.{slot_fib, slot_low, child_slot, low_pos, asked_low, asked_high}
use Rattle.volume.specs.Files.{inside, candidate, len, spot, present, well_formed, file_of, key, owned}
use Rattle.volume.specs.declared.Partition.{Partition}
use Rattle.volume.proofs.Index.{spot_home, present_home, wf_of, file_back, key_back}
use Rattle.volume.proofs.Frame.{SameHead, same_serial, head_of_same, Kept}
use Rattle.volume.proofs.Steps.{both_no_2}

-- a block with the record r would be a candidate
unfoldable pub headed : Partition → ℕ → Rec → Bool
headed π b r = every (inside π b ∷ eqb (r 0 + 65536 * r 1) (pda π.drive b) ∷ eqb (r 2) 65535 ∷ [])

module _ (π : Partition) where
  pub headed_is : (v : View) (b : ℕ) → candidate π v b ≡ headed π b (v b)
  unfolding candidate headed
  headed_is v b = refl

  pub headed_same : (b : ℕ) {r r' : Rec} → SameHead r r' → headed π b r ≡ headed π b r'
  unfolding headed
  headed_same b h = ap₂ (λ (x y : ℕ). every (inside π b ∷ eqb x (pda π.drive b) ∷ eqb y 65535 ∷ [])) (same_serial h) h.rel

  pub cand_same : (v v' : View) (b : ℕ) → SameHead (v b) (v' b) → candidate π v b ≡ candidate π v' b
  cand_same v v' b h = headed_is v b ∙ headed_same b h ∙ sym (headed_is v' b)

  -- another relative number, or no serial
  pub headed_rel : (b : ℕ) (r : Rec) → r 2 ≢ 65535 → headed π b r ≡ false
  unfolding headed every
  headed_rel b r n = go (inside π b) (eqb (r 0 + 65536 * r 1) (pda π.drive b))
    where
      go : (x y : Bool) → (x && (y && (eqb (r 2) 65535 && true))) ≡ false
      go true true = ap (λ (t : Bool). t && true) (ne_eqb (r 2) 65535 n)
      go true false = refl
      go false y = refl

  pub headed_zero : (b : ℕ) (r : Rec) → r 0 + 65536 * r 1 ≡ 0 → headed π b r ≡ false
  unfolding headed every
  headed_zero b r z = go (inside π b)
    where
      go : (x : Bool) → (x && (eqb (r 0 + 65536 * r 1) (pda π.drive b) && (eqb (r 2) 65535 && true))) ≡ false
      go true = ap (λ (t : Bool). t && (eqb (r 2) 65535 && true)) (ne_eqb (r 0 + 65536 * r 1) (pda π.drive b) (λ q. omega (arith, pda_pos π.drive b)))
      go false = refl

  pub cand_in : (v : View) (f : ℕ) → candidate π v f ≡ true → inside π f ≡ true
  unfolding candidate
  cand_in v f h = every_at _ h 0

  pub cand_serial : (v : View) (f : ℕ) → candidate π v f ≡ true → pair v f serial_at ≡ pda π.drive f
  unfolding candidate
  cand_serial v f h = eqb-true _ _ (every_at _ h 1)

-- the words of a FIB that soundness alone asks about: none
unfoldable pub tally_word : ℕ → Bool
tally_word w = false

pub tally_not : (w : ℕ) → w ≢ 257 → w < 261 → tally_word w ≡ false
unfolding tally_word
tally_not w n l = refl

module _ (π : Partition) (v : View) where
  -- word w of b is one of these, or an entry of a pointer block that L does not ask for
  unfoldable pub spare : ℕ → ℕ → Bool
  spare b w =
      let f = file_of π v b in
      let k = key v b in
      pick (eqb k home) (tally_word w) (both (ltb k home) (leb (len v f) (first (child k w))))

  -- r instead of b's record changes links, filler and spare words alone
  pub record Soft (b : ℕ) (r : Rec) : Type 0 where
    pub head : SameHead (v b) r
    pub words : (w : ℕ) → 8 ≤ w → spare b w ≡ false → v b w ≡ r w

  abbrev pub Quiet : ℕ → Rec → Type 0
  Quiet b r = Soft b r ⊎ ((owned π v b ≡ false) × (headed π b r ≡ false))

  pub soft_refl : (b : ℕ) {r : Rec} → r ≡ v b → Soft b r
  soft_refl b q = record { head = head_of_same (sym q); words = λ w _ _. sym (ap (λ (r : Rec). r w) q) }

  -- a record that keeps all but filler and links
  pub soft_links : (b : ℕ) {r : Rec} (r₀ : Rec) → v b ≡ r₀ → ((w : ℕ) → w ≢ 3 → w ≢ 4 → w ≢ 5 → w ≢ 6 → w ≢ 7 → r w ≡ r₀ w) → Soft b r
  soft_links b {r} r₀ q h = record {
    head = record { low = low 0 (omega arith); high = low 1 (omega arith); rel = low 2 (omega arith) };
    words = λ w l _. same w (λ z. omega arith) (λ z. omega arith) (λ z. omega arith) (λ z. omega arith) (λ z. omega arith);
  }
    where
      same : (w : ℕ) → w ≢ 3 → w ≢ 4 → w ≢ 5 → w ≢ 6 → w ≢ 7 → v b w ≡ r w
      same w n3 n4 n5 n6 n7 = ap (λ (x : Rec). x w) q ∙ sym (h w n3 n4 n5 n6 n7)

      low : (w : ℕ) → w < 3 → v b w ≡ r w
      low w l = same w (λ z. omega arith) (λ z. omega arith) (λ z. omega arith) (λ z. omega arith) (λ z. omega arith)

  -- ---- the spare words of a file's blocks
  module _ (f : ℕ) (cf : candidate π v f ≡ true) (wf : well_formed π v f ≡ true) where
    pub spare_at : (k w : ℕ) → present π v f k ≡ true → spare (spot π v f k) w ≡ pick (eqb k home) (tally_word w) (both (ltb k home) (leb (len v f) (first (child k w))))
    unfolding spare
    spare_at k w p =
        ap₂ (λ (j g : ℕ). pick (eqb j home) (tally_word w) (both (ltb j home) (leb (len v g) (first (child j w))))) (key_back π v f cf wf k p) (file_back π v f cf wf k p)

    pub spare_fib : (w : ℕ) → spare f w ≡ tally_word w
    spare_fib w = subst (λ (b : ℕ). spare b w ≡ tally_word w) (spot_home π v f) (spare_at home w (present_home π v f))

    pub spare_data : (k w : ℕ) → home < k → present π v f k ≡ true → spare (spot π v f k) w ≡ false
    unfolding both
    spare_data k w l p =
        spare_at k w p ∙ ap₂ (λ (t u : Bool). pick t (tally_word w) (both u (leb (len v f) (first (child k w))))) (ne_eqb k home (λ z. omega arith)) (le-ltb k home (omega arith))

    -- the entry of a key that L asks for is not spare
    pub spare_entry : (k x : ℕ) → k ≢ home → x < 2 → present π v f (up k) ≡ true → (first k < len v f) ⊎ (up k ≡ home) → spare (spot π v f (up k)) (slot k + x) ≡ false
    spare_entry k x n l p a = spare_at (up k) (slot k + x) p ∙ go (eqb (up k) home) refl a
      where
        go : (t : Bool) → eqb (up k) home ≡ t → (first k < len v f) ⊎ (up k ≡ home)
            → pick t (tally_word (slot k + x)) (both (ltb (up k) home) (leb (len v f) (first (child (up k) (slot k + x))))) ≡ false
        go true q a = let r = slot_fib k n (eqb-true (up k) home q) in tally_not (slot k + x) (λ z. omega (arith, r.1)) (omega (arith, r.1))
        go false q (inr z) = absurd (eqb-false (up k) home q z)
        go false q (inl z) =
            let c = child_slot k x (omega (arith, asked_low k (len v f) z, low_pos (len v f) (wf_of π v f wf).short)) (omega (arith, asked_high k (len v f) z, (wf_of π v f wf).short)) n l in
            both_no_2 _ _ (lt-leb _ _ (subst (λ (j : ℕ). first j < len v f) (sym c) z))

    -- what keeps f: its own blocks softly changed
    module _ (v' : View) (soft-at : (k : ℕ) → present π v f k ≡ true → Soft (spot π v f k) (v' (spot π v f k))) where
      pub soft_fib : Soft f (v' f)
      soft_fib = subst (λ (x : ℕ). Soft x (v' x)) (spot_home π v f) (soft-at home (present_home π v f))

      fib_word_is : (w : ℕ) → 8 ≤ w → w ≢ 257 → w < 261 → v f w ≡ v' f w
      fib_word_is w l n m = soft_fib.words w l (spare_fib w ∙ tally_not w n m)

      any_word : (w : ℕ) → 8 ≤ w → v f w ≡ v' f w
      unfolding tally_word
      any_word w l = soft_fib.words w l (spare_fib w)

      pub soft_kept : Kept π v v' f
      soft_kept = record {
        shape = record {
          length = fib_word_is 258 (omega arith) (λ z. omega arith) (omega arith);
          last = ap₂ (λ (x y : ℕ). x + 65536 * y) (fib_word_is 259 (omega arith) (λ z. omega arith) (omega arith)) (fib_word_is 260 (omega arith) (λ z. omega arith) (omega arith));
          used = any_word 257 (omega arith);
          lowest = any_word 261 (omega arith);
          low_at = ap₂ (λ (x y : ℕ). x + 65536 * y) (any_word 262 (omega arith)) (any_word 263 (omega arith));
          heads = λ k p. (soft-at k p).head;
          entries = λ k n p a. ap₂ (λ (x y : ℕ). x + 65536 * y) (rw add-zero at (word k n p a 0 (omega arith))) (word k n p a 1 (omega arith));
        };
        text = λ w l m. fib_word_is w l (λ z. omega arith) (omega arith);
        kind = fib_word_is 256 (omega arith) (λ z. omega arith) (omega arith);
        bytes = λ k l p w h. (soft-at k p).words w h (spare_data k w l p);
      }
        where
          word : (k : ℕ) → k ≢ home → present π v f (up k) ≡ true → (first k < len v f) ⊎ (up k ≡ home) → (x : ℕ) → x < 2
              → v (spot π v f (up k)) (slot k + x) ≡ v' (spot π v f (up k)) (slot k + x)
          word k n p a x l = (soft-at (up k) p).words (slot k + x) (omega (arith, slot_low k)) (spare_entry k x n l p a)
