-- What a write of the block behind the last starts from, and that a sound partition with room has it.
use Rattle.std.specs.Prelude.{◌≡◌, refl, ◌≢◌, Bool, true, false, ℕ, suc, ◌-◌, ◌/◌, ◌≤◌, ◌<◌, eqb, length}
use Rattle.std.proofs.Common.{sym, ap, ◌∙◌, subst, arith, add-zero, eqb-true}
use Rattle.std.proofs.lemmas.Bool.{eqb-false}
use Rattle.image.specs.View.{View, pair}
use Rattle.volume.specs.Keys.{home, reach, up, slot, child, first}
use Rattle.volume.proofs.KeyLaws.{child_slot, slot_even, slot_high, up_most}
use Rattle.volume.specs.Files.{inside, candidate, len, spot, present, entry, well_formed, owned, free, sound}
use Rattle.volume.specs.declared.Partition.{Partition}
use Rattle.volume.proofs.Index.{WF, wf_of, entry_at, entry_fib}
use Rattle.volume.specs.Plans.{free_at}
use Rattle.volume.specs.Writes.{needs}
use Rattle.frame.proofs.FreeChain.{Links, links_of}
use Rattle.frame.specs.Sound.{sound_clean, sound_linked}
use Rattle.frame.specs.Taking.{taken, differ}

module _ (π : Partition) (v : View) (f : ℕ) where
  -- entries that L does not ask for are nil, in the FIB and in pointer blocks
  abbrev pub Tails : Type 0
  Tails = (k : ℕ) → k ≢ home → 0 < k → k < 37220 → present π v f (up k) ≡ true → len v f ≤ first k → entry π v f k ≡ 0

  tails_of : WF π v f → Links π v f → Tails
  tails_of w h k n a b p l = go (eqb (up k) home) refl
    where
      go : (t : Bool) → eqb (up k) home ≡ t → entry π v f k ≡ 0
      go true q = let e = eqb-true (up k) home q in entry_fib π v f k e ∙ w.nil k n e l
      go false q =
          let m : up k < home = omega (arith, up_most k, eqb-false (up k) home q) in
          let e = slot_even k m in
          let c = ap (child (up k)) (sym e ∙ sym (add-zero (slot k))) ∙ child_slot k 0 a b n (omega arith) in
          entry_at π v f k ∙ ap (pair v (spot π v f (up k))) e
          ∙ h.tail (up k) ((slot k - 8) / 2) m p (omega (arith, slot_high k)) (subst (λ (j : ℕ). len v f ≤ first j) (sym c) l)

  -- a well formed file, and block r behind its last
  pub record Behind (r : ℕ) : Type 0 where
    pub formed : well_formed π v f ≡ true
    pub next : r ≡ len v f
    pub far : r < reach

  -- besides, it is a candidate, and there is room: the first free blocks are unowned, and each another
  pub record Ready (r : ℕ) : Type 0 where
    pub cand : candidate π v f ≡ true
    pub file : Behind r
    pub room : (i : ℕ) → i ≤ needs π v f r → (inside π (free_at π v i) ≡ true) × (owned π v (free_at π v i) ≡ false)
    pub apart : (i j : ℕ) → i < j → j ≤ needs π v f r → free_at π v i ≢ free_at π v j

  module _ (so : sound π v ≡ true) (c : candidate π v f ≡ true) where
    pub sound_tails : Tails
    sound_tails = tails_of (wf_of π v f (sound_clean π v so f c)) (links_of π v f (sound_linked π v so f c))

    pub ready : (r : ℕ) → r ≡ len v f → r < reach → needs π v f r < length (free π v) → Ready r
    ready r q l m = record {
      cand = c;
      file = record { formed = sound_clean π v so f c; next = q; far = l };
      room = λ i n. taken π v so (suc (needs π v f r)) m i (omega arith);
      apart = λ i j n o. differ π v so (suc (needs π v f r)) m i j n (omega arith);
    }
