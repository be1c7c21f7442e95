-- Whether a number is the address of a block, by the ranges of its parts: no place is numbered again, so a program that asks the parts
-- divides by the units alone. Proved once over the numbers of a code to be the rule of specs/Code: guess, number again, compare.
use Rattle.std.specs.Prelude.{◌≡◌, Bool, ℕ, ◌+◌, ◌-◌, ◌*◌, ◌/◌, ◌%◌, ◌<◌, ◌≤◌, ltb, leb}
use Rattle.std.proofs.Math.Path.{refl, sym, ap}
use Rattle.std.proofs.Common.{◌∙◌, mod-lt, arith}
use Rattle.std.proofs.Math.Bool.{true, false}
use Rattle.std.proofs.Math.Nat.{div-add-mod'}
use Rattle.std.proofs.Math.Arith.{digits_div, digits_mod}
use Rattle.std.proofs.Math.Dec.{eqb}
use borrow.Author.Tests.{ltb-true, lt-ltb, eqb-true, eq-eqb, eqb-false, ne_eqb, leb-true, leb-false}
use Rattle.base.specs.Tests.{both, pick}
use Rattle.base.specs.Laws.{both_left, both_right, both_of, both_true, eqb_swap}
use Rattle.drive.specs.Code.{Code, Good, place_number, guess, encode}
use Rattle.drive.specs.Rows.{Row, pda_code}
use Rattle.drive.specs.Address.{blocks, pda, pda_block}
use Rattle.drive.specs.Answers.{converted, pda_to_lbn}
use Rattle.drive.specs.Laws.{row_of, on_row, fine, guess_place, in_track, in_cylinder, pda_back}

-- the track that p has is one of a cylinder's, its sector one of a track's, and what is left is the first sector's number
unfoldable pub in_range : Code → ℕ → Bool
in_range k p =
    both (both (ltb (p % k.cylinder / k.track) k.tracks) (ltb (p % k.cylinder % k.track / k.step) k.sectors))
    (eqb (p % k.cylinder % k.track % k.step) k.first)

-- p is the address of block b: its parts are in range, and the place guessed from it is b's
abbrev pub is_address : Code → ℕ → ℕ → Bool
is_address k p b = both (in_range k p) (eqb (guess k p) (b + k.offset))

-- the place whose number p is; 0, which is no block's, where p is no place's
abbrev pub place_of : Code → ℕ → ℕ
place_of k p = pick (in_range k p) (guess k p) 0

module _ (k : Code) (g : Good k) where
  -- a place's number has its parts in range
  range_of : (x : ℕ) → in_range k (place_number k x) ≡ true
  unfolding in_range place_number
  range_of x =
      rw (
        digits_mod (x / k.sectors / k.tracks) (in_cylinder k g x),
        digits_div (x / k.sectors % k.tracks) (in_track k g x),
        digits_mod (x / k.sectors % k.tracks) (in_track k g x),
        digits_div (x % k.sectors) g.first_below,
        digits_mod (x % k.sectors) g.first_below,
      )
      (both_of (both_of (lt-ltb _ _ (mod-lt (x / k.sectors) g.some_track)) (lt-ltb _ _ (mod-lt x g.some_sector))) (eq-eqb k.first k.first refl))

  -- and a number with its parts in range is that of the place that is guessed from it
  place_of_number : (p : ℕ) → in_range k p ≡ true → place_number k (guess k p) ≡ p
  unfolding in_range place_number guess
  place_of_number p h =
      let t : p % k.cylinder / k.track < k.tracks = ltb-true _ _ (both_left _ _ (both_left _ _ h)) in
      let s : p % k.cylinder % k.track / k.step < k.sectors = ltb-true _ _ (both_right _ _ (both_left _ _ h)) in
      let r : p % k.cylinder % k.track % k.step ≡ k.first = eqb-true _ _ (both_right _ _ h) in
      rw (
        digits_div (p / k.cylinder * k.tracks + p % k.cylinder / k.track) s,
        digits_mod (p / k.cylinder * k.tracks + p % k.cylinder / k.track) s,
        digits_div (p / k.cylinder) t,
        digits_mod (p / k.cylinder) t,
        sym r,
        div-add-mod' (p % k.cylinder % k.track) k.step,
        div-add-mod' (p % k.cylinder) k.track,
        div-add-mod' p k.cylinder,
      )

  -- so asking the parts is comparing with the address
  pub address_is : (p b : ℕ) → is_address k p b ≡ eqb p (encode k b)
  address_is p b = go (eqb p (encode k b)) refl
    where
      back : is_address k p b ≡ true → p ≡ encode k b
      back h = sym (place_of_number p (both_left _ _ h)) ∙ ap (place_number k) (eqb-true _ _ (both_right _ _ h))

      none : (t : Bool) → is_address k p b ≡ t → (p ≡ encode k b → ⊥) → t ≡ false
      none true q h = absurd (h (back q))
      none false q h = refl

      go : (t : Bool) → eqb p (encode k b) ≡ t → is_address k p b ≡ t
      go true q = ap (λ (y : ℕ). is_address k y b) (eqb-true _ _ q) ∙ both_of (range_of (b + k.offset)) (eq-eqb _ _ (guess_place k g (b + k.offset)))
      go false q = none (is_address k p b) refl (eqb-false _ _ q)

  -- the place whose number p is, asked of the parts, is b's where p is the address of b
  pub place_is : (p b : ℕ) → 0 < k.offset → eqb (place_of k p) (b + k.offset) ≡ eqb p (encode k b)
  unfolding both
  place_is p b o = go (in_range k p) ∙ address_is p b
    where
      go : (t : Bool) → eqb (pick t (guess k p) 0) (b + k.offset) ≡ both t (eqb (guess k p) (b + k.offset))
      go true = refl
      go false = ne_eqb 0 (b + k.offset) (λ e. omega (arith, o, e))

-- ---- on every drive

-- c, t and s are the cylinder, track and sector of x by the units of a row, which has so many tracks and sectors, and what is left of x is
-- the first sector's number
pub record Parts (g : Row) (x c t s tracks sectors : ℕ) : Type 0 where
  pub cylinder_is : c ≡ x / g.cylinder
  pub track_is : t ≡ x % g.cylinder / g.track
  pub sector_is : s ≡ x % g.cylinder % g.track / g.step
  pub rest_is : x % g.cylinder % g.track % g.step ≡ g.first
  pub tracks_are : tracks ≡ g.tracks
  pub sectors_are : sectors ≡ g.sectors

-- a test beside one that fails
never : (t : Bool) → both t false ≡ false
unfolding both
never true = refl
never false = refl

module _ (g : Row) (x : ℕ) where
  pub place_by : {c t s tracks sectors : ℕ} → Parts g x c t s tracks sectors
      → pick (both (ltb t tracks) (ltb s sectors)) ((c * tracks + t) * sectors + s) 0 ≡ place_of (pda_code g) x
  unfolding in_range guess
  place_by h = rw (h.cylinder_is, h.track_is, h.sector_is, h.tracks_are, h.sectors_are, eq-eqb _ _ h.rest_is, both_true (both (ltb _ _) (ltb _ _)))

  pub place_none : (x % g.cylinder % g.track % g.step ≡ g.first → ⊥) → 0 ≡ place_of (pda_code g) x
  unfolding in_range
  place_none h = rw (ne_eqb _ _ h, never (both (ltb _ _) (ltb _ _)))

module _ (d x : ℕ) where
  -- x is the PDA of b, and x converts, by the place that it names
  pub pda_is : (b : ℕ) → eqb (place_of (pda_code (row_of d)) x) (b + (row_of d).boot) ≡ eqb x (pda d b)
  unfolding pda
  pda_is b = place_is (pda_code (row_of d)) (fine d).pda_good x b (fine d).pda_off ∙ ap (eqb x) (sym (on_row (λ g. encode (pda_code g) b) d))

-- the block whose PDA x is; 0 where it is no block's, and for block 0, which is in no partition
abbrev pub block_of : ℕ → ℕ → ℕ
block_of d x = pick (eqb (pda d (pda_block d x)) x) (pda_block d x) 0

-- p is the place that x names, and o places come before block 0
module _ (d x : ℕ) {p o : ℕ} (hp : p ≡ place_of (pda_code (row_of d)) x) (ho : o ≡ (row_of d).boot) where
  pda_at : (b : ℕ) → eqb p (b + o) ≡ eqb (pda d b) x
  pda_at b = rw (hp, ho) (pda_is d x b) ∙ eqb_swap x (pda d b)

  -- in the boot area x is no block's PDA, and behind it that of the block there
  none_there : p < o → eqb (pda d (pda_block d x)) x ≡ false
  none_there h = sym (pda_at (pda_block d x)) ∙ ne_eqb p _ (λ e. omega (arith, h, e))

  that_block : o ≤ p → pda d (p - o) ≡ x
  that_block h = eqb-true _ _ (sym (pda_at (p - o)) ∙ eq-eqb p _ (omega (arith, h)))

  block_there : o ≤ p → pda_block d x ≡ p - o
  block_there h = ap (pda_block d) (sym (that_block h)) ∙ pda_back d (p - o)

  one_there : o ≤ p → eqb (pda d (pda_block d x)) x ≡ true
  one_there h = eq-eqb _ _ (ap (pda d) (block_there h) ∙ that_block h)

  -- the conversion, and the block of a walk, by that place
  pub boot_converts : p < o → converted d false 0 ≡ pda_to_lbn d x
  unfolding pda_to_lbn
  boot_converts h = rw (none_there h, never (ltb (pda_block d x) (blocks d)))

  pub place_converts : o ≤ p → {n : ℕ} → n ≡ blocks d → converted d (ltb (p - o) n) (p - o) ≡ pda_to_lbn d x
  unfolding pda_to_lbn
  place_converts h hn = rw (one_there h, block_there h, both_true (ltb (p - o) (blocks d)), hn)

  pub place_block : p - o ≡ block_of d x
  place_block = go (leb o p) refl
    where
      go : (t : Bool) → leb o p ≡ t → p - o ≡ block_of d x
      go true q = let h = leb-true o p q in rw (one_there h, block_there h)
      go false q = let h = leb-false o p q in rw (none_there h) (omega (arith, h))

-- what a walk has of the block that a link leads to
module _ (d x : ℕ) {c s : ℕ} (h : c ≡ block_of d x) where
  -- above another block it is the one whose PDA x is
  pub block_above : s < c → (c ≡ pda_block d x) × (x ≡ pda d c)
  block_above l = go (eqb (pda d (pda_block d x)) x) refl
    where
      go : (t : Bool) → eqb (pda d (pda_block d x)) x ≡ t → (c ≡ pda_block d x) × (x ≡ pda d c)
      go true q = let e : c ≡ pda_block d x = h ∙ rw q in (e, sym (ap (pda d) e ∙ eqb-true _ _ q))
      go false q = let e : c ≡ 0 = h ∙ rw q in absurd (omega (arith, l, e))
