-- What the code that reads a file's links has of it: where no candidate is malformed every candidate is a file that can be read; which keys
-- a file has and which stands behind and before one; who owns a block. Assumes nothing.
use mathlib.Core.Path.{◌≡◌, refl, sym, ap, ◌∙◌}
use mathlib.Core.Logic.{◌≢◌}
use mathlib.Core.List.{List}
use mathlib.Core.Bool.{Bool, true, false}
use Prim.Native.Nat.{ℕ, ◌+◌, ◌≤◌, ◌<◌}
use native.Mathlib.Omega.{arith}
use lib.Dec.{eqb}
use borrow.Author.Tests.{eq-eqb, ne_eqb}
use Rattle.base.specs.Tests.{both}
use Rattle.base.specs.Laws.{both_of, eqb_swap}
use Rattle.drive.specs.Address.{pda, pda_block}
use Rattle.drive.specs.Laws.{pda_pos}
use Rattle.drive.specs.Ranges.{block_of, block_above}
use Rattle.image.specs.View.{View, pair}
use Rattle.image.specs.Image.{view}
use Rattle.volume.specs.Words.{serial_at, relative_at}
use Rattle.volume.specs.Keys.{home, reach, key_of, low}
use Rattle.volume.proofs.KeyLaws.{low_pos}
use Rattle.volume.specs.Files.{candidate, is_file, len, spot, present, above, below, least, link, file_of, key, owned}
use Rattle.volume.specs.declared.Partition.{Partition}
use Rattle.volume.proofs.Index.{present_low, present_high}
use Rattle.volume.specs.Closed.{has_key, next_key, prev_key}
use Rattle.volume.proofs.Closed.{present_closed, above_closed, below_closed, least_closed}
use Rattle.volume.specs.Answers.{Unmarred}
use Rattle.volume.specs.Reads.{Lies}
use Rattle.volume.proofs.Readings.{candidate_in}
use Rattle.volume.proofs.Steps.{both_no, both_no_2}
use Rattle.inspect.specs.Parts.{Opened}
use Rattle.inspect.proofs.Laws.{wf_opened, opened_few}
use Rattle.volume.proofs.Frame.{clean_of}

-- a candidate's index can be read
pub opened : {π : Partition} {l : List ℕ} → Lies π l → Unmarred π (view l) → (f : ℕ) → candidate π (view l) f ≡ true → Opened π l f
opened {π} {l} i none f c = wf_opened f i (candidate_in π (view l) f c).1 (clean_of π (view l) none f c)

pub is_file_of : (π : Partition) (v : View) → Unmarred π v → (f : ℕ) → candidate π v f ≡ true → is_file π v f ≡ true
unfolding is_file
is_file_of π v none f c = both_of c (clean_of π v none f c)

-- ---- the keys of an opened file, and with n blocks

module _ {π : Partition} {l : List ℕ} {f : ℕ} (o : Opened π l f) (k : ℕ) (p : present π (view l) f k ≡ true) where
  pub key_pos : 0 < k
  key_pos = omega (arith, present_low π (view l) f k p, low_pos (len (view l) f) (opened_few o))

  pub key_high : k ≤ home + len (view l) f
  key_high = present_high π (view l) f k p

  pub key_few : k < 65536
  key_few = omega (arith, key_high, opened_few o)

module _ {π : Partition} {l : List ℕ} {f n : ℕ} (o : Opened π l f) (q : n ≡ len (view l) f) where
  pub len_few : n ≤ reach
  len_few = omega (arith, q, opened_few o)

  -- what it has, the first of them, and which stands behind and before k
  pub has_is : {r : Bool} (k : ℕ) → r ≡ has_key n k → present π (view l) f k ≡ r
  has_is k j = present_closed π (view l) f o.formed k ∙ sym (j ∙ ap (λ (x : ℕ). has_key x k) q)

  pub first_is : {k : ℕ} → k ≡ low n → k ≡ least π (view l) f
  first_is j = j ∙ ap low q ∙ sym (least_closed π (view l) f o.formed)

  module _ (k : ℕ) (p : present π (view l) f k ≡ true) {j : ℕ} where
    pub next_is : j ≡ next_key n k → j ≡ above π (view l) f k
    next_is h = h ∙ ap (λ (x : ℕ). next_key x k) q ∙ sym (above_closed π (view l) f o.formed k p)

    pub prev_is : j ≡ prev_key n k → j ≡ below π (view l) f k
    prev_is h = h ∙ ap (λ (x : ℕ). prev_key x k) q ∙ sym (below_closed π (view l) f o.formed k p)

-- the link to a key
module _ (π : Partition) (v : View) (f k : ℕ) where
  pub link_nil : k ≡ 0 → 0 ≡ link π v f k
  unfolding link
  link_nil h = rw (eq-eqb k 0 h, link)

  pub link_is : {b y : ℕ} → k ≢ 0 → b ≡ spot π v f k → y ≡ pda π.drive b → y ≡ link π v f k
  unfolding link
  link_is n q j = j ∙ ap (pda π.drive) q ∙ sym (rw (ne_eqb k 0 n, link))

-- a test that tells whether two numbers are equal
pub tells_equal : (r : Bool) (x y : ℕ) → (r ≡ true → x ≡ y) → (r ≡ false → x ≢ y) → r ≡ eqb x y
tells_equal true x y g h = sym (eq-eqb x y (g refl))
tells_equal false x y g h = sym (ne_eqb x y (h refl))

-- ---- the ways through `owned`, which reads the serial x, the file f whose PDA it is, and the key k

module _ (π : Partition) (v : View) (b x : ℕ) (hx : x ≡ pair v b serial_at) where
  -- a serial that is not the PDA of the block that is guessed from it
  owned_not_serial : eqb (pda π.drive (pda_block π.drive x)) x ≡ false → false ≡ owned π v b
  unfolding owned
  owned_not_serial h = sym (both_no _ _ (rw hx at (eqb_swap x _ ∙ h)))

  pub owned_nil : x ≡ 0 → false ≡ owned π v b
  owned_nil h = owned_not_serial (ne_eqb (pda π.drive (pda_block π.drive x)) x (λ e. omega (arith, h, e, pda_pos π.drive (pda_block π.drive x))))

  module _ (f : ℕ) (hf : f ≡ block_of π.drive x) where
    pub owned_not_file : candidate π v f ≡ false → false ≡ owned π v b
    unfolding owned is_file
    owned_not_file h = go (eqb (pda π.drive (pda_block π.drive x)) x) refl
      where
        go : (t : Bool) → eqb (pda π.drive (pda_block π.drive x)) x ≡ t → false ≡ owned π v b
        go true q = sym (both_no_2 _ _ (both_no _ _ (both_no _ _ (rw (hf, q, hx) at h))))
        go false q = owned_not_serial q

    module _ (c : candidate π v f ≡ true) where
      that : (f ≡ pda_block π.drive x) × (x ≡ pda π.drive f)
      that = block_above π.drive x hf (candidate_in π v f c).0

      file_is : file_of π v b ≡ f
      file_is = sym (that.0 ∙ ap (pda_block π.drive) hx)

      module _ (k : ℕ) (hk : k ≡ key_of (v b relative_at)) where
        key_is : key v b ≡ k
        unfolding key
        key_is = sym hk

        pub owned_absent : present π v f k ≡ false → false ≡ owned π v b
        unfolding owned
        owned_absent h = sym (both_no_2 _ _ (both_no_2 _ _ (both_no _ _ (rw (file_is, key_is) h))))

        pub owned_here : {q : ℕ} → is_file π v f ≡ true → present π v f k ≡ true → q ≡ spot π v f k → eqb q b ≡ owned π v b
        unfolding owned both
        owned_here hc hp hq = rw (file_is, key_is, eq-eqb _ _ (sym hx ∙ that.1), hc, hp, hq, both)
