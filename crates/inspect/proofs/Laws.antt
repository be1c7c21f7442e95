-- What an index that can be read and an open file give the code that reads them, and where a shown block lies. Assumes nothing.
use Rattle.std.specs.Prelude.{Some, Result, Ok, Err}
use Rattle.base.specs.declared.Refusal.{Refusal}
use mathlib.Core.Path.{◌≡◌, refl, sym, ap, ap₂, ◌∙◌, subst}
use mathlib.Core.Logic.{◌≢◌}
use mathlib.Core.List.{List, [], ◌∷◌}
use mathlib.Core.Bool.{Bool, true, false}
use Prim.Native.Nat.{ℕ, ◌+◌, ◌-◌, ◌*◌, ◌/◌, ◌%◌, ◌≤◌, ◌<◌}
use native.Mathlib.Omega.{arith}
use lib.Dec.{ltb, eqb}
use lib.ListN.{length}
use borrow.Author.Tests.{ltb-true, ltb-false, eqb-true, eqb-false}
use Rattle.base.specs.Tests.{every}
use Rattle.drive.specs.Address.{pda, lda_block, is_lda}
use Rattle.drive.proofs.Names.{lda_bits}
use Rattle.image.specs.View.{View, pair}
use Rattle.image.specs.Image.{view}
use Rattle.volume.specs.Words.{relative_at, slot_at, direct_at}
use Rattle.volume.specs.Keys.{home, reach, number, up, slot, low}
use Rattle.volume.proofs.Same.{same_values}
use Rattle.volume.proofs.KeyLaws.{up_data, up_home, first_data, low_pos, near_keys, row_direct, row_data}
use Rattle.volume.specs.Files.{partition_of, inside, serial, candidate, well_formed, named, len, entry, spot, present, above, below, least}
use Rattle.volume.specs.declared.Partition.{Partition}
use Rattle.volume.proofs.Index.{wf_of, here_of, present_home, spot_home, spot_step, entry_at, entry_fib, present_low, present_high}
use Rattle.volume.proofs.Order.{above_next, below_prev, least_present}
use Rattle.volume.specs.Answers.{partition, in_partition, shown, show_in}
use Rattle.volume.specs.Reads.{Lies}
use Rattle.volume.proofs.Readings.{inside_of, lies, candidate_in}
use Rattle.inspect.specs.Form.{names, named_member, asked_named, low_here, ends, formed_index}
use Rattle.inspect.specs.Parts.{Opened, Readable}

-- ---- an entry, by what it names

module _ (π : Partition) (v : View) (f : ℕ) where
  named_is : (k : ℕ) → k ≢ home → named π v f k ≡ names π v (pda π.drive f) (entry π v f k) (number k)
  unfolding named names
  named_is k n =
      ap (λ (b : ℕ). every (is_lda π.drive (entry π v f k) b ∷ inside π b ∷ eqb (serial v b) (pda π.drive f) ∷ eqb (v b relative_at) (number k) ∷ []))
      (spot_step π v f k n)

  -- any key, by the block that holds its entry; block r below 64; entry j of pointer block i
  pub named_held : {q : ℕ} (k : ℕ) → k ≢ home → q ≡ spot π v f (up k) → named π v f k ≡ names π v (pda π.drive f) (pair v q (slot k)) (number k)
  named_held k n h =
      named_is k n ∙ ap (λ (x : ℕ). names π v (pda π.drive f) x (number k)) (entry_at π v f k ∙ ap (λ (x : ℕ). pair v x (slot k)) (sym h))

  pub named_direct : (r : ℕ) → r < 64 → named π v f (292 + r) ≡ names π v (pda π.drive f) (pair v f (direct_at r)) (number (292 + r))
  named_direct r l =
      let w = row_direct r l in
      named_is (292 + r) (λ z. omega arith) ∙ ap (λ (x : ℕ). names π v (pda π.drive f) x (number (292 + r))) (entry_fib π v f (292 + r) w.0 ∙ ap (pair v f) w.1)

  pub named_entry : (i j : ℕ) → j < 128 → named π v f (292 + (64 + 128 * i + j)) ≡ names π v (pda π.drive f) (pair v (spot π v f (288 - i)) (slot_at j)) (number (356 + 128 * i + j))
  named_entry i j l =
      let r = 64 + 128 * i + j in
      let w = row_data r (omega arith) in
      let a : 288 - (r - 64) / 128 ≡ 288 - i = omega arith in
      let b : 8 + 2 * ((r - 64) % 128) ≡ 8 + 2 * j = omega arith in
      named_is (292 + r) (λ z. omega arith)
      ∙ ap₂ (names π v (pda π.drive f)) (entry_at π v f (292 + r) ∙ ap₂ (λ (k x : ℕ). pair v (spot π v f k) x) (w.0 ∙ a) (w.1 ∙ b)) (ap number (let c : 292 + r ≡ 356 + 128 * i + j = omega arith in c))

  -- what code reads of that entry
  pub entry_is : {own q : ℕ} {r : Bool} (i j : ℕ) → own ≡ pda π.drive f → q ≡ spot π v f (288 - i) → j < 128
      → r ≡ names π v own (pair v q (slot_at j)) (number (356 + 128 * i + j)) → r ≡ named π v f (292 + (64 + 128 * i + j))
  entry_is i j a b l h = rw (a, b) at h ∙ sym (named_entry i j l)

  -- the block of a key, by the entry in the block that holds it
  pub spot_held : {q : ℕ} (k : ℕ) → k ≢ home → q ≡ spot π v f (up k) → spot π v f k ≡ lda_block π.drive (pair v q (slot k))
  spot_held k n h = spot_step π v f k n ∙ ap (lda_block π.drive) (entry_at π v f k ∙ ap (λ (x : ℕ). pair v x (slot k)) (sym h))

  -- the FIB holds what it names
  pub held_near : (k : ℕ) → 256 < k → k < 356 → f ≡ spot π v f (up k)
  held_near k a b = sym (ap (spot π v f) (near_keys k (omega arith) b) ∙ spot_home π v f)

-- the key over a data block from 64 on is a pointer block's
pub up_data_most : {u : ℕ} (k : ℕ) → 355 < k → u ≡ up k → u < 291
up_data_most k l h = omega (arith, h, up_data k l)

-- ---- an index that can be read

module _ {π : Partition} {l : List ℕ} {f : ℕ} (o : Readable π l f) where
  -- a present key's block lies in the partition
  read_in : (k : ℕ) → present π (view l) f k ≡ true → spot π (view l) f k ≤ π.e
  read_in k p = go (eqb k home) refl
    where
      go : (t : Bool) → eqb k home ≡ t → spot π (view l) f k ≤ π.e
      go true q = subst (λ (x : ℕ). x ≤ π.e) (sym (ap (spot π (view l) f) (eqb-true k home q) ∙ spot_home π (view l) f)) o.here
      go false q =
          let n = eqb-false k home q in
          let m = asked_named π (view l) f o.short o.good k n (here_of π (view l) f k n p).asked in
          (inside_of π (spot π (view l) f k) (named_member π (view l) f k m).ins).1

  -- and so its bits tell it
  pub read_bits : {q : ℕ} (k : ℕ) → present π (view l) f k ≡ true → k ≢ home → q ≡ spot π (view l) f (up k) → pair (view l) q (slot k) / 256 % 2097152 ≡ spot π (view l) f k
  read_bits {q} k p n h =
      let z = spot_held π (view l) f k n h in
      let m = asked_named π (view l) f o.short o.good k n (here_of π (view l) f k n p).asked in
      let i = inside_of π (spot π (view l) f k) (named_member π (view l) f k m).ins in
      lda_bits π.drive (pair (view l) q (slot k)) (rw z at i.0) (omega (arith, i.1, z, o.lies.few)) ∙ sym z

  pub read_is : (b k : ℕ) → present π (view l) f k ≡ true → b ≡ spot π (view l) f k → (b ≡ spot π (view l) f k) × (b ≤ π.e)
  read_is b k p q = (q, rw q (read_in k p))

  pub read_home : (k : ℕ) → k ≡ home → (f ≡ spot π (view l) f k) × (f ≤ π.e)
  read_home k q = (sym (ap (spot π (view l) f) q ∙ spot_home π (view l) f), o.here)

  -- what code asks of a present key and of its holder
  pub read_few : (k : ℕ) → present π (view l) f k ≡ true → (1 ≤ k) × (k < 33060)
  read_few k p = (omega (arith, present_low π (view l) f k p, low_pos (len (view l) f) o.short), omega (arith, present_high π (view l) f k p, o.short))

  pub holder_there : (k : ℕ) → present π (view l) f k ≡ true → present π (view l) f (up k) ≡ true
  holder_there k p = go (eqb k home) refl
    where
      go : (t : Bool) → eqb k home ≡ t → present π (view l) f (up k) ≡ true
      go true q = ap (present π (view l) f) (ap up (eqb-true k home q) ∙ up_home) ∙ present_home π (view l) f
      go false q = (here_of π (view l) f k (eqb-false k home q) p).held

  pub read_holder : (k : ℕ) → present π (view l) f k ≡ true → spot π (view l) f (up k) ≤ π.e
  read_holder k p = read_in (up k) (holder_there k p)

  -- the pointer block over data through which k is named, if there is one: its key u
  module _ (k : ℕ) (p : present π (view l) f k ≡ true) {u : ℕ} (far : 355 < k → u ≡ up k) where
    pub through_there : 355 < k → present π (view l) f u ≡ true
    through_there h = subst (λ (x : ℕ). present π (view l) f x ≡ true) (sym (far h)) (holder_there k p)

    pub through_inner : 355 < k → u ≢ home
    through_inner h z = omega (arith, z, up_data_most k h (far h))

    pub through_pos : (k ≤ 355 → u ≡ k) → 1 ≤ u
    through_pos near = go (ltb 355 k) refl
      where
        go : (t : Bool) → ltb 355 k ≡ t → 1 ≤ u
        go true q = (read_few u (through_there (ltb-true 355 k q))).0
        go false q = omega (arith, near (ltb-false 355 k q), (read_few k p).0)

  -- below block 4,160 the FIB names that pointer block, and u is read out of it
  pub read_near : {u q : ℕ} (k : ℕ) → present π (view l) f k ≡ true → 355 < k → k ≤ 4451 → u ≡ up k → q ≡ pair (view l) f (slot u) / 256 % 2097152 → q ≡ spot π (view l) f (up k)
  read_near {u} {q} k p a b h e =
      let w = up_data k a in
      e ∙ ap (λ (x : ℕ). pair (view l) f (slot x) / 256 % 2097152) h
      ∙ read_bits (up k) (holder_there k p) (λ z. omega (arith, z, w)) (held_near π (view l) f (up k) (omega (arith, w)) (omega (arith, w)))

  -- the last and the first of the links
  pub read_last : (n : ℕ) → n ≡ len (view l) f → present π (view l) f (home + n) ≡ true
  read_last n q = rw q (ends π (view l) f o.short o.good)

  pub read_low : (n k : ℕ) → n ≡ len (view l) f → k ≡ low n → present π (view l) f k ≡ true
  read_low n k q r = rw (r, q) (low_here π (view l) f o.short o.good)

-- ---- an open file

-- a well formed file of a good partition is open
pub wf_opened : {π : Partition} {l : List ℕ} (f : ℕ) → Lies π l → f ≤ π.e → well_formed π (view l) f ≡ true → Opened π l f
wf_opened f i h w = record { lies = i; here = h; formed = w }

module _ {π : Partition} {l : List ℕ} {f : ℕ} (o : Opened π l f) where
  pub opened_few : len (view l) f ≤ reach
  opened_few = (wf_of π (view l) f o.formed).short

  -- what the reader of L asks for
  pub opened_len : (528 * f + 528 ≤ length l) × (len (view l) f ≤ reach)
  opened_len = (omega (arith, o.here, o.lies.within), opened_few)

  -- block r below L + 1 is present
  pub opened_data : (r : ℕ) → r < len (view l) f → present π (view l) f (292 + r) ≡ true
  opened_data r h = (wf_of π (view l) f o.formed).full (292 + r) (omega (arith, first_data (292 + r) (omega arith)))

  -- its index can be read
  pub opened_read : Readable π l f
  opened_read = record { lies = o.lies; here = o.here; short = opened_few; good = formed_index π (view l) f o.formed }

  -- a present key's block lies in the partition
  pub opened_in : (k : ℕ) → present π (view l) f k ≡ true → spot π (view l) f k ≤ π.e
  opened_in = read_in opened_read

  -- so are its neighbours and the first and the last of the links
  pub opened_above : (k : ℕ) → present π (view l) f k ≡ true → (above π (view l) f k ≡ 0 → ⊥) → present π (view l) f (above π (view l) f k) ≡ true
  opened_above k p n = ((above_next π (view l) f k).hit n).0

  pub opened_below : (k : ℕ) → present π (view l) f k ≡ true → (below π (view l) f k ≡ 0 → ⊥) → present π (view l) f (below π (view l) f k) ≡ true
  opened_below k p n = ((below_prev π (view l) f k).hit n).0

  pub opened_least : present π (view l) f (least π (view l) f) ≡ true
  opened_least = (least_present π (view l) f o.formed).1

  pub opened_last : present π (view l) f (home + len (view l) f) ≡ true
  opened_last = (wf_of π (view l) f o.formed).ends

-- ---- show

-- the block that is shown lies in the image
pub shown_at : (π : Partition) (l : List ℕ) (f r : ℕ) (x : ℕ × ℕ × ℕ) → Lies π l → show_in π (view l) f r ≡ Ok (Some x) → x.0 + 512 ≤ length l
unfolding show_in
shown_at π l f r x i h = go (candidate π v f) refl (well_formed π v f) refl (ltb r reach) refl (ltb r (len v f)) refl
  where
    v : View
    v = view l

    go : (c : Bool) → candidate π v f ≡ c → (w : Bool) → well_formed π v f ≡ w → (t : Bool) → ltb r reach ≡ t → (u : Bool) → ltb r (len v f) ≡ u → x.0 + 512 ≤ length l
    go false c w y t m u j = let k = rw (c, show_in) at h in let z : ◌≡◌ {A = ℕ} 0 1 = cc in absurd (omega arith)
    go true c false y t m u j = let k = rw (c, y, show_in) at h in let z : ◌≡◌ {A = ℕ} 0 1 = cc in absurd (omega arith)
    go true c true y false m u j = let k = rw (c, y, m, show_in) at h in let z : ◌≡◌ {A = ℕ} 0 1 = cc in absurd (omega arith)
    go true c true y true m false j = let k = rw (c, y, m, j, show_in) at h in let z : ◌≡◌ {A = ℕ} 0 1 = cc in absurd (omega arith)
    go true c true y true m true j =
        let k = rw (c, y, m, j, show_in) at h in
        let q = (same_values k).0 in
        let o = wf_opened f i (candidate_in π v f c).1 y in
        let w = i.within in
        omega (arith, opened_in o (292 + r) (opened_data o r (ltb-true _ _ j)))

pub shown_in : (d : ℕ) (l : List ℕ) (s f r : ℕ) (x : ℕ × ℕ × ℕ) → shown d l s f r ≡ Ok (Some x) → x.0 + 512 ≤ length l
unfolding shown
shown_in d l s f r x h = go (partition d l s) refl
  where
    go : (q : Result ℕ Refusal) → partition d l s ≡ q → x.0 + 512 ≤ length l
    go (Err y) j = let k = rw (j, shown) at h in let z : ◌≡◌ {A = ℕ} 0 1 = cc in absurd (omega arith)
    go (Ok e) j = shown_at (partition_of d s e) l f r x (lies d l s e j) (rw (j, shown) at h)

pub length_512 : (a : ℕ) → a + 512 - a ≡ 512
length_512 a = omega arith

-- ---- an opened partition

-- what `open` ensures of an opened partition π, whose image is m: the partition at s of l ends at π.e, π is that partition, and m is l
module _ {d s : ℕ} {l m : List ℕ} {π : Partition} (o : (partition d l s ≡ Ok π.e) × (π.drive ≡ d) × (π.s ≡ s) × (m ≡ l)) where
  pub opened_end : (partition d l s ≡ Ok π.e) × (π ≡ partition_of d s π.e) × (m ≡ l)
  opened_end = (o.0, ap₂ (λ (x y : ℕ). partition_of x y π.e) o.1 o.2, o.3)

  -- what comes in a good partition is what comes in π
  pub in_opened : {A : Type 0} (otherwise : Refusal → A) (k : Partition → List ℕ → A) → in_partition otherwise (partition d l s) (λ e. k (partition_of d s e) l) ≡ k π m
  in_opened otherwise k = ap (λ (x : Result ℕ Refusal). in_partition otherwise x (λ e. k (partition_of d s e) l)) o.0 ∙ sym (ap₂ k opened_end.1 o.3)
