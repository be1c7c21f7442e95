-- Laws of extract: the buffer grows by one block a turn. Assumes nothing.
use mathlib.Core.Path.{◌≡◌, refl, sym, ap, ◌∙◌}
use mathlib.Core.List.{List, ◌++◌, append_assoc}
use Prim.Native.Nat.{ℕ, ◌+◌, ◌-◌, ◌*◌, ◌≤◌, ◌<◌}
use native.Mathlib.Omega.{arith}
use native.Mathlib.Numerals.{add-one}
use lib.ListN.{length, take, drop, length-append, length-drop}
use lib.Seq.{take_all, take_at, length-take-le}
use Rattle.image.specs.Image.{view}
use Rattle.image.specs.Stores.{lay}
use Rattle.volume.specs.Files.{name}
use Rattle.volume.specs.declared.Partition.{Partition}
use Rattle.volume.specs.Answers.{block_bytes}
use Rattle.image.proofs.Laws.{span}
use Rattle.extract.specs.Into.{data_of, bytes_next}

-- the first r of k blocks stand in the buffer
pub record Copied (π : Partition) (l : List ℕ) (f k : ℕ) (buf : List ℕ) (r : ℕ) : Type 0 where
  pub low : r ≤ k
  pub long : length buf ≡ 512 * k
  pub bytes : take (512 * r) buf ≡ block_bytes π l f 0 r

module _ (π : Partition) (l : List ℕ) (f k : ℕ) where
  pub copied_none : (buf : List ℕ) → length buf ≡ 512 * k → Copied π l f k buf 0
  unfolding block_bytes
  copied_none buf h = record { low = omega arith; long = h; bytes = refl }

  pub copied_all : (buf : List ℕ) (r : ℕ) → Copied π l f k buf r → k ≤ r → buf ≡ block_bytes π l f 0 k
  copied_all buf r c h =
      let q : r ≡ k = let u = c.low in omega arith in
      let m : length buf ≤ 512 * k = let u = c.long in omega arith in
      sym (take_all (512 * k) buf m) ∙ (rw q at c.bytes)

  pub copied_next : (buf buf' : List ℕ) (r b : ℕ) → Copied π l f k buf r → r < k → b ≡ name π (view l) f r → 528 * b + 528 ≤ length l
      → buf' ≡ lay buf (512 * r) (take (528 * b + 16 + 512 - (528 * b + 16)) (drop (528 * b + 16) l))
      → Copied π l f k buf' (r + 1)
  unfolding lay
  copied_next buf buf' r b c h n i e = record { low = omega arith; long = all_long; bytes = rw joined (take_at front rest (512 * (r + 1)) front_long ∙ grown) }
    where
      block : List ℕ
      block = take 512 (drop (528 * b + 16) l)

      block_long : length block ≡ 512
      block_long = length-take-le 512 (drop (528 * b + 16) l) (rw length-drop (omega arith))

      front : List ℕ
      front = take (512 * r) buf ++ block

      rest : List ℕ
      rest = drop (512 * r + 512) buf

      joined : buf' ≡ front ++ rest
      joined = e ∙ rw (span, lay, block_long) (sym (append_assoc (take (512 * r) buf) block rest))

      front_long : length front ≡ 512 * (r + 1)
      front_long =
          let u = c.long in
          let x : length (take (512 * r) buf) ≡ 512 * r = length-take-le (512 * r) buf (omega arith) in
          rw length-append (omega (arith, block_long))

      all_long : length buf' ≡ 512 * k
      all_long =
          let u = c.long in
          let x = front_long in
          rw (joined, length-append, length-drop) (omega arith)

      grown : front ≡ block_bytes π l f 0 (r + 1)
      grown =
          let z : 0 + r ≡ r = omega arith in
          rw (c.bytes, n, add-one) (sym (bytes_next π l f 0 r ∙ ap (λ (x : ℕ). block_bytes π l f 0 r ++ data_of l (name π (view l) f x)) z))
