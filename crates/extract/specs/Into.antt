-- The buffer of extract by the partition's case, and the bytes of a file one block at a time.
use Rattle.std.specs.Prelude.{◌≡◌, List, ◌++◌, ℕ, zero, suc, ◌+◌, length, take, drop}
use Rattle.std.proofs.Common.{sym, ap, ◌∙◌, append_assoc, append-nil, arith}
use Rattle.image.specs.Image.{view}
use Rattle.volume.specs.Words.{data_offset}
use Rattle.volume.specs.Files.{partition_of, name}
use Rattle.volume.specs.declared.Partition.{Partition}
use Rattle.volume.specs.Answers.{partition, in_partition, block_bytes, extract_in, extract_into}

-- the buffer after extract
unfoldable pub extracted_into : ℕ → List ℕ → ℕ → ℕ → List ℕ → List ℕ
extracted_into d l s f buffer =
    in_partition (λ y. buffer) (partition d l s) (λ e. let π = partition_of d s e in extract_into π l f buffer (extract_in π (view l) f (length buffer)))

-- the 512 bytes of block b
abbrev pub data_of : List ℕ → ℕ → List ℕ
data_of l b = take 512 (drop (data_offset b) l)

-- one block more
pub bytes_next : (π : Partition) (l : List ℕ) (f r k : ℕ) → block_bytes π l f r (suc k) ≡ block_bytes π l f r k ++ data_of l (name π (view l) f (r + k))
unfolding block_bytes
bytes_next π l f r zero = append-nil _ ∙ ap (λ (n : ℕ). data_of l (name π (view l) f n)) (let z : r ≡ r + 0 = omega arith in z)
bytes_next π l f r (suc k) =
    ap (λ (x : List ℕ). data_of l (name π (view l) f r) ++ x) (bytes_next π l f (suc r) k ∙ ap (λ (n : ℕ). block_bytes π l f (suc r) k ++ data_of l (name π (view l) f n)) (let z : suc r + k ≡ r + suc k = omega arith in z))
    ∙ sym (append_assoc (data_of l (name π (view l) f r)) (block_bytes π l f (suc r) k) _)
