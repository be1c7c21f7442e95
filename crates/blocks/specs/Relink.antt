-- What the code reads of an owned block's file is what the definition of its record speaks of.
use Rattle.std.specs.Prelude.{◌≡◌, List, ℕ, ◌≤◌, ◌<◌}
use Rattle.std.proofs.Common.{ap, ◌∙◌}
use Rattle.std.proofs.Math.Bool.{true}
use Rattle.drive.specs.Address.{pda_block}
use Rattle.image.specs.View.{pair, put2}
use Rattle.image.specs.Image.{view}
use Rattle.volume.specs.Words.{serial_at, relative_at, next_at, previous_at}
use Rattle.volume.specs.Keys.{reach, key_of}
use Rattle.volume.specs.Files.{len, present, candidate, file_of, key, owned, above, below, link}
use Rattle.volume.specs.declared.Partition.{Partition}
use Rattle.volume.proofs.Index.{own, file_candidate}
use Rattle.volume.specs.Plans.{shaped, content, relinked}
use Rattle.inspect.specs.Parts.{Opened}
use Rattle.inspect.proofs.Laws.{opened_few}
use Rattle.links.proofs.Laws.{opened}
use Rattle.frame.specs.Fitted.{next_small, prev_small}
use Rattle.blocks.specs.Ready.{Ready}

-- block b is key k of file f, which has n blocks: the file can be read, the links are pairs of words, and the record that they make is
-- the definition's
pub record Filed (π : Partition) (l : List ℕ) (b f n k : ℕ) : Type 0 where
  pub opened : Opened π l f
  pub short : n ≤ reach
  pub here : present π (view l) f k ≡ true
  pub next : link π (view l) f (above π (view l) f k) < 4294967296
  pub previous : link π (view l) f (below π (view l) f k) < 4294967296
  pub is : put2 next_at (link π (view l) f (above π (view l) f k)) (put2 previous_at (link π (view l) f (below π (view l) f k)) (shaped n k (view l b))) ≡ relinked π (view l) b

-- b is owned, and its serial leads to f
module _ {π : Partition} {l : List ℕ} (b : ℕ) {x f : ℕ} (r : Ready π l) (o : owned π (view l) b ≡ true)
    (hx : x ≡ pair (view l) b serial_at) (hf : f ≡ pda_block π.drive x) where
  file_is : f ≡ file_of π (view l) b
  file_is = hf ∙ ap (pda_block π.drive) hx

  is_candidate : candidate π (view l) f ≡ true
  is_candidate = rw file_is (file_candidate π (view l) _ (own π (view l) b o).file)

  pub file_opened : Opened π l f
  file_opened = opened r.lies r.none f is_candidate

  pub filed : {n k : ℕ} → n ≡ len (view l) f → k ≡ key_of (view l b relative_at) → Filed π l b f n k
  unfolding key relinked content
  filed {n} {k} hn hk =
      let here : present π (view l) f k ≡ true = rw (file_is, hk) (own π (view l) b o).here in
      record {
        opened = file_opened;
        short = rw hn (opened_few file_opened);
        here = here;
        next = rw (file_is, hk) (next_small π (view l) r.lies.few b o);
        previous = rw (file_is, hk) (prev_small π (view l) r.lies.few b o);
        is = rw (hn, file_is, hk);
      }
