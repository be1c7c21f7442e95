-- Each exported call's contract settles all that the call gives: two answers that meet it on the same inputs are equal, and so are two
-- images or buffers after it. One law for each call, named after it; the words after the λ are the `ensures` of the function in src/, in
-- which an argument stands for what it holds at the start and `exit` for what the image, the buffer or the rows hold at the end.
use Rattle.std.specs.Prelude.{◌≡◌, List, ℕ, length}
use Rattle.std.proofs.Common.{sym, ◌∙◌}
use Rattle.drive.specs.Answers.{lbn_to_pda, pda_to_lbn, lbn_to_lda, lda_to_lbn, lbn_to_file_id, file_id_to_lbn}
use Rattle.image.specs.Stores.{lay}
use Rattle.volume.specs.Answers.{checked, next_file, shown, shown_pair, read_from, plain, read_into, described_as, described_into, extracted}
use Rattle.volume.specs.Names.{name_answer}
use Rattle.volume.specs.Calls.{planned, create, write, describe, destroy, repair}
use Rattle.extract.specs.Into.{extracted_into}
use Rattle.directory.specs.Directory.{look_up, treed}
use Rattle.perq.specs.Flat.{flat_converted, flat, flat_from, Changed}
use Rattle.perq.specs.declared.PerqAnswer.{PerqAnswer}

-- any two answers that meet a contract are equal
abbrev pub OneAnswer : (PerqAnswer → Type 0) → Type 0
OneAnswer Meets = (a a' : PerqAnswer) → Meets a → Meets a' → a ≡ a'

-- any two answers that meet it, each with the bytes after it, are equal, and so are the bytes
abbrev pub OneAnswerAfter : (PerqAnswer → List ℕ → Type 0) → Type 0
OneAnswerAfter Meets = (a a' : PerqAnswer) (exit exit' : List ℕ) → Meets a exit → Meets a' exit' → (a ≡ a') × (exit ≡ exit')

same : {A : Type 0} {x y z : A} → x ≡ z → y ≡ z → x ≡ y
same p q = p ∙ sym q

-- ---- conversions

module _ (drive : ℕ) where
  pub perq_lbn_to_pda_unique : (lbn : ℕ) → OneAnswer (λ r. r ≡ flat_converted (lbn_to_pda drive lbn))
  perq_lbn_to_pda_unique lbn r r' p q = same p q

  pub perq_pda_to_lbn_unique : (pda : ℕ) → OneAnswer (λ r. r ≡ flat_converted (pda_to_lbn drive pda))
  perq_pda_to_lbn_unique pda r r' p q = same p q

  pub perq_lbn_to_lda_unique : (lbn : ℕ) → OneAnswer (λ r. r ≡ flat_converted (lbn_to_lda drive lbn))
  perq_lbn_to_lda_unique lbn r r' p q = same p q

  pub perq_lda_to_lbn_unique : (lda : ℕ) → OneAnswer (λ r. r ≡ flat_converted (lda_to_lbn drive lda))
  perq_lda_to_lbn_unique lda r r' p q = same p q

  pub perq_lbn_to_fileid_unique : (lbn : ℕ) → OneAnswer (λ r. r ≡ flat_converted (lbn_to_file_id drive lbn))
  perq_lbn_to_fileid_unique lbn r r' p q = same p q

  pub perq_fileid_to_lbn_unique : (fileid : ℕ) → OneAnswer (λ r. r ≡ flat_converted (file_id_to_lbn drive fileid))
  perq_fileid_to_lbn_unique fileid r r' p q = same p q

-- ---- the calls that change nothing

module _ (image : List ℕ) (drive s : ℕ) where
  pub perq_check_unique : OneAnswer (λ a. a ≡ flat 0 (checked drive image s))
  perq_check_unique a a' p q = same p q

  pub perq_next_file_unique : (after : ℕ) → OneAnswer (λ a. a ≡ flat 0 (next_file drive image s after))
  perq_next_file_unique after a a' p q = same p q

  pub perq_show_unique : (f r : ℕ) → OneAnswer (λ a. a ≡ flat 0 (shown drive image s f r))
  perq_show_unique f r a a' p q = same p q

  pub perq_read_unique : (f r : ℕ) (buffer : List ℕ) → OneAnswerAfter (λ a exit.
      (a ≡ flat 0 (plain (read_from drive image s f r (length buffer)))) × (exit ≡ read_into image buffer (read_from drive image s f r (length buffer))))
  perq_read_unique f r buffer a a' b b' p q = (same p.0 q.0, same p.1 q.1)

  pub perq_description_unique : (f : ℕ) (buffer : List ℕ) → OneAnswerAfter (λ a exit.
      (a ≡ flat 0 (described_as drive image s f (length buffer))) × (exit ≡ described_into image f buffer (described_as drive image s f (length buffer))))
  perq_description_unique f buffer a a' b b' p q = (same p.0 q.0, same p.1 q.1)

  pub perq_extract_unique : (f : ℕ) (buffer : List ℕ) → OneAnswerAfter (λ a exit.
      (a ≡ flat 0 (extracted drive image s f (length buffer))) × (exit ≡ extracted_into drive image s f buffer))
  perq_extract_unique f buffer a a' b b' p q = (same p.0 q.0, same p.1 q.1)

  pub perq_look_up_unique : (rule path : List ℕ) → OneAnswer (λ a. a ≡ flat 0 (look_up drive image s rule path))
  perq_look_up_unique rule path a a' p q = same p q

  pub perq_tree_unique : (rule rows : List ℕ) → OneAnswerAfter (λ a exit.
      (a ≡ flat 0 (treed drive image s rule (length rows)).outcome) × (exit ≡ lay rows 0 (treed drive image s rule (length rows)).rows))
  perq_tree_unique rule rows a a' b b' p q = (same p.0 q.0, same p.1 q.1)

pub perq_show_pair_unique : (original repaired : List ℕ) (drive s f r : ℕ) → OneAnswer (λ a.
    a ≡ flat_from (shown_pair drive original repaired s f r).image (shown_pair drive original repaired s f r).outcome)
perq_show_pair_unique original repaired drive s f r a a' p q = same p q

pub perq_name_unique : (buffer : List ℕ) → OneAnswer (λ a. a ≡ flat 0 (name_answer buffer))
perq_name_unique buffer a a' p q = same p q

-- ---- the calls that change the image

module _ (image : List ℕ) (drive s : ℕ) where
  pub perq_create_unique : (kind limit : ℕ) → OneAnswerAfter (λ a exit. Changed limit (planned drive image s (create kind)) image exit a)
  perq_create_unique kind limit a a' l l' p q = (same p.answers q.answers, same p.image q.image)

  pub perq_write_unique : (f r : ℕ) (buffer : List ℕ) (limit : ℕ) → OneAnswerAfter (λ a exit. Changed limit (planned drive image s (write f r buffer)) image exit a)
  perq_write_unique f r buffer limit a a' l l' p q = (same p.answers q.answers, same p.image q.image)

  pub perq_describe_unique : (f : ℕ) (buffer : List ℕ) (limit : ℕ) → OneAnswerAfter (λ a exit. Changed limit (planned drive image s (describe f buffer)) image exit a)
  perq_describe_unique f buffer limit a a' l l' p q = (same p.answers q.answers, same p.image q.image)

  pub perq_destroy_unique : (f limit : ℕ) → OneAnswerAfter (λ a exit. Changed limit (planned drive image s (destroy f)) image exit a)
  perq_destroy_unique f limit a a' l l' p q = (same p.answers q.answers, same p.image q.image)

  pub perq_repair_unique : (limit : ℕ) → OneAnswerAfter (λ a exit. Changed limit (planned drive image s repair) image exit a)
  perq_repair_unique limit a a' l l' p q = (same p.answers q.answers, same p.image q.image)
