-- The free blocks of a sound partition, and what sets them apart from every file; a file's blocks, each another.
use Rattle.std.specs.Prelude.{◌≡◌, ◌≢◌, true, false, ℕ, ◌<◌}
use Rattle.std.proofs.Common.{sym, ap, ◌∙◌, true≢false}
use Rattle.base.specs.Tests.{occ}
use Rattle.drive.specs.Address.{pda_block}
use Rattle.drive.specs.Laws.{pda_back}
use Rattle.image.specs.View.{View}
use Rattle.volume.specs.Keys.{home}
use Rattle.volume.specs.Files.{inside, candidate, spot, present, well_formed, file_of, key, owned, free, free_head, sound}
use Rattle.volume.specs.declared.Partition.{Partition}
use Rattle.volume.proofs.Index.{spot_home, present_home, member_owned, key_back, member}
use Rattle.frame.specs.Soft.{cand_serial}
use Rattle.frame.specs.Sound.{sound_clean, free_in, free_not, head_free}

module _ (π : Partition) (v : View) (ok : sound π v ≡ true) where
  -- the first free block
  pub first_free : owned π v (free_head π v) ≡ false
  first_free = free_not π v ok (free_head π v) (head_free π v ok)

  pub first_in : inside π (free_head π v) ≡ true
  first_in = free_in π v ok (free_head π v) (head_free π v ok)

  -- a file and its blocks
  module _ (f : ℕ) (cf : candidate π v f ≡ true) where
    wf : well_formed π v f ≡ true
    wf = sound_clean π v ok f cf

    pub own_file : file_of π v f ≡ f
    own_file = ap (pda_block π.drive) (cand_serial π v f cf) ∙ pda_back π.drive f

    pub spot_in_inside : (k : ℕ) → present π v f k ≡ true → inside π (spot π v f k) ≡ true
    spot_in_inside k p = (member π v f cf wf k p).ins

    -- a free block is none of them
    pub free≢spot : (b k : ℕ) → 0 < occ b (free π v) → present π v f k ≡ true → b ≢ spot π v f k
    free≢spot b k m p z = true≢false (sym (member_owned π v f cf wf k p) ∙ ap (owned π v) (sym z) ∙ free_not π v ok b m)

    pub free≢fib : (b : ℕ) → 0 < occ b (free π v) → b ≢ f
    free≢fib b m z = free≢spot b home m (present_home π v f) (z ∙ sym (spot_home π v f))

    -- two keys, two blocks
    pub spot_unique : (j k : ℕ) → present π v f j ≡ true → present π v f k ≡ true → spot π v f j ≡ spot π v f k → j ≡ k
    spot_unique j k p q z = sym (key_back π v f cf wf j p) ∙ ap (key v) z ∙ key_back π v f cf wf k q

    pub spot≢fib : (k : ℕ) → present π v f k ≡ true → k ≢ home → spot π v f k ≢ f
    spot≢fib k p n z = n (spot_unique k home p (present_home π v f) (z ∙ sym (spot_home π v f)))
