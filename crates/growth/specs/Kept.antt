-- A write keeps the reserved bits of every address in the file's old blocks that still names its block: each of their entries is what
-- `address` makes of the one that stood there. Of last address and last negative address `Written` says it as it is.
use Rattle.std.specs.Prelude.{◌≡◌, ◌⊎◌, ◌≢◌, Bool, true, false, ℕ, ◌≤◌, ◌<◌}
use Rattle.std.proofs.Common.{sym, ap, ap₂, ◌∙◌, subst, inl, inr, arith}
use Rattle.base.specs.Tests.{pick}
use Rattle.drive.specs.Address.{lda, address}
use Rattle.drive.proofs.Names.{address_kept, nil_new}
use Rattle.image.specs.View.{View, pair}
use Rattle.volume.specs.Keys.{home, up, slot, first}
use Rattle.volume.specs.Files.{len, spot, present, entry}
use Rattle.volume.specs.declared.Partition.{Partition}
use Rattle.volume.proofs.Index.{wf_of}
use Rattle.volume.specs.Writes.{is_new, fresh, present', spot'}
use Rattle.growth.specs.Ready.{Tails, Ready}
use Rattle.growth.specs.Path.{placed, new_beyond}
use Rattle.growth.specs.Afterwards.{present_old, present_split, spot_new, spot_old, new_old}
use Rattle.growth.specs.Written.{Written}

module _ (π : Partition) (v : View) (f r : ℕ) (ok : Ready π v f r) (tails : Tails π v f) (W : View) (w : Written π v f r W) where
  -- a key's entry in an old block
  pub entry_kept : (k : ℕ) → k ≢ home → 0 < k → k < 37220 → present π v f (up k) ≡ true → present' π v f r k ≡ true
      → pair W (spot π v f (up k)) (slot k) ≡ address π.drive (entry π v f k) (spot' π v f r k)
  entry_kept k n a b p q =
      ap (λ (c : ℕ). pair W c (slot k)) (sym (spot_old π v f r (up k) holder)) ∙ w.entries k n a b (present_old π v f r (up k) p)
      ∙ ap (λ (t : Bool). pick (is_new π v f r k) (lda π.drive (fresh π v f r k)) (pick t 0 (entry π v f k))) holder
      ∙ go (present_split π v f r k q)
    where
      holder : is_new π v f r (up k) ≡ false
      holder = new_old π v f r ok.file (up k) p

      -- the entry of a new key stood nil; that of an old one names its block
      beyond : is_new π v f r k ≡ true → len v f ≤ first k
      beyond h = let at = placed π v f r ok.file k h in subst (λ (j : ℕ). len v f ≤ first j) (sym at.is) (new_beyond π v f r ok.file at.i at.less)

      go : (is_new π v f r k ≡ true) ⊎ (present π v f k ≡ true)
          → pick (is_new π v f r k) (lda π.drive (fresh π v f r k)) (entry π v f k) ≡ address π.drive (entry π v f k) (spot' π v f r k)
      go (inl h) =
          ap (λ (t : Bool). pick t (lda π.drive (fresh π v f r k)) (entry π v f k)) h
          ∙ sym (ap₂ (address π.drive) (tails k n a b p (beyond h)) (spot_new π v f r k h) ∙ nil_new π.drive 0 (fresh π v f r k) (omega arith))
      go (inr h) =
          let o = new_old π v f r ok.file k h in
          ap (λ (t : Bool). pick t (lda π.drive (fresh π v f r k)) (entry π v f k)) o
          ∙ sym (ap (address π.drive (entry π v f k)) (spot_old π v f r k o) ∙ address_kept π.drive (entry π v f k) (spot π v f k) ((wf_of π v f ok.file.formed).good k n h))
