-- Repair begun again: blocks that are each as they were, or as repair leaves them, hold the same files.
use Rattle.std.specs.Prelude.{◌≡◌, ◌⊎◌, Bool, ℕ, ◌<◌}
use Rattle.std.proofs.Math.Path.{refl, sym, ap}
use Rattle.std.proofs.Common.{◌∙◌, arith}
use Rattle.std.proofs.Math.Logic.{inl, inr}
use Rattle.std.proofs.Math.Bool.{true, false}
use Rattle.image.specs.View.{View, Rec, put, put2}
use Rattle.volume.specs.Files.{inside, owned, unowned}
use Rattle.volume.specs.declared.Partition.{Partition}
use Rattle.volume.proofs.Index.{owned_not_pib}
use Rattle.volume.proofs.Frame.{Clean, Agree}
use Rattle.frame.specs.Soft.{headed, headed_zero, Soft, Quiet, soft_refl}
use Rattle.volume.specs.Plans.{relinked, freed, repaired}
use Rattle.volume.proofs.Readings.{off_pib}
use Rattle.frame.proofs.Soft.{soft_agree}
use Rattle.frame.specs.Repair.{Mid, relinked_keeps, repaired_mine, repaired_free}

module _ (π : Partition) (v : View) where
  module _ (c : Clean π v) (v' : View) (m : Mid π v v') where
    -- a word that repair keeps
    keeps : (b w : ℕ) → owned π v b ≡ true → relinked π v b w ≡ v b w → v b w ≡ v' b w
    keeps b w o h = go (m b (owned_not_pib π v b o))
      where
        go : (v' b ≡ v b) ⊎ (v' b ≡ repaired π v (unowned π v) b) → v b w ≡ v' b w
        go (inl p) = sym (ap (λ (r : Rec). r w) p)
        go (inr p) = sym (ap (λ (r : Rec). r w) (p ∙ repaired_mine π v (unowned π v) b o) ∙ h)

    mid_soft : (b : ℕ) → owned π v b ≡ true → Soft π v b (v' b)
    mid_soft b o = record {
      head = record { low = low 0 (omega arith); high = low 1 (omega arith); rel = low 2 (omega arith) };
      words = λ w l k. keeps b w o (relinked_keeps π v b w (λ z. omega arith) (λ z. omega arith) (λ z. omega arith) (λ z. omega arith) (inr k));
    }
      where
        low : (w : ℕ) → w < 4 → v b w ≡ v' b w
        low w l = keeps b w o (relinked_keeps π v b w (λ z. omega arith) (λ z. omega arith) (λ z. omega arith) (λ z. omega arith) (inl (omega arith)))

    mid_free : (b : ℕ) → owned π v b ≡ false → (v' b ≡ v b) ⊎ (v' b ≡ repaired π v (unowned π v) b) → Quiet π v b (v' b)
    unfolding freed put put2
    mid_free b o (inl q) = inl (soft_refl π v b q)
    mid_free b o (inr q) = inr (o, ap (headed π b) (q ∙ repaired_free π v (unowned π v) b o) ∙ headed_zero π b (freed π v (unowned π v) b) refl)

    pub mid_quiet : (b : ℕ) → inside π b ≡ true → Quiet π v b (v' b)
    mid_quiet b i = go (owned π v b) refl
      where
        go : (t : Bool) → owned π v b ≡ t → Quiet π v b (v' b)
        go true o = inl (mid_soft b o)
        go false o = mid_free b o (m b (off_pib π b i))

    pub mid_agree : Agree π v v'
    mid_agree = soft_agree π v c v' mid_quiet

  -- each record that repair stores
  pub repaired_quiet : Clean π v → (b : ℕ) → inside π b ≡ true → Quiet π v b (repaired π v (unowned π v) b)
  repaired_quiet c b i = mid_quiet c (λ x. repaired π v (unowned π v) x) (λ x _. inr refl) b i
