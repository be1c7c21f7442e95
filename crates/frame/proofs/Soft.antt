-- What keeps every file of a clean view: each block softly changed, or not owned and no candidate afterwards.
use Rattle.std.specs.Prelude.{◌≡◌, ℕ}
use Rattle.std.proofs.Common.{sym, ◌∙◌, inl, inr, true≢false}
use Rattle.std.proofs.Math.Bool.{true}
use Rattle.base.specs.Laws.{iff_eq}
use Rattle.image.specs.View.{View}
use Rattle.volume.specs.Files.{inside, candidate, spot, present, owned}
use Rattle.volume.specs.declared.Partition.{Partition}
use Rattle.volume.proofs.Index.{member_owned, owned_in}
use Rattle.volume.proofs.Frame.{Clean, Agree}
use Rattle.frame.specs.Soft.{headed_is, cand_same, cand_in, Soft, Quiet, soft_fib, soft_kept}

module _ (π : Partition) (v : View) where
  module _ (c : Clean π v) (v' : View) (m : (b : ℕ) → inside π b ≡ true → Quiet π v b (v' b)) where
    soft_own : (b : ℕ) → owned π v b ≡ true → Soft π v b (v' b)
    soft_own b h = go (m b (owned_in π v b h))
      where
        go : Quiet π v b (v' b) → Soft π v b (v' b)
        go (inl x) = x
        go (inr x) = absurd (true≢false (sym h ∙ x.0))

    at_own : (f : ℕ) → candidate π v f ≡ true → (k : ℕ) → present π v f k ≡ true → Soft π v (spot π v f k) (v' (spot π v f k))
    at_own f cf k p = soft_own _ (member_owned π v f cf (c f cf) k p)

    soft_cands : (f : ℕ) → candidate π v f ≡ candidate π v' f
    soft_cands f = iff_eq _ _ (λ h. sym (cand_same π v v' f (soft_fib π v f h (c f h) v' (at_own f h)).head) ∙ h) (λ h. go h (m f (cand_in π v' f h)))
      where
        go : candidate π v' f ≡ true → Quiet π v f (v' f) → candidate π v f ≡ true
        go h (inl x) = cand_same π v v' f x.head ∙ h
        go h (inr x) = absurd (true≢false (sym h ∙ headed_is π v' f ∙ x.1))

    pub soft_agree : Agree π v v'
    soft_agree = record { kept = λ f cf. soft_kept π v f cf (c f cf) v' (at_own f cf); cands = soft_cands }
