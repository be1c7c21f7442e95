-- Answers that are the same have the same values.
use Rattle.std.specs.Prelude.{◌≡◌, ℕ, Some, Ok}
use Rattle.std.proofs.Common.{ap}
use Rattle.volume.specs.Outcome.{Outcome}

pub same_values : {x y : ℕ × ℕ × ℕ} → ◌≡◌ {A = Outcome} (Ok (Some x)) (Ok (Some y)) → (x.0 ≡ y.0) × (x.1 ≡ y.1) × (x.2 ≡ y.2)
same_values {x} {y} h =
    let p : x ≡ y = cc in
    (ap (λ (q : ℕ × ℕ × ℕ). q.0) p, ap (λ (q : ℕ × ℕ × ℕ). q.1) p, ap (λ (q : ℕ × ℕ × ℕ). q.2) p)
