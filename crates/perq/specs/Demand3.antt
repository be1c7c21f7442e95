-- Demand 3 in the terms of the exported calls' contracts. Each image here is what an exported call made of the one before it, with the
-- answer that it gave: `Changed` is the contract of the five changing calls, and the equation with `checked` that of check. The outcome 0
-- is PERQ_DONE. The count of stores made, which the stopped call answers, tells which of the two its file is.
use Rattle.volume.specs.Outcome.{Outcome}
use Rattle.std.specs.Prelude.{◌≡◌, refl, ◌≢◌, List, true, ℕ, ◌≤◌, ltb, length, take, Some, None, Ok, Err}
use Rattle.std.proofs.Common.{sym, ap, ◌∙◌, subst, arith}
use Rattle.base.specs.Tests.{pick}
use Rattle.volume.specs.Answers.{checked}
use Rattle.volume.specs.Calls.{Call, repair, Planned, planned, decided, Answered}
use Rattle.volume.specs.declared.Answer.{Answer}
use Rattle.crash.specs.Statement.{Image, Proper, is_done, Accepted, whole, SameFile, named}
use Rattle.crash.specs.Answering as inner
use Rattle.crash.proofs.Answering as proved
use Rattle.perq.specs.Flat.{flat, Changed}
use Rattle.perq.specs.declared.PerqAnswer.{PerqAnswer}

-- on drive d, the partition named by s
module _ (d s : ℕ) where
  -- changing calls, each under a limit that lets it make all its stores, turned l into m; a refused one leaves the image as it is
  pub data Called (l : List ℕ) : List ℕ → Type 0 where
    begun : Called l l
    called : {m m' : List ℕ} → Called l m → (c : Call) → Proper c → (limit : ℕ) (r : PerqAnswer) → length (planned d m s c).list ≤ limit
        → Changed limit (planned d m s c) m m' r → Called l m'

  -- repairs under any limits did
  pub data Repaired (l : List ℕ) : List ℕ → Type 0 where
    begun : Repaired l l
    mended : {m m' : List ℕ} → Repaired l m → (limit : ℕ) (r : PerqAnswer) → Changed limit (planned d m s repair) m m' r → Repaired l m'

  -- check of l answered a
  abbrev pub Checked : List ℕ → PerqAnswer → Type 0
  Checked l a = a ≡ flat 0 (checked d l s)

  -- call c on l answered r, and a last repair turned what came of it into l' and answered r'
  pub record Outlives (l : List ℕ) (c : Call) (r : PerqAnswer) (l' : List ℕ) (r' : PerqAnswer) : Type 0 where
    pub done : r'.outcome ≡ 0
    pub accepted : (a : PerqAnswer) → Checked l' a → a.outcome ≡ 0
    pub others : (f : ℕ) → named d s l c ≢ Some f → SameFile d s l l' f
    pub all_or_none : (f : ℕ) → named d s l c ≡ Some f → SameFile d s (pick (ltb 0 (decided (planned d l s c).deciding r.made)) (whole d s l c) l) l' f

-- ---- the answer's numbers

done_zero : (n : ℕ) (x : Outcome) → is_done x ≡ true → (flat n x).outcome ≡ 0
done_zero n (Ok (Some x)) q = refl
done_zero n (Ok None) q = let z : ◌≡◌ {A = ℕ} 0 1 = cc in absurd (omega arith)
done_zero n (Err y) q = let z : ◌≡◌ {A = ℕ} 0 1 = cc in absurd (omega arith)

zero_done : (n : ℕ) (x : Outcome) → (flat n x).outcome ≡ 0 → is_done x ≡ true
zero_done n (Ok (Some x)) q = refl
zero_done n (Ok None) q = absurd (omega arith)
zero_done n (Err y) q = absurd (omega arith)

flat_made : (n : ℕ) (x : Outcome) → (flat n x).made ≡ n
flat_made n (Ok (Some x)) = refl
flat_made n (Ok None) = refl
flat_made n (Err y) = refl

-- ---- the call below, and its answer

abbrev below : ℕ → Planned → Answer
below limit p = record { made = length (take limit p.list); outcome = p.outcome }

answered : {limit : ℕ} {p : Planned} {l l' : List ℕ} {r : PerqAnswer} → Changed limit p l l' r → Answered limit p l l' (below limit p)
answered h = record { outcome = refl; made = refl; image = h.image }

module _ {d s : ℕ} where
  calls_below : {l m : List ℕ} → Called d s l m → inner.Called d s l m
  calls_below begun = inner.begun
  calls_below (called {m} h c p limit r k x) = inner.called (calls_below h) c p limit (below limit (planned d m s c)) k (answered x)

  repairs_below : {l m : List ℕ} → Repaired d s l m → inner.Repaired d s l m
  repairs_below begun = inner.begun
  repairs_below (mended {m} h limit r x) = inner.mended (repairs_below h) limit (below limit (planned d m s repair)) (answered x)

passed : (d s : ℕ) (l : List ℕ) (a : PerqAnswer) → Checked d s l a → a.outcome ≡ 0 → Accepted d s l
passed d s l a q h = zero_done 0 (checked d l s) (sym (ap (λ (x : PerqAnswer). x.outcome) q) ∙ h)

passing : (d s : ℕ) (l : List ℕ) → Accepted d s l → (a : PerqAnswer) → Checked d s l a → a.outcome ≡ 0
passing d s l h a q = ap (λ (x : PerqAnswer). x.outcome) q ∙ done_zero 0 (checked d l s) h

-- ---- the theorems

-- a repair at any point answers "done", under any limit
pub never_refused : (d s : ℕ) (l m : List ℕ) → Image l → (a : PerqAnswer) → Checked d s l a → a.outcome ≡ 0 → Called d s l m → (c : Call) → Proper c
    → (limit : ℕ) (r : PerqAnswer) (m₁ : List ℕ) → Changed limit (planned d m s c) m m₁ r → (l' : List ℕ) → Repaired d s m₁ l'
    → (limit' : ℕ) (r' : PerqAnswer) (l'' : List ℕ) → Changed limit' (planned d l' s repair) l' l'' r' → r'.outcome ≡ 0
never_refused d s l m b a k o h c p limit r m₁ x l' y limit' r' l'' x' =
    ap (λ (z : PerqAnswer). z.outcome) x'.answers
    ∙ done_zero _ (planned d l' s repair).outcome (proved.never_refused d s l m b (passed d s l a k o) (calls_below h) c p limit _ m₁ (answered x) l' (repairs_below y) limit' _ l'' (answered x'))

-- and one that is let make all its stores ends as demand 3 says
pub demand_3_in_calls : (d s : ℕ) (l m : List ℕ) → Image l → (a : PerqAnswer) → Checked d s l a → a.outcome ≡ 0 → Called d s l m → (c : Call) → Proper c
    → (limit : ℕ) (r : PerqAnswer) (m₁ : List ℕ) → Changed limit (planned d m s c) m m₁ r → (l' : List ℕ) → Repaired d s m₁ l'
    → (limit' : ℕ) (r' : PerqAnswer) (l'' : List ℕ) → length (planned d l' s repair).list ≤ limit' → Changed limit' (planned d l' s repair) l' l'' r'
    → Outlives d s m c r l'' r'
demand_3_in_calls d s l m b a k o h c p limit r m₁ x l' y limit' r' l'' all x' = record {
  done = never_refused d s l m b a k o h c p limit r m₁ x l' y limit' r' l'' x';
  accepted = passing d s l'' z.accepted;
  others = z.others;
  all_or_none = λ f q. subst (λ (n : ℕ). SameFile d s (pick (ltb 0 (decided (planned d m s c).deciding n)) (whole d s m c) m) l'' f) (sym made) (z.all_or_none f q);
}
  where
    z : inner.Outlives d s m c (below limit (planned d m s c)) l'' (below limit' (planned d l' s repair))
    z = proved.demand_3_in_calls d s l m b (passed d s l a k o) (calls_below h) c p limit _ m₁ (answered x) l' (repairs_below y) limit' _ l'' all (answered x')

    made : r.made ≡ length (take limit (planned d m s c).list)
    made = ap (λ (q : PerqAnswer). q.made) x.answers ∙ flat_made _ (planned d m s c).outcome
