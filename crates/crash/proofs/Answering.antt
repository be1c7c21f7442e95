-- Demand 3 in the calls' own terms, proved.
use Rattle.std.specs.Prelude.{◌≡◌, refl, List, ◌∷◌, Bool, true, false, ℕ, ◌+◌, ◌≤◌, ◌<◌, ltb, take, length}
use Rattle.std.proofs.Common.{sym, ap, ◌∙◌, subst, arith, length-append, ltb-true, ltb-false, lt-ltb, take_all, length-take-le}
use Rattle.base.specs.Tests.{pick}
use Rattle.image.specs.View.{View, Store}
use Rattle.image.specs.Stores.{stored}
use Rattle.volume.specs.declared.Partition.{Partition}
use Rattle.volume.specs.Plans.{Plan, stores}
use Rattle.volume.specs.Calls.{Call, repair, Planned, planned, decided, Answered}
use Rattle.volume.specs.declared.Answer.{Answer}
use Rattle.crash.proofs.Settled.{Settled, refused, done}
use Rattle.crash.proofs.Accepting.{Sound, accepted_sound, settled}
use Rattle.crash.proofs.Theorem.{whole_kept, survived}
use Rattle.crash.specs.Statement.{Image, Proper, is_done, Accepted, whole, Repairs, none, again, SameFile, Survives}
use Rattle.crash.specs.Answering.{Called, Repaired, begun, called, mended, Outlives}

called_sound : {d s : ℕ} {l m : List ℕ} → Sound d s l → Called d s l m → Sound d s m
called_sound y begun = y
called_sound {d} {s} y (called {m} {m'} h c p limit a k x) =
    subst (Sound d s) (sym (x.image ∙ ap (λ (xs : List Store). stored xs m) (take_all limit (planned d m s c).list k))) (whole_kept (called_sound y h) c p)

repairs_of : {d s : ℕ} {l m : List ℕ} → Repaired d s l m → Repairs d s l m
repairs_of begun = none
repairs_of {d} {s} {l} (mended h limit a x) = subst (Repairs d s l) (sym x.image) (again (repairs_of h) limit)

before_in : (P : Plan) → length P.before < length (stores P)
unfolding stores
before_in P = omega (arith, length-append P.before (P.deciding ∷ P.rest))

-- as many of the deciding stores are below the limit as below the count made
decided_made : {π : Partition} {v : View} {f : ℕ} {E : View → Type 0} (x : Planned) → Settled π v f E x → (limit : ℕ)
    → decided x.deciding limit ≡ decided x.deciding (length (take limit x.list))
unfolding decided
decided_made _ (refused y) limit = refl
decided_made _ (done a P o) limit = ap (λ (t : Bool). pick t 1 0 + 0) (cut (ltb (length (stores P)) limit) refl)
  where
    n : ℕ
    n = length P.before

    inner : n < length (stores P)
    inner = before_in P

    cut : (t : Bool) → ltb (length (stores P)) limit ≡ t → ltb n limit ≡ ltb n (length (take limit (stores P)))
    cut true j =
        let k = ltb-true (length (stores P)) limit j in
        lt-ltb n limit (omega (arith, inner)) ∙ sym (ap (λ (xs : List Store). ltb n (length xs)) (take_all limit (stores P) (omega arith)) ∙ lt-ltb n (length (stores P)) inner)
    cut false j = sym (ap (ltb n) (length-take-le limit (stores P) (ltb-false (length (stores P)) limit j)))

-- a repair at any point answers done, under any limit
pub never_refused : (d s : ℕ) (l m : List ℕ) → Image l → Accepted d s l → Called d s l m → (c : Call) → Proper c
    → (limit : ℕ) (a : Answer) (m₁ : List ℕ) → Answered limit (planned d m s c) m m₁ a → (l' : List ℕ) → Repaired d s m₁ l'
    → (limit' : ℕ) (a' : Answer) (l'' : List ℕ) → Answered limit' (planned d l' s repair) l' l'' a' → is_done a'.outcome ≡ true
never_refused d s l m b k h c p limit a m₁ x l' r limit' a' l'' x' =
    let y = called_sound (accepted_sound d s l b k) h in
    ap is_done x'.outcome ∙ (survived y.held y.is c p limit l' (subst (λ (z : List ℕ). Repairs d s z l') x.image (repairs_of r))).not_refused

-- and one that is let make all its stores ends as demand 3 says
pub demand_3_in_calls : (d s : ℕ) (l m : List ℕ) → Image l → Accepted d s l → Called d s l m → (c : Call) → Proper c
    → (limit : ℕ) (a : Answer) (m₁ : List ℕ) → Answered limit (planned d m s c) m m₁ a → (l' : List ℕ) → Repaired d s m₁ l'
    → (limit' : ℕ) (a' : Answer) (l'' : List ℕ) → length (planned d l' s repair).list ≤ limit' → Answered limit' (planned d l' s repair) l' l'' a'
    → Outlives d s m c a l'' a'
demand_3_in_calls d s l m b k h c p limit a m₁ x l' r limit' a' l'' all x' = record {
  not_refused = never_refused d s l m b k h c p limit a m₁ x l' r limit' a' l'' x';
  accepted = subst (Accepted d s) (sym end) z.accepted;
  others = λ f q. subst (λ (e : List ℕ). SameFile d s m e f) (sym end) (z.others f q);
  all_or_none = λ f q. subst (λ (e : List ℕ). SameFile d s (pick (ltb 0 (decided (planned d m s c).deciding a.made)) (whole d s m c) m) e f) (sym end)
      (subst (λ (n : ℕ). SameFile d s (pick (ltb 0 n) (whole d s m c) m) (whole d s l' repair) f) (made ∙ ap (decided (planned d m s c).deciding) (sym x.made)) (z.all_or_none f q));
}
  where
    y : Sound d s m
    y = called_sound (accepted_sound d s l b k) h

    z : Survives d s m c limit l'
    z = survived y.held y.is c p limit l' (subst (λ (e : List ℕ). Repairs d s e l') x.image (repairs_of r))

    end : l'' ≡ whole d s l' repair
    end = x'.image ∙ ap (λ (xs : List Store). stored xs l') (take_all limit' (planned d l' s repair).list all)

    made : decided (planned d m s c).deciding limit ≡ decided (planned d m s c).deciding (length (take limit (planned d m s c).list))
    made = decided_made (planned d m s c) (settled y.held y.is c p) limit
