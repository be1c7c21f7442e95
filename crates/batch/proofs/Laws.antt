-- The search for the only good partition: what is found and what is ahead have the whole's answer.
use Rattle.std.proofs.Common.{◌≡◌, sym, ap, subst, Bool, true, false, List, [], ◌∷◌, ℕ, suc, ◌+◌, ◌-◌, ◌≤◌, ◌<◌, Option, Some, None, Result, Ok, Err, is_some, add-one, arith}
use Rattle.base.specs.Tests.{pick, those}
use Rattle.batch.specs.declared.judge.NoVerdict.{NoVerdict}
use Rattle.batch.specs.declared.judge.NoVerdict.TheVariants.{Several}
use Rattle.batch.specs.Found.{good, sole}

-- the block found, if one is, before those ahead
abbrev after : Option ℕ → List ℕ → List ℕ
after None xs = xs
after (Some f) xs = f ∷ xs

module _ (d : ℕ) (l : List ℕ) (n : ℕ) where
  -- the good blocks from s on, and what is to be answered
  abbrev ahead : ℕ → List ℕ
  ahead s = those s (n - s) (good d l)

  abbrev answer : Result (Option ℕ) NoVerdict
  answer = sole (those 0 n (good d l))

  -- of the n blocks those below s were looked at, and `found` is the good one of them, if there is one
  pub record Ahead (found : Option ℕ) (s : ℕ) : Type 0 where
    pub most : s ≤ n
    pub same : sole (after found (ahead s)) ≡ answer

module _ {d : ℕ} {l : List ℕ} {n : ℕ} where
  pub starts : Ahead d l n None 0
  starts = record { most = omega arith; same = ap (λ (k : ℕ). sole (those 0 k (good d l))) (let z : n - 0 ≡ n = omega arith in z) }

  module _ {found : Option ℕ} {s : ℕ} (a : Ahead d l n found s) (h : s < n) where
    -- the turn of a block that is good, or not
    turn : (t : Bool) → good d l s ≡ t → sole (after found (pick t (s ∷ ahead d l n (suc s)) (ahead d l n (suc s)))) ≡ answer d l n
    unfolding those
    turn t q =
        let step : n - s ≡ suc (n - suc s) = omega arith in
        rw (← q) (subst (λ (k : ℕ). sole (after found (those s k (good d l))) ≡ answer d l n) step a.same)

    pub second : good d l s ≡ true → is_some found ≡ true → Err Several ≡ answer d l n
    unfolding sole
    second q m = go found m (turn true q)
      where
        go : (o : Option ℕ) → is_some o ≡ true → sole (after o (s ∷ ahead d l n (suc s))) ≡ answer d l n → Err Several ≡ answer d l n
        go None m e = absurd (mathlib.Core.Bool.false≢true m)
        go (Some f) m e = e

    pub hit : good d l s ≡ true → is_some found ≡ false → Ahead d l n (Some s) (s + 1)
    hit q m = record { most = omega arith; same = rw add-one (go found m (turn true q)) }
      where
        go : (o : Option ℕ) → is_some o ≡ false → sole (after o (s ∷ ahead d l n (suc s))) ≡ answer d l n
            → sole (s ∷ ahead d l n (suc s)) ≡ answer d l n
        go None m e = e
        go (Some f) m e = absurd (mathlib.Core.Bool.false≢true (sym m))

    pub miss : good d l s ≡ false → Ahead d l n found (s + 1)
    miss q = record { most = omega arith; same = rw add-one (turn false q) }

  pub ends : {found : Option ℕ} {s : ℕ} → Ahead d l n found s → n ≤ s → Ok found ≡ answer d l n
  unfolding sole those
  ends {found} {s} a h = go found (let z : n - s ≡ 0 = omega arith in rw z at a.same)
    where
      go : (o : Option ℕ) → sole (after o []) ≡ answer d l n → Ok o ≡ answer d l n
      go None e = e
      go (Some f) e = e
