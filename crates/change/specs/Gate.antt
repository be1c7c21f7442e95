-- The gate of the changing calls: refusals 1, 2, 3, 12, 4 and 5, on the unchanged image, and what lies behind it.
use Rattle.std.specs.Prelude.{◌≡◌, refl, ◌≢◌, Bool, true, false, List, ℕ, ◌/◌, ◌≤◌, length, Option, Some, None, Result, Ok, Err}
use Rattle.std.proofs.Common.{sym, ap, ◌∙◌, subst, arith}
use Rattle.base.specs.Tests.{pick}
use Rattle.base.specs.declared.Refusal.{Refusal}
use Rattle.base.specs.declared.Refusal.TheVariants.{BadImage, BadPartition, BadBuffer, Malformed, Unsound, BadName}
use Rattle.base.specs.Refusals.{number}
use Rattle.image.specs.View.{View}
use Rattle.image.specs.Image.{view}
use Rattle.volume.specs.declared.Unfit.TheVariants.{Length, Name}
use Rattle.volume.specs.Files.{partition_of, sound}
use Rattle.volume.specs.declared.Partition.{Partition}
use Rattle.volume.specs.Answers.{image_good, part_good, end_of, partition, lowest_malformed, Unmarred}
use Rattle.volume.specs.Calls.{Planned, refuse, through}
use Rattle.volume.specs.Reads.{Lies}
use Rattle.volume.proofs.Readings.{lies}
use Rattle.volume.specs.Outcome.{Lent, unfit_refusal}

-- 4 and 5
abbrev pub when_clean : Partition → View → Option ℕ → Result ℕ Refusal
when_clean π v (Some f) = Err (Malformed f)
when_clean π v None = pick (sound π v) (Ok π.e) (Err Unsound)

-- 3 and 12, and then 4 and 5
abbrev pub when_lent : Partition → View → Lent → Result ℕ Refusal
when_lent π v (Ok u) = when_clean π v (lowest_malformed π v)
when_lent π v (Err w) = Err (unfit_refusal w)

-- 1 and 2, and then the rest
abbrev pub when_good : ℕ → List ℕ → ℕ → Lent → Result ℕ Refusal → Result ℕ Refusal
when_good d l s lent (Ok e) = when_lent (partition_of d s e) (view l) lent
when_good d l s lent (Err y) = Err y

-- the end of the sound partition at s, or the first refusal that applies
unfoldable pub gate : ℕ → List ℕ → ℕ → Lent → Result ℕ Refusal
gate d l s lent = when_good d l s lent (partition d l s)

-- what a gate for a lent buffer came to
pub gate_at : (d : ℕ) (l : List ℕ) (s : ℕ) {x y : Lent} {r p : Result ℕ Refusal} → r ≡ gate d l s x → x ≡ y → r ≡ p → gate d l s y ≡ p
gate_at d l s h q k = rw (← q) (sym h ∙ k)

-- what lies behind an open gate
pub record Opens (π : Partition) (l : List ℕ) : Type 0 where
  pub good : partition π.drive l π.s ≡ Ok π.e
  pub lies : Lies π l
  pub clean : Unmarred π (view l)
  pub sound : sound π (view l) ≡ true

-- a call goes through an open gate, and is refused at a shut one
pub record Enters (d : ℕ) (l : List ℕ) (s : ℕ) (lent : Lent) (k : Partition → Planned) (e : ℕ) : Type 0 where
  pub opens : Opens (partition_of d s e) l
  pub fine : lent ≡ Ok tt
  pub goes : through d l s lent k ≡ k (partition_of d s e)

-- a partition is refused by 1 or 2
part_number : (d : ℕ) (l : List ℕ) (s : ℕ) (y : Refusal) → partition d l s ≡ Err y → number y ≤ 2
unfolding partition
part_number d l s y h = go (image_good d (length l)) refl (part_good d (length l / 528) (view l) s) refl
  where
    go : (t : Bool) → image_good d (length l) ≡ t → (u : Bool) → part_good d (length l / 528) (view l) s ≡ u → number y ≤ 2
    go true p true q = let z : Ok (end_of d (view l) s) ≡ Err y = sym (rw (p, q, partition)) ∙ h in let i : ◌≡◌ {A = ℕ} 0 1 = cc in absurd (omega arith)
    go true p false q = let z : Err BadPartition ≡ Err y = sym (rw (p, q, partition)) ∙ h in let i : BadPartition ≡ y = cc in rw (← i) (omega arith)
    go false p u q = let z : Err BadImage ≡ Err y = sym (rw (p, partition)) ∙ h in let i : BadImage ≡ y = cc in rw (← i) (omega arith)

-- the ways through the gate: shut, with every call's refusal, which is never 8; or open
data Way (d : ℕ) (l : List ℕ) (s : ℕ) (lent : Lent) : Result ℕ Refusal → Type 0 where
  shut_by : (y : Refusal) → number y ≢ 8 → ((k : Partition → Planned) → through d l s lent k ≡ refuse y) → Way d l s lent (Err y)
  open_to : (e : ℕ) → Opens (partition_of d s e) l → lent ≡ Ok tt → Way d l s lent (Ok e)

way : (d : ℕ) (l : List ℕ) (s : ℕ) (lent : Lent) → Way d l s lent (gate d l s lent)
unfolding gate through
way d l s lent = go (partition d l s) refl lent refl
  where
    by : {a : Result ℕ Refusal} → Way d l s lent a → gate d l s lent ≡ a → Way d l s lent (gate d l s lent)
    by w g = subst (Way d l s lent) (sym g) w

    inner : (x : ℕ) → partition d l s ≡ Ok x → lent ≡ Ok tt
        → (f : Option ℕ) → lowest_malformed (partition_of d s x) (view l) ≡ f → (b : Bool) → sound (partition_of d s x) (view l) ≡ b → Way d l s lent (gate d l s lent)
    inner x p q (Some y) r b z = by (shut_by (Malformed y) (λ h. omega arith) (λ k. rw (p, through, q, r))) (rw (p, gate, q, r))
    inner x p q None r false z = by (shut_by Unsound (λ h. omega arith) (λ k. rw (p, through, q, r, z))) (rw (p, gate, q, r, z))
    inner x p q None r true z = by (open_to x (record { good = p; lies = lies d l s x p; clean = r; sound = z }) q) (rw (p, gate, q, r, z))

    go : (p : Result ℕ Refusal) → partition d l s ≡ p → (u : Lent) → lent ≡ u → Way d l s lent (gate d l s lent)
    go (Err n) p u q = by (shut_by n (λ h. omega (arith, part_number d l s n p)) (λ k. rw (p, through))) (rw (p, gate))
    go (Ok x) p (Ok u) q = inner x p q (lowest_malformed (partition_of d s x) (view l)) refl (sound (partition_of d s x) (view l)) refl
    go (Ok x) p (Err Length) q = by (shut_by BadBuffer (λ h. omega arith) (λ k. rw (p, through, q))) (rw (p, gate, q))
    go (Ok x) p (Err Name) q = by (shut_by BadName (λ h. omega arith) (λ k. rw (p, through, q))) (rw (p, gate, q))

unequal : (y : Refusal) (e : ℕ) {A : Type 0} → Err y ≡ Ok e → A
unequal y e q = let z : ◌≡◌ {A = ℕ} 0 1 = cc in absurd (omega arith)

module _ (d : ℕ) (l : List ℕ) (s : ℕ) (lent : Lent) where
  pub gate_opens : (e : ℕ) → gate d l s lent ≡ Ok e → (Opens (partition_of d s e) l) × (lent ≡ Ok tt)
  gate_opens e h = go (way d l s lent) h
    where
      go : {p : Result ℕ Refusal} → Way d l s lent p → p ≡ Ok e → (Opens (partition_of d s e) l) × (lent ≡ Ok tt)
      go (shut_by y n t) q = unequal y e q
      go (open_to x o f) q = let i : x ≡ e = cc in (subst (λ (z : ℕ). Opens (partition_of d s z) l) i o, f)

  -- the gate is never shut by 8
  pub gate_number : (y : Refusal) → gate d l s lent ≡ Err y → number y ≢ 8
  gate_number y h = go (way d l s lent) h
    where
      go : {p : Result ℕ Refusal} → Way d l s lent p → p ≡ Err y → number y ≢ 8
      go (shut_by n m t) q = let i : n ≡ y = cc in subst (λ (z : Refusal). number z ≢ 8) i m
      go (open_to x o f) q = unequal y x (sym q)

  module _ (k : Partition → Planned) where
    pub goes_through : (e : ℕ) → Opens (partition_of d s e) l → lent ≡ Ok tt → through d l s lent k ≡ k (partition_of d s e)
    unfolding through
    goes_through e o q = rw (o.good, through, q, o.clean, o.sound)

    pub enters : (e : ℕ) → gate d l s lent ≡ Ok e → Enters d l s lent k e
    enters e h = let o = gate_opens e h in record { opens = o.0; fine = o.1; goes = goes_through e o.0 o.1 }

    pub shut : (y : Refusal) → gate d l s lent ≡ Err y → through d l s lent k ≡ refuse y
    shut y h = go (way d l s lent) h
      where
        go : {p : Result ℕ Refusal} → Way d l s lent p → p ≡ Err y → through d l s lent k ≡ refuse y
        go (shut_by n m t) q = let i : n ≡ y = cc in t k ∙ ap refuse i
        go (open_to x o f) q = unequal y x (sym q)
