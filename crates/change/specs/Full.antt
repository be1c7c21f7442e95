-- Refusal 8 is given exactly when too few blocks are free and nothing earlier applies.
use Rattle.std.specs.Prelude.{◌≡◌, Bool, List, [], ◌∷◌, ℕ, ◌+◌, ◌<◌, ◌≤◌, Some, Result, Ok, Err}
use Rattle.std.proofs.Math.Path.{refl}
use Rattle.std.proofs.Common.{sym, ap, ◌∙◌, arith}
use Rattle.std.proofs.Math.Bool.{true, false}
use Rattle.std.proofs.Math.Dec.{leb, ltb, eqb}
use borrow.Author.Tests.{leb-true, le-leb, le-ltb, eqb-true}
use Rattle.base.specs.Tests.{every}
use Rattle.base.specs.Laws.{every_at}
use Rattle.volume.proofs.Steps.{every_cons, every_nil}
use Rattle.base.specs.declared.Refusal.{Refusal}
use Rattle.base.specs.declared.Refusal.TheVariants.{NoCandidate, BadBlock, Full}
use Rattle.image.specs.Image.{view}
use Rattle.image.specs.Saves.{words}
use Rattle.volume.specs.Keys.{reach}
use Rattle.volume.specs.Files.{partition_of, candidate, len}
use Rattle.volume.specs.declared.Partition.{Partition}
use Rattle.volume.specs.Outcome.{Outcome}
use Rattle.volume.specs.Writes as writes
use Rattle.volume.specs.Calls.{Planned, refuse, through, room, lent_block, create_in, append_in, write_in, create, write, planned}
use Rattle.volume.specs.Outcome.{Lent}
use Rattle.base.specs.Refusals.{number}
use Rattle.change.specs.Gate.{gate, Opens, enters, shut, gate_number, goes_through}

-- a call whose buffer is fine, that asks for something there, and needs so many blocks: none of 1 to 7 and 12 applies, and there are fewer free
-- blocks than that plus one
pub record Crowded (d : ℕ) (l : List ℕ) (s : ℕ) (lent : Lent) (asks : Partition → Bool) (needs : Partition → ℕ) : Type 0 where
  pub e : ℕ
  pub opens : Opens (partition_of d s e) l
  pub fine : lent ≡ Ok tt
  pub asked : asks (partition_of d s e) ≡ true
  pub few : room (partition_of d s e) (view l) < needs (partition_of d s e) + 1

not_full : (a b c : ℕ) → ◌≡◌ {A = Outcome} (Ok (Some (a, b, c))) (Err Full) → ⊥
not_full a b c h = let z : ◌≡◌ {A = ℕ} 0 1 = cc in omega arith

no_full : (y : Refusal) → (number y ≡ 8 → ⊥) → ◌≡◌ {A = Outcome} (Err y) (Err Full) → ⊥
no_full y n h = let i : y ≡ Full = cc in n (ap number i)

-- behind the gate, the call comes to `Full` just where it asks for something there and the blocks are too few
module _ (d : ℕ) (l : List ℕ) (s : ℕ) (lent : Lent) (k : Partition → Planned) (asks : Partition → Bool) (needs : Partition → ℕ) where
  crowded : ((π : Partition) → (k π).outcome ≡ Err Full → (asks π ≡ true) × (room π (view l) < needs π + 1))
      → (through d l s lent k).outcome ≡ Err Full → Crowded d l s lent asks needs
  crowded inner h = go (gate d l s lent) refl
    where
      go : (p : Result ℕ Refusal) → gate d l s lent ≡ p → Crowded d l s lent asks needs
      go (Ok e) q =
          let x = enters d l s lent k e q in
          let r = inner (partition_of d s e) (sym (ap (λ (p : Planned). p.outcome) x.goes) ∙ h) in
          record { e = e; opens = x.opens; fine = x.fine; asked = r.0; few = r.1 }
      go (Err y) q =
          let z : ◌≡◌ {A = Outcome} (Err y) (Err Full) = sym (ap (λ (p : Planned). p.outcome) (shut d l s lent k y q)) ∙ h in
          let i : y ≡ Full = cc in
          absurd (gate_number d l s lent y q (ap number i))

  full : ((π : Partition) → asks π ≡ true → room π (view l) < needs π + 1 → k π ≡ refuse Full)
      → Crowded d l s lent asks needs → through d l s lent k ≡ refuse Full
  full inner c = goes_through d l s lent k c.e c.opens c.fine ∙ inner (partition_of d s c.e) c.asked c.few

-- ---- create

module _ (d : ℕ) (l : List ℕ) (s kind : ℕ) where
  abbrev pub CreateCrowded : Type 0
  CreateCrowded = Crowded d l s (Ok tt) (λ π. true) (λ π. 1)

  create_few : (π : Partition) → (create_in π (view l) kind).outcome ≡ Err Full → room π (view l) < 2
  unfolding create_in
  create_few π h = go (leb (room π (view l)) 1) refl
    where
      go : (t : Bool) → leb (room π (view l)) 1 ≡ t → room π (view l) < 2
      go true q = omega (arith, leb-true (room π (view l)) 1 q)
      go false q = absurd (not_full _ _ _ (rw (create_in, q) at h))

  pub create_crowded : (planned d l s (create kind)).outcome ≡ Err Full → CreateCrowded
  unfolding planned
  create_crowded = crowded d l s (Ok tt) _ (λ π. true) (λ π. 1) (λ π h. (refl, create_few π h))

  pub create_full : CreateCrowded → planned d l s (create kind) ≡ refuse Full
  unfolding planned create_in
  create_full = full d l s (Ok tt) _ (λ π. true) (λ π. 1) (λ π a f. rw (create_in, le-leb (room π (view l)) 1 (omega arith)))

-- ---- write

module _ (d : ℕ) (l : List ℕ) (s f r : ℕ) (block : List ℕ) where
  -- an append: neither 6 nor 7 applies, and the block is not there yet
  abbrev pub appends : Partition → Bool
  appends π = every (candidate π (view l) f ∷ ltb r reach ∷ eqb r (len (view l) f) ∷ [])

  -- the data block, and the pointer blocks over it that are new
  abbrev pub append_needs : Partition → ℕ
  append_needs π = writes.needs π (view l) f r

  abbrev pub WriteCrowded : Type 0
  WriteCrowded = Crowded d l s (lent_block block) appends append_needs

  append_few : (π : Partition) → (append_in π (view l) f r (words block)).outcome ≡ Err Full → room π (view l) < append_needs π + 1
  unfolding append_in
  append_few π h = go (leb (room π (view l)) (append_needs π)) refl
    where
      go : (t : Bool) → leb (room π (view l)) (append_needs π) ≡ t → room π (view l) < append_needs π + 1
      go true q = omega (arith, leb-true (room π (view l)) (append_needs π) q)
      go false q = absurd (not_full _ _ _ (rw (append_in, q) at h))

  write_few : (π : Partition) → (write_in π (view l) f r (words block)).outcome ≡ Err Full → (appends π ≡ true) × (room π (view l) < append_needs π + 1)
  unfolding write_in
  write_few π h = go (candidate π (view l) f) refl (ltb r reach) refl (ltb r (len (view l) f)) refl (eqb r (len (view l) f)) refl
    where
      go : (a : Bool) → candidate π (view l) f ≡ a → (b : Bool) → ltb r reach ≡ b → (c : Bool) → ltb r (len (view l) f) ≡ c
          → (t : Bool) → eqb r (len (view l) f) ≡ t → (appends π ≡ true) × (room π (view l) < append_needs π + 1)
      go true p true q false x true y =
          (every_cons _ p (every_cons _ q (every_cons _ y every_nil)), append_few π (rw (write_in, p, q, x, y) at h))
      go true p true q true x t y = absurd (not_full _ _ _ (rw (write_in, p, q, x) at h))
      go true p true q false x false y = absurd (no_full BadBlock (λ z. omega arith) (rw (write_in, p, q, x, y) at h))
      go true p false q c x t y = absurd (no_full BadBlock (λ z. omega arith) (rw (write_in, p, q) at h))
      go false p b q c x t y = absurd (no_full NoCandidate (λ z. omega arith) (rw (write_in, p) at h))

  pub write_crowded : (planned d l s (write f r block)).outcome ≡ Err Full → WriteCrowded
  unfolding planned
  write_crowded = crowded d l s (lent_block block) _ appends append_needs write_few

  write_is_full : (π : Partition) → appends π ≡ true → room π (view l) < append_needs π + 1 → write_in π (view l) f r (words block) ≡ refuse Full
  unfolding write_in append_in
  write_is_full π a n =
      let c : candidate π (view l) f ≡ true = every_at _ a 0 in
      let b : ltb r reach ≡ true = every_at _ a 1 in
      let x : eqb r (len (view l) f) ≡ true = every_at _ a 2 in
      let y : len (view l) f ≤ r = (let z = eqb-true r (len (view l) f) x in omega arith) in
      rw (write_in, c, b, le-ltb r (len (view l) f) y, x, append_in, le-leb (room π (view l)) (append_needs π) (omega arith))

  pub write_full : WriteCrowded → planned d l s (write f r block) ≡ refuse Full
  unfolding planned
  write_full = full d l s (lent_block block) _ appends append_needs write_is_full
