-- What repair answers, from what the code did: refusals 1, 2, 4 and 9, or the stores under the limit.
use Rattle.std.specs.Prelude.{◌≡◌, refl, List, [], ◌∷◌, Bool, false, ℕ, suc, ◌+◌, ◌-◌, ◌≤◌, ◌<◌, eqb, length, Some, None, Ok, Err}
use Rattle.std.proofs.Common.{sym, ap, ap₂, ◌∙◌, arith, eq-eqb, ne_eqb}
use Rattle.std.proofs.Math.Seq.{take-nil}
use Rattle.base.specs.Tests.{pick, those, head_of}
use Rattle.base.specs.declared.Refusal.{Refusal}
use Rattle.base.specs.declared.Refusal.TheVariants.{Malformed, NothingFree}
use Rattle.image.specs.View.{View}
use Rattle.image.specs.Image.{view}
use Rattle.image.specs.Stores.{stored}
use Rattle.image.specs.Saves.{Applied}
use Rattle.image.proofs.Laws.{made}
use Rattle.volume.specs.Files.{partition_of, unowned}
use Rattle.volume.specs.declared.Partition.{Partition}
use Rattle.volume.specs.Answers.{partition, lowest_malformed}
use Rattle.volume.specs.Plans.{Plan, stores, repair_plan}
use Rattle.volume.specs.Calls.{Planned, refuse, finish, repair_in, planned, Call, Answered}
use Rattle.volume.specs.declared.Answer.{Answer}
use Rattle.frame.specs.Chain.{head_zero}
use Rattle.blocks.specs.Standing.{head_under}
use Rattle.repair.specs.Mending.{is_free}

-- ---- the first unowned block

pub from_start : (π : Partition) (v : View) → head_of 0 (those (π.s + 1) (suc π.e - (π.s + 1)) (is_free π v)) ≡ head_of 0 (unowned π v)
unfolding unowned
from_start π v =
    ap₂ (λ (i k : ℕ). head_of 0 (those i k (is_free π v))) (let z : π.s + 1 ≡ suc π.s = omega arith in z) (let z : suc π.e - (π.s + 1) ≡ π.e - π.s = omega arith in z)

pub first_few : (π : Partition) (v : View) (first : ℕ) → π.s < π.e → first ≡ head_of 0 (unowned π v) → first ≤ π.e
unfolding unowned
first_few π v first h q = omega (arith, q, head_under (is_free π v) (suc π.s) (π.e - π.s) (omega arith))

pub none_free : (π : Partition) (v : View) (first : ℕ) → first ≡ head_of 0 (unowned π v) → first < 1 → repair_in π v ≡ refuse NothingFree
unfolding repair_in unowned
none_free π v first q h =
    let e : unowned π v ≡ [] = head_zero (is_free π v) (suc π.s) (π.e - π.s) (omega arith) (sym q ∙ omega arith) in
    let z : length (unowned π v) ≡ 0 = ap length e in
    ap (λ (t : Bool). pick t (refuse NothingFree) (finish 0 (repair_plan π v))) (eq-eqb (length (unowned π v)) 0 z)

pub some_free : (π : Partition) (v : View) (first : ℕ) → first ≡ head_of 0 (unowned π v) → 1 ≤ first → repair_in π v ≡ finish 0 (repair_plan π v)
unfolding repair_in head_of
some_free π v first q h = ap (λ (t : Bool). pick t (refuse NothingFree) (finish 0 (repair_plan π v))) (go (unowned π v) q)
  where
    go : (fr : List ℕ) → first ≡ head_of 0 fr → eqb (length fr) 0 ≡ false
    go [] j = absurd (omega arith)
    go (x ∷ xs) j = ne_eqb (length (x ∷ xs)) 0 (λ z. omega arith)

-- ---- answers

pub answered_not : {limit : ℕ} {p : Planned} {l : List ℕ} {a : Answer} (y : Refusal) → p ≡ refuse y → a ≡ record { made = 0; outcome = Err y } → Answered limit p l l a
unfolding stored
answered_not y h e = rw (h, e) (record { outcome = refl; made = rw take-nil; image = rw take-nil })

pub answered_done : {limit left n : ℕ} {p : Planned} {l l' : List ℕ} (plan : Plan) → p ≡ finish 0 plan → n ≡ limit - left → Applied limit (stores plan) l l' left
    → Answered limit p l l' (record { made = n; outcome = Ok (Some (0, 0, 0)) })
answered_done plan h e a = rw h (let m = made e a in record { outcome = refl; made = m.count; image = m.image })

module _ (d : ℕ) (l : List ℕ) (s : ℕ) where
  pub refused_part : (y : Refusal) → partition d l s ≡ Err y → planned d l s Call.repair ≡ refuse y
  unfolding planned
  refused_part y h = rw (h, planned)

  module _ (e : ℕ) (h : partition d l s ≡ Ok e) where
    pub refused_malformed : (f : ℕ) → lowest_malformed (partition_of d s e) (view l) ≡ Some f → planned d l s Call.repair ≡ refuse (Malformed f)
    unfolding planned
    refused_malformed f q = rw (h, q, planned)

    pub planned_in : lowest_malformed (partition_of d s e) (view l) ≡ None → planned d l s Call.repair ≡ repair_in (partition_of d s e) (view l)
    unfolding planned
    planned_in q = rw (h, q, planned)
