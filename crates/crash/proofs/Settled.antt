-- What a call comes to in a sound partition: a refusal, or a plan that keeps what every plan owes.
use Rattle.std.specs.Prelude.{◌≡◌, refl, Bool, true, false, ℕ, ◌<◌, leb, ltb, eqb, length}
use borrow.Author.Tests.{ltb-true, eqb-true, leb-false}
use Rattle.base.specs.Tests.{pick}
use Rattle.base.specs.declared.Refusal.{Refusal}
use Rattle.base.specs.declared.Refusal.TheVariants.{BadBlock, Full, NoCandidate, NothingFree}
use Rattle.image.specs.View.{View, Rec}
use Rattle.volume.specs.Keys.{reach}
use Rattle.volume.specs.Files.{unowned, candidate, len, free_head, sound, is_file}
use Rattle.volume.specs.declared.Partition.{Partition}
use Rattle.volume.specs.Plans.{Plan, create_plan, describe_plan, destroy_plan, repair_plan}
use Rattle.volume.specs.Writes.{needs, write_plan, replace_plan}
use Rattle.volume.specs.Calls.{Planned, refuse, finish, create_in, append_in, write_in, describe_in, destroy_in, repair_in, room}
use Rattle.frame.specs.Fitting.{Words}
use Rattle.crash.specs.SameFile.{SameFiles}
use Rattle.crash.specs.Lawful.{Placed}
use Rattle.crash.specs.Effect.{Created, Written, Described}
use Rattle.crash.proofs.Owes.{Owes, create_owes, describe_owes, replace_owes, destroy_owes, repair_owes}
use Rattle.crash.proofs.Write.{write_owes}

pub data Settled (π : Partition) (v : View) (f : ℕ) (E : View → Type 0) : Planned → Type 0 where
  refused : (y : Refusal) → Settled π v f E (refuse y)
  done : (a : ℕ) (P : Plan) → Owes π v P f E → Settled π v f E (finish a P)

module _ (π : Partition) (v : View) (at : Placed π v) (ok : sound π v ≡ true) where
  either : {f : ℕ} {E : View → Type 0} (t : Bool) (x y : Planned) → (t ≡ true → Settled π v f E x) → (t ≡ false → Settled π v f E y) → Settled π v f E (pick t x y)
  either true x y h k = h refl
  either false x y h k = k refl

  pub create_settled : (kind : ℕ) → kind < 65536 → Settled π v (free_head π v) (λ w. Created π v w (free_head π v) kind) (create_in π v kind)
  unfolding create_in
  create_settled kind k = either (leb (room π v) 1) _ _ (λ _. refused Full) (λ h. done (free_head π v) (create_plan π v kind) (create_owes π v at ok kind k (leb-false _ 1 h)))

  pub describe_settled : {n : ℕ} (f : ℕ) (dat : Rec) → Words n dat → Settled π v f (λ w. Described π v w f dat) (describe_in π v f dat)
  unfolding describe_in
  describe_settled f dat k = either (candidate π v f) _ _ (λ c. done 0 (describe_plan v f dat) (describe_owes π v at ok f c dat k)) (λ _. refused NoCandidate)

  pub destroy_settled : (f : ℕ) → Settled π v f (λ w. is_file π w f ≡ false) (destroy_in π v f)
  unfolding destroy_in
  destroy_settled f = either (candidate π v f) _ _ (λ c. done 0 (destroy_plan π v f) (destroy_owes π v at ok f c)) (λ _. refused NoCandidate)

  pub repair_settled : Settled π v 0 (λ w. SameFiles π v w) (repair_in π v)
  unfolding repair_in
  repair_settled = either (eqb (length (unowned π v)) 0) _ _ (λ _. refused NothingFree) (λ _. done 0 (repair_plan π v) (repair_owes π v at ok))

  -- the block after the last
  append_settled : (f r : ℕ) (dat : Rec) → Words 256 dat → candidate π v f ≡ true → r ≡ len v f → r < reach → Settled π v f (λ w. Written π v w f r dat) (append_in π v f r dat)
  unfolding append_in
  append_settled f r dat k c n l = either (leb (room π v) (needs π v f r)) _ _ (λ _. refused Full)
      (λ h. done 0 (write_plan π v f r dat) (write_owes (record { ok = ok; cf = c; next = n; far = l; enough = leb-false _ _ h }) dat at k))

  pub write_settled : (f r : ℕ) (dat : Rec) → Words 256 dat → Settled π v f (λ w. Written π v w f r dat) (write_in π v f r dat)
  unfolding write_in
  write_settled f r dat k = either (candidate π v f) _ _
      (λ c. either (ltb r reach) _ _
      (λ m. either (ltb r (len v f)) _ _
      (λ l. done 0 (replace_plan π v f r dat) (replace_owes π v at ok f c r dat k (ltb-true r (len v f) l)))
      (λ _. either (eqb r (len v f)) _ _ (λ e. append_settled f r dat k c (eqb-true r (len v f) e) (ltb-true r reach m)) (λ _. refused BadBlock)))
      (λ _. refused BadBlock))
      (λ _. refused NoCandidate)
