-- A call's contract settles what it answers and what it leaves.
use Rattle.std.specs.Prelude.{◌≡◌, List, ℕ}
use Rattle.std.proofs.Common.{sym, ◌∙◌}
use Rattle.volume.specs.Calls.{Planned, Answered}
use Rattle.volume.specs.declared.Answer.{Answer}

-- two answers that meet one contract are equal, and so are the images
module _ {limit : ℕ} {p : Planned} {l l' l'' : List ℕ} {a b : Answer} (x : Answered limit p l l' a) (y : Answered limit p l l'' b) where
  pub one_answer : a ≡ b
  one_answer = λ i. record { made = (x.made ∙ sym y.made) i; outcome = (x.outcome ∙ sym y.outcome) i }

  pub one_image : l' ≡ l''
  one_image = x.image ∙ sym y.image
