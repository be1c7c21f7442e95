-- Words of a record behind puts.
use Rattle.std.specs.Prelude.{◌≡◌, refl, ◌≢◌, Bool, true, false, ℕ, ◌+◌, ◌*◌, ◌/◌, ◌%◌}
use Rattle.std.proofs.Common.{ap, ap₂, ◌∙◌, arith, eq-eqb, ne_eqb}
use Rattle.base.specs.Tests.{pick}
use Rattle.image.specs.View.{Rec, put, put2}
use Rattle.volume.specs.Writes.{put2_if}

pub word : (x : ℕ) → x % 65536 + 65536 * (x / 65536) ≡ x
word x = omega arith

-- two words of a record as one number
abbrev pub two : Rec → ℕ → ℕ
two x w = x w + 65536 * x (w + 1)

pub put_here : (i a : ℕ) (x : Rec) → put i a x i ≡ a
unfolding put
put_here i a x = ap (λ (t : Bool). pick t a (x i)) (eq-eqb i i refl)

pub put_off : (i a : ℕ) (x : Rec) (w : ℕ) → w ≢ i → put i a x w ≡ x w
unfolding put
put_off i a x w n = ap (λ (t : Bool). pick t a (x w)) (ne_eqb w i n)

pub put2_off : (i a : ℕ) (x : Rec) (w : ℕ) → w ≢ i → w ≢ i + 1 → put2 i a x w ≡ x w
unfolding put2
put2_off i a x w n m = put_off i _ _ w n ∙ put_off (i + 1) _ x w m

pub put2_here : (i a : ℕ) (x : Rec) → two (put2 i a x) i ≡ a
unfolding put2
put2_here i a x =
    ap₂ (λ (y z : ℕ). y + 65536 * z) (put_here i (a % 65536) (put (i + 1) (a / 65536) x))
    (put_off i (a % 65536) (put (i + 1) (a / 65536) x) (i + 1) (λ z. omega arith) ∙ put_here (i + 1) (a / 65536) x)
    ∙ word a

pub put2_if_off : (t : Bool) (i a : ℕ) (x : Rec) (w : ℕ) → (t ≡ true → (w ≢ i) × (w ≢ i + 1)) → put2_if t i a x w ≡ x w
unfolding put2_if
put2_if_off true i a x w h = put2_off i a x w (h refl).0 (h refl).1
put2_if_off false i a x w h = refl
