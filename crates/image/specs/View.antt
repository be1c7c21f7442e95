-- A view: block, word of its record -> value. Words 0-7 are the header, data word k is word 8 + k.
use Rattle.std.specs.Prelude.{◌≡◌, refl, ◌≢◌, Bool, List, [], ◌∷◌, map, ℕ, ◌+◌, ◌*◌, ◌/◌, ◌%◌, eqb}
use Rattle.std.proofs.Common.{ap, eq-eqb, ne_eqb}
use Rattle.base.specs.Tests.{pick}

abbrev pub View : Type 0
View = ℕ → ℕ → ℕ

abbrev pub Rec : Type 0
Rec = ℕ → ℕ

pub record Store : Type 0 where
  pub at : ℕ
  pub rec : ℕ → ℕ

abbrev pub upd : View → ℕ → Rec → View
upd v b r c = pick (eqb c b) r (v c)

unfoldable pub after : List Store → View → View
after [] v = v
after (x ∷ xs) v = after xs (upd v x.at x.rec)

-- the two words from w on as one number
abbrev pub pair : View → ℕ → ℕ → ℕ
pair v b w = v b w + 65536 * v b (w + 1)

-- a record with one word, or one pair, replaced
unfoldable pub put : ℕ → ℕ → Rec → Rec
put i x r w = pick (eqb w i) x (r w)

unfoldable pub put2 : ℕ → ℕ → Rec → Rec
put2 i x r = put i (x % 65536) (put (i + 1) (x / 65536) r)

-- the record whose words are all 0
unfoldable pub blank : Rec
blank w = 0

abbrev pub places : List Store → List ℕ
places = map (λ x. x.at)

-- a store is seen in its own block and in no other
pub upd_same : (v : View) (b : ℕ) (r : Rec) → upd v b r b ≡ r
upd_same v b r = ap (λ (t : Bool). pick t r (v b)) (eq-eqb b b refl)

pub upd_other : (v : View) (b : ℕ) (r : Rec) (c : ℕ) → c ≢ b → upd v b r c ≡ v c
upd_other v b r c h = ap (λ (t : Bool). pick t r (v c)) (ne_eqb c b h)
