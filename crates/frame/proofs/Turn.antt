-- A run of stores: what holds of every block's record before, and of every record stored, holds after. A change of one file.
use Rattle.std.specs.Prelude.{◌≡◌, refl, ◌⊎◌, ◌≢◌, Bool, ℕ, zero, suc, ◌-◌, ◌≤◌, take, length}
use Rattle.std.proofs.Common.{sym, ap, ◌∙◌, inl, inr, true≢false, arith, eqb-true}
use Rattle.std.proofs.Math.Path.{subst}
use mathlib.Core.List.{List, [], ◌∷◌, ◌++◌}
use Rattle.std.proofs.Math.Bool.{true, false}
use Rattle.std.proofs.Math.Dec.{eqb}
use Rattle.std.proofs.lemmas.List.{take-append-le}
use Rattle.std.proofs.lemmas.Bool.{eqb-false}
use Rattle.base.specs.Tests.{pick}
use Rattle.base.specs.Laws.{iff_eq, never}
use Rattle.image.specs.View.{View, Rec, Store, after, upd}
use Rattle.volume.specs.Keys.{home}
use Rattle.volume.specs.Files.{inside, candidate, well_formed, spot, present, file_of, key, owned}
use Rattle.volume.specs.declared.Partition.{Partition}
use Rattle.volume.proofs.Index.{spot_home, present_home, own, file_candidate, member_owned, file_back, owned_in}
use Rattle.volume.proofs.Frame.{SameHead, Kept, Clean, Agree, kept_present, kept_spot, kept_well_formed}
use Rattle.frame.specs.Soft.{headed, headed_is, cand_in, Soft, Quiet, soft_refl, soft_kept, cand_same}
use Rattle.frame.proofs.Soft.{soft_agree}
use Rattle.volume.proofs.Readings.{off_pib}

-- P holds of each store's block and record
abbrev pub Each : (ℕ → Rec → Type 0) → List Store → Type 0
Each P [] = Unit {0}
Each P (x ∷ xs) = P x.at x.rec × Each P xs

module _ (P : ℕ → Rec → Type 0) where
  pub each_append : (xs ys : List Store) → Each P xs → Each P ys → Each P (xs ++ ys)
  each_append [] ys h k = k
  each_append (x ∷ xs) ys h k = (h.0, each_append xs ys h.1 k)

  pub each_pick : (t : Bool) (xs ys : List Store) → (t ≡ true → Each P xs) → (t ≡ false → Each P ys) → Each P (pick t xs ys)
  each_pick true xs ys h k = h refl
  each_pick false xs ys h k = k refl

  pub each_take : (k : ℕ) (xs : List Store) → Each P xs → Each P (take k xs)
  each_take zero xs h = tt
  each_take (suc k) [] h = tt
  each_take (suc k) (x ∷ xs) h = (h.0, each_take k xs h.1)

  pub after_each : (xs : List Store) (v : View) → Each P xs → ((b : ℕ) → P b (v b)) → (b : ℕ) → P b (after xs v b)
  unfolding after
  after_each [] v h k b = k b
  after_each (x ∷ xs) v h k b = after_each xs (upd v x.at x.rec) h.1 (λ c. go c (eqb c x.at) refl) b
    where
      go : (c : ℕ) (t : Bool) → eqb c x.at ≡ t → P c (pick t x.rec (v c))
      go c true q = subst (λ (y : ℕ). P y x.rec) (sym (eqb-true c x.at q)) h.0
      go c false q = k c

-- a block that no store names keeps its record
pub after_miss : (xs : List Store) (v : View) (b : ℕ) → Each (λ c _. c ≢ b) xs → after xs v b ≡ v b
after_miss xs v b h = after_each (λ c r. c ≡ b → r ≡ v b) xs v (go xs h) (λ c q. ap v q) b refl
  where
    go : (xs : List Store) → Each (λ c _. c ≢ b) xs → Each (λ c r. c ≡ b → r ≡ v b) xs
    go [] h = tt
    go (x ∷ xs) h = ((λ q. absurd (h.0 q)), go xs h.1)

pub after_append : (xs ys : List Store) (v : View) → after (xs ++ ys) v ≡ after ys (after xs v)
unfolding after
after_append [] ys v = refl
after_append (x ∷ xs) ys v = after_append xs ys (upd v x.at x.rec)

-- a run cut within its first part, or after it
pub cut_early : (k : ℕ) (xs ys : List Store) → k ≤ length xs → take k (xs ++ ys) ≡ take k xs
cut_early k xs ys h = take-append-le k xs ys h

pub cut_late : (k : ℕ) (xs ys : List Store) → length xs ≤ k → take k (xs ++ ys) ≡ xs ++ take (k - length xs) ys
cut_late k [] ys h = ap (λ (n : ℕ). take n ys) (let z : k ≡ k - 0 = omega arith in z)
cut_late zero (x ∷ xs) ys h = absurd (omega arith)
cut_late (suc k) (x ∷ xs) ys h = ap (λ (l : List Store). x ∷ l) (cut_late k xs ys (omega arith)) ∙ ap (λ (n : ℕ). x ∷ (xs ++ take n ys)) (let z : k - length xs ≡ suc k - length (x ∷ xs) = omega arith in z)

module _ (π : Partition) (v : View) where
  -- a store that changes no file
  abbrev pub Calm : ℕ → Rec → Type 0
  Calm b r = inside π b ≡ true → Quiet π v b r

  pub calm_soft : {b : ℕ} {r : Rec} → Soft π v b r → Calm b r
  calm_soft h _ = inl h

  pub calm_free : {b : ℕ} {r : Rec} → owned π v b ≡ false → headed π b r ≡ false → Calm b r
  calm_free h k _ = inr (h, k)

  pub calm_pib : {r : Rec} → Calm π.s r
  calm_pib i = absurd (off_pib π π.s i refl)

  pub calm_agree : Clean π v → (xs : List Store) → Each Calm xs → Agree π v (after xs v)
  calm_agree c xs h = soft_agree π v c (after xs v) (after_each Calm xs v h (λ b. calm_soft (soft_refl π v b refl)))

  -- ---- a change of one file: the others are kept
  pub record Turn (v' : View) (f : ℕ) : Type 0 where
    pub others : (g : ℕ) → g ≢ f → candidate π v g ≡ true → Kept π v v' g
    pub cands : (g : ℕ) → g ≢ f → candidate π v g ≡ candidate π v' g

  -- a store that changes no file but f
  abbrev pub Mine : ℕ → ℕ → Rec → Type 0
  Mine f b r = inside π b ≡ true → Soft π v b r ⊎ ((owned π v b ≡ true → file_of π v b ≡ f) × (b ≢ f → headed π b r ≡ false))

  pub mine_calm : (f b : ℕ) (r : Rec) → Calm b r → Mine f b r
  mine_calm f b r h i = go (h i)
    where
      go : Quiet π v b r → Soft π v b r ⊎ ((owned π v b ≡ true → file_of π v b ≡ f) × (b ≢ f → headed π b r ≡ false))
      go (inl x) = inl x
      go (inr x) = inr ((λ o. absurd (true≢false (sym o ∙ x.0))), λ _. x.1)

module _ (π : Partition) (v : View) (c : Clean π v) where
  module _ (v' : View) (f : ℕ) where
    pub turn_of : ((b : ℕ) → Mine π v f b (v' b)) → Turn π v v' f
    turn_of m = record { others = others; cands = cands }
      where
        soft : (g : ℕ) → g ≢ f → (b : ℕ) → owned π v b ≡ true → file_of π v b ≡ g → Soft π v b (v' b)
        soft g n b o q = go (m b (owned_in π v b o))
          where
            go : Soft π v b (v' b) ⊎ ((owned π v b ≡ true → file_of π v b ≡ f) × (b ≢ f → headed π b (v' b) ≡ false)) → Soft π v b (v' b)
            go (inl x) = x
            go (inr x) = absurd (n (sym q ∙ x.0 o))

        at : (g : ℕ) → g ≢ f → (h : candidate π v g ≡ true) → (k : ℕ) → present π v g k ≡ true → Soft π v (spot π v g k) (v' (spot π v g k))
        at g n h k p = soft g n _ (member_owned π v g h (c g h) k p) (file_back π v g h (c g h) k p)

        others : (g : ℕ) → g ≢ f → candidate π v g ≡ true → Kept π v v' g
        others g n h = soft_kept π v g h (c g h) v' (at g n h)

        fib_head : (g : ℕ) → g ≢ f → candidate π v g ≡ true → SameHead (v g) (v' g)
        fib_head g n h = subst (λ (b : ℕ). SameHead (v b) (v' b)) (spot_home π v g) (at g n h home (present_home π v g)).head

        cands : (g : ℕ) → g ≢ f → candidate π v g ≡ candidate π v' g
        cands g n = iff_eq _ _ (λ h. sym (cand_same π v v' g (fib_head g n h)) ∙ h) (λ h. go h (m g (cand_in π v' g h)))
          where
            go : candidate π v' g ≡ true → Soft π v g (v' g) ⊎ ((owned π v g ≡ true → file_of π v g ≡ f) × (g ≢ f → headed π g (v' g) ≡ false)) → candidate π v g ≡ true
            go h (inl x) = cand_same π v v' g x.head ∙ h
            go h (inr x) = absurd (true≢false (sym h ∙ headed_is π v' g ∙ x.1 n))

    -- the blocks of the other files are owned before exactly if they are afterwards
    module _ (t : Turn π v v' f) (b : ℕ) where
      pub turn_keeps : owned π v b ≡ true → file_of π v b ≢ f → owned π v' b ≡ true
      turn_keeps h n =
          let o = own π v b h in
          let k = file_candidate π v _ o.file in
          let s = (t.others _ n k).shape in
          subst (λ (x : ℕ). owned π v' x ≡ true) (sym (kept_spot π v v' _ s _ o.here) ∙ o.back)
          (member_owned π v' _ (sym (t.cands _ n) ∙ k) (sym (kept_well_formed π v v' _ s) ∙ c _ k) (key v b) (sym (kept_present π v v' _ s _) ∙ o.here))

      pub turn_back : owned π v' b ≡ true → file_of π v' b ≢ f → owned π v b ≡ true
      turn_back h n =
          let o = own π v' b h in
          let k = t.cands _ n ∙ file_candidate π v' _ o.file in
          let s = (t.others _ n k).shape in
          let l = kept_present π v v' _ s (key v' b) ∙ o.here in
          subst (λ (x : ℕ). owned π v x ≡ true) (kept_spot π v v' _ s (key v' b) l ∙ o.back) (member_owned π v _ k (c _ k) (key v' b) l)

    module _ (t : Turn π v v' f) (w : candidate π v' f ≡ true → well_formed π v' f ≡ true) where
      pub turn_clean : Clean π v'
      turn_clean g h = go (eqb g f) refl
        where
          go : (x : Bool) → eqb g f ≡ x → well_formed π v' g ≡ true
          go true q = subst (λ (y : ℕ). well_formed π v' y ≡ true) (sym (eqb-true g f q)) (w (subst (λ (y : ℕ). candidate π v' y ≡ true) (eqb-true g f q) h))
          go false q =
              let n = eqb-false g f q in
              let k = t.cands g n ∙ h in
              sym (kept_well_formed π v v' g (t.others g n k).shape) ∙ c g k

      -- an unowned block that f does not take stays unowned
      pub turn_free : (b : ℕ) → owned π v b ≡ false → (candidate π v' f ≡ true → (k : ℕ) → present π v' f k ≡ true → spot π v' f k ≢ b) → owned π v' b ≡ false
      turn_free b o m = never _ (λ p. no p _ refl)
        where
          no : owned π v' b ≡ true → (x : Bool) → eqb (file_of π v' b) f ≡ x → ⊥
          no p true q =
              let w = own π v' b p in
              let z = eqb-true (file_of π v' b) f q in
              m (subst (λ (y : ℕ). candidate π v' y ≡ true) z (file_candidate π v' _ w.file)) (key v' b)
              (subst (λ (y : ℕ). present π v' y (key v' b) ≡ true) z w.here) (ap (λ (y : ℕ). spot π v' y (key v' b)) (sym z) ∙ w.back)
          no p false q = true≢false (sym (turn_back t b p (eqb-false (file_of π v' b) f q)) ∙ o)

-- a deciding store behind quiet ones
pub turn_decided : (π : Partition) (v : View) (c : Clean π v) (f : ℕ) (xs : List Store) (b : ℕ) (r : Rec)
    → Each (Mine π v f) xs → Mine π v f b r → Turn π v (upd (after xs v) b r) f
turn_decided π v c f xs b r h m = turn_of π v c (upd (after xs v) b r) f (λ x. go x (eqb x b) refl)
  where
    was : (x : ℕ) → Mine π v f x (after xs v x)
    was = after_each (Mine π v f) xs v h (λ x i. inl (soft_refl π v x refl))

    go : (x : ℕ) (t : Bool) → eqb x b ≡ t → Mine π v f x (pick t r (after xs v x))
    go x true q = subst (λ (y : ℕ). Mine π v f y r) (sym (eqb-true x b q)) m
    go x false q = was x

pub each_map : (P Q : ℕ → Rec → Type 0) → ((b : ℕ) (r : Rec) → P b r → Q b r) → (xs : List Store) → Each P xs → Each Q xs
each_map P Q m [] h = tt
each_map P Q m (x ∷ xs) h = (m x.at x.rec h.0, each_map P Q m xs h.1)
