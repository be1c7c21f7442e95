-- One law for each way through the code that looks a path up.
use Rattle.std.proofs.Math.Path.{◌≡◌}
use Rattle.std.specs.Prelude.{refl, Bool, List, ltb, eqb, length, get_or, drop, Option, Some, None, cond, not, Ok, Err}
use Rattle.std.proofs.Common.{sym, ap, ◌∙◌, subst, rules}
use Rattle.std.proofs.Math.Bool.{true, false}
use Prim.Native.Nat.{ℕ, zero, suc, ◌+◌, ◌-◌, ◌*◌, ◌/◌, ◌%◌, ◌≤◌, ◌<◌}
use native.Mathlib.Omega.{arith}
use Rattle.std.proofs.Math.ListN.{take}
use Rattle.std.specs.List.{position_or_len}
use Rattle.std.proofs.lemmas.List.{drop_all, drop_more}
use borrow.Author.Tests.{eq-eqb, ne_eqb, lt-ltb, le-ltb}
use Rattle.base.specs.Tests.{pick, both}
use Rattle.base.specs.Laws.{both_left}
use Rattle.image.specs.Image.{view}
use Rattle.volume.specs.Files.{name, len, is_file}
use Rattle.volume.specs.declared.Partition.{Partition}
use Rattle.volume.proofs.Readings.{candidate_in}
use Rattle.volume.proofs.Steps.{lowest_at, Searching, search_starts_as, search_hit, search_next}
use Rattle.directory.specs.Directory.{Selection, same_name, name_at, taken_at, target_of, hit, met_target, find, part_end, Looked, into, entered, look, look_from}
use Rattle.directory.specs.Entries.{taken_fits, Lands, target_lands}
use Rattle.directory.specs.declared.Target.{Target}
use Rattle.directory.specs.declared.Target.TheVariants.{File, Directory, Dangling}

-- ---- an entry by its name

module _ (l : List ℕ) (sel : Selection) (part : List ℕ) (r at : ℕ) {t : Bool} (q : t ≡ taken_at l sel r at) where
  pub match_not : t ≡ false → false ≡ both (taken_at l sel r at) (same_name (name_at l at) part)
  unfolding both
  match_not h = rw (sym q ∙ h, both)

  pub match_by : (n : ℕ) {a : Bool} → t ≡ true → n ≡ get_or l (at + 6) 0
      → a ≡ same_name (take (at + 7 + n - (at + 7)) (drop (at + 7) l)) part → a ≡ both (taken_at l sel r at) (same_name (name_at l at) part)
  unfolding both
  match_by n h p z = let i : at + 7 + n - (at + 7) ≡ n = omega arith in rw (sym q ∙ h, both) (z ∙ rw (i, p))

module _ (π : Partition) (l : List ℕ) (sel : Selection) (part : List ℕ) (f k r i b : ℕ) where
  hit_at : {x : Bool} → i < 16 → b ≡ name π (view l) f r → x ≡ both (taken_at l sel r (528 * b + 16 + 32 * i)) (same_name (name_at l (528 * b + 16 + 32 * i)) part) → x ≡ hit π l sel part f (16 * r + i)
  unfolding hit
  hit_at h q z =
      let d : (16 * r + i) / 16 ≡ r = omega arith in
      let m : (16 * r + i) % 16 ≡ i = omega arith in
      z ∙ rw (hit, d, m, q)

  module _ {w : Option ℕ} (s : Searching (hit π l sel part f) (16 * k) (16 * r + i) w) {x : Bool} (h : i < 16) (c : r < k) (q : b ≡ name π (view l) f r)
      (z : x ≡ both (taken_at l sel r (528 * b + 16 + 32 * i)) (same_name (name_at l (528 * b + 16 + 32 * i)) part)) where
    pub find_hit : x ≡ true → Some (16 * r + i) ≡ w
    find_hit t = search_hit s (omega arith) (hit_at h q z) t

    pub find_next : x ≡ false → Searching (hit π l sel part f) (16 * k) (16 * r + (i + 1)) w
    find_next t = let e : 16 * r + i + 1 ≡ 16 * r + (i + 1) = omega arith in rw e at (search_next s (omega arith) (hit_at h q z) t)

pub find_to : (p : ℕ → Bool) (e a b : ℕ) {w : Option ℕ} → a ≡ b → Searching p e a w → Searching p e b w
find_to p e a b h s = rw h at s

pub find_starts : (π : Partition) (l : List ℕ) (sel : Selection) (part : List ℕ) (f k : ℕ) → k ≡ len (view l) f → Searching (hit π l sel part f) (16 * k) (16 * 0) (find π l sel part f)
unfolding find
find_starts π l sel part f k h = rw (find, ← h) (search_starts_as (hit π l sel part f) 0 (16 * k) (16 * k) (omega arith))

pub ruleset finds = (match_not, match_by, taken_fits, find_starts, find_to, find_hit, find_next, rules)

-- an entry that is found lies in the directory
pub found_below : (π : Partition) (l : List ℕ) (sel : Selection) (part : List ℕ) (f j : ℕ) → find π l sel part f ≡ Some j → j < 16 * len (view l) f
unfolding find
found_below π l sel part f j h = let z = lowest_at (hit π l sel part f) 0 (16 * len (view l) f) j h in omega arith

-- ---- what a name is in a directory

module _ (π : Partition) (l : List ℕ) (sel : Selection) (part : List ℕ) (f : ℕ) where
  pub enter_absent : {x : Option ℕ} → x ≡ find π l sel part f → x ≡ None → None ≡ entered π l sel part f
  unfolding entered
  enter_absent q h = rw (entered, ← q, h)

  pub enter_there : {x : Option ℕ} {j b : ℕ} {t : Target} → x ≡ find π l sel part f → x ≡ Some j → b ≡ name π (view l) f (j / 16) → t ≡ met_target l (target_of π l b (j % 16))
      → Some t ≡ entered π l sel part f
  unfolding entered
  enter_there q h n z = rw (entered, ← q, h, ← n, ← z)

pub ruleset enters = (enter_absent, enter_there, rules)

-- a file that a name is in a directory is one
pub entered_lands : (π : Partition) (l : List ℕ) (sel : Selection) (part : List ℕ) (f : ℕ) (x : Target) → entered π l sel part f ≡ Some x → Lands π l x
unfolding entered
entered_lands π l sel part f x h = go (find π l sel part f) refl
  where
    go : (y : Option ℕ) → find π l sel part f ≡ y → Lands π l x
    go (Some j) q =
        let b = name π (view l) f (j / 16) in
        let z = rw (entered, q) at h in
        let i : met_target l (target_of π l b (j % 16)) ≡ x = cc in
        subst (Lands π l) i (target_lands π l _)
    go None q = let z = rw (entered, q) at h in let i : ◌≡◌ {A = ℕ} 0 1 = cc in absurd (omega arith)

-- ---- a path

-- a part ends where the first separator stands
pub part_ends : (path : List ℕ) (k p : ℕ) → k ≡ length path - p → part_end path p k ≡ p + position_or_len (λ c. eqb c 62) (drop p path)
unfolding part_end
part_ends path zero p h = rw (drop_all p path (omega arith)) (omega arith)
part_ends path (suc k) p h = rw (drop_more path p 0 (omega arith)) (go (eqb (get_or path p 0) 62) (part_ends path k (p + 1) (omega arith)))
  where
    go : (t : Bool) → part_end path (p + 1) k ≡ p + 1 + position_or_len (λ c. eqb c 62) (drop (p + 1) path)
        → elim t [ true ↦ p | false ↦ part_end path (p + 1) k ] ≡ p + cond (not t) (1 + position_or_len (λ c. eqb c 62) (drop (p + 1) path)) 0
    go true q = omega arith
    go false q = omega (arith, q)

module _ (π : Partition) (l : List ℕ) (sel : Selection) (path : List ℕ) where
  pub look_empty : (root : ℕ) → length path < 1 → Ok (Some (Directory root)) ≡ look_from π l sel root path
  unfolding look_from
  look_empty root h = rw (look_from, eq-eqb (length path) 0 (omega arith))

  pub look_some : (root : ℕ) {x : Looked} → 1 ≤ length path → x ≡ look π l sel 9 path 0 root → x ≡ look_from π l sel root path
  unfolding look_from
  look_some root h q = rw (look_from, ne_eqb (length path) 0 (λ z. absurd (omega arith))) q

-- a path that has come to place p in directory f, i levels down: what is left of it has the whole's answer w
pub record Looking (π : Partition) (l : List ℕ) (sel : Selection) (path : List ℕ) (i p f : ℕ) (w : Looked) : Type 0 where
  pub left : look π l sel (9 - i) path p f ≡ w
  pub file : is_file π (view l) f ≡ true
  pub low : p ≤ length path
  pub few : i ≤ 9

module _ {π : Partition} {l : List ℕ} {sel : Selection} {path : List ℕ} {i p f : ℕ} {w : Looked} (s : Looking π l sel path i p f w) where
  pub look_beyond : 9 ≤ i → Err f ≡ w
  unfolding look
  look_beyond h = let z : 9 - i ≡ zero = omega arith in rw z at s.left

  module _ {q : ℕ} {x : Option Target} (h : i < 9) (z : q ≡ part_end path p (length path - p)) (y : x ≡ entered π l sel (take (q - p) (drop p path)) f) where
    step : pick (ltb q (length path)) (into (look π l sel (9 - (i + 1)) path (q + 1)) x) (Ok x) ≡ w
    unfolding look
    step = let d : 9 - i ≡ suc (9 - (i + 1)) = omega arith in rw (y, z) (sym (ap (λ (d : ℕ). look π l sel d path p f) d) ∙ s.left)

    pub look_absent : x ≡ None → Ok None ≡ w
    look_absent c = go (ltb q (length path)) (rw c at step)
      where
        go : (u : Bool) → pick u (Ok None) (Ok None) ≡ w → Ok None ≡ w
        go true e = e
        go false e = e

    pub look_ends : length path ≤ q → Ok x ≡ w
    look_ends r = rw (le-ltb q (length path) r) at step

    module _ {m : Target} (c : x ≡ Some m) (r : q < length path) where
      -- no directory to go on in
      pub look_stuck : ((t : ℕ) → m ≡ Directory t → ⊥) → Ok None ≡ w
      look_stuck n = go m (λ t e. n t e) (rw (c, lt-ltb q (length path) r) at step)
        where
          go : (m : Target) → ((t : ℕ) → m ≡ Directory t → ⊥) → into (look π l sel (9 - (i + 1)) path (q + 1)) (Some m) ≡ w → Ok None ≡ w
          go (File t) n u = u
          go Dangling n u = u
          go (Directory t) n u = absurd (n t refl)

      pub look_next : {t : ℕ} → m ≡ Directory t → Looking π l sel path (i + 1) (q + 1) t w
      look_next {t} d =
          record { left = rw d at (rw (c, lt-ltb q (length path) r) at step); file = entered_lands π l sel _ f (Directory t) (sym y ∙ rw d at c); low = omega arith; few = omega arith }

pub ruleset looks = (look_empty, look_some, look_beyond, look_absent, look_ends, look_stuck, rules)

-- ---- what look up names lies in the partition

abbrev pub TargetIn : ℕ → Target → Type 0
TargetIn e (File t) = t ≤ e
TargetIn e (Directory t) = t ≤ e
TargetIn e Dangling = Unit {0}

abbrev pub LookedIn : ℕ → Looked → Type 0
LookedIn e (Ok (Some x)) = TargetIn e x
LookedIn e (Ok None) = Unit {0}
LookedIn e (Err f) = f ≤ e

pub file_in : (π : Partition) (l : List ℕ) (f : ℕ) → is_file π (view l) f ≡ true → f ≤ π.e
unfolding is_file
file_in π l f h = (candidate_in π (view l) f (both_left _ _ h)).1

lands_in : (π : Partition) (l : List ℕ) (x : Target) → Lands π l x → TargetIn π.e x
lands_in π l (File t) h = file_in π l t h
lands_in π l (Directory t) h = file_in π l t h
lands_in π l Dangling h = tt

module _ (π : Partition) (l : List ℕ) (sel : Selection) (path : List ℕ) where
  step_in : (k : ℕ → Looked) (more : Bool) (x : Option Target) → ((t : ℕ) → is_file π (view l) t ≡ true → LookedIn π.e (k t)) → ((t : Target) → x ≡ Some t → Lands π l t)
      → LookedIn π.e (pick more (into k x) (Ok x))
  step_in k true None h g = tt
  step_in k true (Some Dangling) h g = tt
  step_in k true (Some (File t)) h g = tt
  step_in k true (Some (Directory t)) h g = h t (g (Directory t) refl)
  step_in k false None h g = tt
  step_in k false (Some x) h g = lands_in π l x (g x refl)

  pub look_in_spec : (d p f : ℕ) → is_file π (view l) f ≡ true → LookedIn π.e (look π l sel d path p f)
  unfolding look
  look_in_spec zero p f h = file_in π l f h
  look_in_spec (suc d) p f h =
      let q = part_end path p (length path - p) in
      let part = take (q - p) (drop p path) in
      step_in (look π l sel d path (q + 1)) (ltb q (length path)) (entered π l sel part f) (λ t k. look_in_spec d (q + 1) t k) (λ x z. entered_lands π l sel part f x z)

  pub look_from_in : (root : ℕ) → is_file π (view l) root ≡ true → LookedIn π.e (look_from π l sel root path)
  unfolding look_from
  look_from_in root h = go (eqb (length path) 0)
    where
      go : (u : Bool) → LookedIn π.e (pick u (Ok (Some (Directory root))) (look π l sel 9 path 0 root))
      go true = file_in π l root h
      go false = look_in_spec 9 0 root h
