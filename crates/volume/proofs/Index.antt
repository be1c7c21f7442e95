-- The index of a file, key by key: what is present, where it stands, what well formed means.
use Rattle.std.specs.Prelude.{◌≡◌, ◌≢◌, [], Bool, not, ◌||◌, ltb}
use Rattle.std.proofs.Math.Path.{refl, sym, ap, ap₂, subst}
use Rattle.std.proofs.Common.{◌∙◌, true≢false, arith}
use Rattle.std.proofs.Math.Bool.{true, false}
use Prim.Native.Nat.{ℕ, zero, suc, ◌+◌, ◌-◌, ◌≤◌, ◌<◌}
use Rattle.std.proofs.Math.Dec.{eqb}
use borrow.Author.Tests.{ltb-true, ltb-false, eqb-true, eqb-false, lt-ltb, le-ltb, eq-eqb, ne_eqb, le-leb, leb-true, not-true}
use Rattle.base.specs.Tests.{pick, both, every, all}
use Rattle.base.specs.Laws.{all_at, all_of, pick_same, every_at, both_left, both_right, both_of, cons_same, never}
use Rattle.drive.specs.Address.{pda, pda_block, lda_block, is_lda}
use Rattle.drive.specs.Laws.{pda_back}
use Rattle.image.specs.View.{View, pair}
use Rattle.volume.specs.Words.{serial_at, relative_at, last_address_at}
use Rattle.volume.specs.Keys.{home, key_of, number, reach, up, slot, first, low, span}
use Rattle.volume.proofs.KeyLaws.{level, up_level, level_few, level_zero, low_home, asked_low, asked_high, last_asked, span_end, fib_keys, near_keys, key_number, number_home, number_fib}
use Rattle.volume.specs.Files.{inside, serial, candidate, len, spot_in, present_in, spot, present, entry, named, key_test, nil_test, indexed, full_test, gapless, tally, well_formed, is_file, file_of, key, owned}
use Rattle.volume.specs.declared.Partition.{Partition}
use Rattle.volume.proofs.Readings.{off_pib}

-- a test at every key that n blocks can ask for
module _ (n : ℕ) (P : ℕ → Bool) where
  pub span_at : all (span n) (λ i. P (low n + i)) ≡ true → (k : ℕ) → low n ≤ k → k ≤ home + n → P k ≡ true
  span_at h k l m =
      let z : low n + (k - low n) ≡ k = omega arith in
      subst (λ (x : ℕ). P x ≡ true) z (all_at (span n) (λ i. P (low n + i)) h (k - low n) (omega (arith, span_end n)))

  pub span_of : ((k : ℕ) → low n ≤ k → k ≤ home + n → P k ≡ true) → all (span n) (λ i. P (low n + i)) ≡ true
  span_of h = all_of (span n) _ (λ i l. h (low n + i) (omega arith) (omega (arith, span_end n)))

-- an implication as a test
pub unless_at : (a b : Bool) → (not a || b) ≡ true → a ≡ true → b ≡ true
unless_at true b h q = h
unless_at false b h q = absurd (true≢false (sym q))

pub unless_of : (a b : Bool) → (a ≡ true → b ≡ true) → (not a || b) ≡ true
unless_of true b h = h refl
unless_of false b h = refl

pub or_at : (a b : Bool) → (a || b) ≡ true → a ≡ false → b ≡ true
or_at true b h q = absurd (true≢false q)
or_at false b h q = h

pub or_of : (a b : Bool) → (a ≡ false → b ≡ true) → (a || b) ≡ true
or_of true b h = refl
or_of false b h = h refl

module _ (π : Partition) (v : View) (f : ℕ) where
  -- ---- the level does not matter

  spot_more : (n k : ℕ) → level k ≤ n → spot_in π v (suc n) f k ≡ spot_in π v n f k
  unfolding spot_in
  spot_more zero k l = ap (λ (t : Bool). pick t f (lda_block π.drive (pair v f (slot k)))) (eq-eqb k home (level_zero k l))
  spot_more (suc n) k l =
      pick_same (eqb k home) (λ _. refl)
      (λ q. ap (λ (b : ℕ). lda_block π.drive (pair v b (slot k))) (spot_more n (up k) (omega (arith, up_level k (eqb-false k home q)))))

  present_more : (n k : ℕ) → level k ≤ n → present_in π v (suc n) f k ≡ present_in π v n f k
  unfolding present_in spot_in
  present_more zero k l = ap (λ (t : Bool). pick t true (both (ltb (first k) (len v f)) (both true (not (eqb (pair v f (slot k)) 0))))) (eq-eqb k home (level_zero k l))
  present_more (suc n) k l =
      pick_same (eqb k home) (λ _. refl)
      (λ q. let m : level (up k) ≤ n = omega (arith, up_level k (eqb-false k home q)) in
      ap₂ (λ (t : Bool) (b : ℕ). both (ltb (first k) (len v f)) (both t (not (eqb (pair v b (slot k)) 0)))) (present_more n (up k) m) (spot_more n (up k) m))

  pub spot_home : spot π v f home ≡ f
  unfolding spot spot_in
  spot_home = refl

  pub present_home : present π v f home ≡ true
  unfolding present present_in
  present_home = refl

  holder_level : (k : ℕ) → k ≢ home → level (up k) ≤ 2
  holder_level k n = omega (arith, up_level k n, level_few k)

  -- the block of a key is what its entry decodes to
  pub spot_step : (k : ℕ) → k ≢ home → spot π v f k ≡ lda_block π.drive (entry π v f k)
  unfolding spot entry spot_in
  spot_step k n =
      ap (λ (t : Bool). pick t f (lda_block π.drive (pair v (spot_in π v 2 f (up k)) (slot k)))) (ne_eqb k home n)
      ∙ ap (λ (b : ℕ). lda_block π.drive (pair v b (slot k))) (sym (spot_more 2 (up k) (holder_level k n)))

  -- a key is present: L asks for it, its holder is, and its entry is not nil
  pub record Here (k : ℕ) : Type 0 where
    pub asked : first k < len v f
    pub held : present π v f (up k) ≡ true
    pub said : entry π v f k ≢ 0

  present_step : (k : ℕ) → k ≢ home → present π v f k ≡ both (ltb (first k) (len v f)) (both (present π v f (up k)) (not (eqb (entry π v f k) 0)))
  unfolding present entry spot present_in
  present_step k n =
      ap (λ (t : Bool). pick t true (both (ltb (first k) (len v f)) (both (present_in π v 2 f (up k)) (not (eqb (pair v (spot_in π v 2 f (up k)) (slot k)) 0))))) (ne_eqb k home n)
      ∙ ap₂ (λ (t : Bool) (b : ℕ). both (ltb (first k) (len v f)) (both t (not (eqb (pair v b (slot k)) 0))))
      (sym (present_more 2 (up k) (holder_level k n))) (sym (spot_more 2 (up k) (holder_level k n)))

  pub here_of : (k : ℕ) → k ≢ home → present π v f k ≡ true → Here k
  here_of k n h =
      let g = sym (present_step k n) ∙ h in
      let u = both_right _ _ g in
      record { asked = ltb-true _ _ (both_left _ _ g); held = both_left _ _ u; said = eqb-false _ _ (not-true _ (both_right _ _ u)) }

  pub of_here : (k : ℕ) → k ≢ home → Here k → present π v f k ≡ true
  of_here k n h = present_step k n ∙ both_of (lt-ltb _ _ h.asked) (both_of h.held (ap not (ne_eqb _ _ h.said)))

  -- present keys lie between the least that L asks for and the last block
  pub present_low : (k : ℕ) → present π v f k ≡ true → low (len v f) ≤ k
  present_low k h = go (eqb k home) refl
    where
      go : (t : Bool) → eqb k home ≡ t → low (len v f) ≤ k
      go true q = omega (arith, eqb-true k home q, low_home (len v f))
      go false q = asked_low k (len v f) (here_of k (eqb-false k home q) h).asked

  pub present_high : (k : ℕ) → present π v f k ≡ true → k ≤ home + len v f
  present_high k h = go (eqb k home) refl
    where
      go : (t : Bool) → eqb k home ≡ t → k ≤ home + len v f
      go true q = omega (arith, eqb-true k home q)
      go false q = asked_high k (len v f) (here_of k (eqb-false k home q) h).asked

  -- ---- well formed

  -- block b is f's, with key k
  pub record Member (b k : ℕ) : Type 0 where
    pub ins : inside π b ≡ true
    pub ser : pair v b serial_at ≡ pda π.drive f
    pub num : v b relative_at ≡ number k

  -- well formed, rule by rule
  pub record WF : Type 0 where
    pub short : len v f ≤ reach
    pub good : (k : ℕ) → k ≢ home → present π v f k ≡ true → is_lda π.drive (entry π v f k) (spot π v f k) ≡ true
    pub mine : (k : ℕ) → k ≢ home → present π v f k ≡ true → Member (spot π v f k) k
    pub nil : (k : ℕ) → k ≢ home → up k ≡ home → len v f ≤ first k → pair v f (slot k) ≡ 0
    pub ends : present π v f (home + len v f) ≡ true
    pub last : is_lda π.drive (pair v f last_address_at) (spot π v f (home + len v f)) ≡ true
    pub full : (k : ℕ) → first k < len v f → present π v f k ≡ true
    pub tallied : tally π v f ≡ true

  key_test_holds : well_formed π v f ≡ true → (k : ℕ) → k ≢ home → present π v f k ≡ true → named π v f k ≡ true
  unfolding well_formed indexed
  key_test_holds h k n p =
      or_at _ _ (unless_at _ _ (span_at (len v f) (key_test π v f) (every_at _ h 1) k (present_low k p) (present_high k p)) p) (ne_eqb k home n)

  pub wf_of : well_formed π v f ≡ true → WF
  unfolding well_formed named gapless
  wf_of h = record {
    short = short;
    good = λ k n p. every_at _ (key_test_holds h k n p) 0;
    mine = λ k n p. let m = key_test_holds h k n p in record { ins = every_at _ m 1; ser = eqb-true _ _ (every_at _ m 2); num = eqb-true _ _ (every_at _ m 3) };
    nil = λ k n q l.
        let r = fib_keys k n q in
        let z : 257 + (k - 257) ≡ k = omega (arith, r.0) in
        let t = subst (λ (x : ℕ). nil_test v f x ≡ true) z (all_at 99 _ (every_at _ h 2) (k - 257) (omega (arith, r.0, r.1))) in
        eqb-true _ _ (or_at _ _ (or_at _ _ t (ne_eqb k home n)) (le-ltb _ _ l));
    ends = ends (eqb (len v f) 0) refl;
    last = every_at _ h 3;
    full = full;
    tallied = every_at _ h 5;
  }
    where
      short : len v f ≤ reach
      short = leb-true _ _ (every_at _ h 0)

      full : (k : ℕ) → first k < len v f → present π v f k ≡ true
      full k l = unless_at _ _ (span_at (len v f) (full_test π v f) (every_at _ h 4) k (asked_low k (len v f) l) (asked_high k (len v f) l)) (lt-ltb _ _ l)

      ends : (t : Bool) → eqb (len v f) 0 ≡ t → present π v f (home + len v f) ≡ true
      ends true q = ap (present π v f) (let z : home + len v f ≡ home = omega (arith, eqb-true (len v f) 0 q) in z) ∙ present_home
      ends false q = full (home + len v f) (last_asked (len v f) (omega (arith, eqb-false (len v f) 0 q)))

  pub named_of : WF → (k : ℕ) → k ≢ home → present π v f k ≡ true → named π v f k ≡ true
  unfolding named every
  named_of h k n p =
      let m = h.mine k n p in
      ap every (cons_same (h.good k n p) (cons_same m.ins (cons_same (eq-eqb _ _ m.ser) (cons_same {l = []} (eq-eqb _ _ m.num) refl))))

  pub of_wf : WF → well_formed π v f ≡ true
  unfolding well_formed every indexed gapless
  of_wf h = ap every
      (cons_same (le-leb _ _ h.short)
      (cons_same index
      (cons_same nils
      (cons_same h.last
      (cons_same (span_of (len v f) (full_test π v f) (λ k l m. unless_of _ _ (λ q. h.full k (ltb-true _ _ q))))
      (cons_same {l = []} h.tallied refl))))))
    where
      index : indexed π v f ≡ true
      index = span_of (len v f) (key_test π v f) (λ k l m. unless_of _ _ (λ p. or_of _ _ (λ q. named_of h k (eqb-false k home q) p)))

      nils : all 99 (λ i. nil_test v f (257 + i)) ≡ true
      nils = all_of 99 _ (λ i l. or_of _ _ (λ q. or_of _ _ (λ m. eq-eqb _ _ (h.nil (257 + i) (eqb-false _ _ q) (near_keys (257 + i) (omega arith) (omega arith)) (ltb-false _ _ m)))))

-- ---- a file's blocks

module _ (π : Partition) (v : View) where
  -- block b stands at key k of file f, and has its serial
  pub record Own (b f k : ℕ) : Type 0 where
    pub ser : pair v b serial_at ≡ pda π.drive f
    pub file : is_file π v f ≡ true
    pub here : present π v f k ≡ true
    pub back : spot π v f k ≡ b

  pub own : (b : ℕ) → owned π v b ≡ true → Own b (file_of π v b) (key v b)
  unfolding owned
  own b h =
      let t = both_right _ _ h in
      let u = both_right _ _ t in
      record { ser = eqb-true _ _ (both_left _ _ h); file = both_left _ _ t; here = both_left _ _ u; back = eqb-true _ _ (both_right _ _ u) }

  pub owned_by : (b f k : ℕ) → file_of π v b ≡ f → key v b ≡ k → Own b f k → owned π v b ≡ true
  unfolding owned
  owned_by b f k p q o =
      ap₂ (λ (g j : ℕ). both (eqb (serial v b) (pda π.drive g)) (both (is_file π v g) (both (present π v g j) (eqb (spot π v g j) b)))) p q
      ∙ both_of (eq-eqb _ _ o.ser) (both_of o.file (both_of o.here (eq-eqb _ _ o.back)))

  pub file_candidate : (f : ℕ) → is_file π v f ≡ true → candidate π v f ≡ true
  unfolding is_file
  file_candidate f h = both_left _ _ h

  pub file_formed : (f : ℕ) → is_file π v f ≡ true → well_formed π v f ≡ true
  unfolding is_file
  file_formed f h = both_right _ _ h

module _ (π : Partition) (v : View) (f : ℕ) (c : candidate π v f ≡ true) (h : well_formed π v f ≡ true) where
  pub present_few : (k : ℕ) → present π v f k ≡ true → k < 33059
  present_few k p = omega (arith, present_high π v f k p, (wf_of π v f h).short)

  pub member : (k : ℕ) → present π v f k ≡ true → Member π v f (spot π v f k) k
  unfolding candidate
  member k p = go (eqb k home) refl
    where
      go : (t : Bool) → eqb k home ≡ t → Member π v f (spot π v f k) k
      go true q =
          subst (λ (x : ℕ). Member π v f (spot π v f x) x) (sym (eqb-true k home q))
          (subst (λ (x : ℕ). Member π v f x home) (sym (spot_home π v f))
          (record { ins = every_at _ c 0; ser = eqb-true _ _ (every_at _ c 1); num = eqb-true _ _ (every_at _ c 2) ∙ sym number_home }))
      go false q = (wf_of π v f h).mine k (eqb-false k home q) p

  -- the header leads back
  pub file_back : (k : ℕ) → present π v f k ≡ true → file_of π v (spot π v f k) ≡ f
  file_back k p = ap (pda_block π.drive) (member k p).ser ∙ pda_back π.drive f

  pub key_back : (k : ℕ) → present π v f k ≡ true → key v (spot π v f k) ≡ k
  unfolding key
  key_back k p = ap key_of (member k p).num ∙ key_number k (omega (arith, present_few k p))

  pub member_owned : (k : ℕ) → present π v f k ≡ true → owned π v (spot π v f k) ≡ true
  unfolding is_file
  member_owned k p =
      owned_by π v (spot π v f k) f k (file_back k p) (key_back k p)
      (record { ser = (member k p).ser; file = both_of c h; here = p; back = refl })

-- ---- what ownership means

module _ (π : Partition) (v : View) where
  -- block b is what the index of file f names at key k, the FIB included
  pub record Names (f k b : ℕ) : Type 0 where
    pub file : is_file π v f ≡ true
    pub here : present π v f k ≡ true
    pub is : spot π v f k ≡ b

  -- owned exactly if named
  pub owned_named : (b : ℕ) → owned π v b ≡ true → Names (file_of π v b) (key v b) b
  owned_named b h = let o = own π v b h in record { file = o.file; here = o.here; is = o.back }

  module _ (f k b : ℕ) (n : Names f k b) where
    pub named_member : Member π v f b k
    named_member = subst (λ (x : ℕ). Member π v f x k) n.is (member π v f (file_candidate π v f n.file) (file_formed π v f n.file) k n.here)

    pub named_owned : owned π v b ≡ true
    named_owned = subst (λ (x : ℕ). owned π v x ≡ true) n.is (member_owned π v f (file_candidate π v f n.file) (file_formed π v f n.file) k n.here)

    -- a block's file and key are settled by its header
    pub named_file : file_of π v b ≡ f
    named_file = ap (file_of π v) (sym n.is) ∙ file_back π v f (file_candidate π v f n.file) (file_formed π v f n.file) k n.here

    pub named_key : key v b ≡ k
    named_key = ap (key v) (sym n.is) ∙ key_back π v f (file_candidate π v f n.file) (file_formed π v f n.file) k n.here

    -- nothing that an index names but the FIB is a candidate
    pub named_no_candidate : k ≢ home → candidate π v b ≡ true → ⊥
    unfolding candidate
    named_no_candidate ne c =
        ne (number_fib k (omega (arith, present_few π v f (file_candidate π v f n.file) (file_formed π v f n.file) k n.here))
        (sym named_member.num ∙ eqb-true _ _ (every_at _ c 2)))

  -- two files share no block, and two keys of a file name two blocks
  pub one_file : (f g j k b : ℕ) → Names f j b → Names g k b → f ≡ g
  one_file f g j k b x y = sym (named_file f j b x) ∙ named_file g k b y

  pub one_key : (f g j k b : ℕ) → Names f j b → Names g k b → j ≡ k
  one_key f g j k b x y = sym (named_key f j b x) ∙ named_key g k b y

module _ (π : Partition) (v : View) (b : ℕ) (h : owned π v b ≡ true) where
  -- an owned block lies in the partition
  pub owned_in : inside π b ≡ true
  owned_in = (named_member π v _ _ b (owned_named π v b h)).ins

  pub owned_not_pib : b ≢ π.s
  owned_not_pib = off_pib π b owned_in

pub pib_not : (π : Partition) (v : View) → owned π v π.s ≡ false
pib_not π v = never _ (λ h. owned_not_pib π v π.s h refl)

-- ---- an entry stands in its holder

pub entry_at : (π : Partition) (u : View) (f k : ℕ) → entry π u f k ≡ pair u (spot π u f (up k)) (slot k)
unfolding entry
entry_at π u f k = refl

pub entry_fib : (π : Partition) (u : View) (f k : ℕ) → up k ≡ home → entry π u f k ≡ pair u f (slot k)
unfolding entry
entry_fib π u f k q = ap (λ (b : ℕ). pair u b (slot k)) (ap (spot π u f) q ∙ spot_home π u f)
