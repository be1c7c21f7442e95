-- What a file rests on. Two views that agree there agree on whether it is well formed, on what is present and where, and on link order.
use Rattle.std.specs.Prelude.{◌≡◌, ◌⊎◌, ◌≢◌, List, [], ◌∷◌, Bool, ℕ, zero, suc, ◌+◌, ◌-◌, ◌*◌, ◌%◌, ◌≤◌, ◌<◌}
use Rattle.std.proofs.Math.Path.{refl, sym, ap}
use Rattle.std.proofs.Common.{ap₂, ◌∙◌, subst, inl, inr, true≢false, arith}
use Rattle.std.proofs.Math.Bool.{true, false, not}
use Rattle.std.proofs.Math.Dec.{eqb}
use Rattle.std.proofs.lemmas.Bool.{eqb-false}
use Rattle.base.specs.Tests.{pick, both, every, count, those}
use Rattle.base.specs.Laws.{pick_same, cons_same, iff_eq, both_left, both_of}
use Rattle.drive.specs.Address.{pda, pda_block, lda_block, is_lda}
use Rattle.image.specs.View.{View, Rec, pair}
use Rattle.volume.specs.Words.{last_block_at, last_address_at, in_use_at, low_number_at, low_address_at}
use Rattle.volume.proofs.Order.{least_present, above_next, below_prev}
use Rattle.volume.specs.Search.{seek, down, seek_same, down_same, count_same}
use Rattle.volume.specs.Keys.{home, key_of, number, reach, up, slot, first, low, span}
use Rattle.volume.proofs.KeyLaws.{key_ind}
use Rattle.volume.specs.Files.{candidate, len, spot, present, entry, well_formed, is_file, is_malformed, file_of, key, owned, files, unowned, above, below, least, size, tally, link}
use Rattle.volume.specs.declared.Partition.{Partition}
use Rattle.volume.specs.Answers.{lowest_malformed, Unmarred}
use Rattle.volume.proofs.Readings.{candidate_in, lowest_none, none_lowest}
use Rattle.volume.proofs.Index.{here_of, of_here, spot_home, spot_step, present_home, Member, WF, wf_of, of_wf, own, owned_by, file_candidate}

-- two records with the same serial and relative number
pub record SameHead (r r' : Rec) : Type 0 where
  pub low : r 0 ≡ r' 0
  pub high : r 1 ≡ r' 1
  pub rel : r 2 ≡ r' 2

pub same_serial : {r r' : Rec} → SameHead r r' → r 0 + 65536 * r 1 ≡ r' 0 + 65536 * r' 1
same_serial h = ap₂ (λ (x y : ℕ). x + 65536 * y) h.low h.high

pub head_of_same : {r r' : Rec} → r ≡ r' → SameHead r r'
head_of_same q = record { low = ap (λ (x : Rec). x 0) q; high = ap (λ (x : Rec). x 1) q; rel = ap (λ (x : Rec). x 2) q }

pub head_trans : {r r' r'' : Rec} → SameHead r r' → SameHead r' r'' → SameHead r r''
head_trans a b = record { low = a.low ∙ b.low; high = a.high ∙ b.high; rel = a.rel ∙ b.rel }

pub head_sym : {r r' : Rec} → SameHead r r' → SameHead r' r
head_sym a = record { low = sym a.low; high = sym a.high; rel = sym a.rel }

module _ (π : Partition) (v v' : View) (f : ℕ) where
  -- L and its address; the headers of what is present; the entries in what is present, those that L asks for and all of the FIB's
  pub record Shape : Type 0 where
    pub length : v f last_block_at ≡ v' f last_block_at
    pub last : pair v f last_address_at ≡ pair v' f last_address_at
    pub used : v f in_use_at ≡ v' f in_use_at
    pub lowest : v f low_number_at ≡ v' f low_number_at
    pub low_at : pair v f low_address_at ≡ pair v' f low_address_at
    pub heads : (k : ℕ) → present π v f k ≡ true → SameHead (v (spot π v f k)) (v' (spot π v f k))
    pub entries : (k : ℕ) → k ≢ home → present π v f (up k) ≡ true → (first k < len v f) ⊎ (up k ≡ home)
        → pair v (spot π v f (up k)) (slot k) ≡ pair v' (spot π v f (up k)) (slot k)

  -- its form, its description and its bytes
  pub record Kept : Type 0 where
    pub shape : Shape
    pub text : (w : ℕ) → 8 ≤ w → w < 60 → v f w ≡ v' f w
    pub kind : v f 256 ≡ v' f 256
    pub bytes : (k : ℕ) → home < k → present π v f k ≡ true → (w : ℕ) → 8 ≤ w → v (spot π v f k) w ≡ v' (spot π v f k) w

  module _ (s : Shape) where
    pub kept_len : len v f ≡ len v' f
    unfolding len
    kept_len = ap (λ (x : ℕ). (x + 1) % 65536) s.length

    -- once over the level: present alike, and what is present stands where it stood
    record Alike (k : ℕ) : Type 0 where
      pub pre : present π v f k ≡ present π v' f k
      pub at : present π v f k ≡ true → spot π v f k ≡ spot π v' f k

    entry_same : (k : ℕ) → k ≢ home → present π v f (up k) ≡ true → (first k < len v f) ⊎ (up k ≡ home) → spot π v f (up k) ≡ spot π v' f (up k)
        → entry π v f k ≡ entry π v' f k
    unfolding entry
    entry_same k n g a q = s.entries k n g a ∙ ap (λ (b : ℕ). pair v' b (slot k)) q

    alike : (k : ℕ) → Alike k
    alike = key_ind Alike home_alike step
      where
        home_alike : Alike home
        home_alike = record { pre = present_home π v f ∙ sym (present_home π v' f); at = λ _. spot_home π v f ∙ sym (spot_home π v' f) }

        step : (k : ℕ) → k ≢ home → Alike (up k) → Alike k
        step k n ih = record {
          pre = iff_eq _ _
              (λ p. let h = here_of π v f k n p in of_here π v' f k n (record {
                asked = subst (λ (x : ℕ). first k < x) kept_len h.asked;
                held = sym ih.pre ∙ h.held;
                said = λ z. h.said (same h.held (inl h.asked) ∙ z);
              }))
              (λ p. let h = here_of π v' f k n p in
              let g = ih.pre ∙ h.held in
              let a = subst (λ (x : ℕ). first k < x) (sym kept_len) h.asked in
              of_here π v f k n (record { asked = a; held = g; said = λ z. h.said (sym (same g (inl a)) ∙ z) }));
          at = λ p. let h = here_of π v f k n p in spot_step π v f k n ∙ ap (lda_block π.drive) (same h.held (inl h.asked)) ∙ sym (spot_step π v' f k n);
        }
          where
            same : present π v f (up k) ≡ true → (first k < len v f) ⊎ (up k ≡ home) → entry π v f k ≡ entry π v' f k
            same g a = entry_same k n g a (ih.at g)

    pub kept_present : (k : ℕ) → present π v f k ≡ present π v' f k
    kept_present k = (alike k).pre

    pub kept_spot : (k : ℕ) → present π v f k ≡ true → spot π v f k ≡ spot π v' f k
    kept_spot k = (alike k).at

    pub kept_entry : (k : ℕ) → k ≢ home → present π v f k ≡ true → entry π v f k ≡ entry π v' f k
    kept_entry k n p = let h = here_of π v f k n p in entry_same k n h.held (inl h.asked) (kept_spot (up k) h.held)

    -- link order
    pub kept_above : (k : ℕ) → above π v f k ≡ above π v' f k
    unfolding above
    kept_above k = seek_same _ _ _ _ kept_present ∙ ap (λ (n : ℕ). seek (home + n - k) (suc k) (present π v' f)) kept_len

    pub kept_below : (k : ℕ) → below π v f k ≡ below π v' f k
    unfolding below
    kept_below k = down_same _ _ _ _ kept_present ∙ ap (λ (n : ℕ). down (low n) (k - low n) (present π v' f)) kept_len

    pub kept_least : least π v f ≡ least π v' f
    unfolding least
    kept_least = seek_same _ _ _ _ kept_present ∙ ap (λ (n : ℕ). seek (span n) (low n) (present π v' f)) kept_len

    pub kept_size : size π v f ≡ size π v' f
    unfolding size
    kept_size = count_same _ _ _ (λ i. kept_present (low (len v f) + i)) ∙ ap (λ (n : ℕ). count (span n) (λ i. present π v' f (low n + i))) kept_len

    pub kept_link : (k : ℕ) → (k ≢ 0 → present π v f k ≡ true) → link π v f k ≡ link π v' f k
    unfolding link
    kept_link k h = pick_same (eqb k 0) (λ _. refl) (λ q. ap (pda π.drive) (kept_spot k (h (eqb-false k 0 q))))

    pub kept_next : (k : ℕ) → link π v f (above π v f k) ≡ link π v' f (above π v' f k)
    kept_next k = kept_link (above π v f k) (λ n. ((above_next π v f k).hit n).0) ∙ ap (link π v' f) (kept_above k)

    pub kept_prev : (k : ℕ) → link π v f (below π v f k) ≡ link π v' f (below π v' f k)
    kept_prev k = kept_link (below π v f k) (λ n. ((below_prev π v f k).hit n).0) ∙ ap (link π v' f) (kept_below k)

    pub fib_entry : (k : ℕ) → k ≢ home → up k ≡ home → pair v f (slot k) ≡ pair v' f (slot k)
    fib_entry k n q =
        subst (λ (b : ℕ). pair v b (slot k) ≡ pair v' b (slot k)) (ap (spot π v f) q ∙ spot_home π v f) (s.entries k n (ap (present π v f) q ∙ present_home π v f) (inr q))

    kept_tally : well_formed π v f ≡ true → tally π v f ≡ true → tally π v' f ≡ true
    unfolding tally
    kept_tally h t = sym (ap every
        (cons_same (ap₂ eqb s.used kept_size)
        (cons_same (ap₂ (λ (x y : ℕ). eqb x (number y)) s.lowest kept_least)
        (cons_same {l = []} (ap₂ (is_lda π.drive) s.low_at (kept_spot (least π v f) (least_present π v f h).1 ∙ ap (spot π v' f) kept_least)) refl)))) ∙ t

    pub kept_formed : well_formed π v f ≡ true → well_formed π v' f ≡ true
    kept_formed h = of_wf π v' f (record {
      short = subst (λ (n : ℕ). n ≤ reach) kept_len w.short;
      good = λ k n p. let g = kept_present k ∙ p in ap₂ (is_lda π.drive) (sym (kept_entry k n g)) (sym (kept_spot k g)) ∙ w.good k n g;
      mine = λ k n p. let g = kept_present k ∙ p in
          let m = w.mine k n g in
          subst (λ (b : ℕ). Member π v' f b k) (kept_spot k g) (record { ins = m.ins; ser = sym (same_serial (s.heads k g)) ∙ m.ser; num = sym (s.heads k g).rel ∙ m.num });
      nil = λ k n q l. sym (fib_entry k n q) ∙ w.nil k n q (subst (λ (x : ℕ). x ≤ first k) (sym kept_len) l);
      ends = subst (λ (n : ℕ). present π v' f (home + n) ≡ true) kept_len (sym (kept_present (home + len v f)) ∙ w.ends);
      last = ap₂ (is_lda π.drive) (sym s.last) (ap (λ (n : ℕ). spot π v' f (home + n)) (sym kept_len) ∙ sym (kept_spot (home + len v f) w.ends)) ∙ w.last;
      full = λ k l. sym (kept_present k) ∙ w.full k (subst (λ (n : ℕ). first k < n) (sym kept_len) l);
      tallied = kept_tally h w.tallied;
    })
      where
        w : WF π v f
        w = wf_of π v f h

-- the agreement is mutual
pub shape_sym : (π : Partition) (v v' : View) (f : ℕ) → Shape π v v' f → Shape π v' v f
shape_sym π v v' f s = record {
  length = sym s.length;
  last = sym s.last;
  used = sym s.used;
  lowest = sym s.lowest;
  low_at = sym s.low_at;
  heads = λ k p. let g = kept_present π v v' f s k ∙ p in subst (λ (b : ℕ). SameHead (v' b) (v b)) (kept_spot π v v' f s k g) (head_sym (s.heads k g));
  entries = λ k n p a.
      let g = kept_present π v v' f s (up k) ∙ p in
      subst (λ (b : ℕ). pair v' b (slot k) ≡ pair v b (slot k)) (kept_spot π v v' f s (up k) g)
      (sym (s.entries k n g (subst (λ (x : ℕ). (first k < x) ⊎ (up k ≡ home)) (sym (kept_len π v v' f s)) a)));
}

pub kept_well_formed : (π : Partition) (v v' : View) (f : ℕ) → Shape π v v' f → well_formed π v f ≡ well_formed π v' f
kept_well_formed π v v' f s = iff_eq _ _ (kept_formed π v v' f s) (kept_formed π v' v f (shape_sym π v v' f s))

pub those_same : (i k : ℕ) (P Q : ℕ → Bool) → ((j : ℕ) → P j ≡ Q j) → those i k P ≡ those i k Q
unfolding those
those_same i zero P Q h = refl
those_same i (suc k) P Q h = ap₂ (λ (t : Bool) (r : List ℕ). pick t (i ∷ r) r) (h i) (those_same (suc i) k P Q h)

-- ---- all files

module _ (π : Partition) where
  -- no candidate is malformed
  abbrev pub Clean : View → Type 0
  Clean v = (f : ℕ) → candidate π v f ≡ true → well_formed π v f ≡ true

  -- exactly if the lowest malformed one is none
  pub clean_of : (v : View) → Unmarred π v → Clean v
  unfolding lowest_malformed is_malformed both
  clean_of v h f c = go (well_formed π v f) refl
    where
      go : (t : Bool) → well_formed π v f ≡ t → t ≡ true
      go true q = refl
      go false q =
          let i = candidate_in π v f c in
          absurd (true≢false (sym (both_of {a = candidate π v f} {b = not (well_formed π v f)} c (ap not q)) ∙ lowest_none (is_malformed π v) (π.e - π.s) (π.s + 1) h f (omega (arith, i.0)) (omega (arith, i.0, i.1))))

  pub of_clean : (v : View) → Clean v → Unmarred π v
  unfolding lowest_malformed is_malformed both
  of_clean v c = none_lowest (is_malformed π v) (π.e - π.s) (π.s + 1) (λ f l u. go f (candidate π v f) refl)
    where
      go : (f : ℕ) (t : Bool) → candidate π v f ≡ t → is_malformed π v f ≡ false
      go f true q = rw (q, c f q, is_malformed)
      go f false q = rw (q, is_malformed)

  -- the same candidates, each of the same form; and with the same content
  pub record Formed (v v' : View) : Type 0 where
    pub shape : (f : ℕ) → candidate π v f ≡ true → Shape π v v' f
    pub cands : (f : ℕ) → candidate π v f ≡ candidate π v' f

  pub record Agree (v v' : View) : Type 0 where
    pub kept : (f : ℕ) → candidate π v f ≡ true → Kept π v v' f
    pub cands : (f : ℕ) → candidate π v f ≡ candidate π v' f

  pub formed : {v v' : View} → Agree v v' → Formed v v'
  formed a = record { shape = λ f c. (a.kept f c).shape; cands = a.cands }

  pub formed_sym : {v v' : View} → Formed v v' → Formed v' v
  formed_sym {v} {v'} a = record { shape = λ f c. shape_sym π v v' f (a.shape f (a.cands f ∙ c)); cands = λ f. sym (a.cands f) }

  module _ (v v' : View) (c : Clean v) (a : Formed v v') where
    pub agree_clean : Clean v'
    agree_clean f h = let g = a.cands f ∙ h in sym (kept_well_formed π v v' f (a.shape f g)) ∙ c f g

    pub agree_file : (f : ℕ) → is_file π v f ≡ is_file π v' f
    unfolding is_file
    agree_file f =
        iff_eq _ _
        (λ h. let g = both_left _ _ h in both_of (sym (a.cands f) ∙ g) (agree_clean f (sym (a.cands f) ∙ g)))
        (λ h. let g = a.cands f ∙ both_left _ _ h in both_of g (c f g))

    pub agree_files : files π v ≡ files π v'
    unfolding files
    agree_files = those_same (suc π.s) (π.e - π.s) _ _ agree_file

    -- an owned block's header leads to the same file and key
    pub agree_head : (b : ℕ) → owned π v b ≡ true → SameHead (v b) (v' b)
    agree_head b h =
        let o = own π v b h in
        subst (λ (x : ℕ). SameHead (v x) (v' x)) o.back ((a.shape (file_of π v b) (file_candidate π v _ o.file)).heads (key v b) o.here)

    pub agree_file_of : (b : ℕ) → owned π v b ≡ true → file_of π v b ≡ file_of π v' b
    agree_file_of b h = ap (pda_block π.drive) (same_serial (agree_head b h))

    pub agree_key : (b : ℕ) → owned π v b ≡ true → key v b ≡ key v' b
    unfolding key
    agree_key b h = ap key_of (agree_head b h).rel

    pub agree_owns : (b : ℕ) → owned π v b ≡ true → owned π v' b ≡ true
    agree_owns b h =
        let f = file_of π v b in
        let k = key v b in
        let o = own π v b h in
        let s = a.shape f (file_candidate π v f o.file) in
        owned_by π v' b f k (sym (agree_file_of b h)) (sym (agree_key b h)) (record {
          ser = sym (same_serial (agree_head b h)) ∙ o.ser;
          file = sym (agree_file f) ∙ o.file;
          here = sym (kept_present π v v' f s k) ∙ o.here;
          back = sym (kept_spot π v v' f s k o.here) ∙ o.back;
        })

  module _ (v v' : View) (c : Clean v) (a : Formed v v') where
    pub agree_owned : (b : ℕ) → owned π v b ≡ owned π v' b
    agree_owned b = iff_eq _ _ (agree_owns v v' c a b) (agree_owns v' v (agree_clean v v' c a) (formed_sym a) b)

    pub agree_unowned : unowned π v ≡ unowned π v'
    unfolding unowned
    agree_unowned = those_same (suc π.s) (π.e - π.s) _ _ (λ b. ap not (agree_owned b))
