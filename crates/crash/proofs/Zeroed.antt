-- Repair of an all-zero partition with Start and End set makes a fresh one, proved.
use Rattle.std.specs.Prelude.{◌≡◌, ◌≢◌, List, [], ◌∷◌, Bool, ℕ, zero, suc, ◌+◌, ◌-◌, ◌*◌, ◌/◌, ◌%◌, ◌≤◌, ◌<◌, Some, Result, Ok, Err}
use Rattle.base.specs.declared.Refusal.{Refusal}
use Rattle.std.proofs.Math.Path.{refl, sym, ap}
use Rattle.std.proofs.Common.{◌∙◌, subst, true≢false, arith}
use Rattle.std.proofs.Math.Bool.{true, false, not}
use Rattle.std.proofs.Math.ListN.{length}
use borrow.Author.Tests.{eqb-true, eq-eqb, ne_eqb, lt-ltb, le-leb}
use Rattle.base.specs.Tests.{pick, both, count, tab_from, those, last_of, head_of}
use Rattle.base.specs.Laws.{every_at, both_left, both_right, both_of}
use Rattle.base.specs.declared.Refusal.TheVariants.{Unsound, NothingFree}
use Rattle.drive.specs.Address.{lda, address}
use Rattle.drive.specs.Laws.{pda_pos}
use Rattle.drive.proofs.Names.{nil_new}
use Rattle.image.specs.View.{View, Rec, after, pair, put, put2, blank}
use Rattle.image.specs.Image.{view}
use Rattle.volume.specs.Outcome.{Outcome}
use Rattle.volume.specs.Words.{serial_at, relative_at, filler_at, next_at, previous_at, free_head_at, free_tail_at, number_free_at, partition_start_at, partition_end_at}
use Rattle.volume.specs.Files.{partition_of, inside, candidate, well_formed, is_file, owned, files, unowned, free, sound, block_at}
use Rattle.volume.specs.declared.Partition.{Partition}
use Rattle.volume.proofs.Frame.{Clean, of_clean}
use Rattle.volume.proofs.Readings.{candidate_in}
use Rattle.volume.specs.Table as table
use Rattle.volume.specs.Plans.{as_filler, freed, repaired_pib, repair_plan, repair_stores}
use Rattle.volume.specs.Answers.{partition, in_partition, checked, check_in, check_clean, tallied}
use Rattle.volume.specs.Calls.{Planned, refuse, finish, repair, repair_in, planned}
use Rattle.frame.specs.Reading.{put2_off}
use Rattle.frame.proofs.Mended.{mended_agree, free_is, sound_is}
use Rattle.frame.specs.Repair.{repaired_free}
use Rattle.frame.proofs.Restart.{target, target_else, target_pib, repair_of, after_val, hits_tab_in, hits_pib}
use Rattle.frame.specs.Sound.{sound_clean, some_free}
use Rattle.crash.proofs.SameFile.{agree_same}
use Rattle.crash.proofs.Held.{Held, placed}
use Rattle.crash.proofs.Accepting.{repair_is}
use Rattle.crash.proofs.Theorem.{mended_held, mended_view}
use Rattle.crash.specs.Statement.{Image, whole}
use Rattle.crash.specs.Zeroed.{zeroed_pib, zeroed, Zeroed, ascending, Fresh}

-- ---- lists and counts where each number passes, or none

those_all : (P : ℕ → Bool) → ((b : ℕ) → P b ≡ true) → (i k : ℕ) → those i k P ≡ tab_from i k (λ b. b)
unfolding those tab_from
those_all P h i zero = refl
those_all P h i (suc k) = ap (λ (t : Bool). pick t (i ∷ those (suc i) k P) (those (suc i) k P)) (h i) ∙ ap (◌∷◌ i) (those_all P h (suc i) k)

those_none : (P : ℕ → Bool) → ((b : ℕ) → P b ≡ false) → (i k : ℕ) → those i k P ≡ []
unfolding those
those_none P h i zero = refl
those_none P h i (suc k) = ap (λ (t : Bool). pick t (i ∷ those (suc i) k P) (those (suc i) k P)) (h i) ∙ those_none P h (suc i) k

count_all : (P : ℕ → Bool) → ((b : ℕ) → P b ≡ true) → (k : ℕ) → count k P ≡ k
unfolding count
count_all P h zero = refl
count_all P h (suc k) = omega (arith, ap (λ (t : Bool). pick t 1 0 + count k P) (h k), count_all P h k)

count_none : (P : ℕ → Bool) → ((b : ℕ) → P b ≡ false) → (k : ℕ) → count k P ≡ 0
unfolding count
count_none P h zero = refl
count_none P h (suc k) = omega (arith, ap (λ (t : Bool). pick t 1 0 + count k P) (h k), count_none P h k)

tab_last : (x i k : ℕ) → 0 < k → last_of x (tab_from i k (λ b. b)) + 1 ≡ i + k
unfolding last_of tab_from
tab_last x i zero h = absurd (omega arith)
tab_last x i (suc zero) h = omega arith
tab_last x i (suc (suc k)) h = omega (arith, tab_last i (suc i) (suc k) (omega arith))

tab_head : (i k : ℕ) → 0 < k → head_of 0 (tab_from i k (λ b. b)) ≡ i
unfolding head_of tab_from
tab_head i zero h = absurd (omega arith)
tab_head i (suc k) h = refl

tab_length : (i k : ℕ) → length (tab_from i k (λ b. b)) ≡ k
unfolding tab_from
tab_length i zero = refl
tab_length i (suc k) = omega (arith, tab_length (suc i) k)

-- ---- what repair writes

word : (x : ℕ) → x % 65536 + 65536 * (x / 65536) ≡ x
word x = omega arith

freed_off : (a f n p : ℕ) (r : Rec) (w : ℕ) → 8 ≤ w → put2 serial_at a (put filler_at f (put2 next_at n (put2 previous_at p r))) w ≡ r w
unfolding put put2
freed_off a f n p r w m =
    simp (ne_eqb w 0 (λ q. omega arith), ne_eqb w 1 (λ q. omega arith), ne_eqb w 3 (λ q. omega arith), ne_eqb w 4 (λ q. omega arith), ne_eqb w 5 (λ q. omega arith), ne_eqb w 6 (λ q. omega arith), ne_eqb w 7 (λ q. omega arith))

-- ---- where there is no file nothing is owned

no_owner : (π : Partition) (v : View) → ((f : ℕ) → is_file π v f ≡ false) → (b : ℕ) → owned π v b ≡ false
unfolding owned
no_owner π v h b = go (owned π v b) refl
  where
    go : (t : Bool) → owned π v b ≡ t → t ≡ false
    go true q = absurd (true≢false (sym (both_left _ _ (both_right _ _ q)) ∙ h _))
    go false q = refl

-- ---- the partition before repair

module _ (π : Partition) (x y : ℕ) (v : View) (z : Zeroed π x y v) where
  empty : (b : ℕ) → π.s < b → b ≤ π.e → v b ≡ blank
  unfolding zeroed
  empty b l m = z b (omega arith) m ∙ ap (λ (t : Bool). pick t (zeroed_pib x y) blank) (ne_eqb b π.s (λ q. omega arith))

  pib_before : π.s ≤ π.e → v π.s ≡ zeroed_pib x y
  unfolding zeroed
  pib_before m = z π.s (omega arith) m ∙ ap (λ (t : Bool). pick t (zeroed_pib x y) blank) (eq-eqb π.s π.s refl)

  -- FreeHead and FreeTail are nil, so that what is written over them is clean
  nil_before : π.s ≤ π.e → (w b : ℕ) → w < 12 → address π.drive (pair v π.s w) b ≡ lda π.drive b
  unfolding blank
  nil_before m w b l = nil_new π.drive (pair v π.s w) b (omega (arith, word w (omega arith), word (w + 1) (omega arith)))
    where
      word : (i : ℕ) → i < 14 → v π.s i ≡ 0
      word i l = ap (λ (r : Rec). r i) (pib_before m) ∙ put2_off partition_start_at x _ i (λ q. omega arith) (λ q. omega arith) ∙ put2_off partition_end_at y blank i (λ q. omega arith) (λ q. omega arith)

  no_candidate : (f : ℕ) → candidate π v f ≡ false
  unfolding candidate blank
  no_candidate f = go (candidate π v f) refl
    where
      go : (t : Bool) → candidate π v f ≡ t → t ≡ false
      go true q =
          let i = candidate_in π v f q in
          let serial : pair v f serial_at ≡ 0 = ap (λ (r : Rec). r 0 + 65536 * r 1) (empty f i.0 i.1) in
          absurd (omega (arith, pda_pos π.drive f, sym serial ∙ eqb-true _ _ (every_at _ q 1)))
      go false q = refl

  clean : Clean π v
  clean f c = absurd (true≢false (sym c ∙ no_candidate f))

  no_file : (f : ℕ) → is_file π v f ≡ false
  unfolding is_file both
  no_file f = ap (λ (t : Bool). both t (well_formed π v f)) (no_candidate f)

  unowned_all : unowned π v ≡ ascending π
  unfolding unowned
  unowned_all = those_all _ (λ b. ap not (no_owner π v no_file b)) (suc π.s) (π.e - π.s)

  module _ (g : π.s < π.e) where
    spare : unowned π v ≢ []
    unfolding inside
    spare = some_free π v (suc π.s) (both_of (lt-ltb π.s (suc π.s) (omega arith)) (le-leb (suc π.s) π.e (omega arith))) (no_owner π v no_file (suc π.s))

    done : repair_in π v ≡ finish 0 (repair_plan π v)
    unfolding repair_in
    done = ap (λ (t : Bool). pick t (refuse NothingFree) (finish 0 (repair_plan π v))) (ne_eqb (length (unowned π v)) 0 (λ q. omega (arith, sym q ∙ ap length unowned_all ∙ tab_length (suc π.s) (π.e - π.s))))

    -- ---- and after it

    module _ (p : 0 < π.s) where
      abbrev mended : View
      mended = after (repair_stores π v) v

      block_is : (b : ℕ) → π.s < b → b ≤ π.e → mended b ≡ freed π v (unowned π v) b
      block_is b l m =
          after_val (target π v) (repair_stores π v) v b (repair_of π v)
          ∙ ap (λ (t : Bool). pick t (target π v b) (v b)) (hits_tab_in π v b l m)
          ∙ target_else π v b (λ q. omega arith) ∙ repaired_free π v (unowned π v) b (no_owner π v no_file b)

      pib_is : mended π.s ≡ repaired_pib π v (unowned π v)
      pib_is =
          after_val (target π v) (repair_stores π v) v π.s (repair_of π v)
          ∙ ap (λ (t : Bool). pick t (target π v π.s) (v π.s)) (hits_pib π v)
          ∙ target_pib π v

      sound_after : sound π mended ≡ true
      sound_after = sound_is π v clean spare g p

      free_after : free π mended ≡ ascending π
      free_after = free_is π v clean spare g p ∙ unowned_all

      no_file_after : (f : ℕ) → is_file π mended f ≡ false
      no_file_after f = sym (agree_same π v _ clean (mended_agree π v clean) f).is ∙ no_file f

      checks_after : check_in π mended ≡ Ok (Some (0, 0, π.e - π.s))
      unfolding check_in tallied
      checks_after =
          ap (check_clean π mended) (of_clean π mended (sound_clean π mended sound_after))
          ∙ ap (λ (t : Bool). pick t (tallied π mended) (Err Unsound)) sound_after
          ∙ three (count_none _ (λ i. no_file_after (block_at π i)) (π.e - π.s)) (count_none _ (λ i. no_owner π mended no_file_after (block_at π i)) (π.e - π.s))
          (count_all _ (λ i. ap not (no_owner π mended no_file_after (block_at π i))) (π.e - π.s))
        where
          three : {a b c a' b' c' : ℕ} → a ≡ a' → b ≡ b' → c ≡ c' → ◌≡◌ {A = Outcome} (Ok (Some (a, b, c))) (Ok (Some (a', b', c')))
          three x y w = λ i. Ok (Some (x i, y i, w i))

      few : 0 < π.e - π.s
      few = omega arith

      pib_after : mended π.s ≡ put2 free_head_at (lda π.drive (suc π.s)) (put2 free_tail_at (lda π.drive π.e) (put2 number_free_at (π.e - π.s) (zeroed_pib x y)))
      unfolding repaired_pib
      pib_after = pib_is ∙ (λ i. put2 free_head_at (first i) (put2 free_tail_at (last i) (put2 number_free_at (size i) (words i))))
        where
          first : address π.drive (pair v π.s free_head_at) (head_of 0 (unowned π v)) ≡ lda π.drive (suc π.s)
          first = nil_before (omega arith) free_head_at (head_of 0 (unowned π v)) (omega arith) ∙ ap (lda π.drive) (ap (head_of 0) unowned_all ∙ tab_head (suc π.s) (π.e - π.s) few)

          last : address π.drive (pair v π.s free_tail_at) (last_of 0 (unowned π v)) ≡ lda π.drive π.e
          last = nil_before (omega arith) free_tail_at (last_of 0 (unowned π v)) (omega arith) ∙ ap (lda π.drive) (ap (last_of 0) unowned_all ∙ omega (arith, tab_last 0 (suc π.s) (π.e - π.s) few))

          size : length (unowned π v) ≡ π.e - π.s
          size = ap length unowned_all ∙ tab_length (suc π.s) (π.e - π.s)

          words : v π.s ≡ zeroed_pib x y
          words = pib_before (omega arith)

      head_after : pair mended π.s free_head_at ≡ lda π.drive (suc π.s)
      unfolding put put2
      head_after = ap (λ (r : Rec). r 8 + 65536 * r 9) pib_after ∙ word (lda π.drive (suc π.s))

      tail_after : pair mended π.s free_tail_at ≡ lda π.drive π.e
      unfolding put put2
      tail_after = ap (λ (r : Rec). r 10 + 65536 * r 11) pib_after ∙ word (lda π.drive π.e)

      number_after : pair mended π.s number_free_at ≡ π.e - π.s
      unfolding put put2
      number_after = ap (λ (r : Rec). r 12 + 65536 * r 13) pib_after ∙ word (π.e - π.s)

      module _ (b : ℕ) (l : π.s < b) (m : b ≤ π.e) where
        serial_after : pair mended b serial_at ≡ 0
        unfolding freed put put2
        serial_after = ap (λ (r : Rec). r 0 + 65536 * r 1) (block_is b l m)

        relative_after : mended b relative_at ≡ 0
        unfolding freed put put2 blank
        relative_after = ap (λ (r : Rec). r 2) (block_is b l m) ∙ ap (λ (r : Rec). r 2) (empty b l m)

        filler_after : mended b filler_at ≡ as_filler (suc π.s)
        unfolding freed put put2
        filler_after = ap (λ (r : Rec). r 3) (block_is b l m) ∙ ap as_filler (ap (head_of 0) unowned_all ∙ tab_head (suc π.s) (π.e - π.s) few)

        zero_after : (w : ℕ) → 8 ≤ w → mended b w ≡ 0
        unfolding freed blank
        zero_after w k =
            ap (λ (r : Rec). r w) (block_is b l m)
            ∙ freed_off _ _ _ _ (v b) w k
            ∙ ap (λ (r : Rec). r w) (empty b l m)

      fresh_after : Fresh π x y mended
      unfolding files
      fresh_after = record {
        ok = sound_after;
        no_files = those_none _ no_file_after (suc π.s) (π.e - π.s);
        chain = free_after;
        checks = checks_after;
        head = head_after;
        tail = tail_after;
        number = number_after;
        pib = pib_after;
        serials = serial_after;
        relatives = relative_after;
        fillers = filler_after;
        zeros = zero_after;
      }

-- ---- the theorem, of views and of images

-- M12's partition is one
pub worked_zeroed : Zeroed table.seven (lda 0 1) (lda 0 7) table.zeroed
unfolding zeroed table.zeroed
worked_zeroed b l m = refl

pub becomes_fresh : (π : Partition) (x y : ℕ) (v : View) → 1 ≤ π.s → π.s < π.e → Zeroed π x y v
    → ((repair_in π v).outcome ≡ Ok (Some (0, 0, 0))) × Fresh π x y (after (repair_in π v).list v)
becomes_fresh π x y v p g z =
    let q = done π x y v z g in
    (ap (λ (k : Planned). k.outcome) q, subst (λ (k : Planned). Fresh π x y (after k.list v)) (sym q) (fresh_after π x y v z g p))

-- an image with a good partition that is all zero but for Start and End: repair is done, and check of what it leaves counts no file,
-- no owned block and e - s free ones
pub repaired_fresh : (d s e x y : ℕ) (l : List ℕ) → Image l → partition d l s ≡ Ok e → Zeroed (partition_of d s e) x y (view l)
    → ((planned d l s repair).outcome ≡ Ok (Some (0, 0, 0))) × Fresh (partition_of d s e) x y (view (whole d s l repair)) × (checked d (whole d s l repair) s ≡ Ok (Some (0, 0, e - s)))
unfolding checked
repaired_fresh d s e x y l b q z = (
  ap (λ (k : Planned). k.outcome) (repair_is h c n),
  fresh,
  ap (λ (k : Result ℕ Refusal). in_partition Err k (λ (e : ℕ). check_in (partition_of d s e) (view (whole d s l repair)))) (mended_held h c n).good ∙ fresh.checks,
)
  where
    π : Partition
    π = partition_of d s e

    h : Held (partition_of d s e) l
    h = record { good = q; bytes = b }

    c : Clean (partition_of d s e) (view l)
    c = clean π x y (view l) z

    n : unowned (partition_of d s e) (view l) ≢ []
    n = spare π x y (view l) z (placed h).low

    fresh : Fresh (partition_of d s e) x y (view (whole d s l repair))
    fresh = subst (Fresh (partition_of d s e) x y) (sym (mended_view h c n)) (fresh_after (partition_of d s e) x y (view l) z (placed h).low (placed h).pos)
