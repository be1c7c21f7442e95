-- Repair of a clean view with an unowned block leaves a sound one.
use Rattle.std.specs.Prelude.{◌≡◌, refl, ◌≢◌, Bool, true, false, ◌||◌, ℕ, suc, ◌+◌, ◌-◌, ◌*◌, ◌≤◌, ◌<◌, leb, eqb}
use Rattle.std.proofs.Common.{sym, ◌∙◌, subst, arith, le_refl}
use Rattle.std.proofs.Math.Path.{ap, ap₂}
use mathlib.Core.List.{List, [], ◌∷◌}
use Rattle.std.proofs.Math.Bool.{not}
use Rattle.std.proofs.Math.ListN.{length}
use Rattle.std.proofs.Math.Seq.{take-length}
use borrow.Author.Tests.{ltb-false, lt-ltb, eq-eqb, le-leb, leb-false, not-true}
use Rattle.base.specs.Tests.{pick, both, every, all, head_of, last_of, occ}
use Rattle.base.specs.Tests as tests
use Rattle.base.specs.Laws.{cons_same, all_of, both_of}
use Rattle.drive.specs.Address.{lda_block, or_nil, is_lda}
use Rattle.drive.proofs.Names.{lda_block_is, address_names}
use Rattle.image.specs.View.{View, Rec, Store, after, pair, put, put2}
use Rattle.volume.specs.Words.{next_at, previous_at}
use Rattle.volume.specs.Keys.{home, child, first}
use Rattle.volume.proofs.KeyLaws.{child_pair}
use Rattle.volume.specs.Files.{within, candidate, len, spot, present, well_formed, file_of, key, owned, unowned, above, below, link, tail_test, link_test, linked, free, free_head, chain, chained, sound, free_sound}
use Rattle.volume.specs.declared.Partition.{Partition}
use Rattle.volume.proofs.Index.{file_back, key_back, member_owned, owned_in, span_of, unless_of, or_of}
use Rattle.volume.proofs.Frame.{Shape, Clean, Formed, formed, Agree, kept_len, agree_clean, agree_owned, agree_file_of, agree_key}
use Rattle.volume.specs.Plans.{trimmed, shaped, content, relinked, freed, repaired, repaired_pib, repair_stores}
use Rattle.frame.specs.Repair.{links_off, repaired_mine, repaired_free}
use Rattle.frame.proofs.Repair.{mid_agree}
use Rattle.frame.proofs.Restart.{Part, start, again, target, target_else, target_pib, repair_of, after_val, hits_tab_in, hits_pib, next_same, prev_same}
use Rattle.frame.specs.Chain.{walk, Next, Prev, above_those, below_those, chained_those, within_those, occ_in}
use Rattle.frame.specs.Reading.{word}
use Rattle.volume.proofs.Readings.{inside_of}

module _ (π : Partition) (v : View) (c : Clean π v) where
  abbrev mended : View
  mended = after (repair_stores π v) v

  part : Part π v c mended
  part = subst (λ (xs : List Store). Part π v c (after xs v)) (take-length (repair_stores π v)) (again π v c v (start π v c) (length (repair_stores π v)))

  pub mended_agree : Agree π v (after (repair_stores π v) v)
  mended_agree = mid_agree π v c mended part.blocks

  agree : Formed π v mended
  agree = formed π mended_agree

  mended_at : (b : ℕ) → π.s < b → b ≤ π.e → mended b ≡ repaired π v (unowned π v) b
  mended_at b l m =
      after_val (target π v) (repair_stores π v) v b (repair_of π v)
      ∙ ap (λ (t : Bool). pick t (target π v b) (v b)) (hits_tab_in π v b l m)
      ∙ target_else π v b (λ z. omega arith)

  mended_pib : mended π.s ≡ repaired_pib π v (unowned π v)
  mended_pib =
      after_val (target π v) (repair_stores π v) v π.s (repair_of π v)
      ∙ ap (λ (t : Bool). pick t (target π v π.s) (v π.s)) (hits_pib π v)
      ∙ target_pib π v

  P : ℕ → Bool
  P b = not (owned π v b)

  free_next : (b : ℕ) → π.s < b → b ≤ π.e → P b ≡ true → pair mended b next_at ≡ or_nil π.drive (tests.above b (unowned π v))
  unfolding freed P put put2
  free_next b l m q =
      ap (λ (r : Rec). r 4 + 65536 * r 5) (mended_at b l m ∙ repaired_free π v (unowned π v) b (not-true (owned π v b) q))
      ∙ word (or_nil π.drive (tests.above b (unowned π v)))

  free_prev : (b : ℕ) → π.s < b → b ≤ π.e → P b ≡ true → pair mended b previous_at ≡ or_nil π.drive (tests.below b (unowned π v))
  unfolding freed P put put2
  free_prev b l m q =
      ap (λ (r : Rec). r 6 + 65536 * r 7) (mended_at b l m ∙ repaired_free π v (unowned π v) b (not-true (owned π v b) q))
      ∙ word (or_nil π.drive (tests.below b (unowned π v)))

  next : Next P π mended (suc π.s) (π.e - π.s)
  unfolding unowned P
  next b l m q =
      free_next b (omega arith) (omega arith) q
      ∙ ap (or_nil π.drive) (above_those P b (suc π.s) (π.e - π.s) l m)

  pub free_is : (unowned π v ≢ []) → π.s < π.e → 0 < π.s → free π mended ≡ unowned π v
  unfolding free unowned P repaired_pib put put2
  free_is n g p = ap (chain π mended (π.e - π.s)) head ∙ walk P π mended (suc π.s) (π.e - π.s) (π.e - π.s) (omega arith) (le_refl _) next n
    where
      head : free_head π mended ≡ head_of 0 (unowned π v)
      head =
          ap (λ (r : Rec). (lda_block π.drive) (r 8 + 65536 * r 9)) mended_pib ∙ ap (lda_block π.drive) (word _)
          ∙ lda_block_is π.drive _ _ (address_names π.drive _ (head_of 0 (unowned π v)))

  clean : Clean π mended
  clean = agree_clean π v mended c agree

  -- ---- the files are linked

  module _ (f : ℕ) (cf : candidate π mended f ≡ true) where
    kf : Shape π v mended f
    kf = agree.shape f (agree.cands f ∙ cf)

    module _ (k : ℕ) (p : present π mended f k ≡ true) where
      ob : owned π v (spot π mended f k) ≡ true
      ob = agree_owned π v mended c agree _ ∙ member_owned π mended f cf (clean f cf) k p

      of : file_of π v (spot π mended f k) ≡ f
      of = agree_file_of π v mended c agree _ ob ∙ file_back π mended f cf (clean f cf) k p

      at_key : key v (spot π mended f k) ≡ k
      at_key = agree_key π v mended c agree _ ob ∙ key_back π mended f cf (clean f cf) k p

      rec_is : mended (spot π mended f k) ≡ relinked π v (spot π mended f k)
      rec_is =
          let n = inside_of π _ (owned_in π v (spot π mended f k) ob) in
          mended_at _ n.0 n.1 ∙ repaired_mine π v _ _ ob

      link_next : pair mended (spot π mended f k) next_at ≡ link π mended f (above π mended f k)
      unfolding relinked put put2
      link_next =
          ap (λ (r : Rec). r 4 + 65536 * r 5) rec_is ∙ word _
          ∙ next_same π v c mended part.blocks (spot π mended f k) ob
          ∙ ap₂ (λ (g j : ℕ). link π mended g (above π mended g j)) (file_back π mended f cf (clean f cf) k p) (key_back π mended f cf (clean f cf) k p)

      link_prev : pair mended (spot π mended f k) previous_at ≡ link π mended f (below π mended f k)
      unfolding relinked put put2
      link_prev =
          ap (λ (r : Rec). r 6 + 65536 * r 7) rec_is ∙ word _
          ∙ prev_same π v c mended part.blocks (spot π mended f k) ob
          ∙ ap₂ (λ (g j : ℕ). link π mended g (below π mended g j)) (file_back π mended f cf (clean f cf) k p) (key_back π mended f cf (clean f cf) k p)

      -- a word of the data, of the file f and the key k
      words : (w : ℕ) → 8 ≤ w → mended (spot π mended f k) w ≡ shaped (len v f) k (v (spot π mended f k)) w
      unfolding relinked content
      words w l =
          ap (λ (r : Rec). r w) rec_is ∙ links_off _ _ (content π v (spot π mended f k)) w (λ z. omega arith) (λ z. omega arith) (λ z. omega arith) (λ z. omega arith)
          ∙ ap₂ (λ (g j : ℕ). shaped (len v g) j (v (spot π mended f k)) w) of at_key

      zero_word : k < home → (w : ℕ) → 8 ≤ w → len mended f ≤ first (child k w) → mended (spot π mended f k) w ≡ 0
      unfolding shaped trimmed
      zero_word l w g h =
          words w g
          ∙ ap (λ (u : Bool). pick u (trimmed (len v f) k (v (spot π mended f k))) (v (spot π mended f k)) w) (lt-ltb k home l)
          ∙ ap (λ (t : Bool). pick t 0 (v (spot π mended f k) w)) (both_of (le-leb 8 w g) (le-leb _ _ (subst (λ (x : ℕ). x ≤ first (child k w)) (sym (kept_len π v mended f kf)) h)))

      tail_at : k < home → (i : ℕ) → i < 128 → tail_test π mended f k i ≡ true
      tail_at l i m = or_of _ _ (λ q.
          let h = ltb-false _ _ q in
          eq-eqb _ _ (ap₂ (λ (x y : ℕ). x + 65536 * y) (zero_word l (8 + 2 * i) (omega arith) h)
          (zero_word l (8 + 2 * i + 1) (omega arith) (subst (λ (j : ℕ). len mended f ≤ first j) (child_pair k (8 + 2 * i) (8 + 2 * i + 1) l (omega arith)) h))))

      link_at : every (eqb (pair mended (spot π mended f k) next_at) (link π mended f (above π mended f k))
          ∷ eqb (pair mended (spot π mended f k) previous_at) (link π mended f (below π mended f k))
          ∷ (leb home k || all 128 (tail_test π mended f k))
          ∷ []) ≡ true
      unfolding every
      link_at = ap every (cons_same (eq-eqb _ _ link_next) (cons_same (eq-eqb _ _ link_prev)
          (cons_same {l = []} (or_of _ _ (λ q. all_of 128 _ (λ i m. tail_at (leb-false home k q) i m))) refl)))

    linked_is : linked π mended f ≡ true
    unfolding linked
    linked_is = span_of (len mended f) (link_test π mended f) (λ k l m. unless_of _ _ (λ p. link_at k p))

  -- ---- the free chain

  module _ (n : unowned π v ≢ []) (g : π.s < π.e) (p : 0 < π.s) where
    free_eq : free π mended ≡ unowned π v
    free_eq = free_is n g p

    prev : Prev P π mended 0 (suc π.s) (π.e - π.s)
    unfolding unowned P
    prev b l m q =
        free_prev b (omega arith) (omega arith) q ∙ ap (or_nil π.drive) (below_those P b (suc π.s) (π.e - π.s) (omega arith) l (omega arith))

    some : (l : List ℕ) → l ≢ [] → 0 < length l
    some [] q = absurd (q refl)
    some (x ∷ xs) q = omega arith

    flip : (t u : Bool) → t ≡ u → ◌≡◌ {A = ℕ} (pick (not t) 1 0) (pick u 0 1)
    flip true u q = ap (λ (x : Bool). pick {A = ℕ} x 0 1) q
    flip false u q = ap (λ (x : Bool). pick {A = ℕ} x 0 1) q

    ok : (i : ℕ) → not (candidate π mended (suc (π.s + i))) || both (well_formed π mended (suc (π.s + i))) (linked π mended (suc (π.s + i))) ≡ true
    ok i = go (candidate π mended (suc (π.s + i))) refl
      where
        go : (t : Bool) → candidate π mended (suc (π.s + i)) ≡ t → not t || both (well_formed π mended (suc (π.s + i))) (linked π mended (suc (π.s + i))) ≡ true
        go true q = both_of (clean _ q) (linked_is _ q)
        go false q = refl

    once : (i : ℕ) → i < π.e - π.s → occ (suc (π.s + i)) (free π mended) ≡ pick (owned π mended (suc (π.s + i))) 0 1
    unfolding unowned
    once i l =
        ap (occ (suc (π.s + i))) free_eq ∙ occ_in (λ b. not (owned π v b)) (suc (π.s + i)) (suc π.s) (π.e - π.s) (omega arith) (omega arith)
        ∙ flip _ _ (agree_owned π v mended c agree (suc (π.s + i)))

    in_it : within π (free π mended) ≡ true
    unfolding unowned
    in_it = ap (within π) free_eq ∙ within_those (λ b. not (owned π v b)) π (suc π.s) (π.e - π.s) (omega arith) (omega arith)

    both_ways : chained π mended 0 (free π mended) ≡ true
    unfolding unowned P
    both_ways = ap (chained π mended 0) free_eq ∙ chained_those P π mended 0 (suc π.s) (π.e - π.s) next prev

    free_right : free_sound π mended ≡ true
    unfolding free_sound every repaired_pib put put2
    free_right = ap every
        (cons_same (all_of (π.e - π.s) _ (λ i l. eq-eqb _ _ (once i l)))
        (cons_same in_it
        (cons_same both_ways
        (cons_same (ap₂ (is_lda π.drive) (ap (λ (r : Rec). r 8 + 65536 * r 9) mended_pib ∙ word _) (ap (head_of 0) free_eq) ∙ address_names π.drive _ _)
        (cons_same (ap₂ (is_lda π.drive) (ap (λ (r : Rec). r 10 + 65536 * r 11) mended_pib ∙ word _) (ap (last_of 0) free_eq) ∙ address_names π.drive _ _)
        (cons_same (eq-eqb _ _ (ap (λ (r : Rec). r 12 + 65536 * r 13) mended_pib ∙ word _ ∙ ap length (sym free_eq)))
        (cons_same {l = []} (lt-ltb _ _ (subst (λ (l : List ℕ). 0 < length l) (sym free_eq) (some _ n))) refl)))))))

    pub sound_is : sound π mended ≡ true
    unfolding sound
    sound_is = both_of (all_of (π.e - π.s) _ (λ i l. ok i)) free_right
