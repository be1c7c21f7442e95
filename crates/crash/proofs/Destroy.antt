-- Destroy: the file's blocks are owned no longer, and the free chain goes on with them in their link order.
use Rattle.std.specs.Prelude.{◌≡◌, ◌≢◌, Bool}
use Rattle.std.proofs.Math.Path.{refl, sym, ap, ap₂, subst}
use Rattle.std.proofs.Common.{◌∙◌, arith, eqb-true}
use Rattle.std.proofs.Math.Logic.{inr}
use mathlib.Core.List.{List, [], ◌∷◌, ◌++◌}
use Rattle.std.proofs.Math.Bool.{true, false, true≢false}
use Prim.Native.Nat.{ℕ, ◌+◌, ◌*◌, ◌≤◌, ◌<◌, ◌-◌}
use Rattle.std.proofs.Math.Dec.{eqb}
use Rattle.std.proofs.Math.ListN.{length-append}
use Rattle.std.proofs.lemmas.Bool.{eqb-false}
use Rattle.base.specs.Tests.{pick, both, occ}
use Rattle.drive.specs.Address.{pda, pda_block, is_lda}
use Rattle.drive.specs.Laws.{pda_pos}
use Rattle.image.specs.View.{upd_same, upd_other, View, Rec, Store, after, upd, pair, put2}
use Rattle.volume.specs.Words.{next_at, previous_at, number_free_at}
use Rattle.volume.specs.Keys.{home, span, low}
use Rattle.volume.specs.Files.{inside, candidate, len, end, spot, present, least, size, well_formed, file_of, owned, free, free_head, sound}
use Rattle.volume.specs.declared.Partition.{Partition}
use Rattle.volume.proofs.Index.{spot_home, present_home, wf_of, own, file_candidate, file_back, pib_not}
use Rattle.volume.proofs.Order.{least_present, least_most}
use Rattle.volume.proofs.Frame.{Clean}
use Rattle.volume.specs.Plans.{st, stores, destroy_plan, destroyed, gone, top_gone, fib_gone, top_gone_stores, last_gone_stores, pib_more, free_tail}
use Rattle.frame.specs.Soft.{headed, headed_is, headed_zero, soft_links, cand_in}
use Rattle.frame.specs.Reading.{two, put2_off, put2_here}
use Rattle.drive.proofs.Names.{address_names}
use Rattle.frame.proofs.Turn.{Each, each_append, each_pick, after_each, after_append, after_miss, Calm, calm_soft, calm_free, calm_pib, Turn, turn_free, turn_decided, turn_keeps}
use Rattle.frame.proofs.Decides.{Decides, Good}
use Rattle.frame.specs.Sound.{tail_free, sound_clean, sound_once, sound_within, sound_head, sound_number, free_in, free_not, sound_some, some_free}
use Rattle.frame.proofs.FreeChain.{IsFree, links_others}
use Rattle.frame.specs.Taking.{occ_append}
use Rattle.frame.proofs.Listed.{blocks, blocks_length, within_blocks, last_blocks}
use Rattle.crash.proofs.Whole.{W_owned, keeps_sound}
use Rattle.crash.specs.FreeBlocks.{first_free, first_in, own_file, free≢spot, free≢fib, spot_unique, spot_in_inside}
use Rattle.crash.specs.Gone.{gone_zero, top_zero, gone_word, top_word, top_prev, gone_fits, top_fits}
use Rattle.crash.proofs.Gone.{fib_zero, fib_word_is, fib_prev, fib_fits}
use Rattle.frame.specs.Joined.{within_both, head_both, last_both}
use Rattle.crash.specs.Returned.{Behind, occ_blocks, ways}
use Rattle.volume.proofs.Readings.{off_pib}
use Rattle.base.specs.Laws.{never}
use Rattle.crash.specs.Lawful.{Placed, Lawful}
use Rattle.crash.proofs.Lawful.{pda_fits, address_fits, le_end, inner, at_pib}
use Rattle.frame.specs.Fitting.{put2_fits}
use Rattle.frame.specs.Chain.{chain_short}
use Rattle.base.specs.Sums.{count_both}
use Rattle.volume.proofs.KeyLaws.{span_end}

module _ (π : Partition) (v : View) (ok : sound π v ≡ true) (f : ℕ) (cf : candidate π v f ≡ true) where
  abbrev alone : Bool
  alone = eqb (least π v f) home

  abbrev empty : Bool
  empty = eqb (len v f) 0

  abbrev top : ℕ
  top = spot π v f (least π v f)

  abbrev last : ℕ
  last = spot π v f (end v f)

  abbrev tl : ℕ
  tl = free_tail π v

  abbrev a : ℕ
  a = free_head π v

  -- the deciding record, and the view with it
  abbrev pub R : Rec
  R = fib_gone π.drive v a tl f alone

  abbrev pub D : View
  D = upd v f R

  -- the other stores
  abbrev tops : List Store
  tops = top_gone_stores π.drive v a tl top alone

  abbrev lasts : List Store
  lasts = last_gone_stores v a last empty

  abbrev tail_rec : Rec
  tail_rec = put2 next_at (pda π.drive top) (v tl)

  abbrev pib_rec : Rec
  pib_rec = pib_more π.drive v π.s last (size π v f)

  abbrev ends : List Store
  ends = st tl tail_rec ∷ (st π.s pib_rec ∷ [])

  abbrev rest : List Store
  rest = tops ++ (lasts ++ ends)

  abbrev W : View
  W = after rest D

  c : Clean π v
  c = sound_clean π v ok

  wf : well_formed π v f ≡ true
  wf = c f cf

  lp : present π v f (least π v f) ≡ true
  lp = (least_present π v f wf).1

  ep : present π v f (end v f) ≡ true
  ep = (wf_of π v f wf).ends

  tl_occ : 0 < occ (free_tail π v) (free π v)
  tl_occ = tail_free π v ok

  one : (j k : ℕ) → present π v f j ≡ true → present π v f k ≡ true → spot π v f j ≡ spot π v f k → j ≡ k
  one = spot_unique π v ok f cf

  mine : (k : ℕ) → present π v f k ≡ true → inside π (spot π v f k) ≡ true
  mine = spot_in_inside π v ok f cf

  -- a free block is none of f's
  apart : (b k : ℕ) → 0 < occ b (free π v) → present π v f k ≡ true → b ≢ spot π v f k
  apart = free≢spot π v ok f cf

  -- ---- without its serial f is no file, and its blocks are owned no longer
  pub no : candidate π D f ≡ false
  no = headed_is π D f ∙ ap (headed π f) (upd_same v f R) ∙ headed_zero π f R (fib_zero π.drive v a tl f alone)

  lost : (x : ℕ) → file_of π v x ≡ f → owned π D x ≡ false
  lost x q = never _ (λ o. go o (eqb x f) refl)
    where
      go : owned π D x ≡ true → (u : Bool) → eqb x f ≡ u → ⊥
      go o true p = omega (arith, pda_pos π.drive (file_of π D x), (own π D x o).ser, ap (λ (y : Rec). two y 0) (ap D (eqb-true x f p) ∙ upd_same v f R) ∙ fib_zero π.drive v a tl f alone)
      go o false p = true≢false (sym (file_candidate π D _ (own π D x o).file) ∙ ap (candidate π D) same ∙ no)
        where
          same : file_of π D x ≡ f
          same = ap (λ (y : Rec). pda_block π.drive (two y 0)) (upd_other v f R x (eqb-false x f p)) ∙ q

  -- what holds of each of the other stores
  each_rest : (P : ℕ → Rec → Type 0) → (alone ≡ false → P top (top_gone π.drive v a tl top)) → (empty ≡ false → P last (gone v a last)) → P tl tail_rec → P π.s pib_rec → Each P rest
  unfolding top_gone_stores last_gone_stores
  each_rest P x y z w = each_append P tops (lasts ++ ends) (each_pick P alone [] (st top (top_gone π.drive v a tl top) ∷ []) (λ _. tt) (λ h. (x h, tt)))
      (each_append P lasts ends (each_pick P empty [] (st last (gone v a last) ∷ []) (λ _. tt) (λ h. (y h, tt))) (z, (w, tt)))

  turn₁ : Turn π v D f
  unfolding after
  turn₁ = turn_decided π v c f [] f R tt (λ _. inr ((λ _. own_file π v ok f cf), λ n. absurd (n refl)))

  D_owned : (b : ℕ) → owned π v b ≡ false → owned π D b ≡ false
  D_owned b o = turn_free π v c D f turn₁ (λ h. absurd (true≢false (sym h ∙ no))) b o (λ h. absurd (true≢false (sym h ∙ no)))

  pub destroy_good : Good π v (destroy_plan π v f) f
  unfolding destroy_plan destroyed after
  destroy_good = record {
    early = tt;
    turn = turn₁;
    form = λ y. absurd (true≢false (sym y ∙ no));
    left = some_free π D a (first_in π v ok) (D_owned a (first_free π v ok));
    late = each_rest (Calm π D)
        (λ _. calm_free π D (lost top (file_back π v f cf wf _ lp)) (headed_zero π top _ (top_zero π.drive v a tl top)))
        (λ _. calm_free π D (lost last (file_back π v f cf wf _ ep)) (headed_zero π last _ (gone_zero π.drive v a tl last)))
        (calm_soft π D (soft_links π D tl (v tl) (upd_other v f R tl (free≢fib π v ok f cf tl tl_occ)) (λ w _ n4 n5 _ _. put2_off 4 (pda π.drive top) (v tl) w n4 n5)))
        (calm_pib π D);
  }

  -- ---- its stores are lawful

  module _ (at : Placed π v) where
    tail_in : inside π tl ≡ true
    tail_in = free_in π v ok tl tl_occ

    tail_small : pda π.drive tl < 4294967296
    tail_small = pda_fits at tl (le_end at tl tail_in)

    number_few : pair v π.s number_free_at < 69552
    unfolding free
    number_few = omega (arith, sound_number π v ok, chain_short π v (π.e - π.s) a, at.few)

    size_few : size π v f < 69552
    unfolding size span low
    size_few = omega (arith, count_both (span (len v f)) (λ i. present π v f (low (len v f) + i)), span_end (len v f), (wf_of π v f wf).short)

    pub destroy_lawful : Each (Lawful π v) (stores (destroy_plan π v f))
    unfolding stores destroy_plan destroyed pib_more
    destroy_lawful = (
      inner at (cand_in π v f cf) (fib_fits π.drive v a tl at.fits tail_small f alone),
      each_rest (Lawful π v) (λ _. inner at (mine _ lp) (top_fits π.drive v a tl at.fits tail_small top)) (λ _. inner at (mine _ ep) (gone_fits π.drive v a tl at.fits last))
          (inner at tail_in (put2_fits 4 _ (omega arith) (pda_fits at top (le_end at top (mine _ lp))) (at.fits tl)))
          (at_pib at (put2_fits 10 _ (omega arith) (address_fits at π.s 10 last (le_end at last (mine _ ep))) (put2_fits 12 (pair v π.s number_free_at + size π v f) (omega arith) (omega (arith, number_few, size_few)) (at.fits π.s)))
          (λ w l. put2_off 10 _ _ w (λ z. omega arith) (λ z. omega arith) ∙ put2_off 12 _ (v π.s) w (λ z. omega arith) (λ z. omega arith))),
    )

  -- ---- what the whole call leaves

  -- the free blocks
  W_free : (b : ℕ) → 0 < occ b (free π v) → b ≢ free_tail π v → W b ≡ v b
  W_free b m ne =
      after_miss rest D b (each_rest (λ x _. x ≢ b) (λ _ z. apart b _ m lp (sym z)) (λ _ z. apart b _ m ep (sym z)) (λ z. ne (sym z)) (λ z. off_pib π b (free_in π v ok b m) (sym z)))
      ∙ upd_other v f R b (free≢fib π v ok f cf b m)

  W_ends : W ≡ after ends (after lasts (after tops D))
  W_ends = after_append tops (lasts ++ ends) D ∙ after_append lasts ends (after tops D)

  W_tail : W (free_tail π v) ≡ tail_rec
  unfolding after
  W_tail =
      let u : View = after lasts (after tops D) in
      ap (λ (x : View). x tl) W_ends ∙ upd_other (upd u tl tail_rec) π.s pib_rec tl (off_pib π tl (free_in π v ok tl tl_occ)) ∙ upd_same u tl tail_rec

  W_pib : W π.s ≡ pib_rec
  unfolding after
  W_pib =
      let u : View = after lasts (after tops D) in
      ap (λ (x : View). x π.s) W_ends ∙ upd_same (upd u tl tail_rec) π.s pib_rec

  -- f's blocks: a link word, but for the previous link of the first
  W_word : (k w : ℕ) → present π v f k ≡ true → 4 ≤ w → (k ≡ least π v f → w < 6) → W (spot π v f k) w ≡ v (spot π v f k) w
  W_word k w p lo h = after_each (λ x r. x ≡ spot π v f k → r w ≡ v (spot π v f k) w) rest D
      (each_rest (λ x r. x ≡ spot π v f k → r w ≡ v (spot π v f k) w)
      (λ _ z. top_word π.drive v a tl top w lo (h (sym (one _ k lp p z))) ∙ ap (λ (x : ℕ). v x w) z)
      (λ _ z. gone_word π.drive v a tl last w lo ∙ ap (λ (x : ℕ). v x w) z)
      (λ z. absurd (apart tl k tl_occ p z))
      (λ z. absurd (off_pib π (spot π v f k) (mine k p) (sym z))))
      (λ x. start x (eqb x f) refl) (spot π v f k) refl
    where
      start : (x : ℕ) (t : Bool) → eqb x f ≡ t → x ≡ spot π v f k → pick t R (v x) w ≡ v (spot π v f k) w
      start x true q z =
          fib_word_is π.drive v a tl f w alone lo (λ y. h (one k home p (present_home π v f) (sym z ∙ eqb-true x f q ∙ sym (spot_home π v f)) ∙ sym (eqb-true _ home y)))
          ∙ ap (λ (y : ℕ). v y w) (sym (eqb-true x f q) ∙ z)
      start x false q z = ap (λ (y : ℕ). v y w) z

  -- the first points back to the old tail
  W_top : pair W (spot π v f (least π v f)) previous_at ≡ pda π.drive (free_tail π v)
  unfolding after last_gone_stores top_gone_stores
  W_top =
      ap (λ (x : View). pair x top previous_at) (after_append tops (lasts ++ ends) D)
      ∙ after_each Q (lasts ++ ends) (after tops D)
      (each_append Q lasts ends (each_pick Q empty [] (st last (gone v a last) ∷ []) (λ _. tt) (λ h. (from_last h, tt)))
      ((λ z. absurd (apart tl _ tl_occ lp z)), ((λ z. absurd (off_pib π top (mine _ lp) (sym z))), tt)))
      (λ x z. subst (λ (b : ℕ). pair (after tops D) b previous_at ≡ pda π.drive tl) (sym z) (go alone refl)) top refl
    where
      Q : ℕ → Rec → Type 0
      Q x r = x ≡ top → two r 6 ≡ pda π.drive tl

      from_last : empty ≡ false → Q last (gone v a last)
      from_last h z = absurd (omega (arith, one _ _ ep lp z, least_most π v f (wf_of π v f wf).short, eqb-false (len v f) 0 h))

      go : (t : Bool) → alone ≡ t → pair (after (pick t [] (st top (top_gone π.drive v a tl top) ∷ [])) D) top previous_at ≡ pda π.drive tl
      go true h =
          ap (λ (b : ℕ). pair D b previous_at) (ap (spot π v f) (eqb-true _ home h) ∙ spot_home π v f)
          ∙ ap (λ (r : Rec). two r 6) (upd_same v f R) ∙ fib_prev π.drive v a tl f alone h
      go false h = ap (λ (r : Rec). two r 6) (upd_same D top (top_gone π.drive v a tl top)) ∙ top_prev π.drive v a tl top

  behind : Behind π v ok f cf W
  behind = record { free = W_free; tail = W_tail; links = W_word; first = W_top }

  module _ (low : π.s < π.e) (pos : 0 < π.s) where
    good : Decides π v [] (st f R) rest f
    unfolding destroy_plan destroyed
    good = destroy_good

    wo : (b : ℕ) → owned π D b ≡ owned π W b
    unfolding after
    wo = W_owned π low pos v ok [] (st f R) rest f good

    once : (b : ℕ) → inside π b ≡ true → occ b (free π v ++ blocks π v f) ≡ pick (owned π W b) 0 1
    unfolding both
    once b i =
        occ_append b (free π v) (blocks π v f) ∙ ap₂ ◌+◌ (sound_once π v ok b i) (occ_blocks π v ok f cf b)
        ∙ go (owned π v b) refl (eqb (file_of π v b) f) refl ∙ ap (λ (t : Bool). pick t 0 1) (wo b)
      where
        go : (t : Bool) → owned π v b ≡ t → (u : Bool) → eqb (file_of π v b) f ≡ u → pick t 0 1 + pick (both t u) 1 0 ≡ pick (owned π D b) 0 1
        go true o true q = sym (ap (λ (t : Bool). pick t 0 1) (lost b (eqb-true _ _ q)))
        go true o false q = sym (ap (λ (t : Bool). pick t 0 1) (turn_keeps π v c D f turn₁ b o (eqb-false _ _ q)))
        go false o u q = sym (ap (λ (t : Bool). pick t 0 1) (D_owned b o))

    is_free_of : IsFree π W (free π v ++ blocks π v f)
    unfolding pib_more
    is_free_of = record {
      inn = within_both π (free π v) (blocks π v f) (sound_within π v ok) (within_blocks π v f cf wf);
      ways = ways π v ok f cf W behind;
      once = once;
      head = ap₂ (is_lda π.drive) (ap (λ (r : Rec). two r 8) W_pib ∙ low_words _) (head_both (free π v) (blocks π v f) (sound_some π v ok)) ∙ sound_head π v ok;
      tail = ap₂ (is_lda π.drive) (ap (λ (r : Rec). two r 10) W_pib ∙ put2_here 10 _ _) (last_both 0 (free π v) (blocks π v f) ∙ last_blocks π v f cf wf _) ∙ address_names π.drive _ last;
      number = ap (λ (r : Rec). two r 12) W_pib
          ∙ ap₂ (λ (x y : ℕ). x + 65536 * y) (put2_off 10 _ _ 12 (λ z. omega arith) (λ z. omega arith)) (put2_off 10 _ _ 13 (λ z. omega arith) (λ z. omega arith)) ∙ put2_here 12 _ (v π.s)
          ∙ ap₂ ◌+◌ (sound_number π v ok) (sym (blocks_length π v f cf wf)) ∙ sym (length-append (free π v) (blocks π v f));
      some = omega (arith, sound_some π v ok, length-append (free π v) (blocks π v f));
    }
      where
        base : Rec
        base = put2 12 (pair v π.s 12 + size π v f) (v π.s)

        low_words : (a : ℕ) → two (put2 10 a base) 8 ≡ pair v π.s 8
        low_words a = ap₂ (λ (y z : ℕ). y + 65536 * z)
            (put2_off 10 _ base 8 (λ z. omega arith) (λ z. omega arith) ∙ put2_off 12 _ (v π.s) 8 (λ z. omega arith) (λ z. omega arith))
            (put2_off 10 _ base 9 (λ z. omega arith) (λ z. omega arith) ∙ put2_off 12 _ (v π.s) 9 (λ z. omega arith) (λ z. omega arith))

    pub destroy_sound : sound π (after (stores (destroy_plan π v f)) v) ≡ true
    unfolding destroy_plan destroyed stores after
    destroy_sound = keeps_sound π low pos v ok [] (st f R) rest f good
        (each_rest (λ b _. owned π D b ≡ false) (λ _. lost top (file_back π v f cf wf _ lp)) (λ _. lost last (file_back π v f cf wf _ ep)) (D_owned tl (free_not π v ok tl tl_occ)) (pib_not π D))
        (λ h q. links_others π v D f turn₁ ok (λ b o m. upd_other v f R b (λ z. m (ap (file_of π v) z ∙ own_file π v ok f cf))) h (λ z. true≢false (sym q ∙ ap (candidate π D) z ∙ no)) q)
        (free π v ++ blocks π v f) is_free_of
