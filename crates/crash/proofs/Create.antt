-- Create: the first free block becomes an empty file, and nothing else changes.
use Rattle.std.specs.Prelude.{◌≡◌, ◌⊎◌, ◌≢◌, Bool, false, eqb, length}
use Rattle.std.proofs.Math.Path.{refl, sym, subst}
use Rattle.std.proofs.Common.{ap, ◌∙◌, inl, true≢false, arith, eqb-true}
use Rattle.std.proofs.Math.Logic.{inr}
use mathlib.Core.List.{[]}
use Rattle.std.proofs.Math.Bool.{true}
use Prim.Native.Nat.{ℕ, zero, suc, ◌<◌}
use Rattle.std.proofs.lemmas.Bool.{eqb-false}
use Rattle.image.specs.View.{upd_same, upd_other, View, Rec, after, upd}
use Rattle.volume.specs.Keys.{home}
use Rattle.volume.specs.Files.{inside, candidate, spot, well_formed, file_of, owned, free, free_head, sound}
use Rattle.volume.specs.declared.Partition.{Partition}
use Rattle.volume.proofs.Index.{spot_home, present_home, own, file_candidate, member_owned, pib_not}
use Rattle.volume.proofs.Frame.{Clean}
use Rattle.volume.specs.Plans.{st, as_filler, stores, free_at, fresh_fib, new_first, taken_stores, create_plan}
use Rattle.frame.specs.Reading.{put_off, put2_off}
use Rattle.frame.proofs.Turn.{Each, after_miss, calm_soft, calm_pib, Turn, turn_free, turn_decided, turn_keeps}
use Rattle.frame.proofs.Decides.{Decides, Good}
use Rattle.frame.specs.Sound.{sound_clean, some_free}
use Rattle.frame.proofs.FreeChain.{Links, links_others}
use Rattle.frame.specs.Taking.{taken}
use Rattle.frame.proofs.Drawn.{Taken, Drawn, left, drawn_free}
use Rattle.crash.proofs.Whole.{W_owned, keeps_sound}
use Rattle.crash.specs.Fresh.{fresh_cand, fresh_only, fresh_wf, fresh_links}
use Rattle.volume.proofs.Readings.{off_pib}
use Rattle.frame.specs.Soft.{soft_links}
use Rattle.crash.specs.Lawful.{Placed, Lawful}
use Rattle.crash.proofs.Lawful.{pda_fits, lda_fits, le_end, inner, first_lawful, less_lawful}
use Rattle.frame.specs.Fitting.{put_fits, put2_fits, blank_fits}
use Rattle.volume.specs.Words.{filler_at}
use Rattle.drive.specs.Address.{lda}
use Rattle.crash.specs.Create.{n_in, n_free, n≢a}

-- the new first free block: links and filler alone
first_links : (d : ℕ) (v : View) (g w : ℕ) → w ≢ 3 → w ≢ 6 → w ≢ 7 → new_first v g w ≡ v g w
unfolding new_first
first_links d v g w n3 n6 n7 = put2_off 6 0 _ w n6 n7 ∙ put_off 3 (as_filler g) (v g) w n3

module _ (π : Partition) (v : View) (ok : sound π v ≡ true) (room : 1 < length (free π v)) (kind : ℕ) where
  abbrev a : ℕ
  a = free_at π v 0

  -- the next free block
  abbrev n : ℕ
  n = free_at π v 1

  abbrev R : Rec
  R = fresh_fib π.drive v (free_at π v 0) kind

  abbrev D : View
  D = upd v (free_at π v 0) R

  c : Clean π v
  c = sound_clean π v ok

  a_in : inside π (free_at π v 0) ≡ true
  a_in = (taken π v ok 2 room 0 (omega arith)).0

  a_free : owned π v (free_at π v 0) ≡ false
  a_free = (taken π v ok 2 room 0 (omega arith)).1

  pub create_lawful : Placed π v → kind < 65536 → Each (Lawful π v) (stores (create_plan π v kind))
  unfolding stores create_plan taken_stores fresh_fib
  create_lawful at k = (
    inner at a_in (put2_fits 0 _ (omega arith) (pda_fits at a (le_end at a a_in)) (put_fits 2 65535 (omega arith) (omega arith) (put_fits 3 (v a filler_at) (omega arith) ((at.fits a).small 3)
        (put_fits 256 kind (omega arith) k (put_fits 257 1 (omega arith) (omega arith) (put_fits 258 65535 (omega arith) (omega arith)
        (put2_fits 259 _ (omega arith) la (put_fits 261 65535 (omega arith) (omega arith) (put2_fits 262 _ (omega arith) la blank_fits))))))))),
    (first_lawful at n (n_in π v ok room kind), (less_lawful at n 1 (n_in π v ok room kind), tt)),
  )
    where
      la : lda π.drive (free_at π v 0) < 4294967296
      la = lda_fits at a (le_end at a a_in)

  create_turn : Turn π v D (free_at π v 0)
  unfolding after
  create_turn = turn_decided π v c a [] a R tt (λ _. inr ((λ o. absurd (true≢false (sym o ∙ a_free))), λ n. absurd (n refl)))

  form : well_formed π D (free_at π v 0) ≡ true
  form = fresh_wf π v D a kind (upd_same v a R)

  cand : candidate π D (free_at π v 0) ≡ true
  cand = fresh_cand π v D a kind (upd_same v a R) a_in

  -- no other free block becomes owned
  kept_free : (b : ℕ) → b ≢ free_at π v 0 → owned π v b ≡ false → owned π D b ≡ false
  kept_free b n o =
      turn_free π v c D a create_turn (λ _. form) b o
      (λ _ k p z. n (sym z ∙ ap (spot π D a) (fresh_only π v D a kind (upd_same v a R) k p) ∙ spot_home π D a))

  good : Decides π v [] (st (free_at π v 0) R) (taken_stores π v 1) (free_at π v 0)
  unfolding taken_stores after
  good = record {
    early = tt;
    turn = create_turn;
    form = λ _. form;
    left = some_free π D n (n_in π v ok room kind) (kept_free n (n≢a π v ok room kind) (n_free π v ok room kind));
    late = (calm_soft π D (soft_links π D n (v n) (upd_other v a R n (n≢a π v ok room kind)) (λ w n3 _ _ n6 n7. first_links π.drive v n w n3 n6 n7)), (calm_pib π D, tt));
  }

  pub create_good : Good π v (create_plan π v kind) (free_head π v)
  unfolding create_plan free_at
  create_good = good

  -- the file that a block of v belongs to is not the first free block
  not_a : (b : ℕ) → owned π v b ≡ true → file_of π v b ≢ free_at π v 0
  not_a b h z =
      let k = subst (λ (x : ℕ). candidate π v x ≡ true) z (file_candidate π v _ (own π v b h).file) in
      true≢false (sym (subst (λ (x : ℕ). owned π v x ≡ true) (spot_home π v a) (member_owned π v a k (c a k) home (present_home π v a))) ∙ a_free)

  links : (h : ℕ) → candidate π D h ≡ true → Links π D h
  links h k = go (eqb h a) refl
    where
      go : (t : Bool) → eqb h a ≡ t → Links π D h
      go true q = subst (Links π D) (sym (eqb-true h a q)) (fresh_links π v D a kind (upd_same v a R))
      go false q = links_others π v D a create_turn ok (λ b o _. upd_other v a R b (λ z. true≢false (sym o ∙ ap (owned π v) z ∙ a_free))) h (eqb-false h a q) k

  -- ---- whole, it leaves a sound partition
  module _ (low : π.s < π.e) (pos : 0 < π.s) where
    abbrev W : View
    W = after (taken_stores π v 1) D

    wo : (b : ℕ) → owned π D b ≡ owned π W b
    unfolding after
    wo = W_owned π low pos v ok [] (st (free_at π v 0) R) (taken_stores π v 1) (free_at π v 0) good

    other : (b : ℕ) → free_at π v 0 ≢ b → free_at π v 1 ≢ b → π.s ≢ b → W b ≡ v b
    unfolding taken_stores
    other b x y z = after_miss (taken_stores π v 1) D b (y, (z, tt)) ∙ upd_other v a R b (λ q. x (sym q))

    drawn : Drawn π v ok 1 room W
    unfolding taken_stores after
    drawn = record {
      first = upd_other (upd D n (new_first v n)) π.s _ n (off_pib π n (n_in π v ok room kind)) ∙ upd_same D n (new_first v n);
      pib = upd_same (upd D n (new_first v n)) π.s _;
      kept = λ b i o m. other b (m 0 (omega arith)) (m 1 (omega arith)) (λ z. off_pib π b i (sym z));
      old = λ b h. sym (wo b) ∙ turn_keeps π v c D a create_turn b h (not_a b h);
      new = new;
      back = λ b h. back b (wo b ∙ h) (eqb b a) refl (owned π v b) refl;
    }
      where
        new : (i : ℕ) → i < 1 → owned π W (free_at π v i) ≡ true
        new zero l = sym (wo a) ∙ subst (λ (x : ℕ). owned π D x ≡ true) (spot_home π D a) (member_owned π D a cand form home (present_home π D a))
        new (suc i) l = absurd (omega arith)

        back : (b : ℕ) → owned π D b ≡ true → (t : Bool) → eqb b a ≡ t → (u : Bool) → owned π v b ≡ u → (owned π v b ≡ true) ⊎ Taken π v ok 1 room b
        back b h true q u o = inr (record { i = 0; less = omega arith; is = eqb-true b a q })
        back b h false q true o = inl o
        back b h false q false o = absurd (true≢false (sym h ∙ kept_free b (eqb-false b a q) o))

    idle : Each (λ b _. owned π D b ≡ false) (taken_stores π v 1)
    unfolding taken_stores
    idle = (kept_free n (n≢a π v ok room kind) (n_free π v ok room kind), (pib_not π D, tt))

    pub create_sound : sound π (after (stores (create_plan π v kind)) v) ≡ true
    unfolding create_plan stores after
    create_sound = keeps_sound π low pos v ok [] (st (free_at π v 0) R) (taken_stores π v 1) (free_at π v 0) good idle links (left π v ok 1 room) (drawn_free π v ok 1 room W drawn)
