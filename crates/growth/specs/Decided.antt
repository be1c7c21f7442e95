-- The views at a write's deciding store and after all its stores: in both the file is as after, every other file is kept, and nothing else of it changes.
use Rattle.std.specs.Prelude.{◌≡◌, ◌⊎◌, ◌≢◌, Bool, true, false, ℕ, ◌%◌, eqb}
use Rattle.std.proofs.Math.Path.{refl, sym, ap}
use Rattle.std.proofs.Common.{◌∙◌, subst, inl, inr, true≢false, arith, eqb-true}
use mathlib.Core.List.{List, [], ◌∷◌, ◌++◌, map}
use Rattle.std.proofs.lemmas.Bool.{eqb-false}
use Rattle.base.specs.Tests.{pick}
use Rattle.base.specs.Laws.{never}
use Rattle.image.specs.View.{View, Rec, Store, after, upd, upd_same, upd_other, put, put2}
use Rattle.volume.specs.Keys.{home}
use Rattle.volume.specs.Files.{well_formed, present, unowned, above, below}
use Rattle.volume.specs.declared.Partition.{Partition}
use Rattle.volume.proofs.Frame.{Clean}
use Rattle.volume.specs.Plans.{Plan, stores, free_at, new_first, pib_less, taken_stores}
use Rattle.volume.specs.Writes.{over, needs, is_new, present', spot', above', below', grown, store, plan_of}
use Rattle.frame.specs.Soft.{Soft, soft_refl}
use Rattle.frame.proofs.Turn.{Each, each_append, after_each, after_miss, after_append, Calm, calm_soft, calm_pib, Turn, Mine, mine_calm, turn_of, turn_free, each_map}
use Rattle.frame.specs.Reading.{put_off, put2_off}
use Rattle.frame.specs.Sound.{some_free}
use Rattle.frame.proofs.Decides.{Good}
use Rattle.growth.specs.Ready.{Tails, Ready}
use Rattle.growth.specs.Path.{held}
use Rattle.growth.specs.Lists.{All, mem, all_map, all_append, mem_left, mem_right, mem_here, keyed}
use Rattle.growth.specs.Afterwards.{present_new, present_old, present_split, home_there, spot_fib, spot_one, apart_first, apart_pib}
use Rattle.growth.specs.Written.{Written, written_present, written_spot, written_formed}
use Rattle.growth.specs.Before.{Early, early_present, calm_keys, mine_key, Order}
use Rattle.growth.specs.Done.{Left, Done, done_written}
use Rattle.volume.proofs.Readings.{off_pib}

module _ (π : Partition) (v : View) (f r : ℕ) (dat : Rec) (ok : Ready π v f r) (fr : List ℕ) (o : Order π v f r dat ok fr) where
  -- the keys whose blocks are stored, the FIB's last
  abbrev keys : List ℕ
  keys = fr ++ (home ∷ [])

  abbrev g : ℕ
  g = free_at π v (needs π v f r)

  -- ---- the FIB decides

  pub plan_is : plan_of π v f r dat fr ≡ record { before = map (store π v f r dat) fr; deciding = store π v f r dat home; rest = taken_stores π v (needs π v f r) }
  unfolding plan_of
  plan_is = refl

  -- ---- the views at the deciding store, and after all stores

  abbrev pub decided : View
  decided = after (map (store π v f r dat) (fr ++ (home ∷ []))) v

  abbrev pub whole : View
  whole = after (map (store π v f r dat) (fr ++ (home ∷ [])) ++ taken_stores π v (needs π v f r)) v

  -- every stored key is one of the file afterwards
  all_there : All (λ k. present' π v f r k ≡ true) (fr ++ (home ∷ []))
  all_there = all_append _ fr (home ∷ []) (all_map (Early π v f r dat ok) _ (early_present π v f r dat ok) fr o.early) (home_there π v f r, tt)

  miss_keys : (b : ℕ) → ((k : ℕ) → present' π v f r k ≡ true → spot' π v f r k ≢ b) → (ks : List ℕ) → All (λ k. present' π v f r k ≡ true) ks → Each (λ x _. x ≢ b) (map (store π v f r dat) ks)
  miss_keys b n [] h = tt
  miss_keys b n (k ∷ ks) h = (n k h.0, miss_keys b n ks h.1)

  miss_taken : (b : ℕ) → g ≢ b → π.s ≢ b → Each (λ x _. x ≢ b) (taken_stores π v (needs π v f r))
  unfolding taken_stores
  miss_taken b h m = (h, (m, tt))

  -- a block that is none of the file's, nor the new first free one, nor the PIB
  pub other_block : (b : ℕ) → ((k : ℕ) → present' π v f r k ≡ true → spot' π v f r k ≢ b) → g ≢ b → π.s ≢ b → whole b ≡ v b
  other_block b n h m = after_miss _ v b (each_append (λ x _. x ≢ b) (map (store π v f r dat) keys) _ (miss_keys b n keys all_there) (miss_taken b h m))

  whole_last : whole ≡ after (taken_stores π v (needs π v f r)) decided
  whole_last = after_append (map (store π v f r dat) keys) _ v

  -- ---- both are done

  -- the blocks of the stored keys are as written, the others as they were
  record Stored (W : View) : Type 0 where
    pub is : (k : ℕ) → present' π v f r k ≡ true → W (spot' π v f r k) ≡ pick (mem k keys) (grown π v f r dat k) (v (spot' π v f r k))

  stored_decided : Stored decided
  stored_decided = record { is = λ k p. keyed (spot' π v f r) (grown π v f r dat) keys v k (all_map _ _ (λ j e q. spot_one π v f r ok j k e p q) keys all_there) }

  stored_whole : Stored whole
  stored_whole = record {
    is = λ k p. ap (λ (u : View). u (spot' π v f r k)) whole_last
        ∙ after_miss (taken_stores π v (needs π v f r)) decided (spot' π v f r k) (miss_taken _ (apart_first π v f r ok k p) (apart_pib π v f r ok k p)) ∙ stored_decided.is k p;
  }

  module _ (W : View) (x : Stored W) where
    has : (k : ℕ) → present' π v f r k ≡ true → mem k keys ≡ true → W (spot' π v f r k) ≡ grown π v f r dat k
    has k p m = x.is k p ∙ ap (λ (t : Bool). pick t (grown π v f r dat k) (v (spot' π v f r k))) m

    home_has : mem home keys ≡ true
    home_has = mem_right home fr (home ∷ []) (mem_here home [])

    each : (k : ℕ) → present' π v f r k ≡ true → (t : Bool) → mem k keys ≡ t → (W (spot' π v f r k) ≡ grown π v f r dat k) ⊎ Left π v f r dat ok W k
    each k p true q = inl (has k p q)
    each k p false q = inr (record { same = x.is k p ∙ ap (λ (t : Bool). pick t (grown π v f r dat k) (v (spot' π v f r k))) q; old = old; over_it = nb.0; under_it = nb.1 })
      where
        out : mem k fr ≡ false
        out = never _ (λ m. true≢false (sym (mem_left k fr (home ∷ []) m) ∙ q))

        old : present π v f k ≡ true
        old = go (present_split π v f r k p)
          where
            go : (is_new π v f r k ≡ true) ⊎ (present π v f k ≡ true) → present π v f k ≡ true
            go (inl h) = absurd (true≢false (sym (o.news k h) ∙ out))
            go (inr h) = h

        nb : (above' π v f r k ≡ above π v f k) × (below' π v f r k ≡ below π v f k)
        nb = o.near k old (λ z. true≢false (sym home_has ∙ ap (λ (j : ℕ). mem j keys) (sym z) ∙ q)) out

    done : Done π v f r dat ok W
    done = record {
      each = λ k p. each k p (mem k keys) refl;
      news = λ k h. has k (present_new π v f r k h) (mem_left k fr (home ∷ []) (o.news k h));
      gain = gain (eqb (over r (needs π v f r)) home) refl;
      fib = ap W (sym (spot_fib π v f r ok.file)) ∙ has home (home_there π v f r) home_has;
    }
      where
        gain : (t : Bool) → eqb (over r (needs π v f r)) home ≡ t → W (spot' π v f r (over r (needs π v f r))) ≡ grown π v f r dat (over r (needs π v f r))
        gain true q = subst (λ (j : ℕ). W (spot' π v f r j) ≡ grown π v f r dat j) (sym (eqb-true _ _ q)) (has home (home_there π v f r) home_has)
        gain false q = has _ (present_old π v f r _ (held π v f r)) (mem_left _ fr (home ∷ []) (o.gain (eqb-false _ _ q)))

  pub done_decided : Done π v f r dat ok decided
  done_decided = done decided stored_decided

  pub done_whole : Done π v f r dat ok whole
  done_whole = done whole stored_whole

  -- ---- the other files

  -- the new first free block changes in filler and link alone
  first_soft : (u : View) → u g ≡ v g → Soft π u g (new_first v g)
  unfolding new_first
  first_soft u q = record {
    head = record { low = at 0 (λ z. omega arith) (λ z. omega arith) (λ z. omega arith); high = at 1 (λ z. omega arith) (λ z. omega arith) (λ z. omega arith); rel = at 2 (λ z. omega arith) (λ z. omega arith) (λ z. omega arith) };
    words = λ w l _. at w (λ z. omega arith) (λ z. omega arith) (λ z. omega arith);
  }
    where
      at : (w : ℕ) → w ≢ 3 → w ≢ 6 → w ≢ 7 → u g w ≡ put2 6 0 (put 3 (g % 65536) (v g)) w
      at w a b c = ap (λ (x : Rec). x w) q ∙ sym (put2_off 6 0 _ w b c ∙ put_off 3 _ (v g) w a)

  calm_taken : (u : View) → u g ≡ v g → Each (Calm π u) (taken_stores π v (needs π v f r))
  unfolding taken_stores
  calm_taken u q = (calm_soft π u (first_soft u q), (calm_pib π u, tt))

  mine_keys : (ks : List ℕ) → All (λ k. present' π v f r k ≡ true) ks → Each (Mine π v f) (map (store π v f r dat) ks)
  mine_keys [] h = tt
  mine_keys (k ∷ ks) h = (mine_key π v f r dat ok k h.0, mine_keys ks h.1)

  module _ (c : Clean π v) where
    turn_run : (xs : List Store) → Each (Mine π v f) xs → Turn π v (after xs v) f
    turn_run xs h = turn_of π v c (after xs v) f (after_each (Mine π v f) xs v h (λ b i. inl (soft_refl π v b refl)))

    pub turn_decided : Turn π v decided f
    turn_decided = turn_run _ (mine_keys keys all_there)

    pub turn_whole : Turn π v whole f
    turn_whole = turn_run _ (each_append (Mine π v f) (map (store π v f r dat) keys) _ (mine_keys keys all_there) (each_map (Calm π v) (Mine π v f) (mine_calm π v f) (taken_stores π v (needs π v f r)) (calm_taken v refl)))

    -- ---- what is owed

    module _ (tails : Tails π v f) where
      pub form_decided : well_formed π decided f ≡ true
      form_decided = written_formed π v f r ok tails decided (done_written π v f r dat ok decided done_decided)

      left : unowned π decided ≢ []
      left = some_free π decided g (ok.room (needs π v f r) (omega arith)).0
          (turn_free π v c decided f turn_decided (λ _. form_decided) g (ok.room (needs π v f r) (omega arith)).1
          (λ _ k a z. let p = sym (written_present π v f r ok tails decided w k) ∙ a in apart_first π v f r ok k p (sym z ∙ written_spot π v f r ok tails decided w k p)))
        where
          w : Written π v f r decided
          w = done_written π v f r dat ok decided done_decided

      run_keys : (xs : List ℕ) (u : View) → after (map (store π v f r dat) (xs ++ (home ∷ []))) u ≡ upd (after (map (store π v f r dat) xs) u) (spot' π v f r home) (grown π v f r dat home)
      unfolding after
      run_keys [] u = refl
      run_keys (x ∷ xs) u = run_keys xs (upd u (spot' π v f r x) (grown π v f r dat x))

      -- the deciding store comes before the free chain's
      kept_first : decided g ≡ v g
      kept_first = after_miss _ v g (miss_keys g (λ k p z. apart_first π v f r ok k p (sym z)) keys all_there)

      pub plan_good : Good π v (plan_of π v f r dat fr) f
      plan_good = subst (λ (p : Plan). Good π v p f) (sym plan_is) (record {
        early = calm_keys π v f r dat ok fr o.early;
        turn = subst (λ (u : View). Turn π v u f) same turn_decided;
        form = λ _. subst (λ (u : View). well_formed π u f ≡ true) same form_decided;
        left = subst (λ (u : View). unowned π u ≢ []) same left;
        late = subst (λ (u : View). Each (Calm π u) (taken_stores π v (needs π v f r))) same (calm_taken decided kept_first);
      })
        where
          same : decided ≡ upd (after (map (store π v f r dat) fr) v) (spot' π v f r home) (grown π v f r dat home)
          same = run_keys fr v

  -- all stores, as a run
  pub stores_are : stores (plan_of π v f r dat fr) ≡ map (store π v f r dat) (fr ++ (home ∷ [])) ++ taken_stores π v (needs π v f r)
  unfolding stores
  stores_are = ap stores plan_is ∙ go fr
    where
      go : (xs : List ℕ) → map (store π v f r dat) xs ++ (store π v f r dat home ∷ taken_stores π v (needs π v f r)) ≡ map (store π v f r dat) (xs ++ (home ∷ [])) ++ taken_stores π v (needs π v f r)
      go [] = refl
      go (x ∷ xs) = ap (λ (l : List Store). store π v f r dat x ∷ l) (go xs)

  pub run_is : after (stores (plan_of π v f r dat fr)) v ≡ whole
  run_is = ap (λ (xs : List Store). after xs v) stores_are

  -- the PIB and the new first free block
  pub pib_rec_is : whole π.s ≡ pib_less π.drive v π.s g (needs π v f r)
  unfolding taken_stores after
  pib_rec_is = ap (λ (u : View). u π.s) whole_last ∙ upd_same (upd decided g (new_first v g)) π.s _

  pub first_rec : whole g ≡ new_first v g
  unfolding taken_stores after
  first_rec =
      ap (λ (u : View). u g) whole_last
      ∙ upd_other (upd decided g (new_first v g)) π.s _ g (off_pib π g (ok.room (needs π v f r) (omega arith)).0)
      ∙ upd_same decided g (new_first v g)
