-- What the write of an absent block owes: it decides at one store, leaves a sound partition, adds block r to the file and changes nothing else of it;
-- its stores by key, ten at most, each block once, each inside the partition and a record.
use Rattle.std.specs.Prelude.{◌≡◌, ◌≢◌, true, ℕ, ◌≤◌, ◌<◌}
use Rattle.std.proofs.Math.Path.{refl, ap, subst}
use Rattle.std.proofs.Common.{sym, ◌∙◌, inl, inr}
use mathlib.Core.List.{List, [], ◌∷◌, ◌++◌, map}
use native.Mathlib.Omega.{arith}
use Rattle.std.proofs.Math.ListN.{length, length-append, length-map}
use Rattle.base.specs.Tests.{occ}
use Rattle.base.specs.Laws.{both_of}
use Rattle.image.specs.View.{View, Rec, after, places}
use Rattle.image.specs.Stores.{Fits}
use Rattle.volume.specs.Keys.{home}
use Rattle.volume.specs.Files.{inside, is_file, sound}
use Rattle.volume.specs.declared.Partition.{Partition}
use Rattle.volume.specs.Plans.{stores, free_at, new_first, pib_less, taken_stores}
use Rattle.volume.specs.Writes.{needs, present', spot', early, grown, store, write_plan}
use Rattle.frame.proofs.Turn.{Each, each_append}
use Rattle.frame.proofs.Decides.{Good}
use Rattle.frame.specs.Sound.{sound_clean}
use Rattle.frame.specs.Fitting.{Words}
use Rattle.growth.specs.Ready.{Tails, Ready, ready, sound_tails}
use Rattle.growth.specs.Path.{new_inner}
use Rattle.growth.specs.Lists.{All, Distinct, all_append, all_map, distinct_append, distinct_map, all_of_map, distinct_occ}
use Rattle.growth.specs.Afterwards as later
use Rattle.growth.specs.Written.{Written, written_present, written_spot, written_formed, spot_kept}
use Rattle.growth.specs.Before.{Early, Order, early_present}
use Rattle.growth.specs.Done.{Done, done_written, done_data, done_bytes, done_text}
use Rattle.growth.specs.Decided.{whole, done_whole, plan_is, plan_good, stores_are, run_is}
use Rattle.growth.proofs.Early.{early_few, early_once, early_order}
use Rattle.growth.specs.Sounds.{still_candidate, sound_whole}
use Rattle.growth.specs.Fits.{record_fits}
use Rattle.volume.proofs.Readings.{off_pib}
use Rattle.growth.specs.Promise.{Writing, Grew}

module _ (π : Partition) (v : View) (f r : ℕ) (W : Writing π v f r) where
  -- a write may begin
  pub may : Ready π v f r
  may = ready π v f W.ok W.cf r W.next W.far W.enough

  tails : Tails π v f
  tails = sound_tails π v f W.ok W.cf

  -- the blocks of the file, and the new first free block, lie in the partition
  pub spot_in_inside : (k : ℕ) → present' π v f r k ≡ true → inside π (spot' π v f r k) ≡ true
  spot_in_inside = later.spot_in_inside π v f r may

  pub first_in : inside π (free_at π v (needs π v f r)) ≡ true
  first_in = (may.room (needs π v f r) (omega arith)).0

  module _ (dat : Rec) where
    -- the keys before the FIB's will do, and the view after all stores
    order : Order π v f r dat may (early π v f r)
    order = early_order π v f r may dat

    abbrev X : View
    X = whole π v f r dat may (early π v f r) order

    -- the stores before the FIB's change no file, it changes f alone, and the rest change no file
    pub write_good : Good π v (write_plan π v f r dat) f
    unfolding write_plan
    write_good = plan_good π v f r dat may (early π v f r) order (sound_clean π v W.ok) tails

    run : after (stores (write_plan π v f r dat)) v ≡ X
    unfolding write_plan
    run = run_is π v f r dat may (early π v f r) order

    pub write_sound : π.s < π.e → sound π (after (stores (write_plan π v f r dat)) v) ≡ true
    write_sound l = ap (sound π) run ∙ sound_whole π v f r dat may W.ok W.enough (early π v f r) order l

    pub write_grew : Grew π v f r dat (after (stores (write_plan π v f r dat)) v)
    unfolding is_file
    write_grew = subst (Grew π v f r dat) (sym run) (record {
      file = both_of (still_candidate π v f r dat may W.ok W.enough (early π v f r) order) (written_formed π v f r may tails X w);
      length = w.length;
      there = written_present π v f r may tails X w;
      where_is_at = written_spot π v f r may tails X w;
      wrote = done_data π v f r dat may X d;
      bytes = done_bytes π v f r dat may X d;
      kept = spot_kept π v f r may tails X w;
      text = λ x l m. done_text π v f r dat may X d x l (inl m);
      kind = done_text π v f r dat may X d 256 (omega arith) (inr refl);
    })
      where
        d : Done π v f r dat may X
        d = done_whole π v f r dat may (early π v f r) order

        w : Written π v f r X
        w = done_written π v f r dat may X d

    -- ---- the stores

    abbrev keys : List ℕ
    keys = early π v f r ++ (home ∷ [])

    -- those before the FIB's, the FIB's, the new first free block's and the PIB's
    pub write_plan_is : write_plan π v f r dat ≡ record { before = map (store π v f r dat) (early π v f r); deciding = store π v f r dat home; rest = taken_stores π v (needs π v f r) }
    unfolding write_plan
    write_plan_is = plan_is π v f r dat may (early π v f r) order

    list : stores (write_plan π v f r dat) ≡ map (store π v f r dat) keys ++ taken_stores π v (needs π v f r)
    unfolding write_plan
    list = stores_are π v f r dat may (early π v f r) order

    all_there : All (λ k. present' π v f r k ≡ true) keys
    all_there = all_append _ (early π v f r) (home ∷ []) (all_map (Early π v f r dat may) _ (early_present π v f r dat may) (early π v f r) order.early) (later.home_there π v f r, tt)

    -- what holds of the record of each key, of the new first free block's and of the PIB's holds of each store
    pub write_each : (P : ℕ → Rec → Type 0) → ((k : ℕ) → present' π v f r k ≡ true → P (spot' π v f r k) (grown π v f r dat k))
        → P (free_at π v (needs π v f r)) (new_first v (free_at π v (needs π v f r)))
        → P π.s (pib_less π.drive v π.s (free_at π v (needs π v f r)) (needs π v f r)) → Each P (stores (write_plan π v f r dat))
    unfolding taken_stores
    write_each P h a b = subst (Each P) (sym list) (each_append P (map (store π v f r dat) keys) _ (run_of keys all_there) (a, (b, tt)))
      where
        run_of : (ks : List ℕ) → All (λ k. present' π v f r k ≡ true) ks → Each P (map (store π v f r dat) ks)
        run_of [] t = tt
        run_of (k ∷ ks) t = (h k t.0, run_of ks t.1)

    -- ten at most
    pub write_few : length (stores (write_plan π v f r dat)) ≤ 10
    unfolding taken_stores
    write_few = omega (
      arith,
      ap length list,
      length-append (map (store π v f r dat) keys) (taken_stores π v (needs π v f r)),
      length-map keys (store π v f r dat),
      length-append (early π v f r) (home ∷ []),
      early_few π v f r,
    )

    run_places : (ks : List ℕ) → places (map (store π v f r dat) ks ++ taken_stores π v (needs π v f r)) ≡ map (spot' π v f r) ks ++ (free_at π v (needs π v f r) ∷ π.s ∷ [])
    unfolding taken_stores
    run_places [] = refl
    run_places (k ∷ ks) = ap (λ (l : List ℕ). spot' π v f r k ∷ l) (run_places ks)

    distinct_keys : Distinct keys
    distinct_keys =
        distinct_append (early π v f r) (home ∷ []) (early_once π v f r may) (tt, tt)
        (all_map (Early π v f r dat may) _ (λ k e. (not_home k e, tt)) (early π v f r) order.early)
      where
        not_home : (k : ℕ) → Early π v f r dat may k → k ≢ home
        not_home k (inl h) = new_inner π v f r may.file k h
        not_home k (inr h) = h.1

    first_apart : free_at π v (needs π v f r) ≢ π.s
    first_apart = off_pib π (free_at π v (needs π v f r)) first_in

    -- each block once
    pub write_once : (b : ℕ) → occ b (places (stores (write_plan π v f r dat))) ≤ 1
    write_once b = distinct_occ b _ (subst Distinct (sym (ap places list ∙ run_places keys)) (distinct_append (map (spot' π v f r) keys) (free_at π v (needs π v f r) ∷ π.s ∷ [])
        (distinct_map (λ k. present' π v f r k ≡ true) (spot' π v f r) (later.spot_one π v f r may) keys all_there distinct_keys)
        ((first_apart, tt), (tt, tt))
        (all_of_map (λ b. All (λ y. b ≢ y) (free_at π v (needs π v f r) ∷ π.s ∷ [])) (spot' π v f r) keys
        (all_map _ _ (λ k p. ((λ z. later.apart_first π v f r may k p (sym z)), ((λ z. later.apart_pib π v f r may k p (sym z)), tt))) keys all_there))))

    -- each record of a key is one
    pub grown_fits : π.e < 69552 → ((b : ℕ) → Fits (v b)) → Words 256 dat → (k : ℕ) → present' π v f r k ≡ true → Fits (grown π v f r dat k)
    grown_fits l h m k p = record_fits π v f r dat may l h m k
