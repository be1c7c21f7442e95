-- A changing call makes no two stores in one block, and all but repair make at most ten.
use Rattle.std.specs.Prelude.{◌≡◌, ◌≢◌, length, Option, Some, None, Result, Ok, Err}
use Rattle.base.specs.declared.Refusal.{Refusal}
use Rattle.std.proofs.Math.Path.{refl, ap}
use Rattle.std.proofs.Math.Bool.{Bool, true, false}
use mathlib.Core.List.{List, [], ◌∷◌, ◌++◌}
use Prim.Native.Nat.{ℕ, zero, suc, ◌+◌, ◌-◌, ◌≤◌, ◌<◌}
use native.Mathlib.Omega.{arith}
use Rattle.std.proofs.Math.Dec.{leb, ltb, eqb}
use Rattle.std.proofs.Math.ListN.{length-append}
use Rattle.std.proofs.Common.{eqb-true, ne_eqb, ltb-true, leb-false}
use Rattle.base.specs.Tests.{pick, tab_from, occ}
use Rattle.base.specs.declared.Refusal.TheVariants.{BadBlock, NoCandidate, NothingFree}
use Rattle.drive.specs.Address.{pda}
use Rattle.image.specs.View.{View, Rec, Store, places, put2}
use Rattle.image.specs.Image.{view}
use Rattle.image.specs.Saves.{words}
use Rattle.volume.specs.Words.{next_at}
use Rattle.volume.specs.Keys.{home, reach}
use Rattle.volume.specs.Files.{partition_of, candidate, len, end, spot, least, size, sound, unowned, free_head}
use Rattle.volume.specs.declared.Partition.{Partition}
use Rattle.volume.specs.Plans.{st, stores, new_first, pib_less, gone, top_gone, pib_more, top_gone_stores, last_gone_stores, destroyed, free_at, free_tail, taken_stores, create_plan, describe_plan, destroy_plan, repaired, repair_plan}
use Rattle.volume.specs.Writes.{needs, write_plan, replace_plan}
use Rattle.volume.specs.Calls.{Planned, refuse, finish, lent_block, lent_text, unmarred, through, room, Call, create, write, describe, destroy, repair, create_in, append_in, write_in, describe_in, destroy_in, repair_in, planned}
use Rattle.volume.specs.Answers.{lowest_malformed}
use Rattle.volume.proofs.Readings.{in_part}
use Rattle.volume.specs.Outcome.{Lent}
use Rattle.growth.specs.Promise.{Writing}
use Rattle.growth.proofs.Promise.{write_few, write_once}
use Rattle.change.specs.Gate.{gate, Opens, enters, shut}
use Rattle.change.specs.Hits.{bit, hit, times, times_append, times_cons, times_none, hit_one, times_plan, length_plan, some_times, some_length, budget, free_two, free_last, file_hits}

-- at most ten stores, none twice in a block
pub record Orderly (ss : List Store) : Type 0 where
  pub few : length ss ≤ 10
  pub once : (b : ℕ) → occ b (places ss) ≤ 1

one_store : (x : Store) → Orderly (x ∷ [])
one_store x = record { few = omega arith; once = λ b. omega (arith, times_cons b x [], times_none b, hit_one b x.at) }

no_store : Orderly []
no_store = record { few = omega arith; once = λ b. omega (arith, times_none b) }

-- ---- the plans

times_two : (b : ℕ) (x y : Store) → times b (x ∷ y ∷ []) ≡ hit b x.at + hit b y.at
times_two b x y = omega (arith, times_cons b x (y ∷ []), times_cons b y [], times_none b)

module _ (π : Partition) (v : View) (ok : sound π v ≡ true) where
  create_orderly : (kind : ℕ) → 1 < room π v → Orderly (stores (create_plan π v kind))
  unfolding create_plan taken_stores
  create_orderly kind n =
      record {
        few = omega (arith, length_plan (create_plan π v kind));
        once = λ b.
            omega (arith, times_plan b (create_plan π v kind), times_none b, times_two b first pib, free_two π v ok b n, budget π v ok b);
      }
    where
      first : Store
      first = st (free_at π v 1) (new_first v (free_at π v 1))

      pib : Store
      pib = st π.s (pib_less π.drive v π.s (free_at π v 1) 1)

  destroy_orderly : (f : ℕ) → candidate π v f ≡ true → Orderly (stores (destroy_plan π v f))
  unfolding destroy_plan destroyed top_gone_stores last_gone_stores
  destroy_orderly f c =
      record {
        few = omega (arith, length_plan (destroy_plan π v f), length-append tops (lasts ++ ends), length-append lasts ends, some_length alone x, some_length empty y);
        once = λ b.
            omega (
              arith,
              times_plan b (destroy_plan π v f),
              times_none b,
              times_append b tops (lasts ++ ends),
              times_append b lasts ends,
              some_times b alone x,
              some_times b empty y,
              times_two b tail pib,
              file_hits π v ok f c b alone empty refl refl,
              free_last π v ok b,
              budget π v ok b,
            );
      }
    where
      alone : Bool
      alone = eqb (least π v f) home

      empty : Bool
      empty = eqb (len v f) 0

      x : Store
      x = let b = spot π v f (least π v f) in st b (top_gone π.drive v (free_head π v) (free_tail π v) b)

      y : Store
      y = let b = spot π v f (end v f) in st b (gone v (free_head π v) b)

      tops : List Store
      tops = pick alone [] (x ∷ [])

      lasts : List Store
      lasts = pick empty [] (y ∷ [])

      tail : Store
      tail = st (free_tail π v) (put2 next_at (pda π.drive (spot π v f (least π v f))) (v (free_tail π v)))

      pib : Store
      pib = st π.s (pib_more π.drive v π.s (spot π v f (end v f)) (size π v f))

      ends : List Store
      ends = tail ∷ pib ∷ []

  write_orderly : (f r : ℕ) (dat : Rec) → candidate π v f ≡ true → r ≡ len v f → r < reach → needs π v f r < room π v → Orderly (stores (write_plan π v f r dat))
  write_orderly f r dat c q m n = record { few = write_few π v f r w dat; once = write_once π v f r w dat }
    where
      w : Writing π v f r
      w = record { ok = ok; cf = c; next = q; far = m; enough = n }

-- ---- the calls

module _ (d : ℕ) (l : List ℕ) (s : ℕ) where
  through_orderly : (lent : Lent) (k : Partition → Planned) → ((e : ℕ) → Opens (partition_of d s e) l → Orderly (k (partition_of d s e)).list) → Orderly (through d l s lent k).list
  through_orderly lent k inner = go (gate d l s lent) refl
    where
      go : (p : Result ℕ Refusal) → gate d l s lent ≡ p → Orderly (through d l s lent k).list
      go (Ok e) q = let x = enters d l s lent k e q in rw x.goes (inner e x.opens)
      go (Err y) q = rw (shut d l s lent k y q) no_store

  module _ (e : ℕ) (o : Opens (partition_of d s e) l) where
    create_in_orderly : (kind : ℕ) → Orderly (create_in (partition_of d s e) (view l) kind).list
    unfolding create_in
    create_in_orderly kind = go (leb (room (partition_of d s e) (view l)) 1) refl
      where
        go : (t : Bool) → leb (room (partition_of d s e) (view l)) 1 ≡ t → Orderly (create_in (partition_of d s e) (view l) kind).list
        go true q = rw (create_in, q) no_store
        go false q = rw (create_in, q) (create_orderly (partition_of d s e) (view l) o.sound kind (leb-false (room (partition_of d s e) (view l)) 1 q))

    append_in_orderly : (f r : ℕ) (dat : Rec) → candidate (partition_of d s e) (view l) f ≡ true → r ≡ len (view l) f → r < reach
        → Orderly (append_in (partition_of d s e) (view l) f r dat).list
    unfolding append_in
    append_in_orderly f r dat c q m = go (leb (room (partition_of d s e) (view l)) (needs (partition_of d s e) (view l) f r)) refl
      where
        go : (t : Bool) → leb (room (partition_of d s e) (view l)) (needs (partition_of d s e) (view l) f r) ≡ t → Orderly (append_in (partition_of d s e) (view l) f r dat).list
        go true z = rw (append_in, z) no_store
        go false z = rw (append_in, z) (write_orderly (partition_of d s e) (view l) o.sound f r dat c q m (leb-false (room (partition_of d s e) (view l)) (needs (partition_of d s e) (view l) f r) z))

    replace_one : (f r : ℕ) (dat : Rec) → Orderly (stores (replace_plan (partition_of d s e) (view l) f r dat))
    unfolding replace_plan stores
    replace_one f r dat = one_store _

    write_in_orderly : (f r : ℕ) (dat : Rec) → Orderly (write_in (partition_of d s e) (view l) f r dat).list
    unfolding write_in
    write_in_orderly f r dat = go (candidate (partition_of d s e) (view l) f) refl (ltb r reach) refl (ltb r (len (view l) f)) (eqb r (len (view l) f)) refl
      where
        go : (c : Bool) → candidate (partition_of d s e) (view l) f ≡ c → (x : Bool) → ltb r reach ≡ x → (y z : Bool) → eqb r (len (view l) f) ≡ z
            → Orderly (pick c (pick x (pick y (finish 0 (replace_plan (partition_of d s e) (view l) f r dat)) (pick z (append_in (partition_of d s e) (view l) f r dat) (refuse BadBlock))) (refuse BadBlock)) (refuse NoCandidate)).list
        go true c true m true z q = replace_one f r dat
        go true c true m false true q = append_in_orderly f r dat c (eqb-true r _ q) (ltb-true r reach m)
        go true c true m false false q = no_store
        go true c false m y z q = no_store
        go false c x m y z q = no_store

    describe_in_orderly : (f : ℕ) (dat : Rec) → Orderly (describe_in (partition_of d s e) (view l) f dat).list
    unfolding describe_in describe_plan stores
    describe_in_orderly f dat = go (candidate (partition_of d s e) (view l) f)
      where
        go : (c : Bool) → Orderly (pick c (finish 0 (describe_plan (view l) f dat)) (refuse NoCandidate)).list
        go true = one_store _
        go false = no_store

    destroy_in_orderly : (f : ℕ) → Orderly (destroy_in (partition_of d s e) (view l) f).list
    unfolding destroy_in
    destroy_in_orderly f = go (candidate (partition_of d s e) (view l) f) refl
      where
        go : (c : Bool) → candidate (partition_of d s e) (view l) f ≡ c → Orderly (pick c (finish 0 (destroy_plan (partition_of d s e) (view l) f)) (refuse NoCandidate)).list
        go true c = destroy_orderly (partition_of d s e) (view l) o.sound f c
        go false c = no_store

  -- every call but repair, on every image
  pub orderly : (call : Call) → call ≢ repair → Orderly (planned d l s call).list
  unfolding planned
  orderly (create kind) n = through_orderly (Ok tt) _ (λ e o. create_in_orderly e o kind)
  orderly (write f r block) n = through_orderly (lent_block block) _ (λ e o. write_in_orderly e o f r (words block))
  orderly (describe f text) n = through_orderly (lent_text text) _ (λ e o. describe_in_orderly e o f (words text))
  orderly (destroy f) n = through_orderly (Ok tt) _ (λ e o. destroy_in_orderly e o f)
  orderly repair n = absurd (n refl)

-- ---- repair, and so every call, makes at most one store in a block

-- one store in each of the blocks i, i + 1, ..
module _ (g : ℕ → Rec) (b : ℕ) where
  run_low : (i k : ℕ) → b < i → times b (tab_from i k (λ x. st x (g x))) ≡ 0
  unfolding tab_from
  run_low i zero h = times_none b
  run_low i (suc k) h =
      omega (arith, times_cons b (st i (g i)) (tab_from (suc i) k (λ x. st x (g x))), ap bit (ne_eqb b i (λ z. omega arith)), run_low (suc i) k (omega arith))

  run_once : (i k : ℕ) → times b (tab_from i k (λ x. st x (g x))) ≤ 1
  unfolding tab_from
  run_once i zero = omega (arith, times_none b)
  run_once i (suc k) = go (eqb b i) refl (run_once (suc i) k)
    where
      rest : List Store
      rest = tab_from (suc i) k (λ x. st x (g x))

      go : (t : Bool) → eqb b i ≡ t → times b rest ≤ 1 → times b (st i (g i) ∷ rest) ≤ 1
      go true q h = omega (arith, times_cons b (st i (g i)) rest, hit_one b i, run_low (suc i) k (omega (arith, eqb-true b i q)))
      go false q h = omega (arith, times_cons b (st i (g i)) rest, ap bit q)

repair_in_orderly : (π : Partition) (v : View) (b : ℕ) → times b (repair_in π v).list ≤ 1
unfolding repair_in repair_plan
repair_in_orderly π v b = go (eqb (length (unowned π v)) 0)
  where
    g : ℕ → Rec
    g = repaired π v (unowned π v)

    pib : (t : Bool) → eqb b π.s ≡ t → times b (stores (repair_plan π v)) ≤ 1
    pib true q =
        omega (arith, times_plan b (repair_plan π v), times_none b, hit_one b π.s, run_low g b (suc π.s) (π.e - π.s) (omega (arith, eqb-true b π.s q)))
    pib false q = omega (arith, times_plan b (repair_plan π v), times_none b, ap bit q, run_once g b (suc π.s) (π.e - π.s))

    go : (t : Bool) → times b (pick t (refuse NothingFree) (finish 0 (repair_plan π v))).list ≤ 1
    go true = omega (arith, times_none b)
    go false = pib (eqb b π.s) refl

module _ (d : ℕ) (l : List ℕ) (s : ℕ) where
  pub repair_once : (b : ℕ) → occ b (places (planned d l s repair).list) ≤ 1
  unfolding planned
  repair_once b = in_part (λ x. times b x.list ≤ 1) refuse none none d l s _ (λ e _. go (partition_of d s e) (lowest_malformed (partition_of d s e) (view l)))
    where
      none : times b [] ≤ 1
      none = omega (arith, times_none b)

      go : (π : Partition) (x : Option ℕ) → times b (unmarred x (repair_in π (view l))).list ≤ 1
      go π (Some f) = none
      go π None = repair_in_orderly π (view l) b

  -- every call, on every image
  pub once : (call : Call) (b : ℕ) → occ b (places (planned d l s call).list) ≤ 1
  once (create kind) b = (orderly d l s (create kind) (λ q. let z : ◌≡◌ {A = ℕ} 0 1 = cc in omega arith)).once b
  once (write f r block) b = (orderly d l s (write f r block) (λ q. let z : ◌≡◌ {A = ℕ} 0 1 = cc in omega arith)).once b
  once (describe f text) b = (orderly d l s (describe f text) (λ q. let z : ◌≡◌ {A = ℕ} 0 1 = cc in omega arith)).once b
  once (destroy f) b = (orderly d l s (destroy f) (λ q. let z : ◌≡◌ {A = ℕ} 0 1 = cc in omega arith)).once b
  once repair b = repair_once b
