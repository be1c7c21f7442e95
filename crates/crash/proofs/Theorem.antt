-- Demand 3, proved.
use Rattle.std.specs.Prelude.{◌≡◌, refl, ◌≢◌, List, [], ◌∷◌, Bool, true, false, ℕ, ◌+◌, ltb, eqb, take, length, Some}
use Rattle.std.proofs.Common.{sym, ap, ◌∙◌, subst, true≢false, arith, eqb-true}
use Rattle.std.proofs.lemmas.Bool.{eqb-false}
use Rattle.base.specs.Tests.{pick}
use Rattle.base.specs.Laws.{never}
use Rattle.image.specs.View.{View, Store, after}
use Rattle.image.specs.Image.{view}
use Rattle.volume.specs.Files.{partition_of, unowned, present, spot, name, is_file, sound}
use Rattle.volume.specs.declared.Partition.{Partition}
use Rattle.volume.proofs.Frame.{Clean}
use Rattle.volume.specs.Plans.{repair_stores}
use Rattle.frame.proofs.Turn.{Each, each_take}
use Rattle.volume.specs.Calls.{Call, create, write, describe, destroy, repair, Planned, planned, decided}
use Rattle.crash.specs.SameFile as views
use Rattle.crash.proofs.SameFile.{file_trans, file_refl, file_same, same_bytes}
use Rattle.crash.specs.Cut as cuts
use Rattle.crash.proofs.Cut.{survives}
use Rattle.crash.specs.Lawful.{Lawful}
use Rattle.crash.proofs.LawfulRepair.{repair_lawful}
use Rattle.crash.proofs.Settled.{Settled, refused, done}
use Rattle.crash.proofs.Stopped.{whole_sound, whole_others, stopped_survives}
use Rattle.crash.specs.Effect.{Effect}
use Rattle.crash.proofs.Held.{Held, placed, end_is, view_after, length_after, held_after}
use Rattle.crash.proofs.Accepting.{Sound, sound_accepted, accepted_sound, block, settled, repair_is}
use Rattle.crash.specs.Statement.{Proper, AllProper, is_done, stopped, whole, runs, Repairs, none, again, here, SameContent, SameFile, named, Survives, Demand3}
use Rattle.volume.proofs.Readings.{candidate_in}
use Rattle.volume.proofs.Index.{file_candidate}

-- ---- a file that is the same in two views of one partition is the same in the images

module _ {π : Partition} {l l' : List ℕ} (h : Held π l) (h' : Held π l') where
  here_is : here π.drive π.s l ≡ π
  here_is = ap (partition_of π.drive π.s) (end_is h)

  here_is' : here π.drive π.s l' ≡ π
  here_is' = ap (partition_of π.drive π.s) (end_is h')

  module _ (f : ℕ) (q : views.SameFile π (view l) (view l') f) where
    module _ (i : is_file π (view l) f ≡ true) where
      same_content : SameContent π.drive π.s l l' f
      same_content = record {
        long = q.long i;
        keys = λ k. ap (λ (ρ : Partition). present ρ (view l) f k) here_is ∙ q.keys i k ∙ sym (ap (λ (ρ : Partition). present ρ (view l') f k) here_is');
        blocks = λ k p. ap (λ (ρ : Partition). spot ρ (view l) f k) here_is
            ∙ q.blocks i k (subst (λ (ρ : Partition). present ρ (view l) f k ≡ true) here_is p)
            ∙ sym (ap (λ (ρ : Partition). spot ρ (view l') f k) here_is');
        bytes = λ r m k _. ap (λ (ρ : Partition). view l (name ρ (view l) f r) (8 + k)) here_is
            ∙ same_bytes π (view l) (view l') f q i r m (8 + k) (omega arith)
            ∙ sym (ap (λ (ρ : Partition). view l' (name ρ (view l') f r) (8 + k)) here_is');
        kind = q.kind i;
        description = λ k m. q.text i (8 + k) (omega arith) (omega arith);
      }

    pub same_file : SameFile π.drive π.s l l' f
    same_file = record {
      there = ap (λ (ρ : Partition). is_file ρ (view l) f) here_is ∙ q.is ∙ sym (ap (λ (ρ : Partition). is_file ρ (view l') f) here_is');
      content = λ i. same_content (sym (ap (λ (ρ : Partition). is_file ρ (view l) f) here_is) ∙ i);
    }

-- ---- block 0

-- block 0 is a file in no partition
zero_no : (ρ : Partition) (v : View) → is_file ρ v 0 ≡ false
zero_no ρ v = never _ (λ q. omega (arith, (candidate_in ρ v 0 (file_candidate ρ v 0 q)).0))

no_zero : (ρ : Partition) (v w : View) → views.SameFile ρ v w 0
no_zero ρ v w = file_same ρ v w 0 (zero_no ρ v ∙ sym (zero_no ρ w)) (λ i. absurd (true≢false (sym i ∙ zero_no ρ v)))

-- ---- repairs

-- a repair of an image without a malformed candidate, and with an unowned block, makes repair's stores
module _ {π : Partition} {l : List ℕ} (h : Held π l) (c : Clean π (view l)) (n : unowned π (view l) ≢ []) where
  list_is : (planned π.drive l π.s repair).list ≡ repair_stores π (view l)
  list_is = ap (λ (x : Planned). x.list) (repair_is h c n)

  repair_each : Each (Lawful π (view l)) (planned π.drive l π.s repair).list
  repair_each = subst (Each (Lawful π (view l))) (sym list_is) (repair_lawful (placed h))

  pub cut_held : (k : ℕ) → Held π (stopped π.drive π.s l repair k)
  cut_held k = held_after h (take k (planned π.drive l π.s repair).list) (each_take (Lawful π (view l)) k (planned π.drive l π.s repair).list repair_each)

  pub cut_view : (k : ℕ) → view (stopped π.drive π.s l repair k) ≡ after (take k (repair_stores π (view l))) (view l)
  cut_view k =
      view_after h (take k (planned π.drive l π.s repair).list) (each_take (Lawful π (view l)) k (planned π.drive l π.s repair).list repair_each)
      ∙ ap (λ (xs : List Store). after (take k xs) (view l)) list_is

  pub mended_held : Held π (whole π.drive π.s l repair)
  mended_held = held_after h (planned π.drive l π.s repair).list repair_each

  pub mended_view : view (whole π.drive π.s l repair) ≡ after (repair_stores π (view l)) (view l)
  mended_view = view_after h (planned π.drive l π.s repair).list repair_each ∙ ap (λ (xs : List Store). after xs (view l)) list_is

  pub mended_length : length (whole π.drive π.s l repair) ≡ length l
  mended_length = length_after h (planned π.drive l π.s repair).list repair_each

  pub repair_done : is_done (planned π.drive l π.s repair).outcome ≡ true
  repair_done = ap (λ (x : Planned). is_done x.outcome) (repair_is h c n)

-- what repairs, each stopped somewhere, make of an image is what they make of its view
pub record Reached (π : Partition) (v : View) (l' : List ℕ) : Type 0 where
  pub held : Held π l'
  pub repairs : cuts.Repairs π v (view l')

pub reached : {π : Partition} {l l' : List ℕ} (h : Held π l) → Clean π (view l) → unowned π (view l) ≢ [] → Repairs π.drive π.s l l' → Reached π (view l) l'
reached h c n none = record { held = h; repairs = cuts.none }
reached {π} {l} h c n (again {m} r k) = go (reached h c n r)
  where
    go : Reached π (view l) m → Reached π (view l) (stopped π.drive π.s m repair k)
    go x = record {
      held = cut_held x.held y.clean y.spare k;
      repairs = subst (cuts.Repairs π (view l)) (sym (cut_view x.held y.clean y.spare k)) (cuts.more x.repairs k);
    }
      where
        y : cuts.Survives π (view l) (view m)
        y = survives π (placed h).low (placed h).pos (view l) c n x.repairs

-- ---- one call

settled_lawful : {π : Partition} {v : View} {f : ℕ} {E : View → Type 0} (x : Planned) → Settled π v f E x → Each (Lawful π v) x.list
settled_lawful _ (refused y) = tt
settled_lawful _ (done a P o) = o.lawful

module _ {π : Partition} {l : List ℕ} (h : Held π l) (ok : sound π (view l) ≡ true) (c : Call) (p : Proper c) where
  -- its stores
  abbrev pub steps : List Store
  steps = (planned π.drive l π.s c).list

  plan : Settled π (view l) (block h c) (Effect π c (view l)) (planned π.drive l π.s c)
  plan = settled h ok c p

  lawful : Each (Lawful π (view l)) steps
  lawful = settled_lawful (planned π.drive l π.s c) plan

  pub whole_held : Held π (whole π.drive π.s l c)
  whole_held = held_after h steps lawful

  pub whole_view : view (whole π.drive π.s l c) ≡ after steps (view l)
  whole_view = view_after h steps lawful

  pub whole_ok : sound π (view (whole π.drive π.s l c)) ≡ true
  whole_ok = ap (sound π) whole_view ∙ whole_sound (placed h) ok plan

  pub stopped_held : (n : ℕ) → Held π (stopped π.drive π.s l c n)
  stopped_held n = held_after h (take n steps) (each_take (Lawful π (view l)) n steps lawful)

  pub stopped_view : (n : ℕ) → view (stopped π.drive π.s l c n) ≡ after (take n steps) (view l)
  stopped_view n = view_after h (take n steps) (each_take (Lawful π (view l)) n steps lawful)

  -- the files that it does not name
  pub unnamed : (f : ℕ) → named π.drive π.s l c ≢ Some f → views.SameFile π (view l) (after steps (view l)) f
  unnamed f n = go (eqb f (block h c)) refl
    where
      other : eqb f (block h c) ≡ false → views.SameFile π (view l) (after steps (view l)) f
      other q = whole_others (placed h) ok plan f (eqb-false f (block h c) q)

      hit : (c : Call) → named π.drive π.s l c ≢ Some f → f ≡ block h c → f ≡ 0
      hit (create kind) n z = absurd (n (ap Some (sym z)))
      hit (write g r b) n z = absurd (n (ap Some (sym z)))
      hit (describe g t) n z = absurd (n (ap Some (sym z)))
      hit (destroy g) n z = absurd (n (ap Some (sym z)))
      hit repair n z = z

      go : (t : Bool) → eqb f (block h c) ≡ t → views.SameFile π (view l) (after steps (view l)) f
      go true q = subst (views.SameFile π (view l) (after steps (view l))) (sym (hit c n (eqb-true f (block h c) q))) (no_zero π (view l) (after steps (view l)))
      go false q = other q

  -- stopped after n stores, and then repairs
  module _ (n : ℕ) where
    -- at the view
    outlives : {u : View} → cuts.Repairs π (view (stopped π.drive π.s l c n)) u → cuts.Survives π (pick (ltb 0 (decided (planned π.drive l π.s c).deciding n)) (after steps (view l)) (view l)) u
    outlives {u} r = stopped_survives (placed h) ok plan n (subst (λ (w : View). cuts.Repairs π w u) (stopped_view n) r)

    -- at once after the stop
    pub cut_clean : Clean π (view (stopped π.drive π.s l c n))
    cut_clean = (outlives cuts.none).clean

    pub cut_spare : unowned π (view (stopped π.drive π.s l c n)) ≢ []
    cut_spare = (outlives cuts.none).spare

    -- what the last repair leaves holds the partition still
    pub survivor_held : (l' : List ℕ) → Repairs π.drive π.s (stopped π.drive π.s l c n) l' → Held π (whole π.drive π.s l' repair)
    survivor_held l' r =
        let x = reached (stopped_held n) cut_clean cut_spare r in
        let y = outlives x.repairs in
        mended_held x.held y.clean y.spare

    pub survived : (l' : List ℕ) → Repairs π.drive π.s (stopped π.drive π.s l c n) l' → Survives π.drive π.s l c n l'
    survived l' r = record {
      not_refused = repair_done hu y.clean y.spare;
      accepted = sound_accepted hm (ap (sound π) vm ∙ y.sound);
      others = λ f q. same_file h hm f (subst (λ (w : View). views.SameFile π (view l) w f) (sym vm) (file_trans (part (ltb 0 (decided (planned π.drive l π.s c).deciding n)) f q) (y.files f)));
      all_or_none = λ f _. choose (ltb 0 (decided (planned π.drive l π.s c).deciding n)) f (y.files f);
    }
      where
        x : Reached π (view (stopped π.drive π.s l c n)) l'
        x = reached (stopped_held n) cut_clean cut_spare r

        hu : Held π l'
        hu = x.held

        y : cuts.Survives π (pick (ltb 0 (decided (planned π.drive l π.s c).deciding n)) (after steps (view l)) (view l)) (view l')
        y = outlives x.repairs

        hm : Held π (whole π.drive π.s l' repair)
        hm = mended_held x.held y.clean y.spare

        vm : view (whole π.drive π.s l' repair) ≡ after (repair_stores π (view l')) (view l')
        vm = mended_view x.held y.clean y.spare

        part : (t : Bool) (f : ℕ) → named π.drive π.s l c ≢ Some f → views.SameFile π (view l) (pick t (after steps (view l)) (view l)) f
        part true f q = unnamed f q
        part false f q = file_refl π (view l) f

        choose : (t : Bool) (f : ℕ) → views.SameFile π (pick t (after steps (view l)) (view l)) (after (repair_stores π (view l')) (view l')) f → SameFile π.drive π.s (pick t (whole π.drive π.s l c) l) (whole π.drive π.s l' repair) f
        choose true f q = same_file whole_held hm f (subst (λ (w : View). views.SameFile π w (view (whole π.drive π.s l' repair)) f) (sym whole_view) (subst (λ (w : View). views.SameFile π (after steps (view l)) w f) (sym vm) q))
        choose false f q = same_file h hm f (subst (λ (w : View). views.SameFile π (view l) w f) (sym vm) q)

-- ---- whole calls, one after another

pub whole_kept : {d s : ℕ} {l : List ℕ} → Sound d s l → (c : Call) → Proper c → Sound d s (whole d s l c)
whole_kept y c k = record { end = y.end; held = whole_held y.held y.is c k; is = whole_ok y.held y.is c k }

pub runs_kept : {d s : ℕ} (l : List ℕ) → Sound d s l → (cs : List Call) → AllProper cs → Sound d s (runs d s l cs)
unfolding runs
runs_kept {d = d} {s = s} l y [] k = y
runs_kept {d = d} {s = s} l y (c ∷ cs) k = runs_kept (whole d s l c) (whole_kept y c k.0) cs k.1

-- ---- demand 3

pub demand_3 : Demand3
demand_3 d s l b a cs ks c p k l' r =
    let y = runs_kept l (accepted_sound d s l b a) cs ks in
    survived y.held y.is c p k l' r
