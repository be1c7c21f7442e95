-- Describe and replace: one block of a file gets another record, which keeps its header and its index. The file's form, the other files
-- and the free chain stay.
use Rattle.std.specs.Prelude.{◌≡◌, ◌≢◌, Bool, ℕ, ◌+◌, ◌-◌, ◌*◌, ◌≤◌, ◌<◌, leb, ltb, eqb}
use Rattle.std.proofs.Math.Path.{refl, sym, ap}
use Rattle.std.proofs.Common.{ap₂, ◌∙◌, subst, true≢false, arith}
use Rattle.std.proofs.Math.Logic.{inr}
use mathlib.Core.List.{[]}
use Rattle.std.proofs.Math.Bool.{true, false}
use borrow.Author.Tests.{eqb-true, eqb-false, lt-ltb, le-ltb, lt-leb}
use Rattle.base.specs.Tests.{pick, both, head_of, last_of}
use Rattle.drive.specs.Address.{is_lda}
use Rattle.image.specs.View.{upd_same, upd_other, View, Rec, after, upd, pair}
use Rattle.image.specs.Saves.{with_data, with_text}
use Rattle.volume.specs.Keys.{home, up, slot}
use Rattle.volume.proofs.KeyLaws.{up_most, slot_fib, number_fib}
use Rattle.volume.specs.Files.{inside, candidate, spot, present, well_formed, key, owned, free, free_head, sound}
use Rattle.volume.specs.declared.Partition.{Partition}
use Rattle.volume.proofs.Index.{spot_home, present_home, member, member_owned, file_back, key_back, present_few}
use Rattle.volume.proofs.Frame.{SameHead, head_of_same, Shape, Clean, Formed, kept_present, kept_spot, kept_well_formed, agree_clean, agree_owned}
use Rattle.volume.specs.Plans.{st, stores, describe_plan}
use Rattle.volume.specs.Writes.{over, replace_plan}
use Rattle.frame.specs.Soft.{headed_rel, cand_in, cand_same}
use Rattle.frame.proofs.Turn.{Turn, Mine, turn_free, turn_decided, Each}
use Rattle.frame.proofs.Decides.{Good}
use Rattle.frame.specs.Sound.{sound_clean, sound_linked, sound_once, sound_within, sound_chained, sound_head, sound_tail, sound_number, sound_some, some_free}
use Rattle.frame.proofs.FreeChain.{links_of, sound_of, links_same}
use Rattle.frame.specs.Reading.{two}
use Rattle.crash.specs.FreeBlocks.{first_free, first_in, own_file, spot≢fib, spot_in_inside}
use Rattle.frame.specs.Joined.{chained_links}
use Rattle.volume.proofs.Readings.{off_pib}
use Rattle.volume.specs.Words.{next_at, previous_at}
use Rattle.crash.specs.Lawful.{Placed, Lawful}
use Rattle.crash.proofs.Lawful.{inner}
use Rattle.frame.specs.Fitting.{Words, text_fits, data_fits}

-- r instead of the record of b, which is no pointer block: f's content alone is changed
pub record One (π : Partition) (v : View) (f b : ℕ) (r : Rec) : Type 0 where
  pub inn : inside π b ≡ true
  pub head : SameHead (v b) r
  pub links : (w : ℕ) → 4 ≤ w → w < 8 → v b w ≡ r w
  pub fib : (w : ℕ) → 60 ≤ w → v f w ≡ upd v b r f w
  pub off : home ≤ key v b
  pub mine : Mine π v f b r

module _ (π : Partition) (v : View) (ok : sound π v ≡ true) (f : ℕ) (cf : candidate π v f ≡ true) where
  abbrev a : ℕ
  a = free_head π v

  c : Clean π v
  c = sound_clean π v ok

  wf : well_formed π v f ≡ true
  wf = c f cf

  module _ (b : ℕ) (r : Rec) (o : One π v f b r) where
    heads : (x : ℕ) → SameHead (v x) (upd v b r x)
    heads x = go (eqb x b) refl
      where
        go : (t : Bool) → eqb x b ≡ t → SameHead (v x) (pick t r (v x))
        go true q = subst (λ (y : ℕ). SameHead (v y) r) (sym (eqb-true x b q)) o.head
        go false q = head_of_same refl

    -- no pointer block is b
    pointer : (h k : ℕ) → candidate π v h ≡ true → k < home → present π v h k ≡ true → upd v b r (spot π v h k) ≡ v (spot π v h k)
    pointer h k ch l p = upd_other v b r _ (λ z. omega (arith, o.off, ap (key v) (sym z) ∙ key_back π v h ch (c h ch) k p))

    fib2 : (w : ℕ) → 60 ≤ w → pair v f w ≡ pair (upd v b r) f w
    fib2 w l = ap₂ (λ (x y : ℕ). x + 65536 * y) (o.fib w l) (o.fib (w + 1) (omega arith))

    pub one_shape : Shape π v (upd v b r) f
    one_shape = record {
      length = o.fib 258 (omega arith);
      last = fib2 259 (omega arith);
      used = o.fib 257 (omega arith);
      lowest = o.fib 261 (omega arith);
      low_at = fib2 262 (omega arith);
      heads = λ k p. heads (spot π v f k);
      entries = λ k n p _. go k n p (eqb (up k) home) refl;
    }
      where
        go : (k : ℕ) → k ≢ home → present π v f (up k) ≡ true → (t : Bool) → eqb (up k) home ≡ t → pair v (spot π v f (up k)) (slot k) ≡ pair (upd v b r) (spot π v f (up k)) (slot k)
        go k n p true q =
            let z = eqb-true (up k) home q in
            subst (λ (x : ℕ). pair v x (slot k) ≡ pair (upd v b r) x (slot k)) (sym (ap (spot π v f) z ∙ spot_home π v f)) (fib2 (slot k) (slot_fib k n z).0)
        go k n p false q = sym (ap (λ (x : Rec). two x (slot k)) (pointer f (up k) cf (omega (arith, up_most k, eqb-false (up k) home q)) p))

    pub one_good : Good π v (record { before = []; deciding = st b r; rest = [] }) f
    unfolding after
    one_good = record {
      early = tt;
      turn = t;
      form = form;
      left = some_free π (upd v b r) a (first_in π v ok) (turn_free π v c (upd v b r) f t form a (first_free π v ok) (λ _. taken));
      late = tt;
    }
      where
        t : Turn π v (upd v b r) f
        t = turn_decided π v c f [] b r tt o.mine

        form : candidate π (upd v b r) f ≡ true → well_formed π (upd v b r) f ≡ true
        form _ = sym (kept_well_formed π v (upd v b r) f one_shape) ∙ wf

        taken : (k : ℕ) → present π (upd v b r) f k ≡ true → spot π (upd v b r) f k ≢ a
        taken k p z =
            let q = kept_present π v (upd v b r) f one_shape k ∙ p in
            true≢false (sym (member_owned π v f cf wf k q) ∙ ap (owned π v) (kept_spot π v (upd v b r) f one_shape k q ∙ z) ∙ first_free π v ok)

    -- ---- whole, it leaves a sound partition

    turn₁ : Turn π v (upd v b r) f
    unfolding after
    turn₁ = one_good.turn

    same_f : candidate π v f ≡ candidate π (upd v b r) f
    same_f = cand_same π v (upd v b r) f (heads f)

    al : Formed π v (upd v b r)
    al = record { shape = λ h k. sh h k (eqb h f) refl; cands = λ h. ca h (eqb h f) refl }
      where
        sh : (h : ℕ) → candidate π v h ≡ true → (t : Bool) → eqb h f ≡ t → Shape π v (upd v b r) h
        sh h k true q = subst (Shape π v (upd v b r)) (sym (eqb-true h f q)) (one_shape)
        sh h k false q = (turn₁.others h (eqb-false h f q) k).shape

        ca : (h : ℕ) (t : Bool) → eqb h f ≡ t → candidate π v h ≡ candidate π (upd v b r) h
        ca h true q = subst (λ (x : ℕ). candidate π v x ≡ candidate π (upd v b r) x) (sym (eqb-true h f q)) same_f
        ca h false q = turn₁.cands h (eqb-false h f q)

    link_word : (x w : ℕ) → 4 ≤ w → w < 8 → v x w ≡ upd v b r x w
    link_word x w l m = go (eqb x b) refl
      where
        go : (t : Bool) → eqb x b ≡ t → v x w ≡ pick t r (v x) w
        go true q = ap (λ (y : ℕ). v y w) (eqb-true x b q) ∙ o.links w l m
        go false q = refl

    both_links : (x : ℕ) → (pair (upd v b r) x next_at ≡ pair v x next_at) × (pair (upd v b r) x previous_at ≡ pair v x previous_at)
    both_links x = (link2 4 (omega arith) (omega arith), link2 6 (omega arith) (omega arith))
      where
        link2 : (w : ℕ) → 4 ≤ w → w < 7 → pair (upd v b r) x w ≡ pair v x w
        link2 w l m = sym (ap₂ (λ (y z : ℕ). y + 65536 * z) (link_word x w l (omega arith)) (link_word x (w + 1) (omega arith) (omega arith)))

    W_pib : upd v b r π.s ≡ v π.s
    W_pib = upd_other v b r π.s (λ z. off_pib π b o.inn (sym z))

    pub one_sound : π.s < π.e → sound π (upd v b r) ≡ true
    one_sound low = sound_of π (upd v b r) (free π v) low
        (record {
          inn = sound_within π v ok;
          ways = chained_links π v (upd v b r) 0 (free π v) (λ x _. both_links x) (sound_chained π v ok);
          once = λ x n. sound_once π v ok x n ∙ ap (λ (t : Bool). pick t 0 1) (agree_owned π v (upd v b r) c al x);
          head = ap (λ (y : Rec). is_lda π.drive (two y 8) (head_of 0 (free π v))) W_pib ∙ sound_head π v ok;
          tail = ap (λ (y : Rec). is_lda π.drive (two y 10) (last_of 0 (free π v))) W_pib ∙ sound_tail π v ok;
          number = ap (λ (y : Rec). two y 12) W_pib ∙ sound_number π v ok;
          some = sound_some π v ok;
        })
        (agree_clean π v (upd v b r) c al)
        (λ h k. let c₀ = al.cands h ∙ k in links_same π v (upd v b r) h (al.shape h c₀) (λ j _. both_links (spot π v h j)) (λ j. pointer h j c₀) (links_of π v h (sound_linked π v ok h c₀)))

  -- ---- the two calls

  fib_key : key v f ≡ home
  fib_key = subst (λ (x : ℕ). key v x ≡ home) (spot_home π v f) (key_back π v f cf wf home (present_home π v f))

  pub describe_one : (dat : Rec) → One π v f f (with_text dat (v f))
  unfolding both with_text
  describe_one dat = record {
    inn = cand_in π v f cf;
    head = record { low = refl; high = refl; rel = refl };
    links = λ w l m. sym (ap (λ (t : Bool). pick (both t (ltb w 60)) (dat (w - 8)) (v f w)) (lt-leb 8 w m));
    fib = λ w l. sym (ap (λ (x : Rec). x w) (upd_same v f (with_text dat (v f))) ∙ ap (λ (t : Bool). pick t (dat (w - 8)) (v f w)) (off w l (leb 8 w)));
    off = omega (arith, fib_key);
    mine = λ _. inr ((λ _. own_file π v ok f cf), λ n. absurd (n refl));
  }
    where
      off : (w : ℕ) → 60 ≤ w → (t : Bool) → both t (ltb w 60) ≡ false
      off w l true = le-ltb w 60 l
      off w l false = refl

  pub describe_good : (dat : Rec) → Good π v (describe_plan v f dat) f
  unfolding describe_plan
  describe_good dat = one_good f (with_text dat (v f)) (describe_one dat)

  pub describe_sound : (dat : Rec) → π.s < π.e → sound π (after (stores (describe_plan v f dat)) v) ≡ true
  unfolding describe_plan stores after
  describe_sound dat low = one_sound f (with_text dat (v f)) (describe_one dat) low

  pub describe_lawful : Placed π v → {n : ℕ} (dat : Rec) → Words n dat → Each (Lawful π v) (stores (describe_plan v f dat))
  unfolding stores describe_plan
  describe_lawful at dat k = (inner at (cand_in π v f cf) (text_fits k (at.fits f)), tt)

  -- a data block that is present
  module _ (k : ℕ) (d : home < k) (p : present π v f k ≡ true) (dat : Rec) where
    pub replace_one : One π v f (spot π v f k) (with_data dat (v (spot π v f k)))
    unfolding with_data
    replace_one = record {
      inn = (member π v f cf wf k p).ins;
      head = record { low = refl; high = refl; rel = refl };
      links = λ w m n. sym (ap (λ (t : Bool). pick t (v (spot π v f k) w) (dat (w - 8))) (lt-ltb w 8 n));
      fib = λ w m. sym (ap (λ (x : Rec). x w) (upd_other v (spot π v f k) _ f (λ z. spot≢fib π v ok f cf k p (λ y. omega arith) (sym z))));
      off = omega (arith, key_back π v f cf wf k p);
      mine = λ _. inr (
        (λ _. file_back π v f cf wf k p),
        λ n. headed_rel π (spot π v f k) (with_data dat (v (spot π v f k)))
            (λ z. omega (arith, number_fib k (omega (arith, present_few π v f cf wf k p)) (sym (member π v f cf wf k p).num ∙ z))),
      );
    }

  module _ (i : ℕ) (dat : Rec) (here : present π v f (292 + i) ≡ true) where
    pub replace_good : Good π v (replace_plan π v f i dat) f
    unfolding replace_plan over
    replace_good = one_good (spot π v f (292 + i)) (with_data dat (v (spot π v f (292 + i)))) (replace_one (292 + i) (omega arith) here dat)

    pub replace_sound : π.s < π.e → sound π (after (stores (replace_plan π v f i dat)) v) ≡ true
    unfolding replace_plan over stores after
    replace_sound low = one_sound (spot π v f (292 + i)) (with_data dat (v (spot π v f (292 + i)))) (replace_one (292 + i) (omega arith) here dat) low

    pub replace_lawful : Placed π v → Words 256 dat → Each (Lawful π v) (stores (replace_plan π v f i dat))
    unfolding stores replace_plan over
    replace_lawful at k = (inner at (spot_in_inside π v ok f cf (292 + i) here) (data_fits k (at.fits _)), tt)
