-- Beside demand 3, each a law with a name, of images: a whole call keeps a partition sound; images stay images; a refused call leaves
-- the image alone; a call that is done has its effect; repair leaves what check accepts, and repairing again changes no byte; no cut
-- makes a malformed candidate; free blocks and what the files need are m - 1.
use Rattle.std.specs.Prelude.{◌≡◌, refl, ◌≢◌, List, [], Bool, true, false, ℕ, zero, suc, ◌+◌, ◌-◌, ◌*◌, ◌/◌, ◌<◌, leb, ltb, eqb, take, length, Option, Some, None, Result, Ok, Err}
use Rattle.std.proofs.Common.{sym, ap, ap₂, ◌∙◌, subst, true≢false, arith}
use Rattle.std.proofs.Math.Path.{fun_ext}
use Rattle.std.proofs.lemmas.Bool.{eqb-false}
use Rattle.base.specs.Tests.{pick, count}
use Rattle.image.specs.View.{View, Store, after, pair}
use Rattle.image.specs.Image.{view, view_settles}
use Rattle.image.specs.Stores.{stored}
use Rattle.volume.specs.declared.Unfit.TheVariants.{Length, Name}
use Rattle.volume.specs.Files.{partition_of, unowned, block_at, candidate, len, is_file, sound}
use Rattle.volume.specs.declared.Partition.{Partition}
use Rattle.volume.proofs.Frame.{Clean, of_clean, clean_of}
use Rattle.volume.specs.Plans.{Plan, repair_stores, repair_plan}
use Rattle.volume.specs.Writes.{needs}
use Rattle.frame.specs.Sound.{sound_clean, spare_block}
use Rattle.std.proofs.Math.Seq.{take-length}
use Rattle.base.specs.declared.Refusal.{Refusal}
use Rattle.base.specs.declared.Refusal.TheVariants.{BadBuffer, Unsound, NothingFree, Full, NoCandidate, BadBlock, Malformed, BadName}
use Rattle.volume.specs.Words.{number_free_at}
use Rattle.volume.specs.Keys.{reach}
use Rattle.volume.specs.Answers.{end_of, partition, lowest_malformed, checked, check_in, check_clean, tallied, in_partition}
use Rattle.volume.specs.Calls.{Call, create, write, describe, destroy, repair, Planned, refuse, finish, planned, lending, lent_block, lent_text, through, unmarred, create_in, append_in, write_in, describe_in, destroy_in, repair_in, room}
use Rattle.volume.specs.Outcome.{Lent}
use Rattle.frame.proofs.Restart as restart
use Rattle.frame.proofs.Mended.{sound_is}
use Rattle.crash.proofs.Settled.{Settled, refused, done}
use Rattle.crash.proofs.Held.{Held, placed, end_is}
use Rattle.crash.proofs.Accepting.{Sound, sound_accepted, accepted_sound, settled, block}
use Rattle.crash.specs.Effect.{Effect}
use Rattle.frame.specs.Needed.{needed, owned_needed}
use Rattle.crash.specs.Needed.{free_unowned}
use Rattle.crash.specs.Needed as counts
use Rattle.crash.specs.Statement.{Repairs, Image, Proper, is_done, Accepted, stopped, whole, here}
use Rattle.crash.proofs.Theorem.{whole_kept, survivor_held, whole_view, stopped_held, cut_clean, mended_held, mended_view, mended_length}
use Rattle.volume.proofs.Readings.{whole_records}

-- ---- a whole changing call, done or refused, keeps a partition sound

pub whole_accepted : (d s : ℕ) (l : List ℕ) → Image l → Accepted d s l → (c : Call) → Proper c → Accepted d s (whole d s l c)
whole_accepted d s l b a c p = let y = whole_kept (accepted_sound d s l b a) c p in sound_accepted y.held y.is

-- ---- an image stays an image of bytes, through whole calls, and through a stopped one and its repairs: demand 3 can be used again there

pub whole_image : (d s : ℕ) (l : List ℕ) → Image l → Accepted d s l → (c : Call) → Proper c → Image (whole d s l c)
whole_image d s l b a c p = (whole_kept (accepted_sound d s l b a) c p).held.bytes

pub survivor_image : (d s : ℕ) (l : List ℕ) → Image l → Accepted d s l → (c : Call) → Proper c → (k : ℕ) → (l' : List ℕ) → Repairs d s (stopped d s l c k) l' → Image (whole d s l' repair)
survivor_image d s l b a c p k l' r = let y = accepted_sound d s l b a in (survivor_held y.held y.is c p k l' r).bytes

-- ---- a call that is refused leaves the image alone: any image, any arguments, any limit

-- what a call comes to is a refusal, or a plan
data Comes : Planned → Type 0 where
  refuses : (y : Refusal) → Comes (refuse y)
  does : (a : ℕ) (P : Plan) → Comes (finish a P)

either : (t : Bool) {x y : Planned} → Comes x → Comes y → Comes (pick t x y)
either true h k = h
either false h k = k

unmarred_comes : (m : Option ℕ) (x : Planned) → Comes x → Comes (unmarred m x)
unmarred_comes (Some f) x h = refuses (Malformed f)
unmarred_comes None x h = h

part_comes : (x : Result ℕ Refusal) (k : ℕ → Planned) → ((e : ℕ) → Comes (k e)) → Comes (in_partition refuse x k)
part_comes (Ok e) k h = h e
part_comes (Err y) k h = refuses y

lending_comes : (x : Lent) (k : Planned) → Comes k → Comes (lending x k)
lending_comes (Ok u) k h = h
lending_comes (Err Length) k h = refuses BadBuffer
lending_comes (Err Name) k h = refuses BadName

through_comes : (d : ℕ) (l : List ℕ) (s : ℕ) (lent : Lent) (k : Partition → Planned) → ((π : Partition) → Comes (k π)) → Comes (through d l s lent k)
unfolding through
through_comes d l s lent k h = part_comes (partition d l s) _ (λ e. lending_comes lent _
    (unmarred_comes (lowest_malformed (partition_of d s e) (view l)) _ (either (sound (partition_of d s e) (view l)) (h (partition_of d s e)) (refuses Unsound))))

comes : (d s : ℕ) (l : List ℕ) (c : Call) → Comes (planned d l s c)
unfolding planned create_in append_in write_in describe_in destroy_in repair_in
comes d s l (create kind) = through_comes d l s (Ok tt) _ (λ π. either (leb (room π (view l)) 1) (refuses Full) (does _ _))
comes d s l (write f r block) = through_comes d l s (lent_block block) _ (λ π. either (candidate π (view l) f)
    (either (ltb r reach) (either (ltb r (len (view l) f)) (does _ _) (either (eqb r (len (view l) f)) (either (leb (room π (view l)) (needs π (view l) f r)) (refuses Full) (does _ _)) (refuses BadBlock))) (refuses BadBlock))
    (refuses NoCandidate))
comes d s l (describe f text) = through_comes d l s (lent_text text) _ (λ π. either (candidate π (view l) f) (does _ _) (refuses NoCandidate))
comes d s l (destroy f) = through_comes d l s (Ok tt) _ (λ π. either (candidate π (view l) f) (does _ _) (refuses NoCandidate))
comes d s l repair = part_comes (partition d l s) _ (λ e. unmarred_comes (lowest_malformed (partition_of d s e) (view l)) _
    (either (eqb (length (unowned (partition_of d s e) (view l))) 0) (refuses NothingFree) (does _ _)))

pub refused_alone : (d s : ℕ) (l : List ℕ) (c : Call) → is_done (planned d l s c).outcome ≡ false → (k : ℕ) → stopped d s l c k ≡ l
unfolding stored
refused_alone d s l c h k = go (planned d l s c) (comes d s l c) h
  where
    empty : (k : ℕ) → stored (take k []) l ≡ l
    empty zero = refl
    empty (suc k) = refl

    go : (x : Planned) → Comes x → is_done x.outcome ≡ false → stored (take k x.list) l ≡ l
    go _ (refuses y) q = empty k
    go _ (does a P) q = absurd (true≢false q)

-- ---- a call that is done on a sound partition has its effect on the file that it names

pub effect : (d s : ℕ) (l : List ℕ) → Image l → Accepted d s l → (c : Call) → Proper c → is_done (planned d l s c).outcome ≡ true → Effect (here d s l) c (view l) (view (whole d s l c))
effect d s l b a c p q =
    subst (λ (e : ℕ). Effect (partition_of d s e) c (view l) (view (whole d s l c))) (sym (end_is h))
    (subst (Effect π c (view l)) (sym (whole_view h y.is c p)) (go (planned d l s c) (settled h y.is c p) q))
  where
    y : Sound d s l
    y = accepted_sound d s l b a

    π : Partition
    π = partition_of d s y.end

    h : Held (partition_of d s y.end) l
    h = y.held

    go : (x : Planned) → Settled π (view l) (block h c) (Effect π c (view l)) x → is_done x.outcome ≡ true → Effect π c (view l) (after x.list (view l))
    go _ (refused z) q = absurd (true≢false (sym q))
    go _ (done a P o) q = o.effect

-- ---- no cut from a sound partition makes a malformed candidate

pub cut_unmarred : (d s : ℕ) (l : List ℕ) → Image l → Accepted d s l → (c : Call) → Proper c → (k : ℕ) → lowest_malformed (here d s (stopped d s l c k)) (view (stopped d s l c k)) ≡ None
cut_unmarred d s l b a c p k =
    let y = accepted_sound d s l b a in
    subst (λ (e : ℕ). lowest_malformed (partition_of d s e) (view (stopped d s l c k)) ≡ None) (sym (end_is (stopped_held y.held y.is c p k)))
    (of_clean _ _ (cut_clean y.held y.is c p k))

-- ---- repair

-- a repair that is not refused is of a good partition without a malformed candidate and with an unowned block
record Mendable (d s : ℕ) (l : List ℕ) : Type 0 where
  end : ℕ
  held : Held (partition_of d s end) l
  clean : Clean (partition_of d s end) (view l)
  spare : unowned (partition_of d s end) (view l) ≢ []

mendable : (d s : ℕ) (l : List ℕ) → Image l → is_done (planned d l s repair).outcome ≡ true → Mendable d s l
unfolding planned repair_in
mendable d s l b h = on (partition d l s) refl h
  where
    last : (e : ℕ) (t : Bool) → eqb (length (unowned (partition_of d s e) (view l))) 0 ≡ t → is_done (pick t (refuse NothingFree) (finish 0 (repair_plan (partition_of d s e) (view l)))).outcome ≡ true → unowned (partition_of d s e) (view l) ≢ []
    last e true q k z = true≢false (sym k)
    last e false q k z = eqb-false (length (unowned (partition_of d s e) (view l))) 0 q (ap length z)

    formed : (e : ℕ) → partition d l s ≡ Ok e → (m : Option ℕ) → lowest_malformed (partition_of d s e) (view l) ≡ m → is_done (unmarred m (repair_in (partition_of d s e) (view l))).outcome ≡ true → Mendable d s l
    formed e g (Some f) q k = absurd (true≢false (sym k))
    formed e g None q k = record { end = e; held = record { good = g; bytes = b }; clean = clean_of (partition_of d s e) (view l) q; spare = last e (eqb (length (unowned (partition_of d s e) (view l))) 0) refl k }

    on : (x : Result ℕ Refusal) → partition d l s ≡ x → is_done (in_partition refuse x (λ e. unmarred (lowest_malformed (partition_of d s e) (view l)) (repair_in (partition_of d s e) (view l)))).outcome ≡ true → Mendable d s l
    on (Ok e) g k = formed e g (lowest_malformed (partition_of d s e) (view l)) refl k
    on (Err y) g k = absurd (true≢false (sym k))

-- repair of any image, if it is not refused, leaves what check accepts
pub repair_accepted : (d s : ℕ) (l : List ℕ) → Image l → is_done (planned d l s repair).outcome ≡ true → Accepted d s (whole d s l repair)
repair_accepted d s l b h =
    let y = mendable d s l b h in
    sound_accepted (mended_held y.held y.clean y.spare)
    (ap (sound (partition_of d s y.end)) (mended_view y.held y.clean y.spare) ∙ sound_is (partition_of d s y.end) (view l) y.clean y.spare (placed y.held).low (placed y.held).pos)

records : {π : Partition} {l : List ℕ} → Held π l → length l ≡ 528 * (length l / 528)
records {π} {l} h = whole_records π.drive l π.s π.e h.good

-- repairing a repaired image again changes no byte
pub repair_again : (d s : ℕ) (l : List ℕ) → Image l → is_done (planned d l s repair).outcome ≡ true → whole d s (whole d s l repair) repair ≡ whole d s l repair
repair_again d s l b h = view_settles (whole d s m repair) m (length m / 528) (same_length ∙ records hm) (records hm) hm₂.bytes hm.bytes (λ x w _ _. ap (λ (u : View). u x w) same_view)
  where
    y : Mendable d s l
    y = mendable d s l b h

    π : Partition
    π = partition_of d s y.end

    m : List ℕ
    m = whole d s l repair

    hm : Held π m
    hm = mended_held y.held y.clean y.spare

    vm : view m ≡ after (repair_stores π (view l)) (view l)
    vm = mended_view y.held y.clean y.spare

    ok : sound π (view m) ≡ true
    ok = ap (sound π) vm ∙ sound_is π (view l) y.clean y.spare (placed y.held).low (placed y.held).pos

    cm : Clean π (view m)
    cm = sound_clean π (view m) ok

    nm : unowned π (view m) ≢ []
    nm = spare_block π (view m) ok

    hm₂ : Held π (whole d s m repair)
    hm₂ = mended_held hm cm nm

    reached : restart.Part π (view l) y.clean (after (repair_stores π (view l)) (view l))
    reached = subst (λ (xs : List Store). restart.Part π (view l) y.clean (after xs (view l))) (take-length (repair_stores π (view l))) (restart.again π (view l) y.clean (view l) (restart.start π (view l) y.clean) (length (repair_stores π (view l))))

    same_view : view (whole d s m repair) ≡ view m
    same_view =
        mended_view hm cm nm ∙ ap (λ (u : View). after (repair_stores π u) u) vm
        ∙ fun_ext (restart.finish π (view l) y.clean (after (repair_stores π (view l)) (view l)) reached) ∙ sym vm

    same_length : length (whole d s m repair) ≡ length m
    same_length = mended_length hm cm nm

-- ---- free blocks and what the files need are m - 1

-- check's three numbers: files, what they need, and NumberFree
pub record Counted (d s : ℕ) (l : List ℕ) : Type 0 where
  pub files : ℕ
  pub answer : checked d l s ≡ Ok (Some (files, needed (here d s l) (view l), pair (view l) s number_free_at))
  pub total : needed (here d s l) (view l) + pair (view l) s number_free_at ≡ end_of d (view l) s - s

pub free_and_needed : (d s : ℕ) (l : List ℕ) → Image l → Accepted d s l → Counted d s l
unfolding checked check_in tallied
free_and_needed d s l b a = record {
  files = count (y.end - s) (λ i. is_file π (view l) (block_at π i));
  answer = ap (λ (x : Result ℕ Refusal). in_partition Err x (λ e. check_in (partition_of d s e) (view l))) y.held.good
      ∙ ap (check_clean π (view l)) (of_clean π (view l) (sound_clean π (view l) y.is)) ∙ ap (λ (t : Bool). pick t (tallied π (view l)) (Err Unsound)) y.is
      ∙ ap₂ (λ (x z : ℕ). Ok (Some (count (y.end - s) (λ i. is_file π (view l) (block_at π i)), x, z))) (owned_needed π (view l) ∙ sym same) (sym (free_unowned π (view l) low y.is));
  total = ap₂ (λ (x z : ℕ). x + z) same refl ∙ (let q = counts.free_and_needed π (view l) low y.is in let z : needed π (view l) + pair (view l) s number_free_at ≡ y.end - s = omega arith in z) ∙ ap (λ (e : ℕ). e - s) (sym (end_is y.held));
}
  where
    y : Sound d s l
    y = accepted_sound d s l b a

    π : Partition
    π = partition_of d s y.end

    low : s < y.end
    low = (placed y.held).low

    same : needed (here d s l) (view l) ≡ needed π (view l)
    same = ap (λ (e : ℕ). needed (partition_of d s e) (view l)) (end_is y.held)
