-- Each call that is done has its effect on the file that it names.
use Rattle.std.specs.Prelude.{◌≡◌, Bool, true, false, length}
use Rattle.std.proofs.Math.Path.{sym, ap, subst}
use Rattle.std.proofs.Common.{◌∙◌, arith}
use Prim.Native.Nat.{ℕ, suc, ◌+◌, ◌<◌}
use borrow.Author.Tests.{lt-ltb, le-ltb, le-leb}
use Rattle.base.specs.Tests.{pick, both}
use Rattle.base.specs.Laws.{both_of}
use Rattle.image.specs.View.{upd_same, upd_other, View, Rec, after, upd}
use Rattle.image.specs.Saves.{with_data, with_text}
use Rattle.volume.specs.Keys.{home}
use Rattle.volume.specs.Files.{candidate, len, present, name, well_formed, is_file, free, free_head, sound}
use Rattle.volume.specs.declared.Partition.{Partition}
use Rattle.volume.proofs.Index.{spot_home, present_home}
use Rattle.volume.proofs.Frame.{SameHead, Shape, Clean, kept_len, kept_spot, kept_well_formed}
use Rattle.volume.specs.Plans.{Plan, stores, free_at, fresh_fib, create_plan, describe_plan, destroy_plan, destroyed, repair_plan}
use Rattle.volume.specs.Writes.{over, replace_plan}
use Rattle.frame.specs.Soft.{cand_same}
use Rattle.frame.specs.Sound.{sound_clean, spare_block}
use Rattle.frame.proofs.Decides.{Good}
use Rattle.frame.proofs.Mended.{mended_agree}
use Rattle.crash.specs.SameFile.{SameFile, SameFiles, data_here}
use Rattle.crash.proofs.SameFile.{agree_same}
use Rattle.crash.proofs.Cut.{decided_same}
use Rattle.crash.specs.FreeBlocks.{first_in, spot_unique, spot≢fib}
use Rattle.crash.specs.Fresh.{fresh_nil, fresh_kind, fresh_cand, fresh_len, fresh_wf}
use Rattle.crash.proofs.Create.{create_good}
use Rattle.crash.proofs.OneBlock.{One, one_shape, describe_one, replace_one}
use Rattle.crash.proofs.Destroy.{no, destroy_good, D as destroyedView}
use Rattle.crash.specs.Effect.{Created, Written, Described}

module _ (π : Partition) (low : π.s < π.e) (pos : 0 < π.s) (v : View) (ok : sound π v ≡ true) where
  c : Clean π v
  c = sound_clean π v ok

  same_as : (p : Plan) (f : ℕ) → Good π v p f → SameFiles π (upd (after p.before v) p.deciding.at p.deciding.rec) (after (stores p) v)
  unfolding stores
  same_as p f y = decided_same π low pos v c (spare_block π v ok) p.before p.deciding p.rest f y

  -- ---- create
  pub created : (kind : ℕ) → 1 < length (free π v) → Created π v (after (stores (create_plan π v kind)) v) (free_head π v) kind
  unfolding create_plan free_at after is_file
  created kind room = record {
    file = sym same.is ∙ is;
    empty = sym (same.long is) ∙ fresh_len π v D₁ a kind (upd_same v a R₁);
    kind = sym (same.kind is) ∙ ap (λ (r : Rec). r 256) (upd_same v a R₁) ∙ fresh_kind π.drive v a kind;
    text = λ x l m. sym (same.text is x l m) ∙ ap (λ (r : Rec). r x) (upd_same v a R₁) ∙ fresh_nil π.drive v a kind x (omega arith) (omega arith);
  }
    where
      a : ℕ
      a = free_head π v

      R₁ : Rec
      R₁ = fresh_fib π.drive v (free_head π v) kind

      D₁ : View
      D₁ = upd v (free_head π v) R₁

      same : SameFile π D₁ (after (stores (create_plan π v kind)) v) (free_head π v)
      same = same_as (create_plan π v kind) a (create_good π v ok room kind) a

      is : is_file π D₁ (free_head π v) ≡ true
      is = both_of (fresh_cand π v D₁ a kind (upd_same v a R₁) (first_in π v ok)) (fresh_wf π v D₁ a kind (upd_same v a R₁))

  module _ (f : ℕ) (cf : candidate π v f ≡ true) where
    f_file : is_file π v f ≡ true
    unfolding is_file
    f_file = both_of cf (c f cf)

    pub here_data : (i : ℕ) → i < len v f → present π v f (292 + i) ≡ true
    here_data i l = data_here π v f f_file i l

    -- ---- one block's content
    module _ (b : ℕ) (r : Rec) (o : One π v f b r) where
      shape : Shape π v (upd v b r) f
      shape = one_shape π v ok f cf b r o

      one_file : is_file π (upd v b r) f ≡ true
      unfolding is_file
      one_file = both_of (sym (cand_same π v (upd v b r) f head) ∙ cf) (sym (kept_well_formed π v (upd v b r) f shape) ∙ c f cf)
        where
          head : SameHead (v f) (upd v b r f)
          head = subst (λ (x : ℕ). SameHead (v x) (upd v b r x)) (spot_home π v f) (shape.heads home (present_home π v f))

      one_name : (i : ℕ) → i < len v f → name π (upd v b r) f i ≡ name π v f i
      one_name i l = sym (kept_spot π v (upd v b r) f shape (292 + i) (here_data i l))

    pub described : (dat : Rec) → Described π v (after (stores (describe_plan v f dat)) v) f dat
    unfolding describe_plan stores after both with_text
    described dat = record {
      file = one_file f X o;
      long = sym (kept_len π v (upd v f X) f (shape f X o));
      bytes = λ i l x m. ap (λ (y : ℕ). upd v f X y x) (one_name f X o i l)
          ∙ ap (λ (y : Rec). y x) (upd_other v f X (name π v f i) (spot≢fib π v ok f cf (292 + i) (here_data i l) (λ z. omega arith)));
      kind = ap (λ (y : Rec). y 256) (upd_same v f X);
      text = λ x l m. ap (λ (y : Rec). y x) (upd_same v f X) ∙ simp (le-leb 8 x l, lt-ltb x 60 m);
    }
      where
        X : Rec
        X = with_text dat (v f)

        o : One π v f f (with_text dat (v f))
        o = describe_one π v ok f cf dat

    pub replaced : (r : ℕ) (dat : Rec) → r < len v f → Written π v (after (stores (replace_plan π v f r dat)) v) f r dat
    unfolding replace_plan over stores after with_data
    replaced r dat lr = record {
      file = one_file b X o;
      long = sym (kept_len π v (upd v b X) f (shape b X o)) ∙ sym (ap (λ (t : Bool). pick t (len v f) (suc r)) (lt-ltb r (len v f) lr));
      here = λ x l. ap (λ (y : ℕ). upd v b X y x) (one_name b X o r lr) ∙ ap (λ (y : Rec). y x) (upd_same v b X) ∙ simp (le-ltb x 8 l);
      rest = λ i l n x m. ap (λ (y : ℕ). upd v b X y x) (one_name b X o i l)
          ∙ ap (λ (y : Rec). y x) (upd_other v b X (name π v f i) (λ z. n (let q = spot_unique π v ok f cf (292 + i) (292 + r) (here_data i l) (here_data r lr) z in omega arith)));
      kind = sym (o.fib 256 (omega arith));
      text = λ x l m. ap (λ (y : Rec). y x) (upd_other v b X f (λ z. spot≢fib π v ok f cf (292 + r) (here_data r lr) (λ y. omega arith) (sym z)));
    }
      where
        b : ℕ
        b = name π v f r

        X : Rec
        X = with_data dat (v (name π v f r))

        o : One π v f (name π v f r) (with_data dat (v (name π v f r)))
        o = replace_one π v ok f cf (292 + r) (omega arith) (here_data r lr) dat

    -- ---- destroy
    pub removed : is_file π (after (stores (destroy_plan π v f)) v) f ≡ false
    unfolding destroy_plan destroyed after is_file both
    removed = sym (same_as (destroy_plan π v f) f (destroy_good π v ok f cf) f).is ∙ ap (λ (t : Bool). both t (well_formed π (destroyedView π v ok f cf) f)) (no π v ok f cf)

  -- ---- repair
  pub mended_same : SameFiles π v (after (stores (repair_plan π v)) v)
  mended_same = agree_same π v (after (stores (repair_plan π v)) v) c (mended_agree π v c)
