-- What makes a file the same in two views: views that agree, and a turn of another file; one view after another, and back.
use Rattle.std.specs.Prelude.{◌≡◌, refl, ◌≢◌, true, ℕ, ◌+◌, ◌≤◌, ◌<◌}
use Rattle.std.proofs.Math.Path.{sym}
use Rattle.std.proofs.Common.{ap, ◌∙◌, arith}
use Rattle.base.specs.Laws.{both_left, both_of, iff_eq}
use Rattle.image.specs.View.{View}
use Rattle.volume.specs.Files.{len, name, is_file}
use Rattle.volume.specs.declared.Partition.{Partition}
use Rattle.volume.proofs.Frame.{Kept, kept_len, kept_present, kept_spot, Clean, Agree, formed, agree_file}
use Rattle.frame.proofs.Turn.{Turn}
use Rattle.crash.specs.SameFile.{SameFile, SameFiles, data_here}

pub file_trans : {π : Partition} {v v' v'' : View} {f : ℕ} → SameFile π v v' f → SameFile π v' v'' f → SameFile π v v'' f
file_trans a b = record {
  is = a.is ∙ b.is;
  long = λ i. a.long i ∙ b.long (sym a.is ∙ i);
  keys = λ i k. a.keys i k ∙ b.keys (sym a.is ∙ i) k;
  blocks = λ i k p. a.blocks i k p ∙ b.blocks (sym a.is ∙ i) k (sym (a.keys i k) ∙ p);
  bytes = λ i k d p w h. a.bytes i k d p w h ∙ b.bytes (sym a.is ∙ i) k d (sym (a.keys i k) ∙ p) w h;
  kind = λ i. a.kind i ∙ b.kind (sym a.is ∙ i);
  text = λ i w h l. a.text i w h l ∙ b.text (sym a.is ∙ i) w h l;
}

pub file_sym : {π : Partition} {v v' : View} {f : ℕ} → SameFile π v v' f → SameFile π v' v f
file_sym a = record {
  is = sym a.is;
  long = λ i. sym (a.long (a.is ∙ i));
  keys = λ i k. sym (a.keys (a.is ∙ i) k);
  blocks = λ i k p. sym (a.blocks (a.is ∙ i) k (a.keys (a.is ∙ i) k ∙ p));
  bytes = λ i k d p w h. sym (a.bytes (a.is ∙ i) k d (a.keys (a.is ∙ i) k ∙ p) w h);
  kind = λ i. sym (a.kind (a.is ∙ i));
  text = λ i w h l. sym (a.text (a.is ∙ i) w h l);
}

pub file_refl : (π : Partition) (v : View) (f : ℕ) → SameFile π v v f
file_refl π v f = record { is = refl; long = λ _. refl; keys = λ _ _. refl; blocks = λ _ _ _. refl; bytes = λ _ _ _ _ _ _. refl; kind = λ _. refl; text = λ _ _ _ _. refl }

module _ (π : Partition) (v v' : View) where
  pub file_same : (f : ℕ) → (is_file π v f ≡ is_file π v' f) → (is_file π v f ≡ true → Kept π v v' f) → SameFile π v v' f
  file_same f q k = record {
    is = q;
    long = λ i. kept_len π v v' f (k i).shape;
    keys = λ i. kept_present π v v' f (k i).shape;
    blocks = λ i. kept_spot π v v' f (k i).shape;
    bytes = λ i j d p w h. (k i).bytes j d p w h ∙ ap (λ (x : ℕ). v' x w) (kept_spot π v v' f (k i).shape j p);
    kind = λ i. (k i).kind;
    text = λ i. (k i).text;
  }

  pub agree_same : Clean π v → Agree π v v' → SameFiles π v v'
  unfolding is_file
  agree_same c a f = file_same f (agree_file π v v' c (formed π a) f) (λ i. a.kept f (both_left _ _ i))

  -- one file turned: the others are the same
  pub turn_same : Clean π v → Clean π v' → (f : ℕ) → Turn π v v' f → (g : ℕ) → g ≢ f → SameFile π v v' g
  unfolding is_file
  turn_same c c' f t g n = file_same g
      (iff_eq _ _ (λ i. let k = sym (t.cands g n) ∙ both_left _ _ i in both_of k (c' g k)) (λ i. let k = t.cands g n ∙ both_left _ _ i in both_of k (c g k)))
      (λ i. t.others g n (both_left _ _ i))

  -- by its blocks' numbers: the bytes of block r
  module _ (f : ℕ) (q : SameFile π v v' f) (i : is_file π v f ≡ true) (r : ℕ) (l : r < len v f) where
    pub same_bytes : (w : ℕ) → 8 ≤ w → v (name π v f r) w ≡ v' (name π v' f r) w
    same_bytes = q.bytes i (292 + r) (omega arith) (data_here π v f i r l)
