-- A whole call leaves a sound partition: the files of its deciding store, linked by then, and a list that is its free chain.
use Rattle.std.specs.Prelude.{◌≡◌, ◌≢◌, List, ◌∷◌, ◌++◌, false, ℕ, ◌<◌}
use Rattle.std.proofs.Common.{sym, ◌∙◌}
use Rattle.std.proofs.Math.Path.{ap}
use Rattle.std.proofs.Math.Bool.{true, true≢false}
use Rattle.image.specs.View.{View, Store, after, upd}
use Rattle.volume.specs.Files.{candidate, owned, sound}
use Rattle.volume.specs.declared.Partition.{Partition}
use Rattle.volume.proofs.Index.{member_owned}
use Rattle.volume.proofs.Frame.{Clean, Agree, formed, agree_clean, agree_owned}
use Rattle.frame.proofs.Turn.{Each, each_map, after_miss, after_append, turn_clean}
use Rattle.frame.proofs.Decides.{Decides}
use Rattle.frame.specs.Sound.{spare_block, sound_clean}
use Rattle.frame.proofs.FreeChain.{Links, links_kept, IsFree, sound_of}
use Rattle.crash.proofs.Cut.{whole_agrees}

module _ (π : Partition) (g : π.s < π.e) (p : 0 < π.s) (v : View) (ok : sound π v ≡ true) (before : List Store) (x : Store) (rest : List Store) (f : ℕ) (y : Decides π v before x rest f) where
  D : View
  D = upd (after before v) x.at x.rec

  W : View
  W = after (before ++ (x ∷ rest)) v

  clean₁ : Clean π (upd (after before v) x.at x.rec)
  clean₁ = turn_clean π v (sound_clean π v ok) (upd (after before v) x.at x.rec) f y.turn y.form

  ag : Agree π (upd (after before v) x.at x.rec) (after (before ++ (x ∷ rest)) v)
  ag = whole_agrees π g p v (sound_clean π v ok) (spare_block π v ok) before x rest f y

  pub W_owned : (b : ℕ) → owned π (upd (after before v) x.at x.rec) b ≡ owned π (after (before ++ (x ∷ rest)) v) b
  W_owned = agree_owned π _ _ clean₁ (formed π ag)

  W_is : after (before ++ (x ∷ rest)) v ≡ after rest (upd (after before v) x.at x.rec)
  unfolding after
  W_is = after_append before (x ∷ rest) v

  -- the rest is stored in blocks that are then unowned, or in the PIB; the files are linked by then; l is the free chain
  pub keeps_sound : Each (λ b _. owned π (upd (after before v) x.at x.rec) b ≡ false) rest
      → ((h : ℕ) → candidate π (upd (after before v) x.at x.rec) h ≡ true → Links π (upd (after before v) x.at x.rec) h)
      → (l : List ℕ) → IsFree π (after (before ++ (x ∷ rest)) v) l → sound π (after (before ++ (x ∷ rest)) v) ≡ true
  unfolding D W
  keeps_sound idle lk l fr = sound_of π W l g fr (agree_clean π D W clean₁ (formed π ag))
      (λ h k. let c₀ = ag.cands h ∙ k in links_kept π D W h (ag.kept h c₀).shape (λ i m. same _ (member_owned π D h c₀ (clean₁ h c₀) i m)) (lk h c₀))
    where
      same : (b : ℕ) → owned π D b ≡ true → W b ≡ D b
      same b o = ap (λ (u : View). u b) W_is ∙ after_miss rest D b (each_map (λ z _. owned π D z ≡ false) (λ z _. z ≢ b) (λ z r q w. true≢false (sym o ∙ ap (owned π D) (sym w) ∙ q)) rest idle)
