-- After all stores of a write on a sound partition the partition is sound: the file is linked, the others are as they were, and the free chain is without the blocks taken.
use Rattle.std.specs.Prelude.{◌≡◌, refl, ◌⊎◌, ◌≢◌, List, Bool, true, false, ℕ, ◌<◌, eqb, length}
use Rattle.std.proofs.Common.{sym, ap, ◌∙◌, subst, inl, inr, true≢false, arith, eqb-true}
use Rattle.std.proofs.lemmas.Bool.{eqb-false}
use Rattle.drive.specs.Address.{address}
use Rattle.image.specs.View.{View, Rec, pair}
use Rattle.volume.specs.Words.{last_address_at, low_address_at}
use Rattle.volume.specs.Keys.{home, up, slot}
use Rattle.volume.specs.Files.{candidate, well_formed, spot, present, entry, file_of, key, owned, free, sound}
use Rattle.volume.specs.declared.Partition.{Partition}
use Rattle.volume.proofs.Index.{spot_home, present_home, own, member_owned, file_back, owned_not_pib}
use Rattle.volume.proofs.Frame.{SameHead, Clean}
use Rattle.volume.specs.Plans.{free_at}
use Rattle.volume.specs.Writes.{over, needs, is_new, fresh, present', spot', least'}
use Rattle.frame.specs.Soft.{cand_same}
use Rattle.frame.proofs.Turn.{Turn, turn_clean, turn_keeps, turn_back}
use Rattle.frame.specs.Sound.{sound_clean, sound_linked}
use Rattle.frame.proofs.FreeChain.{Links, links_of, sound_of, links_others}
use Rattle.frame.proofs.Drawn.{Taken, Drawn, left, drawn_free}
use Rattle.growth.specs.Ready.{Tails, Ready, sound_tails}
use Rattle.growth.specs.Path.{placed, new_at, fresh_at}
use Rattle.growth.specs.Room.{fresh_free}
use Rattle.growth.specs.Afterwards.{present_new, present_old, present_split, spot_new, spot_is, apart_free}
use Rattle.growth.specs.Kept.{entry_kept}
use Rattle.growth.specs.Written.{Written, written_present, written_spot, written_formed}
use Rattle.growth.specs.Before.{Order}
use Rattle.growth.specs.Done.{Done, done_written}
use Rattle.growth.specs.Linked.{file_links}
use Rattle.growth.specs.Decided.{whole, done_whole, turn_whole, other_block, pib_rec_is, first_rec}
use Rattle.volume.proofs.Readings.{off_pib}

module _ (π : Partition) (v : View) (f r : ℕ) (dat : Rec) (ok : Ready π v f r) (so : sound π v ≡ true) (room : needs π v f r < length (free π v)) (fr : List ℕ) (od : Order π v f r dat ok fr) where
  abbrev W : View
  W = whole π v f r dat ok fr od

  c : Clean π v
  c = sound_clean π v so

  tails : Tails π v f
  tails = sound_tails π v f so ok.cand

  d : Done π v f r dat ok W
  d = done_whole π v f r dat ok fr od

  w : Written π v f r W
  w = done_written π v f r dat ok W d

  turn : Turn π v W f
  turn = turn_whole π v f r dat ok fr od c

  wf : well_formed π W f ≡ true
  wf = written_formed π v f r ok tails W w

  there : (k : ℕ) → present π W f k ≡ present' π v f r k
  there = written_present π v f r ok tails W w

  where_is_at : (k : ℕ) → present' π v f r k ≡ true → spot π W f k ≡ spot' π v f r k
  where_is_at = written_spot π v f r ok tails W w

  clean : Clean π W
  clean = turn_clean π v c W f turn (λ _. wf)

  -- the FIB keeps its header
  pub still_candidate : candidate π W f ≡ true
  still_candidate = sym (cand_same π v W f (subst (λ (b : ℕ). SameHead (v b) (W b)) (spot_home π v f) (w.old _ (present_home π v f)))) ∙ ok.cand

  -- ---- what is owned afterwards

  owned_old : (b : ℕ) → owned π v b ≡ true → owned π W b ≡ true
  owned_old b h = go (eqb (file_of π v b) f) refl
    where
      go : (t : Bool) → eqb (file_of π v b) f ≡ t → owned π W b ≡ true
      go true q =
          let o = own π v b h in
          let z = eqb-true (file_of π v b) f q in
          let p = subst (λ (x : ℕ). present π v x (key v b) ≡ true) z o.here in
          let p' = present_old π v f r (key v b) p in
          subst (λ (x : ℕ). owned π W x ≡ true) (where_is_at _ p' ∙ spot_is π v f r ok.file _ p ∙ ap (λ (x : ℕ). spot π v x (key v b)) (sym z) ∙ o.back)
          (member_owned π W f still_candidate wf (key v b) (there _ ∙ p'))
      go false q = turn_keeps π v c W f turn b h (eqb-false (file_of π v b) f q)

  owned_new : (k : ℕ) → is_new π v f r k ≡ true → owned π W (fresh π v f r k) ≡ true
  owned_new k h =
      let p = present_new π v f r k h in
      subst (λ (x : ℕ). owned π W x ≡ true) (where_is_at k p ∙ spot_new π v f r k h) (member_owned π W f still_candidate wf k (there k ∙ p))

  owned_back : (b : ℕ) → owned π W b ≡ true → (owned π v b ≡ true) ⊎ Taken π v so (needs π v f r) room b
  owned_back b h = go (eqb (file_of π W b) f) refl
    where
      go : (t : Bool) → eqb (file_of π W b) f ≡ t → (owned π v b ≡ true) ⊎ Taken π v so (needs π v f r) room b
      go true q = on (present_split π v f r (key W b) p')
        where
          z : file_of π W b ≡ f
          z = eqb-true (file_of π W b) f q

          p' : present' π v f r (key W b) ≡ true
          p' = sym (there _) ∙ subst (λ (x : ℕ). present π W x (key W b) ≡ true) z (own π W b h).here

          is : spot' π v f r (key W b) ≡ b
          is = sym (where_is_at _ p') ∙ ap (λ (x : ℕ). spot π W x (key W b)) (sym z) ∙ (own π W b h).back

          on : (is_new π v f r (key W b) ≡ true) ⊎ (present π v f (key W b) ≡ true) → (owned π v b ≡ true) ⊎ Taken π v so (needs π v f r) room b
          on (inl n) =
              let x = placed π v f r ok.file (key W b) n in
              inr (record { i = x.i; less = x.less; is = sym is ∙ spot_new π v f r _ n ∙ ap (fresh π v f r) x.is ∙ fresh_at π v f r ok.file x.i x.less })
          on (inr n) = inl (subst (λ (x : ℕ). owned π v x ≡ true) (sym (spot_is π v f r ok.file _ n) ∙ is) (member_owned π v f ok.cand ok.file.formed _ n))
      go false q = inl (turn_back π v c W f turn b h (eqb-false (file_of π W b) f q))

  -- ---- the free chain afterwards

  drawn : Drawn π v so (needs π v f r) room W
  drawn = record {
    first = first_rec π v f r dat ok fr od;
    pib = pib_rec_is π v f r dat ok fr od;
    kept = λ b i o n. other_block π v f r dat ok fr od b (apart_free π v f r ok b o (λ j l. n j (omega arith))) (n (needs π v f r) (omega arith)) (λ z. off_pib π b i (sym z));
    old = owned_old;
    new = λ i l. ap (owned π W) (sym (fresh_at π v f r ok.file i l)) ∙ owned_new (over r i) (new_at π v f r ok.file i l);
    back = owned_back;
  }

  -- ---- every file

  links : (h : ℕ) → candidate π W h ≡ true → Links π W h
  links h ch = go (eqb h f) refl
    where
      go : (t : Bool) → eqb h f ≡ t → Links π W h
      go true q = subst (Links π W) (sym (eqb-true h f q)) (file_links π v f r dat ok tails W d (links_of π v f (sound_linked π v so f ok.cand)))
      go false q = links_others π v W f turn so same h (eqb-false h f q) ch
        where
          same : (b : ℕ) → owned π v b ≡ true → file_of π v b ≢ f → W b ≡ v b
          same b mine ne = other_block π v f r dat ok fr od b apart (λ z. free_one (free_at π v (needs π v f r)) z (ok.room (needs π v f r) (omega arith)).1) (λ z. owned_not_pib π v b mine (sym z))
            where
              free_one : (x : ℕ) → x ≡ b → owned π v x ≡ false → ⊥
              free_one x z y = true≢false (sym mine ∙ ap (owned π v) (sym z) ∙ y)

              apart : (j : ℕ) → present' π v f r j ≡ true → spot' π v f r j ≢ b
              apart j a z = on (present_split π v f r j a)
                where
                  on : (is_new π v f r j ≡ true) ⊎ (present π v f j ≡ true) → ⊥
                  on (inl x) = free_one (fresh π v f r j) (sym (spot_new π v f r j x) ∙ z) (fresh_free π v f r ok j x)
                  on (inr x) = ne (ap (file_of π v) (sym z ∙ spot_is π v f r ok.file j x) ∙ file_back π v f ok.cand ok.file.formed j x)

  pub sound_whole : π.s < π.e → sound π (whole π v f r dat ok fr od) ≡ true
  sound_whole l = sound_of π W (left π v so (needs π v f r) room) l (drawn_free π v so (needs π v f r) room W drawn) clean links

  -- the addresses in the file's old blocks: each entry is the one that stood there where that named its block already, and so are last
  -- address and last negative address
  pub entries_kept : (k : ℕ) → k ≢ home → 0 < k → k < 37220 → present π v f (up k) ≡ true → present' π v f r k ≡ true
      → pair (whole π v f r dat ok fr od) (spot π v f (up k)) (slot k) ≡ address π.drive (entry π v f k) (spot' π v f r k)
  entries_kept = entry_kept π v f r ok tails W w

  pub last_kept : pair (whole π v f r dat ok fr od) f last_address_at ≡ address π.drive (pair v f last_address_at) (free_at π v 0)
  last_kept = w.last

  pub low_kept : pair (whole π v f r dat ok fr od) f low_address_at ≡ address π.drive (pair v f low_address_at) (spot' π v f r (least' π v f r))
  low_kept = w.low_at
