-- A view whose blocks of the file are as a write leaves them or as they were, with the new ones, the one that gains an entry and the FIB as written: the file is as after.
use Rattle.std.specs.Prelude.{◌≡◌, refl, ◌⊎◌, ◌≢◌, Bool, true, false, ℕ, suc, ◌+◌, ◌-◌, ◌%◌, ◌≤◌, ◌<◌}
use Rattle.std.proofs.Common.{sym, ap₂, ◌∙◌, subst, inl, inr, arith}
use Rattle.std.proofs.Math.Path.{ap}
use Rattle.base.specs.Tests.{pick}
use Rattle.drive.specs.Address.{lda}
use Rattle.image.specs.View.{View, Rec, pair}
use Rattle.volume.specs.Keys.{home, up, slot}
use Rattle.volume.specs.Files.{len, spot, present, entry, above, below}
use Rattle.volume.specs.declared.Partition.{Partition}
use Rattle.volume.proofs.Index.{entry_at}
use Rattle.volume.proofs.Frame.{SameHead, head_of_same, head_trans}
use Rattle.volume.specs.Writes.{over, needs, is_new, fresh, present', spot', above', below', grown}
use Rattle.frame.specs.Reading.{two}
use Rattle.growth.specs.Ready.{Ready}
use Rattle.growth.specs.Path.{placed, new_at, over_up, needs_some}
use Rattle.growth.specs.Afterwards.{present_old, present_not, spot_new, spot_old, new_old, spot_is}
use Rattle.growth.specs.Written.{Written}
use Rattle.growth.specs.Grown.{grown_entry, grown_data, base_entry, new_serial, new_number, new_data, fib_length, fib_last, fib_size, fib_low, fib_address, fib_kept}
use Rattle.growth.specs.Before.{gains_is, head_old}

module _ (π : Partition) (v : View) (f r : ℕ) (dat : Rec) (ok : Ready π v f r) where
  -- the block of key k is as it was, an old one that keeps its neighbours
  pub record Left (W : View) (k : ℕ) : Type 0 where
    pub same : W (spot' π v f r k) ≡ v (spot' π v f r k)
    pub old : present π v f k ≡ true
    pub over_it : above' π v f r k ≡ above π v f k
    pub under_it : below' π v f r k ≡ below π v f k

  -- every block of the file is as written or left; the new ones, the one that gains an entry and the FIB are as written
  pub record Done (W : View) : Type 0 where
    pub each : (k : ℕ) → present' π v f r k ≡ true → (W (spot' π v f r k) ≡ grown π v f r dat k) ⊎ Left W k
    pub news : (k : ℕ) → is_new π v f r k ≡ true → W (spot' π v f r k) ≡ grown π v f r dat k
    pub gain : W (spot' π v f r (over r (needs π v f r))) ≡ grown π v f r dat (over r (needs π v f r))
    pub fib : W f ≡ grown π v f r dat home

  module _ (W : View) (d : Done W) where
    -- old blocks keep their headers
    old : (k : ℕ) → present π v f k ≡ true → SameHead (v (spot π v f k)) (W (spot π v f k))
    old k p = subst (λ (b : ℕ). SameHead (v (spot π v f k)) (W b)) (spot_is π v f r ok.file k p) (go (d.each k (present_old π v f r k p)))
      where
        go : (W (spot' π v f r k) ≡ grown π v f r dat k) ⊎ Left W k → SameHead (v (spot π v f k)) (W (spot' π v f r k))
        go (inl q) = head_trans (head_old π v f r dat ok k p) (head_of_same (sym q))
        go (inr q) = head_of_same (ap v (sym (spot_is π v f r ok.file k p)) ∙ sym q.same)

    fresh_rec : (k : ℕ) → is_new π v f r k ≡ true → W (fresh π v f r k) ≡ grown π v f r dat k
    fresh_rec k h = ap W (sym (spot_new π v f r k h)) ∙ d.news k h

    -- the entries in what is present
    entries : (k : ℕ) → k ≢ home → 0 < k → k < 37220 → present' π v f r (up k) ≡ true
        → pair W (spot' π v f r (up k)) (slot k) ≡ pick (is_new π v f r k) (lda π.drive (fresh π v f r k)) (pick (is_new π v f r (up k)) 0 (entry π v f k))
    entries k n a b p = go (is_new π v f r (up k)) refl (is_new π v f r k) refl
      where
        stored : W (spot' π v f r (up k)) ≡ grown π v f r dat (up k)
            → pair W (spot' π v f r (up k)) (slot k) ≡ pick (is_new π v f r k) (lda π.drive (fresh π v f r k)) (pick (is_new π v f r (up k)) 0 (entry π v f k))
        stored q =
            ap (λ (x : Rec). two x (slot k)) q ∙ grown_entry π v f r dat ok.file k n a b
            ∙ ap (pick (is_new π v f r k) (lda π.drive (fresh π v f r k))) (base_entry π v f r dat k)

        gaining : is_new π v f r k ≡ true → is_new π v f r (up k) ≡ false → up k ≡ over r (needs π v f r)
        gaining h q =
            let x = placed π v f r ok.file k h in
            let e = ap up x.is ∙ over_up r x.i in
            let old = sym (present_not π v f r (up k) q) ∙ p in
            e ∙ ap (over r) (gains_is π v f r dat ok x.i x.less (ap (present π v f) (sym e) ∙ old))

        go : (t : Bool) → is_new π v f r (up k) ≡ t → (u : Bool) → is_new π v f r k ≡ u
            → pair W (spot' π v f r (up k)) (slot k) ≡ pick (is_new π v f r k) (lda π.drive (fresh π v f r k)) (pick (is_new π v f r (up k)) 0 (entry π v f k))
        go true q u h = stored (d.news (up k) q)
        go false q true h = stored (subst (λ (j : ℕ). W (spot' π v f r j) ≡ grown π v f r dat j) (sym (gaining h q)) d.gain)
        go false q false h = on (d.each (up k) p)
          where
            on : (W (spot' π v f r (up k)) ≡ grown π v f r dat (up k)) ⊎ Left W (up k)
                → pair W (spot' π v f r (up k)) (slot k) ≡ pick (is_new π v f r k) (lda π.drive (fresh π v f r k)) (pick (is_new π v f r (up k)) 0 (entry π v f k))
            on (inl z) = stored z
            on (inr z) =
                ap (λ (x : Rec). two x (slot k)) z.same ∙ ap (λ (b : ℕ). pair v b (slot k)) (spot_old π v f r (up k) q) ∙ sym (entry_at π v f k)
                ∙ sym (ap₂ (λ (t u : Bool). pick t (lda π.drive (fresh π v f r k)) (pick u 0 (entry π v f k))) h q)

    length_is : len W f ≡ suc r
    unfolding len
    length_is = ap (λ (x : Rec). (x 258 + 1) % 65536) d.fib ∙ ap (λ (x : ℕ). (x + 1) % 65536) (fib_length π v f r dat) ∙ omega (arith, ok.file.far)

    pub done_written : Written π v f r W
    done_written = record {
      old = old;
      new = λ k h. (ap (λ (x : Rec). two x 0) (fresh_rec k h) ∙ new_serial π v f r dat ok.file k h, ap (λ (x : Rec). x 2) (fresh_rec k h) ∙ new_number π v f r dat ok.file k h);
      entries = entries;
      length = length_is;
      last = ap (λ (x : Rec). two x 259) d.fib ∙ fib_last π v f r dat;
      used = ap (λ (x : Rec). x 257) d.fib ∙ fib_size π v f r dat;
      lowest = ap (λ (x : Rec). x 261) d.fib ∙ fib_low π v f r dat;
      low_at = ap (λ (x : Rec). two x 262) d.fib ∙ fib_address π v f r dat;
    }

    -- ---- bytes

    pub done_data : (w : ℕ) → 8 ≤ w → W (spot' π v f r (over r 0)) w ≡ dat (w - 8)
    done_data w l = let h = new_at π v f r ok.file 0 (needs_some π v f r) in ap (λ (x : Rec). x w) (d.news (over r 0) h) ∙ new_data π v f r dat w h l

    pub done_bytes : (k : ℕ) → home < k → present π v f k ≡ true → (w : ℕ) → 8 ≤ w → W (spot π v f k) w ≡ v (spot π v f k) w
    done_bytes k h p w l = subst (λ (b : ℕ). W b w ≡ v b w) (spot_is π v f r ok.file k p) (go (d.each k (present_old π v f r k p)))
      where
        go : (W (spot' π v f r k) ≡ grown π v f r dat k) ⊎ Left W k → W (spot' π v f r k) w ≡ v (spot' π v f r k) w
        go (inl q) = ap (λ (x : Rec). x w) q ∙ grown_data π v f r dat k h (new_old π v f r ok.file k p) w l ∙ ap (λ (b : ℕ). v b w) (sym (spot_is π v f r ok.file k p))
        go (inr q) = ap (λ (x : Rec). x w) q.same

    pub done_text : (w : ℕ) → 8 ≤ w → (w < 60) ⊎ (w ≡ 256) → W f w ≡ v f w
    done_text w l s = ap (λ (x : Rec). x w) d.fib ∙ fib_kept π v f r dat ok.file w l s
