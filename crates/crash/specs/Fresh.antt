-- A block with the record of an empty file: what its words are, that it is a well formed candidate, and that it is linked.
use Rattle.std.specs.Prelude.{◌≡◌, ◌≢◌, [], Bool, eqb}
use Rattle.std.proofs.Math.Path.{refl, sym, ap}
use Rattle.std.proofs.Common.{ap₂, ◌∙◌, arith}
use Rattle.std.proofs.Math.Bool.{true, false}
use Prim.Native.Nat.{ℕ, ◌+◌, ◌*◌, ◌%◌, ◌≤◌, ◌<◌}
use borrow.Author.Tests.{eqb-true, eqb-false, eq-eqb, ne_eqb}
use Rattle.base.specs.Tests.{pick, every, count}
use Rattle.base.specs.Laws.{cons_same, never}
use Rattle.drive.specs.Address.{pda, lda, is_lda}
use Rattle.image.specs.View.{View, Rec, pair, put, put2, blank}
use Rattle.volume.specs.Words.{next_at, previous_at}
use Rattle.volume.specs.Search.{seek}
use Rattle.volume.specs.Keys.{home, number, slot, low, span}
use Rattle.volume.proofs.KeyLaws.{slot_fib, number_home}
use Rattle.volume.specs.Files.{inside, candidate, len, spot, present, least, size, tally, well_formed, above, below, link}
use Rattle.volume.specs.declared.Partition.{Partition}
use Rattle.volume.proofs.Index.{spot_home, present_home, here_of, of_wf}
use Rattle.volume.proofs.Order.{next_one, prev_one, above_next, below_prev}
use Rattle.volume.specs.Plans.{fresh_fib}
use Rattle.frame.specs.Reading.{word}
use Rattle.drive.proofs.Names.{lda_self}
use Rattle.frame.proofs.FreeChain.{Links}

-- nothing stands in its links, its description and its index
module _ (d : ℕ) (v : View) (h kind : ℕ) where
  pub fresh_nil : (w : ℕ) → 4 ≤ w → w < 256 → fresh_fib d v h kind w ≡ 0
  unfolding fresh_fib put put2 blank
  fresh_nil w l m = simp (ne_eqb w 0 (λ z. omega arith), ne_eqb w 1 (λ z. omega arith), ne_eqb w 2 (λ z. omega arith), ne_eqb w 3 (λ z. omega arith), ne_eqb w 256 (λ z. omega arith), ne_eqb w 257 (λ z. omega arith), ne_eqb w 258 (λ z. omega arith), ne_eqb w 259 (λ z. omega arith), ne_eqb w 260 (λ z. omega arith), ne_eqb w 261 (λ z. omega arith), ne_eqb w 262 (λ z. omega arith), ne_eqb w 263 (λ z. omega arith))

  pub fresh_kind : fresh_fib d v h kind 256 ≡ kind
  unfolding fresh_fib put put2
  fresh_kind = refl

-- ---- a view in which block h has it

module _ (π : Partition) (v u : View) (h kind : ℕ) (q : u h ≡ fresh_fib π.drive v h kind) where
  at : (w : ℕ) → u h w ≡ fresh_fib π.drive v h kind w
  at w = ap (λ (r : Rec). r w) q

  nil : (w : ℕ) → 4 ≤ w → w < 255 → pair u h w ≡ 0
  nil w l m = ap₂ (λ (x y : ℕ). x + 65536 * y) (at w ∙ fresh_nil π.drive v h kind w l (omega arith)) (at (w + 1) ∙ fresh_nil π.drive v h kind (w + 1) (omega arith) (omega arith))

  pub fresh_len : len u h ≡ 0
  unfolding len fresh_fib put put2
  fresh_len = ap (λ (x : ℕ). (x + 1) % 65536) (at 258)

  pub fresh_cand : inside π h ≡ true → candidate π u h ≡ true
  unfolding candidate fresh_fib every put put2
  fresh_cand n = ap every (cons_same n (cons_same (eq-eqb _ _ (ap₂ (λ (x y : ℕ). x + 65536 * y) (at 0) (at 1) ∙ word (pda π.drive h))) (cons_same {l = []} (eq-eqb _ _ (at 2)) refl)))

  -- nothing is present but the FIB
  pub fresh_only : (k : ℕ) → present π u h k ≡ true → k ≡ home
  fresh_only k p = go (eqb k home) refl
    where
      go : (t : Bool) → eqb k home ≡ t → k ≡ home
      go true z = eqb-true k home z
      go false z = absurd (omega (arith, (here_of π u h k (eqb-false k home z) p).asked, fresh_len))

  no_other : (k : ℕ) → k ≢ home → present π u h k ≡ false
  no_other k n = never _ (λ z. n (fresh_only k z))

  end_is : home + len u h ≡ home
  end_is = ap (λ (n : ℕ). home + n) fresh_len

  least_is : least π u h ≡ home
  unfolding least span low seek
  least_is = ap (λ (n : ℕ). seek (span n) (low n) (present π u h)) fresh_len ∙ ap (λ (t : Bool). let r : ℕ = elim t [ true ↦ home | false ↦ 0 ] in r) (present_home π u h)

  size_is : size π u h ≡ 1
  unfolding size span low count
  size_is = ap (λ (n : ℕ). count (span n) (λ i. present π u h (low n + i))) fresh_len ∙ ap (λ (t : Bool). pick t 1 0 + 0) (present_home π u h)

  address_is : (w k : ℕ) → pair u h w ≡ lda π.drive h → k ≡ home → is_lda π.drive (pair u h w) (spot π u h k) ≡ true
  address_is w k a z = ap₂ (is_lda π.drive) a (ap (spot π u h) z ∙ spot_home π u h) ∙ lda_self π.drive h

  tallied : tally π u h ≡ true
  unfolding tally fresh_fib put put2 every
  tallied = ap every
      (cons_same (eq-eqb _ _ (at 257 ∙ sym size_is))
      (cons_same (eq-eqb _ _ (at 261 ∙ sym (ap number least_is ∙ number_home)))
      (cons_same {l = []} (address_is 262 (least π u h) (ap₂ (λ (x y : ℕ). x + 65536 * y) (at 262) (at 263) ∙ word (lda π.drive h)) least_is) refl)))

  pub fresh_wf : well_formed π u h ≡ true
  unfolding fresh_fib put put2
  fresh_wf = of_wf π u h (record {
    short = omega (arith, fresh_len);
    good = λ k n p. absurd (n (fresh_only k p));
    mine = λ k n p. absurd (n (fresh_only k p));
    nil = λ k n z l. let s = slot_fib k n z in nil (slot k) (omega (arith, s.0)) (omega (arith, s.1));
    ends = ap (present π u h) end_is ∙ present_home π u h;
    last = address_is 259 (home + len u h) (ap₂ (λ (x y : ℕ). x + 65536 * y) (at 259) (at 260) ∙ word (lda π.drive h)) end_is;
    full = λ k l. absurd (omega (arith, fresh_len));
    tallied = tallied;
  })

  above_none : above π u h home ≡ 0
  above_none = next_one (present π u h) home _ 0 (above_next π u h home) (record { hit = λ n. absurd (n refl); none = λ i l _. no_other i (λ z. omega arith) })

  below_none : below π u h home ≡ 0
  below_none = prev_one (present π u h) home _ 0 (below_prev π u h home) (record { hit = λ n. absurd (n refl); none = λ i p l _. no_other i (λ z. omega arith) })

  link_nil : link π u h 0 ≡ 0
  unfolding link
  link_nil = refl

  pub fresh_links : Links π u h
  fresh_links = record {
    next = λ k p. let z = fresh_only k p in
        ap (λ (b : ℕ). pair u b next_at) (ap (spot π u h) z ∙ spot_home π u h) ∙ nil 4 (omega arith) (omega arith) ∙ sym (ap (link π u h) (ap (above π u h) z ∙ above_none) ∙ link_nil);
    prev = λ k p. let z = fresh_only k p in
        ap (λ (b : ℕ). pair u b previous_at) (ap (spot π u h) z ∙ spot_home π u h) ∙ nil 6 (omega arith) (omega arith) ∙ sym (ap (link π u h) (ap (below π u h) z ∙ below_none) ∙ link_nil);
    tail = λ k i l p. absurd (omega (arith, fresh_only k p));
  }
