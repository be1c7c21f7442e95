-- The ways through write: what it comes to, and where the blocks of an append lie.
use mathlib.Core.Path.{◌≡◌, refl, ap, ◌∙◌}
use mathlib.Core.List.{List}
use mathlib.Core.Bool.{true, false}
use Prim.Native.Nat.{ℕ, ◌≤◌, ◌<◌}
use native.Mathlib.Omega.{arith}
use borrow.Author.Tests.{lt-ltb, le-ltb, eq-eqb, ne_eqb, le-leb, lt-leb}
use Rattle.base.specs.declared.Refusal.TheVariants.{NoCandidate, BadBlock, Full}
use Rattle.drive.specs.Address.{pda_block}
use Rattle.image.specs.View.{View, Rec, pair}
use Rattle.image.specs.Image.{view}
use Rattle.volume.specs.Words.{next_at}
use Rattle.volume.specs.Keys.{reach}
use Rattle.volume.specs.Files.{candidate, len, name, free_head}
use Rattle.volume.specs.declared.Partition.{Partition}
use Rattle.volume.specs.Plans.{free_at}
use Rattle.volume.specs.Writes.{over, needs, write_plan, replace_plan}
use Rattle.volume.specs.Calls.{refuse, finish, room, append_in, write_in}
use Rattle.records.specs.Records.{Block, replaced}
use Rattle.append.specs.Appends.{Appends}
use Rattle.change.specs.Gate.{Opens}
use Rattle.change.proofs.Laws.{block_pib, block_fib, block_head, block_free_at, free_first, free_next, file_opened}

module _ (π : Partition) (v : View) (f r : ℕ) (dat : Rec) where
  -- refusals 6 and 7
  pub write_nowhere : candidate π v f ≡ false → write_in π v f r dat ≡ refuse NoCandidate
  unfolding write_in
  write_nowhere c = rw (write_in, c)

  module _ (c : candidate π v f ≡ true) where
    pub write_above : reach ≤ r → write_in π v f r dat ≡ refuse BadBlock
    unfolding write_in
    write_above h = rw (write_in, c, le-ltb r reach h)

    -- a block that is there is replaced
    pub write_replace : (b : ℕ) → r < reach → r < len v f → b ≡ name π v f r → write_in π v f r dat ≡ finish 0 (replaced v b dat)
    unfolding write_in replace_plan over replaced
    write_replace b h n hb = rw (hb, write_in, c, lt-ltb r reach h, lt-ltb r (len v f) n)

    module _ (k : ℕ) (hk : k ≡ len v f) (h : r < reach) where
      pub write_far : k < r → write_in π v f r dat ≡ refuse BadBlock
      unfolding write_in
      write_far n =
          let m : len v f ≤ r = omega arith in
          rw (write_in, c, lt-ltb r reach h, le-ltb r (len v f) m, ne_eqb r (len v f) (λ z. omega arith))

      -- the block behind the last is appended
      pub write_append : k ≤ r → r ≤ k → write_in π v f r dat ≡ append_in π v f k dat
      unfolding write_in
      write_append a b =
          let m : len v f ≤ r = omega arith in
          let q : r ≡ len v f = omega arith in
          let z : r ≡ k = omega arith in
          rw (write_in, c, lt-ltb r reach h, le-ltb r (len v f) m, eq-eqb r (len v f) q, z)

-- ---- append: n blocks; r free blocks, of which it takes m

-- the free block with place i is the first left once i are taken
pub left_is : (π : Partition) (v : View) (i m b : ℕ) → b ≡ free_at π v i → i ≤ m → m ≤ i → b ≡ free_at π v m
left_is π v i m b h p q = h ∙ ap (free_at π v) (let z : i ≡ m = omega arith in z)

-- of what append_open asks of the file f, and with m as it is told
module _ {π : Partition} {l : List ℕ} (f : ℕ) {n m r : ℕ}
    (asked : (Opens π l) × (candidate π (view l) f ≡ true) × (n ≡ len (view l) f) × (n < reach))
    (some : 1 ≤ m) (m_is : m ≡ needs π (view l) f n) (hr : r ≡ room π (view l)) where
  pub append_few : (dat : Rec) → r ≤ m → append_in π (view l) f n dat ≡ refuse Full
  unfolding append_in
  append_few dat h = rw (append_in, le-leb (room π (view l)) (needs π (view l) f n) (omega (arith, m_is)))

  pub append_is : (dat : Rec) → m < r → append_in π (view l) f n dat ≡ finish 0 (write_plan π (view l) f n dat)
  unfolding append_in
  append_is dat h = rw (append_in, lt-leb (room π (view l)) (needs π (view l) f n) (omega (arith, m_is)))

  -- a is the first free block, q the next and d the one behind it
  module _ (enough : m < r) {a q : ℕ} (ha : a ≡ free_head π (view l)) (hq : q ≡ pda_block π.drive (pair (view l) a next_at)) where
    second : q ≡ free_at π (view l) 1
    second = free_next π (view l) 0 a q (free_first π (view l) a ha) hq

    pub block_second : Block l q
    block_second = block_free_at asked.0 1 q second (omega arith)

    module _ {d : ℕ} (hd : d ≡ pda_block π.drive (pair (view l) q next_at)) where
      third : d ≡ free_at π (view l) 2
      third = free_next π (view l) 1 q d second hd

      pub leaves : m ≤ 3 → (1 ≤ m) × (m ≤ 3) × (q ≡ free_at π (view l) 1) × (d ≡ free_at π (view l) 2) × (2 < m → Block l d)
      leaves few = (some, few, second, third, λ h. block_free_at asked.0 2 d third (omega arith))

      pub appends : {g : ℕ} → g ≡ free_at π (view l) m → Appends (record { p = π; f = f; n = n; m = m; a = a; q = q; d = d; g = g }) l
      appends {g} hg = record {
        opened = file_opened asked.0 f asked.1;
        next = asked.2;
        far = asked.3;
        many = m_is;
        first = free_first π (view l) a ha;
        second = second;
        third = third;
        after = hg;
        room = λ i h. block_free_at asked.0 i _ refl (omega arith);
        s_in = block_pib asked.0;
        f_in = block_fib asked.0 f asked.1;
        a_in = rw ha (block_head asked.0);
        g_in = block_free_at asked.0 m g hg (omega arith);
      }
