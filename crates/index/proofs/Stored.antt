-- What the three stores into the memory do: a slot filled, a block's count raised, a block's count lowered. Each leaves the two other parts as they are.
-- Assumes nothing.
use mathlib.Core.Path.{◌≡◌, refl, sym, ap, ◌∙◌, subst}
use mathlib.Core.List.{List}
use mathlib.Core.Bool.{Bool, true, false, not}
use Prim.Native.Nat.{ℕ, ◌+◌, ◌-◌, ◌*◌, ◌/◌, ◌≤◌, ◌<◌}
use native.Mathlib.Decide.{ℕ_discrete}
use native.Mathlib.Omega.{arith}
use lib.ListN.{length, get_or, set, length-set}
use lib.Seq.{get_or-set_same, get_or-set_other}
use lib.Dec.{ltb, eqb}
use borrow.Author.Tests.{eq-eqb, ne_eqb}
use Rattle.facts.proofs.Picks.{pick_ind}
use Rattle.index.specs.Index.{slots, used_of, count_of, packed, hash, placed, taken, freed}
use Rattle.index.specs.Indexed.{Reaches, count_at, is_filled}
use Rattle.index.proofs.Cases.{slots_is, hash_below, placed_at, taken_one, freed_one}
use Rattle.index.proofs.Counts.{count_bound, count_same, count_more}
use Rattle.index.proofs.Reached.{Grows, vacant_at, vacant_reach, some_vacant}
use Rattle.index.proofs.Looked.{packed_some}

-- ---- one row more in the slots
pub record Placed (ix : List ℕ) (id i : ℕ) (jx : List ℕ) : Type 0 where
  pub size : length jx ≡ length ix
  pub grows : Grows ix jx
  pub there : Reaches jx (packed id i) slots (hash id)
  pub used : count_at (is_filled jx) slots 0 ≤ used_of jx
  pub more : used_of jx ≡ used_of ix + 1
  pub counts : (b : ℕ) → count_of jx b ≡ count_of ix b

module _ (ix : List ℕ) (p s u : ℕ) (z : length ix ≡ 49403) (h : p < 32768) where
  fill_here : get_or (set (set ix p s) 32768 u) p 0 ≡ s
  fill_here = get_or-set_other (set ix p s) 32768 p u 0 (λ e. omega arith) ∙ get_or-set_same ix p s 0 (omega arith)

  fill_else : (q : ℕ) → (q ≡ 32768 → ⊥) → (q ≡ p → ⊥) → get_or (set (set ix p s) 32768 u) q 0 ≡ get_or ix q 0
  fill_else q a b = get_or-set_other (set ix p s) 32768 q u 0 a ∙ get_or-set_other ix p q s 0 b

  fill_used : get_or (set (set ix p s) 32768 u) 32768 0 ≡ u
  fill_used = get_or-set_same (set ix p s) 32768 u 0 (rw length-set (omega arith))

  fill_length : length (set (set ix p s) 32768 u) ≡ length ix
  fill_length = simp length-set

  fill_count : get_or ix p 0 ≡ 0 → (s ≡ 0 → ⊥) → count_at (is_filled (set (set ix p s) 32768 u)) slots 0 ≡ count_at (is_filled ix) slots 0 + 1
  unfolding is_filled
  fill_count e n =
      count_more (is_filled ix) (is_filled (set (set ix p s) 32768 u)) slots 0 p (omega arith) (omega (arith, slots_is))
      (ap not (eq-eqb (get_or ix p 0) 0 e))
      (ap not (ne_eqb (get_or (set (set ix p s) 32768 u) p 0) 0 (λ y. n (sym fill_here ∙ y))))
      (λ k a b c. ap (λ v. not (eqb v 0)) (sym (fill_else k (λ y. omega (arith, slots_is)) c)))

pub place_does : (ix : List ℕ) (id i : ℕ) → length ix ≡ 49403 → used_of ix < 32768 → count_at (is_filled ix) slots 0 ≤ used_of ix → Placed ix id i (placed ix id i)
place_does ix id i z h f =
    let v = some_vacant ix (hash id) (hash_below id) (omega arith) in
    let p : ℕ = v.0 in
    let w = vacant_at slots ix (hash id) p (hash_below id) v.1 in
    let s : ℕ = packed id i in
    let u : ℕ = used_of ix + 1 in
    let jx : List ℕ = set (set ix p s) 32768 u in
    let g : Grows ix jx = λ q l n. fill_else ix p s u z w.0 q (λ y. omega arith) (λ y. n (ap (λ k. get_or ix k 0) y ∙ w.1)) in
    let m : used_of jx ≡ u = fill_used ix p s u z w.0 in
    let c = fill_count ix p s u z w.0 w.1 (packed_some id i) in
    subst (Placed ix id i) (sym (placed_at ix id i p h v.1))
    (record {
      size = fill_length ix p s u z w.0;
      grows = g;
      there = vacant_reach slots ix jx (hash id) p s (hash_below id) g (fill_here ix p s u z w.0) v.1;
      used = omega arith;
      more = m;
      counts = λ b. fill_else ix p s u z w.0 (32769 + b) (λ y. omega arith) (λ y. omega (arith, w.0));
    })

-- ---- a block's count: nothing below the counts changes
abbrev pub SameSlots : List ℕ → List ℕ → Type 0
SameSlots ix jx = (q : ℕ) → q < 32769 → get_or jx q 0 ≡ get_or ix q 0

pub same_filled : (ix jx : List ℕ) → SameSlots ix jx → count_at (is_filled jx) slots 0 ≡ count_at (is_filled ix) slots 0
unfolding is_filled
same_filled ix jx s = count_same (is_filled jx) (is_filled ix) slots 0 (λ k a b. ap (λ v. not (eqb v 0)) (s k (omega (arith, slots_is))))

module _ (ix : List ℕ) (i : ℕ) where
  pub taken_slots : SameSlots ix (taken ix i)
  unfolding taken
  taken_slots q h =
      pick_ind (λ (l : List ℕ). get_or l q 0 ≡ get_or ix q 0) (ltb 0 (count_of ix (i / 64))) (set ix (32769 + i / 64) (count_of ix (i / 64) - 1)) ix
      (λ e. get_or-set_other ix (32769 + i / 64) q (count_of ix (i / 64) - 1) 0 (λ y. omega arith)) (λ e. refl)

  pub freed_slots : SameSlots ix (freed ix i)
  unfolding freed
  freed_slots q h =
      pick_ind (λ (l : List ℕ). get_or l q 0 ≡ get_or ix q 0) (ltb (count_of ix (i / 64)) 64) (set ix (32769 + i / 64) (count_of ix (i / 64) + 1)) ix
      (λ e. get_or-set_other ix (32769 + i / 64) q (count_of ix (i / 64) + 1) 0 (λ y. omega arith)) (λ e. refl)

  pub taken_length : length (taken ix i) ≡ length ix
  unfolding taken
  taken_length = pick_ind (λ (l : List ℕ). length l ≡ length ix) (ltb 0 (count_of ix (i / 64))) (set ix (32769 + i / 64) (count_of ix (i / 64) - 1)) ix (λ e. simp length-set) (λ e. refl)

  pub freed_length : length (freed ix i) ≡ length ix
  unfolding freed
  freed_length = pick_ind (λ (l : List ℕ). length l ≡ length ix) (ltb (count_of ix (i / 64)) 64) (set ix (32769 + i / 64) (count_of ix (i / 64) + 1)) ix (λ e. simp length-set) (λ e. refl)

  taken_else : (b : ℕ) → (b ≡ i / 64 → ⊥) → count_of (taken ix i) b ≡ count_of ix b
  unfolding taken
  taken_else b n =
      pick_ind (λ (l : List ℕ). get_or l (32769 + b) 0 ≡ get_or ix (32769 + b) 0) (ltb 0 (count_of ix (i / 64))) (set ix (32769 + i / 64) (count_of ix (i / 64) - 1)) ix
      (λ e. get_or-set_other ix (32769 + i / 64) (32769 + b) (count_of ix (i / 64) - 1) 0 (λ y. n (omega arith))) (λ e. refl)

  freed_else : (b : ℕ) → (b ≡ i / 64 → ⊥) → count_of (freed ix i) b ≡ count_of ix b
  unfolding freed
  freed_else b n =
      pick_ind (λ (l : List ℕ). get_or l (32769 + b) 0 ≡ get_or ix (32769 + b) 0) (ltb (count_of ix (i / 64)) 64) (set ix (32769 + i / 64) (count_of ix (i / 64) + 1)) ix
      (λ e. get_or-set_other ix (32769 + i / 64) (32769 + b) (count_of ix (i / 64) + 1) 0 (λ y. n (omega arith))) (λ e. refl)

-- the counts of all blocks are those of a test
abbrev pub Counts : List ℕ → (ℕ → Bool) → Type 0
Counts ix p = (b : ℕ) → b < 250 → count_of ix b ≡ count_at p 64 (64 * b)

-- ---- two tests that differ at i alone
module _ (p q : ℕ → Bool) (i : ℕ) (pi : p i ≡ false) (qi : q i ≡ true) (rest : (k : ℕ) → (k ≡ i → ⊥) → p k ≡ q k) where
  block_in : count_at q 64 (64 * (i / 64)) ≡ count_at p 64 (64 * (i / 64)) + 1
  block_in = count_more p q 64 (64 * (i / 64)) i (omega arith) (omega arith) pi qi (λ k a b n. rest k n)

  block_out : (b : ℕ) → (b ≡ i / 64 → ⊥) → count_at p 64 (64 * b) ≡ count_at q 64 (64 * b)
  block_out b n = count_same p q 64 (64 * b) (λ k a c. rest k (λ e. n (omega arith)))

  module _ (ix : List ℕ) (z : length ix ≡ 49403) (h : i < 16000) where
    pub freed_counts : Counts ix p → Counts (freed ix i) q
    freed_counts c b l = go (ℕ_discrete b (i / 64))
      where
        own : count_of (freed ix i) (i / 64) ≡ count_at q 64 (64 * (i / 64))
        own =
            let e = c (i / 64) (omega arith) in
            let m = block_in in
            let t : count_of ix (i / 64) < 64 = omega (arith, count_bound q 64 (64 * (i / 64))) in
            rw (freed_one ix i t, get_or-set_same ix (32769 + i / 64) (count_of ix (i / 64) + 1) 0 (omega arith)) (omega arith)

        go : Dec (b ≡ i / 64) → count_of (freed ix i) b ≡ count_at q 64 (64 * b)
        go (yes e) = subst (λ (k : ℕ). count_of (freed ix i) k ≡ count_at q 64 (64 * k)) (sym e) own
        go (no n) = freed_else ix i b n ∙ c b l ∙ block_out b n

    pub taken_counts : Counts ix q → Counts (taken ix i) p
    taken_counts c b l = go (ℕ_discrete b (i / 64))
      where
        own : count_of (taken ix i) (i / 64) ≡ count_at p 64 (64 * (i / 64))
        own =
            let e = c (i / 64) (omega arith) in
            let m = block_in in
            let t : 0 < count_of ix (i / 64) = omega arith in
            rw (taken_one ix i t, get_or-set_same ix (32769 + i / 64) (count_of ix (i / 64) - 1) 0 (omega arith)) (omega arith)

        go : Dec (b ≡ i / 64) → count_of (taken ix i) b ≡ count_at p 64 (64 * b)
        go (yes e) = subst (λ (k : ℕ). count_of (taken ix i) k ≡ count_at p 64 (64 * k)) (sym e) own
        go (no n) = taken_else ix i b n ∙ c b l ∙ sym (block_out b n)
