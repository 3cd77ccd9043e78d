-- An index built from nothing is that of the table: each row in its turn brings it one row on.
-- Assumes nothing.
use mathlib.Core.Path.{◌≡◌, refl, sym, ap, ◌∙◌, subst}
use mathlib.Core.List.{List}
use mathlib.Core.Bool.{Bool, true, false, true≢false, not}
use Prim.Native.Nat.{ℕ, zero, suc, ◌+◌, ◌*◌, ◌≤◌, ◌<◌}
use native.Mathlib.Decide.{ℕ_discrete}
use native.Mathlib.Numerals.{add-one}
use native.Mathlib.Omega.{arith}
use lib.ListN.{length, get_or, drop}
use lib.Dec.{ltb, leb}
use borrow.Author.Tests.{lt-ltb, le-ltb, eq-eqb, ltb-true, ltb-false, leb-true, leb-false}
use Rattle.facts.specs.Pick.{both}
use Rattle.rows.specs.declared.Row.{Row}
use Rattle.rows.specs.Rows.{zero_row, free, live}
use Rattle.rows.proofs.Judged.{RowState, row_is_free, row_is_live, row_is_spoiled, row_state}
use Rattle.index.specs.Index.{slots, used_of, packed, hash, placed, freed, entered, each_row, front, zeroed, built, roomy}
use Rattle.index.specs.Indexed.{Reaches, is_filled, is_free_below, Upto, Indexed}
use Rattle.index.proofs.Cases.{slots_is, hash_below, entered_live, entered_free, entered_else, each_more, each_end, room_full, room_left, front_is, length_zeroed, zeroed_at}
use Rattle.index.proofs.Counts.{count_no, count_same}
use Rattle.index.proofs.Reached.{Grows, reach_keep}
use Rattle.index.proofs.Looked.{packed_some}
use Rattle.index.proofs.Stored.{place_does, SameSlots, same_filled, freed_slots, freed_length, Counts, freed_counts}

-- row i of rs is reached in ix
abbrev pub Reached : List ℕ → List Row → ℕ → Type 0
Reached ix rs i = Reaches ix (packed (get_or rs i zero_row).order i) slots (hash (get_or rs i zero_row).order)

-- what was reached stays reached
pub reached_keep : (ix jx : List ℕ) (rs : List Row) (i : ℕ) → Grows ix jx → Reached ix rs i → Reached jx rs i
reached_keep ix jx rs i g r = reach_keep ix jx (packed (get_or rs i zero_row).order i) g (packed_some (get_or rs i zero_row).order i) slots (hash (get_or rs i zero_row).order) (hash_below (get_or rs i zero_row).order) r

pub slots_grow : (ix jx : List ℕ) → SameSlots ix jx → Grows ix jx
slots_grow ix jx s q h n = s q (omega arith)

-- ---- the free rows below i, and row i
module _ (rs : List Row) (i : ℕ) where
  below_else : (k : ℕ) → (k ≡ i → ⊥) → is_free_below i rs k ≡ is_free_below (suc i) rs k
  unfolding is_free_below
  below_else k n = go (ltb k i) refl
    where
      go : (t : Bool) → ltb k i ≡ t → both (ltb k i) (free (get_or rs k zero_row)) ≡ both (ltb k (suc i)) (free (get_or rs k zero_row))
      go true e = rw (e, lt-ltb k (suc i) (omega (arith, ltb-true k i e)))
      go false e = rw (e, le-ltb k (suc i) (omega (arith, ltb-false k i e)))

  below_not : is_free_below i rs i ≡ false
  unfolding is_free_below both
  below_not = rw (le-ltb i i (omega arith))

  below_is : is_free_below (suc i) rs i ≡ free (get_or rs i zero_row)
  unfolding is_free_below both
  below_is = rw (lt-ltb i (suc i) (omega arith))

  below_same : free (get_or rs i zero_row) ≡ false → (k : ℕ) → is_free_below i rs k ≡ is_free_below (suc i) rs k
  below_same f k = go (ℕ_discrete k i)
    where
      go : Dec (k ≡ i) → is_free_below i rs k ≡ is_free_below (suc i) rs k
      go (yes e) = ap (is_free_below i rs) e ∙ below_not ∙ sym (ap (is_free_below (suc i) rs) e ∙ below_is ∙ f)
      go (no n) = below_else k n

  same_counts : (ix : List ℕ) → free (get_or rs i zero_row) ≡ false → Counts ix (is_free_below i rs) → Counts ix (is_free_below (suc i) rs)
  same_counts ix f c b l = c b l ∙ count_same (is_free_below i rs) (is_free_below (suc i) rs) 64 (64 * b) (λ k a d. below_same f k)

  reach_more : (ix : List ℕ) → ((j : ℕ) → j < i → live (get_or rs j zero_row) ≡ true → Reached ix rs j) → (live (get_or rs i zero_row) ≡ true → Reached ix rs i) → (j : ℕ) → j < suc i → live (get_or rs j zero_row) ≡ true → Reached ix rs j
  reach_more ix below own j h l = go (ℕ_discrete j i)
    where
      go : Dec (j ≡ i) → Reached ix rs j
      go (yes e) = subst (Reached ix rs) (sym e) (own (subst (λ (k : ℕ). live (get_or rs k zero_row) ≡ true) e l))
      go (no n) = below j (omega arith) l

-- ---- one row entered: the index of one row more, and at most one slot more used
abbrev Entered : ℕ → List ℕ → List Row → Type 0
Entered n ix rs = Upto n ix rs × (used_of ix ≤ n)

dead : {B : Type 0} {b : Bool} → b ≡ false → b ≡ true → B
dead f t = absurd (true≢false (sym t ∙ f))

enter_one : (rs : List Row) (i : ℕ) (ix : List ℕ) → i < 16000 → Entered i ix rs → Entered (suc i) (entered ix (get_or rs i zero_row) i) rs
enter_one rs i ix h x = go (row_state (get_or rs i zero_row))
  where
    go : RowState (get_or rs i zero_row) → Entered (suc i) (entered ix (get_or rs i zero_row) i) rs
    go (row_is_live f l s) =
        let p = place_does ix (get_or rs i zero_row).order i x.0.size (omega (arith, x.1)) x.0.used in
        let jx : List ℕ = placed ix (get_or rs i zero_row).order i in
        subst (λ (m : List ℕ). Entered (suc i) m rs) (sym (entered_live ix (get_or rs i zero_row) i l)) (
          record {
            size = p.size ∙ x.0.size;
            used = p.used;
            reach = reach_more rs i jx (λ j a b. reached_keep ix jx rs j p.grows (x.0.reach j a b)) (λ _. p.there);
            counts = λ b a. p.counts b ∙ same_counts rs i ix f x.0.counts b a;
          },
          omega (arith, p.more, x.1),
        )
    go (row_is_free f l s) =
        let jx : List ℕ = freed ix i in
        let g = freed_slots ix i in
        subst (λ (m : List ℕ). Entered (suc i) m rs) (sym (entered_free ix (get_or rs i zero_row) i l f)) (
          record {
            size = freed_length ix i ∙ x.0.size;
            used = omega (arith, same_filled ix jx g, g 32768 (omega arith), x.0.used);
            reach = reach_more rs i jx (λ j a b. reached_keep ix jx rs j (slots_grow ix jx g) (x.0.reach j a b)) (λ t. dead l t);
            counts = freed_counts (is_free_below i rs) (is_free_below (suc i) rs) i (below_not rs i) (below_is rs i ∙ f) (below_else rs i) ix x.0.size h x.0.counts;
          },
          omega (arith, g 32768 (omega arith), x.1),
        )
    go (row_is_spoiled f l s) =
        subst (λ (m : List ℕ). Entered (suc i) m rs) (sym (entered_else ix (get_or rs i zero_row) i l f)) (
          record {
            size = x.0.size;
            used = x.0.used;
            reach = reach_more rs i ix x.0.reach (λ t. dead l t);
            counts = same_counts rs i ix f x.0.counts;
          },
          omega (arith, x.1),
        )

enter_all : (rs : List Row) → length rs ≤ 16000 → (m i : ℕ) (ix : List ℕ) → i + m ≡ length rs → Entered i ix rs → Entered (length rs) (each_row entered i (drop i rs) ix) rs
enter_all rs few zero i ix e x =
    let n : i ≡ length rs = omega arith in
    rw (each_end entered rs i ix (omega arith)) (subst (λ (k : ℕ). Entered k ix rs) n x)
enter_all rs few (suc m) i ix e x =
    rw (each_more entered rs i ix (omega arith))
    (enter_all rs few m (i + 1) (entered ix (get_or rs i zero_row) i) (omega arith)
    (subst (λ (k : ℕ). Entered k (entered ix (get_or rs i zero_row) i) rs) (sym (add-one i)) (enter_one rs i ix (omega arith) x)))

-- ---- from nothing
zeros : (n : ℕ) (ix : List ℕ) (rs : List Row) → n ≡ 33019 → length ix ≡ 49403 → Entered 0 (zeroed n ix) rs
unfolding is_filled is_free_below both
zeros n ix rs m e = (
  record {
    size = length_zeroed n ix ∙ e;
    used = omega (arith, count_no (is_filled (zeroed n ix)) slots 0 (λ k a b. ap not (eq-eqb (get_or (zeroed n ix) k 0) 0 (zeroed_at n ix k (omega (arith, slots_is))))));
    reach = λ i h l. absurd (omega arith);
    counts = λ b h. zeroed_at n ix (32769 + b) (omega arith) ∙ sym (count_no (is_free_below 0 rs) 64 (64 * b) (λ k a c. rw (le-ltb k 0 (omega arith))));
  },
  omega (arith, zeroed_at n ix 32768 (omega arith)),
)

-- after a start, and where it is built anew; a table has at most 16,000 rows, so that as many slots are used
pub built_indexed : (ix : List ℕ) (rs : List Row) → length ix ≡ 49403 → length rs ≤ 16000 → Indexed (built ix rs) rs × (used_of (built ix rs) ≤ 16000)
unfolding built
built_indexed ix rs e few =
    let w = enter_all rs few (length rs) 0 (zeroed front ix) (omega arith) (zeros front ix rs front_is e) in
    (record { all = w.0; few = few; room = omega (arith, w.1) }, omega (arith, w.1))

-- room for one order more
pub roomy_indexed : (ix : List ℕ) (rs : List Row) → Indexed ix rs → Indexed (roomy ix rs) rs × (used_of (roomy ix rs) < 24576)
roomy_indexed ix rs x = go (leb 24576 (used_of ix)) refl
  where
    go : (b : Bool) → leb 24576 (used_of ix) ≡ b → Indexed (roomy ix rs) rs × (used_of (roomy ix rs) < 24576)
    go true e =
        let w = built_indexed ix rs x.all.size x.few in
        subst (λ (m : List ℕ). Indexed m rs × (used_of m < 24576)) (sym (room_full ix rs (leb-true 24576 (used_of ix) e))) (w.0, omega (arith, w.1))
    go false e =
        let u : used_of ix < 24576 = leb-false 24576 (used_of ix) e in
        subst (λ (m : List ℕ). Indexed m rs × (used_of m < 24576)) (sym (room_left ix rs u)) (x, u)
