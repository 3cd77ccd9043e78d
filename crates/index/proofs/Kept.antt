-- What the book does to one row leaves the index that of the table: an order that comes to a free row, one that leaves, one that changes and keeps its ID.
-- Assumes nothing.
use mathlib.Core.Path.{◌≡◌, refl, sym, ap, ◌∙◌, subst}
use mathlib.Core.List.{List}
use mathlib.Core.Bool.{true, false, true≢false}
use Prim.Native.Nat.{ℕ, ◌+◌, ◌*◌, ◌≤◌, ◌<◌}
use native.Mathlib.Decide.{ℕ_discrete}
use native.Mathlib.Omega.{arith}
use lib.ListN.{length, get_or, set, length-set}
use lib.Seq.{get_or-set_same, get_or-set_other}
use lib.Dec.{ltb}
use borrow.Author.Tests.{lt-ltb}
use Rattle.facts.specs.Pick.{both}
use Rattle.rows.specs.declared.Row.{Row}
use Rattle.rows.specs.Rows.{zero_row, free, live}
use Rattle.rows.proofs.Judged.{live_not_free, zero_free, zero_not_live}
use Rattle.index.specs.Index.{slots, used_of, packed, hash, placed, taken, freed, roomy, came, hint_at}
use Rattle.index.specs.Indexed.{Reaches, is_free_below, Upto, Indexed}
use Rattle.index.proofs.Counts.{count_same}
use Rattle.index.proofs.Reached.{Grows}
use Rattle.index.proofs.Stored.{place_does, SameSlots, same_filled, taken_slots, taken_length, freed_slots, freed_length, freed_counts, taken_counts}
use Rattle.index.proofs.Built.{Reached, reached_keep, slots_grow, roomy_indexed}

-- ---- the rows after one is set
module _ (rs : List Row) (i : ℕ) (r : Row) (h : i < length rs) where
  set_here : get_or (set rs i r) i zero_row ≡ r
  set_here = get_or-set_same rs i r zero_row h

  set_else : (k : ℕ) → (k ≡ i → ⊥) → get_or (set rs i r) k zero_row ≡ get_or rs k zero_row
  set_else k n = get_or-set_other rs i k r zero_row n

  free_old : is_free_below (length rs) rs i ≡ free (get_or rs i zero_row)
  unfolding is_free_below both
  free_old = rw (lt-ltb i (length rs) h)

  free_new : is_free_below (length rs) (set rs i r) i ≡ free r
  unfolding is_free_below both
  free_new = rw (lt-ltb i (length rs) h) (ap free set_here)

  free_else : (k : ℕ) → (k ≡ i → ⊥) → is_free_below (length rs) (set rs i r) k ≡ is_free_below (length rs) rs k
  unfolding is_free_below
  free_else k n = ap (λ (x : Row). both (ltb k (length rs)) (free x)) (set_else k n)

  free_same : free (get_or rs i zero_row) ≡ free r → (k : ℕ) → is_free_below (length rs) rs k ≡ is_free_below (length rs) (set rs i r) k
  free_same e k = go (ℕ_discrete k i)
    where
      go : Dec (k ≡ i) → is_free_below (length rs) rs k ≡ is_free_below (length rs) (set rs i r) k
      go (yes q) = ap (is_free_below (length rs) rs) q ∙ free_old ∙ e ∙ sym (ap (is_free_below (length rs) (set rs i r)) q ∙ free_new)
      go (no n) = sym (free_else k n)

  -- every other row is reached as it was; this one has to be, where it is live
  set_reach : (ix jx : List ℕ) → Grows ix jx → ((j : ℕ) → j < length rs → live (get_or rs j zero_row) ≡ true → Reached ix rs j)
      → (live r ≡ true → Reaches jx (packed r.order i) slots (hash r.order))
      → (j : ℕ) → j < length rs → live (get_or (set rs i r) j zero_row) ≡ true → Reached jx (set rs i r) j
  set_reach ix jx g old new j l a = go (ℕ_discrete j i)
    where
      go : Dec (j ≡ i) → Reached jx (set rs i r) j
      go (yes q) =
          let e : get_or (set rs i r) j zero_row ≡ r = ap (λ (k : ℕ). get_or (set rs i r) k zero_row) q ∙ set_here in
          subst (λ (x : Row). Reaches jx (packed x.order j) slots (hash x.order)) (sym e)
          (subst (λ (k : ℕ). Reaches jx (packed r.order k) slots (hash r.order)) (sym q) (new (sym (ap live e) ∙ a)))
      go (no n) =
          let e = set_else j n in
          subst (λ (x : Row). Reaches jx (packed x.order j) slots (hash x.order)) (sym e)
          (reached_keep ix jx rs j g (old j l (sym (ap live e) ∙ a)))

  -- the same number of rows
  as_many : (jx : List ℕ) → Upto (length rs) jx (set rs i r) → used_of jx ≤ 24576 → length rs ≤ 16000 → Indexed jx (set rs i r)
  as_many jx u m few =
      record { all = subst (λ (n : ℕ). Upto n jx (set rs i r)) (sym (length-set rs i r)) u; few = rw length-set few; room = m }

-- ---- an order comes to a free row
pub come_indexed : (ix : List ℕ) (rs : List Row) (i : ℕ) (r : Row) → Indexed ix rs → i < length rs → free (get_or rs i zero_row) ≡ true → free r ≡ false → Indexed (came ix rs r.order i) (set rs i r)
unfolding came
come_indexed ix rs i r x h f l = go (roomy ix rs) (roomy_indexed ix rs x)
  where
    go : (kx : List ℕ) → Indexed kx rs × (used_of kx < 24576) → Indexed (placed (taken kx i) r.order i) (set rs i r)
    go kx w =
        let y : Indexed kx rs = w.0 in
        let u : used_of kx < 24576 = w.1 in
        let few : length rs ≤ 16000 = y.few in
        let jx : List ℕ = taken kx i in
        let s = taken_slots kx i in
        let v : used_of jx ≡ used_of kx = s 32768 (omega arith) in
        let p = place_does jx r.order i (taken_length kx i ∙ y.all.size) (omega arith) (omega (arith, same_filled kx jx s, y.all.used)) in
        let g : Grows kx (placed jx r.order i) = λ q a n. p.grows q a (λ z. n (sym (s q (omega arith)) ∙ z)) ∙ s q (omega arith) in
        as_many rs i r h (placed jx r.order i)
        (record {
          size = p.size ∙ taken_length kx i ∙ y.all.size;
          used = p.used;
          reach = set_reach rs i r h kx (placed jx r.order i) g y.all.reach (λ _. p.there);
          counts = λ b a. p.counts b ∙ taken_counts (is_free_below (length rs) (set rs i r)) (is_free_below (length rs) rs) i
              (free_new rs i r h ∙ l) (free_old rs i r h ∙ f) (free_else rs i r h) kx y.all.size (omega arith) y.all.counts b a;
        }) (omega (arith, p.more)) few

-- ---- an order left: its row is zero
pub gone_indexed : (ix : List ℕ) (rs : List Row) (i : ℕ) → Indexed ix rs → i < length rs → free (get_or rs i zero_row) ≡ false → Indexed (freed ix i) (set rs i zero_row)
gone_indexed ix rs i x h f =
    let few : length rs ≤ 16000 = x.few in
    let jx : List ℕ = freed ix i in
    let s = freed_slots ix i in
    as_many rs i zero_row h jx
    (record {
      size = freed_length ix i ∙ x.all.size;
      used = omega (arith, same_filled ix jx s, s 32768 (omega arith), x.all.used);
      reach = set_reach rs i zero_row h ix jx (slots_grow ix jx s) x.all.reach (λ t. absurd (true≢false (sym t ∙ zero_not_live)));
      counts = freed_counts (is_free_below (length rs) rs) (is_free_below (length rs) (set rs i zero_row)) i
          (free_old rs i zero_row h ∙ f) (free_new rs i zero_row h ∙ zero_free) (λ k n. sym (free_else rs i zero_row h k n)) ix x.all.size (omega arith) x.all.counts;
    }) (omega (arith, s 32768 (omega arith), x.room)) few

-- ---- a live order changed, and kept its ID: no work
pub change_indexed : (ix : List ℕ) (rs : List Row) (i : ℕ) (r : Row) → Indexed ix rs → i < length rs → live (get_or rs i zero_row) ≡ true → free r ≡ false → r.order ≡ (get_or rs i zero_row).order → Indexed ix (set rs i r)
change_indexed ix rs i r x h l m e =
    as_many rs i r h ix
    (record {
      size = x.all.size;
      used = x.all.used;
      reach = set_reach rs i r h ix ix (λ q a n. refl) x.all.reach (λ _. subst (λ (k : ℕ). Reaches ix (packed k i) slots (hash k)) (sym e) (x.all.reach i h l));
      counts = λ b a. x.all.counts b a ∙ count_same (is_free_below (length rs) rs) (is_free_below (length rs) (set rs i r)) 64 (64 * b)
          (λ k u v. free_same rs i r h (live_not_free (get_or rs i zero_row) l ∙ sym m) k);
    }) x.room x.few

-- ---- a hint is none of the index's numbers
pub hint_indexed : (ix : List ℕ) (rs : List Row) (symbol v : ℕ) → Indexed ix rs → Indexed (set ix (hint_at symbol) v) rs
hint_indexed ix rs symbol v x =
    let jx : List ℕ = set ix (hint_at symbol) v in
    let same : (q : ℕ) → q < 33019 → get_or jx q 0 ≡ get_or ix q 0 = λ q h. get_or-set_other ix (hint_at symbol) q v 0 (λ e. omega arith) in
    let s : SameSlots ix jx = λ q h. same q (omega arith) in
    record {
      all = record {
        size = length-set ix (hint_at symbol) v ∙ x.all.size;
        used = omega (arith, same_filled ix jx s, s 32768 (omega arith), x.all.used);
        reach = λ i h l. reached_keep ix jx rs i (slots_grow ix jx s) (x.all.reach i h l);
        counts = λ b h. same (32769 + b) (omega arith) ∙ x.all.counts b h;
      };
      few = x.few;
      room = omega (arith, s 32768 (omega arith), x.room);
    }
