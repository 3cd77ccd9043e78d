-- Free, live and good are tests of numbers, so each is the facts that its tests name.
-- Assumes nothing.
use mathlib.Core.Path.{◌≡◌, refl, sym, ◌∙◌}
use mathlib.Core.Bool.{Bool, true, false, true≢false}
use Prim.Native.Nat.{ℕ, ◌≤◌, ◌<◌}
use native.Mathlib.Omega.{arith}
use lib.Dec.{eqb}
use borrow.Author.Tests.{le-leb, lt-ltb, eq-eqb, ne_eqb, leb-true, ltb-true, eqb-true}
use Rattle.facts.specs.Limits.{most_price, most_rows}
use Rattle.facts.specs.Pick.{both, either}
use Rattle.facts.proofs.Picks.{refuted, both_true}
use Rattle.facts.proofs.TableLaws.{Fits, good_fits, fits_good}
use Rattle.rows.specs.declared.Row.{Row}
use Rattle.rows.specs.Rows.{zero_row, symbol_of, free, live, spoiled, good_rows}
use Rattle.rows.specs.Find.{is_order, of_symbol, of_key}

-- ---- free
pub record Zeros (r : Row) : Type 0 where
  pub order : r.order ≡ 0
  pub key : r.key ≡ 0
  pub price : r.price ≡ 0
  pub size : r.size ≡ 0
  pub rank : r.rank ≡ 0

pub free_zeros : (r : Row) → free r ≡ true → Zeros r
unfolding free
free_zeros r e =
    let a = both_true e in
    let b = both_true a.1 in
    let c = both_true b.1 in
    let d = both_true c.1 in
    record { order = eqb-true _ _ a.0; key = eqb-true _ _ b.0; price = eqb-true _ _ c.0; size = eqb-true _ _ d.0; rank = eqb-true _ _ d.1 }

pub zeros_free : (r : Row) → Zeros r → free r ≡ true
unfolding free both
zeros_free r z = simp (z.order, z.key, z.price, z.size, z.rank)

pub not_free : (r : Row) → (Zeros r → ⊥) → false ≡ free r
not_free r h = refuted (free r) (λ e. h (free_zeros r e))

pub zero_free : free zero_row ≡ true
unfolding free zero_row both
zero_free = refl

-- ---- live
pub record Ranges (r : Row) : Type 0 where
  pub ranked : 1 ≤ r.rank
  pub symbol : symbol_of r < 4294967296
  pub priced : 1 ≤ r.price
  pub price_top : r.price ≤ most_price
  pub sized : 1 ≤ r.size
  pub size_top : r.size ≤ 4294967295

pub live_ranges : (r : Row) → live r ≡ true → Ranges r
unfolding live
live_ranges r e =
    let a = both_true e in
    let b = both_true a.1 in
    let c = both_true b.1 in
    let d = both_true c.1 in
    let f = both_true d.1 in
    record {
      ranked = leb-true _ _ a.0;
      symbol = ltb-true _ _ b.0;
      priced = leb-true _ _ c.0;
      price_top = leb-true _ _ d.0;
      sized = leb-true _ _ f.0;
      size_top = leb-true _ _ f.1;
    }

pub ranges_live : (r : Row) → Ranges r → live r ≡ true
unfolding live both
ranges_live r h = simp (le-leb _ _ h.ranked, lt-ltb _ _ h.symbol, le-leb _ _ h.priced, le-leb _ _ h.price_top, le-leb _ _ h.sized, le-leb _ _ h.size_top)

pub not_live : (r : Row) → (Ranges r → ⊥) → false ≡ live r
not_live r h = refuted (live r) (λ e. h (live_ranges r e))

-- ---- exactly one of free, live and spoiled
pub live_not_free : (r : Row) → live r ≡ true → free r ≡ false
live_not_free r l = sym (not_free r (λ z. omega (arith, (live_ranges r l).ranked, z.rank)))

pub free_not_live : (r : Row) → free r ≡ true → live r ≡ false
free_not_live r f = sym (not_live r (λ w. omega (arith, w.ranked, (free_zeros r f).rank)))

pub data RowState (r : Row) : Type 0 where
  row_is_free : free r ≡ true → live r ≡ false → spoiled r ≡ false → RowState r
  row_is_live : free r ≡ false → live r ≡ true → spoiled r ≡ false → RowState r
  row_is_spoiled : free r ≡ false → live r ≡ false → spoiled r ≡ true → RowState r

pub row_state : (r : Row) → RowState r
unfolding spoiled either
row_state r = go (free r) refl (live r) refl
  where
    go : (f : Bool) → free r ≡ f → (l : Bool) → live r ≡ l → RowState r
    go true p l q = row_is_free p (free_not_live r p) (rw p)
    go false p true q = row_is_live p q (rw (p, q))
    go false p false q = row_is_spoiled p q (rw (p, q))

pub zero_not_live : live zero_row ≡ false
zero_not_live = free_not_live zero_row zero_free

pub zero_unspoiled : spoiled zero_row ≡ false
unfolding spoiled either
zero_unspoiled = rw zero_free refl

pub spoiled_not_live : (r : Row) → spoiled r ≡ true → live r ≡ false
spoiled_not_live r e = go (row_state r)
  where
    go : RowState r → live r ≡ false
    go (row_is_free p q s) = q
    go (row_is_live p q s) = absurd (true≢false (sym e ∙ s))
    go (row_is_spoiled p q s) = q

-- ---- sizes of tables
abbrev pub RowsFit : ℕ → Type 0
RowsFit = Fits 5 most_rows

pub good_rows_lem : (n : ℕ) → good_rows n ≡ true → RowsFit n
unfolding good_rows
good_rows_lem n e = good_fits 5 most_rows n e

pub rows_good : (n : ℕ) → RowsFit n → good_rows n ≡ true
unfolding good_rows
rows_good n h = fits_good 5 most_rows n h

-- ---- a number that decides before the row is judged
pub other_number : (a b : ℕ) (l : Bool) → (a ≡ b → ⊥) → false ≡ both (eqb a b) l
unfolding both
other_number a b l n = rw (ne_eqb a b n)

pub same_number : (a b : ℕ) (l : Bool) → a ≡ b → l ≡ both (eqb a b) l
unfolding both
same_number a b l e = rw (eq-eqb a b e)

both_is : {a b : ℕ} {l : Bool} → both (eqb a b) l ≡ true → (a ≡ b) × (l ≡ true)
both_is e = let w = both_true e in (eqb-true _ _ w.0, w.1)

pub order_is : (id : ℕ) (r : Row) → is_order id r ≡ true → (r.order ≡ id) × (live r ≡ true)
unfolding is_order
order_is id r e = both_is e

pub symbol_is : (s : ℕ) (r : Row) → of_symbol s r ≡ true → (symbol_of r ≡ s) × (live r ≡ true)
unfolding of_symbol
symbol_is s r e = both_is e

pub key_is : (k : ℕ) (r : Row) → of_key k r ≡ true → (r.key ≡ k) × (live r ≡ true)
unfolding of_key
key_is k r e = both_is e

-- ---- and the other way round: what the row is decides the test
pub is_this : (id : ℕ) (r : Row) → r.order ≡ id → live r ≡ true → is_order id r ≡ true
unfolding is_order
is_this id r e l = sym (same_number r.order id (live r) e) ∙ l

pub of_key_lem : (k : ℕ) (r : Row) → r.key ≡ k → live r ≡ true → of_key k r ≡ true
unfolding of_key
of_key_lem k r e l = sym (same_number r.key k (live r) e) ∙ l

pub other_symbol : (s : ℕ) (r : Row) → (symbol_of r ≡ s → ⊥) → of_symbol s r ≡ false
unfolding of_symbol
other_symbol s r n = sym (other_number (symbol_of r) s (live r) n)

pub dead_symbol : (s : ℕ) (r : Row) → live r ≡ false → of_symbol s r ≡ false
dead_symbol s r l = sym (refuted (of_symbol s r) (λ e. true≢false (sym (symbol_is s r e).1 ∙ l)))

pub dead_order : (id : ℕ) (r : Row) → live r ≡ false → is_order id r ≡ false
dead_order id r l = sym (refuted (is_order id r) (λ e. true≢false (sym (order_is id r e).1 ∙ l)))

both_yes : (b : Bool) → both b true ≡ b
unfolding both
both_yes true = refl
both_yes false = refl

pub live_symbol : (s : ℕ) (r : Row) → live r ≡ true → of_symbol s r ≡ eqb (symbol_of r) s
unfolding of_symbol
live_symbol s r l = rw l (both_yes (eqb (symbol_of r) s))
