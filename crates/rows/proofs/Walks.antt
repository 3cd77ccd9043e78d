-- A walk over a table takes one row off the rows left, so a search, a sum or a count of those left goes on from the next row.
-- Assumes nothing.
use mathlib.Core.Path.{◌≡◌, refl, sym, ap, ◌∙◌}
use mathlib.Core.List.{List, [], ◌∷◌, map}
use mathlib.Core.Bool.{Bool, true, false}
use Prim.Native.Nat.{ℕ, suc, ◌+◌, ◌*◌, ◌≤◌, ◌<◌}
use native.Mathlib.Nat.{sub-zero}
use native.Mathlib.Numerals.{add-one}
use native.Mathlib.Omega.{arith}
use lib.ListN.{length, get_or, drop}
use Rattle.std.specs.Prelude.{position, cond, filter}
use Rattle.std.specs.List.{position_from}
use Rattle.std.proofs.lemmas.Iterator.Adapters.{position_from-zero}
use Rattle.facts.specs.Pick.{pick}
use Rattle.facts.specs.Search.{first}
use Rattle.facts.specs.Sums.{sum_by, only_if, count_by}
use Rattle.std.specs.Prelude.{Some, None}
use Rattle.facts.proofs.Lists.{map_to, map_more, map_all}
use Rattle.facts.proofs.Searches.{first_hit, first_miss, first_end, first_at}
use Rattle.facts.proofs.SumLaws.{sum_step, sum_end, sum_bound, only_bound}
use Rattle.facts.proofs.CountLaws as counts
use Rattle.rows.specs.declared.Row.{Row}
use Rattle.rows.specs.Rows.{row_of, rows, row_count, put_row, zero_row, free, live}
use Rattle.rows.specs.Find.{is_order, find_order, find_free, count_live}
use Rattle.rows.proofs.Tables.{length_rows, rows_put}
use Rattle.rows.proofs.Judged.{live_ranges}

-- ---- searches: a walk at row i, and where a found row lies
module _ (p : Row → Bool) (t : List ℕ) (i : ℕ) where
  pub row_hit : i < row_count t → p (get_or (rows t) i zero_row) ≡ true → first p i (drop i (rows t)) ≡ Some i
  row_hit h e = first_hit p (rows t) i zero_row (rw length_rows h) e

  pub row_miss : i < row_count t → p (get_or (rows t) i zero_row) ≡ false → first p i (drop i (rows t)) ≡ first p (i + 1) (drop (i + 1) (rows t))
  row_miss h e = first_miss p (rows t) i zero_row (rw length_rows h) e

  pub row_end : row_count t ≤ i → first p i (drop i (rows t)) ≡ None
  row_end h = first_end p (rows t) i (rw length_rows h)

  pub row_below : first p 0 (rows t) ≡ Some i → (i < row_count t) × (p (get_or (rows t) i zero_row) ≡ true)
  row_below e = let w = first_at p 0 (rows t) i zero_row e in (omega (arith, w.1, length_rows t), rw (sub-zero i) at w.2)

pub order_below : (id : ℕ) (t : List ℕ) (i : ℕ) → find_order id (rows t) ≡ Some i → (i < row_count t) × (is_order id (get_or (rows t) i zero_row) ≡ true)
unfolding find_order
order_below id t i e = row_below (is_order id) t i e

pub free_row_below : (t : List ℕ) (i : ℕ) → find_free (rows t) ≡ Some i → (i < row_count t) × (free (get_or (rows t) i zero_row) ≡ true)
unfolding find_free
free_row_below t i e = row_below free t i e

-- ---- searches as std makes them, over the numbers of each row
pick_cond : {A : Type 0} (b : Bool) (x y : A) → pick b x y ≡ cond b x y
unfolding pick
pick_cond true x y = refl
pick_cond false x y = refl

module _ {A B : Type 0} (p : B → Bool) (f : A → B) where
  from_position : (i : ℕ) (xs : List A) → first p i (map f xs) ≡ position_from (λ x. p (f x)) i xs
  unfolding first
  from_position i [] = refl
  from_position i (x ∷ xs) = pick_cond (p (f x)) (Some i) (first p (suc i) (map f xs)) ∙ ap (cond (p (f x)) (Some i)) (rw add-one (from_position (suc i) xs))

  pub first_position : (xs : List A) → first p 0 (map f xs) ≡ position (λ x. p (f x)) xs
  first_position xs = from_position 0 xs ∙ sym (position_from-zero (λ x. p (f x)) xs)

counted : {A B : Type 0} (p : B → Bool) (f : A → B) (xs : List A) → length (filter (λ x. p (f x)) xs) ≡ sum_by (only_if p (λ x. 1)) (map f xs)
unfolding sum_by only_if pick
counted p f [] = refl
counted p f (x ∷ xs) = go (p (f x)) (counted p f xs)
  where
    go : (b : Bool) → length (filter (λ x. p (f x)) xs) ≡ sum_by (only_if p (λ x. 1)) (map f xs) → length (cond b (x ∷ filter (λ x. p (f x)) xs) (filter (λ x. p (f x)) xs)) ≡ pick b 1 0 + sum_by (only_if p (λ x. 1)) (map f xs)
    go true h = omega arith
    go false h = omega arith

pub live_filtered : (xs : List (List ℕ)) → length (filter (λ x. live (row_of x)) xs) ≡ count_live (map row_of xs)
unfolding count_live count_by
live_filtered xs = counted live row_of xs

-- ---- sums and counts: a walk at row i
module _ (f : Row → ℕ) (t : List ℕ) (i : ℕ) where
  pub sum_row : i < row_count t → sum_by f (drop i (rows t)) ≡ f (get_or (rows t) i zero_row) + sum_by f (drop (i + 1) (rows t))
  sum_row h = sum_step f (rows t) i zero_row (rw length_rows h)

  pub sum_past : row_count t ≤ i → sum_by f (drop i (rows t)) ≡ 0
  sum_past h = sum_end f (rows t) i (rw length_rows h)

module _ (p : Row → Bool) (t : List ℕ) (i : ℕ) where
  pub count_yes : i < row_count t → p (get_or (rows t) i zero_row) ≡ true → count_by p (drop i (rows t)) ≡ 1 + count_by p (drop (i + 1) (rows t))
  count_yes h e = counts.count_yes p (rows t) i zero_row (rw length_rows h) e

  pub count_no : i < row_count t → p (get_or (rows t) i zero_row) ≡ false → count_by p (drop i (rows t)) ≡ count_by p (drop (i + 1) (rows t))
  count_no h e = counts.count_no p (rows t) i zero_row (rw length_rows h) e

  pub count_past : row_count t ≤ i → count_by p (drop i (rows t)) ≡ 0
  count_past h = counts.count_end p (rows t) i (rw length_rows h)

-- shares of live rows
pub shares_bound : (p : Row → Bool) → ((r : Row) → p r ≡ true → live r ≡ true) → (rs : List Row) → sum_by (only_if p (λ r. r.size)) rs ≤ 4294967295 * length rs
shares_bound p l rs =
    sum_bound (only_if p (λ r. r.size)) 4294967295 (only_bound p (λ r. r.size) 4294967295 (λ r e. (live_ranges r (l r e)).size_top)) rs

-- ---- a walk that changes each row: at row i of what came of t
module _ (f : Row → Row) (t : List ℕ) (i : ℕ) where
  pub map_row : (u : List ℕ) → i < row_count t → rows u ≡ map_to f i (rows t) → rows (put_row u i (f (get_or (rows u) i zero_row))) ≡ map_to f (i + 1) (rows t)
  map_row u h e = rows_put u i (f (get_or (rows u) i zero_row)) ∙ rw e (map_more f (rows t) i zero_row (rw length_rows h))

  pub map_past : row_count t ≤ i → map_to f i (rows t) ≡ map f (rows t)
  map_past h = map_all f (rows t) i (rw length_rows h)
