-- A row is a piece of five numbers, so the laws of tables are those of pieces.
-- Assumes nothing.
use mathlib.Core.Path.{◌≡◌, refl, ap, ◌∙◌}
use mathlib.Core.List.{List, [], ◌∷◌, ◌++◌, map}
use mathlib.Core.Bool.{Bool, true, false}
use Prim.Native.Nat.{ℕ, zero, suc, ◌*◌, ◌/◌, ◌≤◌, ◌<◌}
use native.Mathlib.Nat.{mod-lt, mod_def}
use native.Mathlib.Omega.{arith}
use lib.ListN.{length, get_or, set, take, drop, replicate, length-replicate, get_or-replicate, length-drop, length-map, get_or-map, get_or-eq_default}
use lib.Seq.{get_or-set_same, get_or-set_other}
use lib.Dec.{ltb}
use borrow.Author.Tests.{ltb-true, ltb-false}
use Rattle.std.specs.Simd.{first_chunks}
use Rattle.facts.specs.Pieces.{cut, pieces}
use Rattle.facts.proofs.PieceLaws.{length_pieces, get_or_pieces, put_out, length_put, put_self, pieces_replicate, map_replicate, length_piece, length_join, wide_map, values_put, values_join, rest_put, rest_values, values_rest}
use Rattle.rows.specs.declared.Row.{Row}
use Rattle.rows.specs.Rows.{row_of, numbers_of, rows, row_count, rest, flat, put_row, zero_row}

-- ---- a row and its five numbers
pub length_numbers : (r : Row) → length (numbers_of r) ≡ 5
unfolding numbers_of
length_numbers r = refl

row_numbers : (r : Row) → row_of (numbers_of r) ≡ r
unfolding row_of numbers_of
row_numbers r = refl

numbers_row : (x : List ℕ) → length x ≡ 5 → numbers_of (row_of x) ≡ x
unfolding row_of numbers_of
numbers_row (a ∷ b ∷ c ∷ d ∷ e ∷ []) h = refl
numbers_row [] h = absurd (omega arith)
numbers_row (a ∷ []) h = absurd (omega arith)
numbers_row (a ∷ b ∷ []) h = absurd (omega arith)
numbers_row (a ∷ b ∷ c ∷ []) h = absurd (omega arith)
numbers_row (a ∷ b ∷ c ∷ d ∷ []) h = absurd (omega arith)
numbers_row (a ∷ b ∷ c ∷ d ∷ e ∷ f ∷ x) h = absurd (omega arith)

-- ---- tables and their rows
pub length_rows : (t : List ℕ) → length (rows t) ≡ row_count t
unfolding rows
length_rows t = length-map (pieces 5 t) row_of ∙ length_pieces 5 t

-- pieces as std cuts a slice
chunks_cut : (w n : ℕ) (t : List ℕ) → first_chunks w n t ≡ cut w n t
unfolding cut
chunks_cut w zero t = refl
chunks_cut w (suc n) t = rw (chunks_cut w n (drop w t))

pub rows_chunks : (t : List ℕ) → map row_of (first_chunks 5 (row_count t) t) ≡ rows t
unfolding rows pieces
rows_chunks t = rw (chunks_cut 5 (row_count t) t)

pub length_flat : (rs : List Row) → length (flat rs) ≡ 5 * length rs
unfolding flat
length_flat rs = length_join 5 (map numbers_of rs) (wide_map 5 row_of numbers_of length_numbers rs) ∙ ap (λ (n : ℕ). 5 * n) (length-map rs numbers_of)

pub rows_flat : (rs : List Row) → rows (flat rs) ≡ rs
unfolding rows flat
rows_flat rs = values_join 5 row_of numbers_of (omega arith) length_numbers row_numbers rs

pub length_put_row : (t : List ℕ) (i : ℕ) (r : Row) → length (put_row t i r) ≡ length t
unfolding put_row
length_put_row t i r = length_put 5 t i (numbers_of r)

pub rows_put : (t : List ℕ) (i : ℕ) (r : Row) → rows (put_row t i r) ≡ set (rows t) i r
unfolding rows put_row
rows_put t i r = values_put 5 row_of numbers_of length_numbers row_numbers t i r

pub rows_zero : (n : ℕ) → rows (replicate n 0) ≡ replicate (n / 5) zero_row
unfolding rows row_of zero_row
rows_zero n = rw (pieces_replicate {A = ℕ} 5 n 0) (map_replicate row_of (n / 5) (replicate 5 0))

-- every row of a wiped table is the zero row, and so is what lies past the last
pub wiped_row : (n i : ℕ) → get_or (rows (replicate n 0)) i zero_row ≡ zero_row
wiped_row n i = rw rows_zero (go (ltb i (n / 5)) refl)
  where
    go : (b : Bool) → ltb i (n / 5) ≡ b → get_or (replicate (n / 5) zero_row) i zero_row ≡ zero_row
    go true e = get_or-replicate (n / 5) i zero_row zero_row (ltb-true i (n / 5) e)
    go false e = get_or-eq_default (replicate (n / 5) zero_row) zero_row (rw length-replicate (ltb-false i (n / 5) e))

-- ---- a table of any length is its rows and the rest
pub length_rest : (t : List ℕ) → length (rest t) < 5
unfolding rest
length_rest t = rw (length-drop, ← mod_def (length t) 5) (mod-lt (length t) (omega arith))

pub flat_rest : (t : List ℕ) → flat (rows t) ++ rest t ≡ t
unfolding rows flat rest
flat_rest t = values_rest 5 row_of numbers_of numbers_row t

pub rows_rest : (rs : List Row) (x : List ℕ) → length x < 5 → rows (flat rs ++ x) ≡ rs
unfolding rows flat
rows_rest rs x h = rest_values 5 row_of numbers_of length_numbers row_numbers rs x h

pub rest_put_row : (t : List ℕ) (i : ℕ) (r : Row) → rest (put_row t i r) ≡ rest t
unfolding rest put_row
rest_put_row t i r = rw (length_put 5 t i (numbers_of r)) (rest_put 5 t i (numbers_of r) (length_numbers r))

-- ---- the rows after one is put
pub row_put_same : (t : List ℕ) (i : ℕ) (r : Row) → i < row_count t → get_or (rows (put_row t i r)) i zero_row ≡ r
row_put_same t i r h = rw (rows_put t i r) (get_or-set_same (rows t) i r zero_row (rw length_rows h))

pub row_put_other : (t : List ℕ) (i : ℕ) (r : Row) (j : ℕ) → (j ≡ i → ⊥) → get_or (rows (put_row t i r)) j zero_row ≡ get_or (rows t) j zero_row
row_put_other t i r j n = rw (rows_put t i r) (get_or-set_other (rows t) i j r zero_row n)

-- ---- where the numbers lie
pub get_d_rows : (t : List ℕ) (i : ℕ) → get_or (rows t) i zero_row ≡ row_of (get_or (pieces 5 t) i [])
unfolding rows row_of zero_row
get_d_rows t i = get_or-map row_of (pieces 5 t) i []

pub put_row_past : (t : List ℕ) (i : ℕ) (r : Row) → row_count t ≤ i → put_row t i r ≡ t
unfolding put_row
put_row_past t i r h = put_out 5 t i (numbers_of r) h

-- a row put where it lies already
pub put_row_self : (t : List ℕ) (i : ℕ) → put_row t i (get_or (rows t) i zero_row) ≡ t
unfolding put_row
put_row_self t i = go (ltb i (row_count t)) refl
  where
    go : (b : Bool) → ltb i (row_count t) ≡ b → put_row t i (get_or (rows t) i zero_row) ≡ t
    go true e =
        let h : i < row_count t = ltb-true i (row_count t) e in
        rw (get_d_rows t i, get_or_pieces 5 t i [] h, numbers_row (take 5 (drop (5 * i) t)) (length_piece 5 t i h)) (put_self 5 t i)
    go false e = put_row_past t i (get_or (rows t) i zero_row) (ltb-false i (row_count t) e)
