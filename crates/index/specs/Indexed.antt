-- What the index owes to the rows while nobody else alters either.
use Rattle.std.specs.Prelude.{ℕ, zero, suc, ◌+◌, ◌*◌, ◌≤◌, ◌<◌, ◌≡◌, List, Bool, true, not, length, get_or, ltb, eqb}
use Rattle.facts.specs.Pick.{pick, both}
use Rattle.rows.specs.declared.Row.{Row}
use Rattle.rows.specs.Rows.{zero_row, free, live}
use Rattle.facts.specs.Limits.{most_rows}
use Rattle.index.specs.Index.{index_size, slots, used_of, count_of, packed, hash, next}

-- how many of the n numbers from i on pass
unfoldable pub count_at : (ℕ → Bool) → ℕ → ℕ → ℕ
count_at p zero i = 0
count_at p (suc n) i = pick (p i) 1 0 + count_at p n (suc i)

-- the slots that are not empty
unfoldable pub is_filled : List ℕ → ℕ → Bool
is_filled ix p = not (eqb (get_or ix p 0) 0)

-- the rows below n that are free
unfoldable pub is_free_below : ℕ → List Row → ℕ → Bool
is_free_below n rs k = both (ltb k n) (free (get_or rs k zero_row))

-- s stands within n slots from p on, with no empty one before it
pub data Reaches (ix : List ℕ) (s : ℕ) : ℕ → ℕ → Type 0 where
  here : {n p : ℕ} → get_or ix p 0 ≡ s → Reaches ix s (suc n) p
  on : {n p : ℕ} → (get_or ix p 0 ≡ 0 → ⊥) → Reaches ix s n (next p) → Reaches ix s (suc n) p

-- the index of the first n rows
pub record Upto (n : ℕ) (ix : List ℕ) (rs : List Row) : Type 0 where
  pub size : length ix ≡ index_size
  pub used : count_at (is_filled ix) slots 0 ≤ used_of ix
  pub reach : (i : ℕ) → i < n → live (get_or rs i zero_row) ≡ true → Reaches ix (packed (get_or rs i zero_row).order i) slots (hash (get_or rs i zero_row).order)
  pub counts : (b : ℕ) → b < 250 → count_of ix b ≡ count_at (is_free_below n rs) 64 (64 * b)

pub record Indexed (ix : List ℕ) (rs : List Row) : Type 0 where
  pub all : Upto (length rs) ix rs
  pub few : length rs ≤ most_rows
  pub room : used_of ix ≤ 24576
