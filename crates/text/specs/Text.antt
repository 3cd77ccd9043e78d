-- Text in a lent buffer, and what numbers and tickers look like on a sheet (document 01, "The sheet").
use Rattle.std.specs.Prelude.{ℕ, zero, suc, ◌+◌, ◌-◌, ◌/◌, ◌%◌, ◌≤◌, min, ◌≡◌, List, [], ◌∷◌, ◌++◌, map, length, ltb, leb, eqb, ℤ, pos, negsuc}
use Rattle.std.proofs.lemmas.List.Edits.{sets}
use Rattle.facts.specs.Pick.{pick, both}

-- the highest place that a number of 64 bits tells
abbrev pub last_place : ℕ
last_place = 18446744073709551615

-- "Every call's statement decides each number it returns and each byte of every lent table": b' is b with the text t stored from `at` on, as far as b reaches,
-- and r is the place behind the whole of t, stored or not. That place stays at the highest there is, and no lent buffer goes beyond it
pub record Wrote (b : List ℕ) (at : ℕ) (t b' : List ℕ) (r : ℕ) : Type 0 where
  pub bytes : b' ≡ sets b at t
  pub end : r ≡ at + min (length t) (last_place - at)
  pub lent : length b ≤ last_place

-- the decimal digits of n, at most f of them, the highest first (`more` is named so that it is computed only where it is taken)
unfoldable pub digits_of : ℕ → ℕ → List ℕ
digits_of zero n = []
digits_of (suc f) n = let more = digits_of f (n / 10) ++ ((48 + n % 10) ∷ []) in pick (ltb n 10) ((48 + n) ∷ []) more

-- "key=value lines", a value as in `second=34200`: as few digits as there can be, and `0` for none (`bad=0`). No number has more than n + 1 digits
unfoldable pub decimal_of : ℕ → List ℕ
decimal_of n = digits_of (suc n) n

-- "signed, so a crossed book is negative": a minus sign in front of a negative number (P9: "spread -20000")
unfoldable pub signed_of : ℤ → List ℕ
signed_of (pos n) = decimal_of n
signed_of (negsuc k) = (45 ∷ []) ++ decimal_of (suc k)

-- x in front of s, which ends in no space
unfoldable pub trim_cons : ℕ → List ℕ → List ℕ
trim_cons x [] = pick (eqb x 32) [] (x ∷ [])
trim_cons x (y ∷ s) = x ∷ y ∷ s

-- "trailing spaces of tickers dropped"
unfoldable pub trim_of : List ℕ → List ℕ
trim_of [] = []
trim_of (x ∷ s) = trim_cons x (trim_of s)

-- "other bytes outside 32 to 126 shown as a full stop"
unfoldable pub shown_of : ℕ → ℕ
shown_of x = pick (both (leb 32 x) (leb x 126)) x 46

-- "trailing spaces of tickers dropped, other bytes outside 32 to 126 shown as a full stop"
unfoldable pub ticker_of : List ℕ → List ℕ
ticker_of t = map shown_of (trim_of t)

-- "key=value lines .., each ended by one line feed"; the key is given with its equals sign
unfoldable pub line_of : List ℕ → List ℕ → List ℕ
line_of key value = key ++ (value ++ (10 ∷ []))

-- texts one after another, as a loop appends them: f 0, then f 1, up to f (n - 1)
unfoldable pub first_texts : (ℕ → List ℕ) → ℕ → List ℕ
first_texts f zero = []
first_texts f (suc n) = first_texts f n ++ f n
