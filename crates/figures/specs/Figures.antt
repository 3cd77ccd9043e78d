-- Numbers, prices and times as a line has them (docs/TEXT.md, "Forms").
use Rattle.std.specs.Prelude.{ℕ, zero, suc, ◌+◌, ◌-◌, ◌*◌, ◌/◌, ◌%◌, Bool, List, [], ◌∷◌, ◌++◌, length, take, drop, get_or, replicate, eqb, leb, ltb, ◌==◌, position, Option, Some, None}
use Rattle.facts.specs.Pick.{pick, both}
use Rattle.words.specs.Types.{all_from, decimal_from}
use Rattle.text.specs.Text.{decimal_of}

-- ---- numbers
-- "one or more digits, of any number" up to `most`
unfoldable pub number_in : ℕ → List ℕ → Option ℕ
number_in most s = pick (both (leb 1 (length s)) (both (all_from 48 57 s) (leb (decimal_from 0 s) most))) (Some (decimal_from 0 s)) None

-- the last k digits of n, zeros in front
unfoldable pub places_of : ℕ → ℕ → List ℕ
places_of zero n = []
places_of (suc k) n = places_of k (n / 10) ++ ((48 + n % 10) ∷ [])

-- ---- prices
-- "dollars, one or more digits of a number up to 1,000,000,000"
abbrev pub most_dollars : ℕ
most_dollars = 1000000000

-- "one to six digits more": millionths, as if zeros (48) stood behind them up to six places
unfoldable pub millionths_in : List ℕ → Option ℕ
millionths_in s = pick (both (leb 1 (length s)) (leb (length s) 6)) (number_in 999999 (s ++ replicate (6 - length s) 48)) None

unfoldable pub priced : Option ℕ → Option ℕ → Option ℕ
priced (Some d) (Some m) = Some (1000000 * d + m)
priced (Some d) None = None
priced None m = None

-- "and, if wanted, a full stop and one to six digits more": the full stop at place p, or none
unfoldable pub price_at : Option ℕ → List ℕ → Option ℕ
price_at (Some p) s = priced (number_in most_dollars (take p s)) (millionths_in (drop (p + 1) s))
price_at None s = priced (number_in most_dollars s) (Some 0)

-- 46 is the full stop
unfoldable pub price_in : List ℕ → Option ℕ
price_in s = price_at (position (λ x. x == 46) s) s

-- "It is written with six places"
unfoldable pub price_text : ℕ → List ℕ
price_text n = decimal_of (n / 1000000) ++ (46 ∷ places_of 6 n)

-- ---- times
unfoldable pub timed : Option ℕ → Option ℕ → Option ℕ → Option ℕ
timed (Some h) (Some m) (Some s) = Some (3600 * h + 60 * m + s)
timed (Some h) (Some m) None = None
timed (Some h) None s = None
timed None m s = None

-- "eight bytes, .. with colons between them" (58 is a colon)
unfoldable pub coloned : List ℕ → Bool
coloned s = both (eqb (length s) 8) (both (eqb (get_or s 2 0) 58) (eqb (get_or s 5 0) 58))

-- "hours, minutes and seconds in two digits each .., from `00:00:00` to `23:59:59`"
unfoldable pub hours_in : List ℕ → Option ℕ
hours_in s = timed (number_in 23 (take 2 s)) (number_in 59 (take 2 (drop 3 s))) (number_in 59 (drop 6 s))

-- "a number as above" of four bytes; "or eight bytes, hours, minutes and seconds"
unfoldable pub clock_in : List ℕ → Option ℕ
clock_in s = pick (coloned s) (hours_in s) (number_in 4294967295 s)

-- "A second below 86,400 is written so, any other as a number"
unfoldable pub hours_text : ℕ → List ℕ
hours_text n = places_of 2 (n / 3600) ++ (58 ∷ (places_of 2 (n / 60 % 60) ++ (58 ∷ places_of 2 (n % 60))))

unfoldable pub clock_text : ℕ → List ℕ
clock_text n = pick (ltb n 86400) (hours_text n) (decimal_of n)
