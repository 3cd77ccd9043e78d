-- The ladder (document 01: "The ladder of a symbol and side is its price levels, bids from the highest, offers from the lowest: price, shares, number of orders").
use Rattle.std.specs.Prelude.{ℕ, ◌/◌, ◌-◌, List, [], ◌∷◌, ◌++◌, map, Bool, length, take, drop, eqb}
use Rattle.facts.specs.Pick.{pick, both}
use Rattle.facts.specs.Limits.{most_price}
use Rattle.facts.specs.Pieces.{join, put_piece}
use Rattle.facts.specs.Sums.{sum_by, only_if, count_by}
use Rattle.rows.specs.declared.Row.{Row}
use Rattle.rows.specs.Keys.{key_for, side_in}
use Rattle.rows.specs.Rows.{rows, good_rows}
use Rattle.rows.specs.Find.{of_key}
use Rattle.ascend.specs.Ascend.{places}
use Rattle.views.specs.declared.Level.{Level}
use Rattle.views.specs.declared.Side.{Side}

-- "buy 0, sell 1"
abbrev pub side_number : Side → ℕ
side_number Side.Buy = 0
side_number Side.Sell = 1

-- the key under which the rows of a symbol and side stand
unfoldable pub key_of : Side → ℕ → ℕ
key_of side s = key_for s (side_number side)

-- "bids from the highest, offers from the lowest": how far a price of the key lies from the best that there can be
unfoldable pub far : ℕ → ℕ → ℕ
far k p = pick (eqb (side_in k) 0) (most_price - p) p

-- a live order of the key at that price
unfoldable pub at_price : ℕ → ℕ → Row → Bool
at_price k p r = both (of_key k r) (eqb r.price p)

-- where the key's live orders lie, each place once, the nearest first
unfoldable pub places_of : ℕ → List Row → List ℕ
places_of k rs = places (of_key k) (λ r. far k r.price) rs

-- their prices, the best first; the price in a place is as far as the place
unfoldable pub prices : ℕ → List Row → List ℕ
prices k rs = map (far k) (places_of k rs)

-- the shares of a row that counts
abbrev pub size_at : ℕ → ℕ → Row → ℕ
size_at k p = only_if (at_price k p) (λ r. r.size)

-- "price, shares, number of orders"
unfoldable pub level_of : ℕ → List Row → ℕ → Level
level_of k rs p = record { price = p; shares = sum_by (size_at k p) rs; orders = count_by (at_price k p) rs }

-- "its price levels, bids from the highest, offers from the lowest"
unfoldable pub ladder : ℕ → List Row → List Level
ladder k rs = map (level_of k rs) (prices k rs)

-- "three 64-bit numbers each"
unfoldable pub three_of : Level → List ℕ
three_of l = l.price ∷ l.shares ∷ l.orders ∷ []

-- the numbers of the levels that n numbers hold whole
unfoldable pub fitting : List Level → ℕ → List ℕ
fitting ls n = join (map three_of (take (n / 3) ls))

-- "written into a lent run while a whole level fits. The rest of the run is untouched"
unfoldable pub written : List Level → List ℕ → List ℕ
written ls o = fitting ls (length o) ++ drop (length (fitting ls (length o))) o

-- one level written in its place, if it fits there whole
unfoldable pub put_level : List ℕ → ℕ → Level → List ℕ
put_level o j l = put_piece 3 o j (three_of l)

-- a number told, and the run behind it
pub record Laid : Type 0 where
  pub count : ℕ
  pub run : List ℕ

abbrev pub laid_out : ℕ → List ℕ → Laid
laid_out n o = record { count = n; run = o }

-- "The answer is the number of all levels, written or not"; of a table whose size is refused (6), none
unfoldable pub ladder_run : ℕ → List ℕ → List ℕ → Laid
ladder_run k t o = pick (good_rows (length t)) (laid_out (length (ladder k (rows t))) (written (ladder k (rows t)) o)) (laid_out 0 o)
