-- The spread (document 01: "The spread is best offer less best bid in millionths, signed, so a crossed book is negative; with a side empty the answer is none").
use Rattle.std.specs.Prelude.{ℕ, List, [], ◌∷◌, ℤ, pos, ◌-ℤ◌, Option, Some, None}
use Rattle.rows.specs.declared.Row.{Row}
use Rattle.views.specs.declared.Side.{Side}
use Rattle.views.specs.Ladder.{key_of, prices}

-- "best offer less best bid", of bids and offers with the best first; "with a side empty the answer is none"
unfoldable pub between : List ℕ → List ℕ → Option ℤ
between [] offers = None
between (b ∷ bids) [] = None
between (b ∷ bids) (a ∷ offers) = Some (pos a -ℤ pos b)

-- a symbol's
unfoldable pub spread_of : ℕ → List Row → Option ℤ
spread_of s rs = between (prices (key_of Side.Buy s) rs) (prices (key_of Side.Sell s) rs)
