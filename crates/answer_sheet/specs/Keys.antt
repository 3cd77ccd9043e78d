-- The fixed words of a sheet, as bytes (document 01: "Fixed key strings such as spread= and bid=").
use Rattle.std.specs.Prelude.{ℕ, List, [], ◌∷◌}
use Rattle.views.specs.declared.Side.{Side}

-- "recording="
unfoldable pub recording_key : List ℕ
recording_key = 114 ∷ 101 ∷ 99 ∷ 111 ∷ 114 ∷ 100 ∷ 105 ∷ 110 ∷ 103 ∷ 61 ∷ []

-- "bad="
unfoldable pub bad_key : List ℕ
bad_key = 98 ∷ 97 ∷ 100 ∷ 61 ∷ []

-- "next="
unfoldable pub next_key : List ℕ
next_key = 110 ∷ 101 ∷ 120 ∷ 116 ∷ 61 ∷ []

-- "stop="
unfoldable pub stop_key : List ℕ
stop_key = 115 ∷ 116 ∷ 111 ∷ 112 ∷ 61 ∷ []

-- "second="
unfoldable pub second_key : List ℕ
second_key = 115 ∷ 101 ∷ 99 ∷ 111 ∷ 110 ∷ 100 ∷ 61 ∷ []

-- "symbols="
unfoldable pub symbols_key : List ℕ
symbols_key = 115 ∷ 121 ∷ 109 ∷ 98 ∷ 111 ∷ 108 ∷ 115 ∷ 61 ∷ []

-- "orders="
unfoldable pub orders_key : List ℕ
orders_key = 111 ∷ 114 ∷ 100 ∷ 101 ∷ 114 ∷ 115 ∷ 61 ∷ []

-- "symbol="
unfoldable pub symbol_key : List ℕ
symbol_key = 115 ∷ 121 ∷ 109 ∷ 98 ∷ 111 ∷ 108 ∷ 61 ∷ []

-- "ticker="
unfoldable pub ticker_key : List ℕ
ticker_key = 116 ∷ 105 ∷ 99 ∷ 107 ∷ 101 ∷ 114 ∷ 61 ∷ []

-- "type="
unfoldable pub type_key : List ℕ
type_key = 116 ∷ 121 ∷ 112 ∷ 101 ∷ 61 ∷ []

-- "lot="
unfoldable pub lot_key : List ℕ
lot_key = 108 ∷ 111 ∷ 116 ∷ 61 ∷ []

-- "spread="
unfoldable pub spread_key : List ℕ
spread_key = 115 ∷ 112 ∷ 114 ∷ 101 ∷ 97 ∷ 100 ∷ 61 ∷ []

-- "bid="
unfoldable pub bid_key : List ℕ
bid_key = 98 ∷ 105 ∷ 100 ∷ 61 ∷ []

-- "ask="
unfoldable pub ask_key : List ℕ
ask_key = 97 ∷ 115 ∷ 107 ∷ 61 ∷ []

-- the key of a side's levels
unfoldable pub side_key : Side → List ℕ
side_key Side.Buy = bid_key
side_key Side.Sell = ask_key

-- ---- values that are words

-- "whole"
unfoldable pub whole_word : List ℕ
whole_word = 119 ∷ 104 ∷ 111 ∷ 108 ∷ 101 ∷ []

-- "cut"
unfoldable pub cut_word : List ℕ
cut_word = 99 ∷ 117 ∷ 116 ∷ []

-- "none"
unfoldable pub none_word : List ℕ
none_word = 110 ∷ 111 ∷ 110 ∷ 101 ∷ []
