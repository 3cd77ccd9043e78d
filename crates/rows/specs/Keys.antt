-- A row's key, which holds symbol and side in one number (document 01: "symbol ID times 2 plus side (buy 0, sell 1)"). Nothing else says how.
use Rattle.std.specs.Prelude.{ℕ, ◌+◌, ◌*◌, ◌/◌, ◌%◌, eqb}
use Rattle.facts.specs.Pick.{pick}

-- "symbol ID times 2 plus side"
abbrev pub key_for : ℕ → ℕ → ℕ
key_for symbol side = symbol * 2 + side

-- and the two out of it
abbrev pub symbol_in : ℕ → ℕ
symbol_in key = key / 2

abbrev pub side_in : ℕ → ℕ
side_in key = key % 2

-- "side (buy 0, sell 1)", by the letter of a message, `B` or `S`
unfoldable pub side_of : ℕ → ℕ
side_of letter = pick (eqb letter 66) 0 1
