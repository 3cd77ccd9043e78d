-- Packets of the exercises, written byte by byte (document 01, "From the tap" and "Message bodies"; docs/MESSAGES.md). Opening and closing times,
-- trade IDs and reserved bytes, which nothing judges, are zeros, and so are the nanoseconds, which are good up to 999,999,999 (request 6). Byte 20 of a Symbol
-- Update is an E, so that the same packets are good in every edition (request 10).
use Rattle.std.specs.Prelude.{ℕ, ◌-◌, List, [], ◌∷◌, ◌++◌, map, length, replicate, get_or}
use Rattle.facts.specs.Pieces.{join}
use Rattle.wire.specs.Le.{to_le}

-- "A record is: sequence number, 8 bytes; body length, 2 bytes; body"
unfoldable pub numbered : ℕ → List ℕ → List ℕ
numbered n body = to_le 8 n ++ (to_le 2 (length body) ++ body)

-- nanoseconds, 4 bytes
abbrev pub nanoseconds : List ℕ
nanoseconds = replicate 4 0

-- "System Time": seconds 1-4
unfoldable pub system_time : ℕ → List ℕ
system_time seconds = 49 ∷ to_le 4 seconds

-- "Symbol Update": symbol 5-8, ticker 9-19, security type or reserved 20, test 21 (N), lot 23-24, opening 25-32, closing 33-40, market 41 (H)
unfoldable pub symbol_update : ℕ → List ℕ → ℕ → ℕ → List ℕ
symbol_update symbol ticker security lot =
    1 ∷ nanoseconds ++ (to_le 4 symbol ++ (ticker ++ (security ∷ 78 ∷ 0 ∷ to_le 2 lot ++ (replicate 16 0 ++ (72 ∷ [])))))

-- "side `B` or `S`"
abbrev pub buy : ℕ
buy = 66

abbrev pub sell : ℕ
sell = 83

-- "Add Order": symbol 5-8, order 9-16, side 17, price 18-25, size 26-29, attributable ID 30-33
unfoldable pub add_order : ℕ → ℕ → ℕ → ℕ → ℕ → List ℕ
add_order symbol order side price size =
    20 ∷ nanoseconds ++ (to_le 4 symbol ++ (to_le 8 order ++ (side ∷ to_le 8 price ++ (to_le 4 size ++ replicate 4 32))))

-- "in flags, bit 0 tells the position"
abbrev pub bit0_clear : ℕ
bit0_clear = 0

abbrev pub bit0_set : ℕ
bit0_set = 1

-- "Modify Order": symbol 5-8, order 9-16, price 17-24, size 25-28, flags 29
unfoldable pub modify_order : ℕ → ℕ → ℕ → ℕ → ℕ → List ℕ
modify_order symbol order price size flags =
    21 ∷ nanoseconds ++ (to_le 4 symbol ++ (to_le 8 order ++ (to_le 8 price ++ (to_le 4 size ++ (flags ∷ [])))))

-- Order Execution (4.9): symbol 5-8, order 9-16, trade 17-24, price 25-32, size 33-36, flags 37
unfoldable pub execution : ℕ → ℕ → ℕ → ℕ → List ℕ
execution symbol order price size =
    24 ∷ nanoseconds ++ (to_le 4 symbol ++ (to_le 8 order ++ (replicate 8 0 ++ (to_le 8 price ++ (to_le 4 size ++ (0 ∷ []))))))

-- "Security Type, `E` or `F`" (request 10)
abbrev pub letter_e : ℕ
letter_e = 69

-- ABC, "Alphanumeric": eleven bytes, with spaces behind
abbrev pub abc : List ℕ
abc = 65 ∷ 66 ∷ 67 ∷ replicate 8 32

-- "Whole example, for numbers 1 to 5: second 34200; symbol 7, ABC, lot 100; buy 500 at 10.000000 for 100; sell 501 at 10.020000 for 200; buy 502 at
-- 10.000000 for 50"
unfoldable pub example : List (List ℕ)
example =
    system_time 34200
    ∷ symbol_update 7 abc letter_e 100
    ∷ add_order 7 500 buy 10000000 100
    ∷ add_order 7 501 sell 10020000 200
    ∷ add_order 7 502 buy 10000000 50
    ∷ []

-- one packet with these numbers of the example, in this order
unfoldable pub of_example : List ℕ → List ℕ
of_example numbers = join (map (λ n. numbered n (get_or example (n - 1) [])) numbers)

-- all of the example in one packet
unfoldable pub whole_example : List ℕ
whole_example = of_example (1 ∷ 2 ∷ 3 ∷ 4 ∷ 5 ∷ [])
