-- Document 01, "Exercises with known results": P1 to P12 as one table, each with its sentence, what a receiver gets, and the results. That the
-- definitions answer just so is `all_right` of proofs/Right.antt. Prices are in millionths. Where the paper names no capacity there is room for 4
-- orders and 1 symbol, which is all that is needed.
use Rattle.std.specs.Prelude.{List, [], ◌∷◌, ◌++◌, replicate}
use Rattle.exercises.specs.Messages.{numbered, system_time, symbol_update, add_order, modify_order, bit0_set, bit0_clear, execution, buy, sell, abc, letter_e, of_example, whole_example}
use Rattle.exercises.specs.Exercises.{Exercise, exercise, start, gets, ◌is◌, ◌is_minus◌, gone, result, nothing, taken, old, too_far, applied, next, stop, refused, bad_byte, changed, rank, ahead, spread, price}

unfoldable pub table : List Exercise
table =
    -- "price 10.000000 is bytes 80 96 98 00 00 00 00 00"
    exercise 1
    (price (128 ∷ 150 ∷ 152 ∷ 0 ∷ 0 ∷ 0 ∷ 0 ∷ 0 ∷ []) is 10000000
    ∷ [])
    -- "fresh: number 64 taken, 65 too far"
    ∷ exercise 2
    (start 4 1
    ∷ gets (numbered 64 (system_time 34200)) ∷ taken is 1 ∷ too_far is 0
    ∷ start 4 1
    ∷ gets (numbered 65 (system_time 34200)) ∷ taken is 0 ∷ too_far is 1
    ∷ [])
    -- "next 5: 68 taken, 69 too far, 4 old"
    ∷ exercise 3
    (start 4 1
    ∷ gets (of_example (1 ∷ 2 ∷ 3 ∷ 4 ∷ [])) ∷ next is 5
    ∷ gets (numbered 68 (system_time 34200)) ∷ taken is 1 ∷ next is 5
    ∷ gets (numbered 69 (system_time 34200)) ∷ too_far is 1 ∷ next is 5
    ∷ gets (of_example (4 ∷ [])) ∷ old is 1 ∷ next is 5
    ∷ [])
    -- "numbers 2, 3, 1 of the example in one packet: three applied at the last": without the last none is
    ∷ exercise 4
    (start 4 1
    ∷ gets (of_example (2 ∷ 3 ∷ 1 ∷ [])) ∷ taken is 3 ∷ applied is 3 ∷ next is 4
    ∷ start 4 1
    ∷ gets (of_example (2 ∷ 3 ∷ [])) ∷ taken is 2 ∷ applied is 0 ∷ next is 1
    ∷ [])
    -- "after the example, Modify 500 with bit 0 set at number 6: rank 6, behind 502"
    ∷ exercise 5
    (start 4 1
    ∷ gets whole_example ∷ applied is 5 ∷ rank 500 is 3 ∷ rank 502 is 5 ∷ ahead 500 502 is 500
    ∷ gets (numbered 6 (modify_order 7 500 10000000 80 bit0_set)) ∷ applied is 1 ∷ rank 500 is 6 ∷ ahead 500 502 is 502
    ∷ [])
    -- "bit 0 clear: rank 3, ahead", and "the rank stays, whatever changed": the order shrinks, grows, and meets the other again at another price, which it came to first
    -- or last
    ∷ exercise 6
    (start 4 1
    ∷ gets whole_example
    ∷ gets (numbered 6 (modify_order 7 500 10000000 80 bit0_clear)) ∷ applied is 1 ∷ rank 500 is 3 ∷ ahead 500 502 is 500
    ∷ gets (numbered 7 (modify_order 7 500 10000000 300 bit0_clear)) ∷ applied is 1 ∷ rank 500 is 3 ∷ ahead 500 502 is 500
    ∷ gets (numbered 8 (modify_order 7 500 10010000 300 bit0_clear)) ∷ applied is 1 ∷ rank 500 is 3 ∷ result (ahead 500 502) nothing
    ∷ gets (numbered 9 (modify_order 7 502 10010000 50 bit0_clear)) ∷ applied is 1 ∷ rank 502 is 5 ∷ ahead 500 502 is 500
    ∷ gets (numbered 10 (modify_order 7 500 10000000 100 bit0_clear)) ∷ gets (numbered 11 (modify_order 7 500 10010000 100 bit0_clear)) ∷ applied is 1 ∷ rank 500 is 3 ∷ ahead 500 502 is 500
    ∷ [])
    -- "execution of 100 on 500: gone; a new Add of 500 is good"
    ∷ exercise 7
    (start 4 1
    ∷ gets whole_example
    ∷ gets (numbered 6 (execution 7 500 10000000 100)) ∷ applied is 1 ∷ gone 500
    ∷ gets (numbered 7 (add_order 7 500 buy 10000000 100)) ∷ applied is 1 ∷ stop is 0 ∷ rank 500 is 7
    ∷ [])
    -- "execution of 101: stop 24"
    ∷ exercise 8
    (start 4 1
    ∷ gets whole_example ∷ stop is 0
    ∷ gets (numbered 6 (execution 7 500 10000000 101)) ∷ applied is 0 ∷ next is 6 ∷ stop is 24
    ∷ [])
    -- "bid 10.020000, offer 10.000000: spread -20000"
    ∷ exercise 9
    (start 4 1
    ∷ gets (numbered 1 (symbol_update 7 abc letter_e 100) ++ (numbered 2 (add_order 7 500 buy 10020000 100) ++ numbered 3 (add_order 7 501 sell 10000000 200)))
    ∷ applied is 3 ∷ spread 7 is_minus 20000
    ∷ [])
    -- "capacity 1, second Add of the live ID: 21, not 25"; 25 is what another ID meets there
    ∷ exercise 10
    (start 1 1
    ∷ gets (of_example (1 ∷ 2 ∷ 3 ∷ [])) ∷ applied is 3 ∷ stop is 0
    ∷ gets (numbered 4 (add_order 7 500 buy 10000000 100)) ∷ applied is 0 ∷ stop is 21
    ∷ start 1 1
    ∷ gets (of_example (1 ∷ 2 ∷ 3 ∷ 4 ∷ [])) ∷ applied is 3 ∷ stop is 25
    ∷ [])
    -- "a 9-byte packet: 2", at "the record's start" (request 5)
    ∷ exercise 11
    (start 4 1
    ∷ gets (replicate 9 1) ∷ refused is 2 ∷ bad_byte is 0 ∷ changed is 0
    ∷ [])
    -- "a good record followed by a bad one: nothing is taken"; the bad one here has a price of 0, at byte 18 of a body that starts at 25, and the good one alone is taken afterwards
    ∷ exercise 12
    (start 4 1
    ∷ gets (of_example (1 ∷ []) ++ numbered 2 (add_order 7 500 buy 0 100)) ∷ refused is 4 ∷ bad_byte is 43 ∷ changed is 0
    ∷ gets (of_example (1 ∷ [])) ∷ refused is 0 ∷ taken is 1
    ∷ [])
    ∷ []
