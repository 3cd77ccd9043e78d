-- The sheets of the tables that document 01's whole example leaves, of a crossed book and of an empty side, each computed from the definitions.
-- Assumes nothing.
use Prim.Native.Nat.{ℕ}
use mathlib.Core.Path.{◌≡◌, refl}
use mathlib.Core.List.{List, [], ◌∷◌, map}
use Rattle.facts.specs.Pick.{pick, both}
use Rattle.facts.specs.Pieces.{cut, pieces, join}
use Rattle.facts.specs.Sums.{sum_by, only_if, count_by}
use Rattle.editions.specs.declared.Edition.{Edition}
use Rattle.wire.specs.Le.{le, field, padded}
use Rattle.rows.specs.Rows.{row_of, rows, live}
use Rattle.rows.specs.Find.{of_key, count_live}
use Rattle.ascend.specs.Ascend.{ins, places}
use Rattle.symbols.specs.Entries.{entries, used}
use Rattle.symbols.specs.Find.{count_used}
use Rattle.views.specs.Ladder.{key_of, far, at_price, places_of, prices, level_of, ladder}
use Rattle.views.specs.Spread.{between, spread_of}
use Rattle.views.specs.declared.Side.{Side}
use Rattle.book.specs.Plan.{clock}
use Rattle.receiver.specs.declared.State.{State}
use Rattle.text.specs.Text.{digits_of, decimal_of, signed_of, trim_cons, trim_of, shown_of, ticker_of, line_of}
use Rattle.answer_sheet.specs.declared.Recording.{Recording}
use Rattle.answer_sheet.specs.Keys.{recording_key, bad_key, next_key, stop_key, second_key, symbols_key, orders_key, symbol_key, ticker_key, type_key, lot_key, spread_key, bid_key, ask_key, side_key, whole_word, none_word}
use Rattle.std.specs.Prelude.{Some, None}
use Rattle.answer_sheet.specs.Lines.{level, Line, plain, line_text, text_of}
use Rattle.answer_sheet.specs.Sheet.{recording_word, head_lines, table_lines, marked_of, level_value, level_line, levels_shown, side_lines, spread_word, type_lines, symbol_lines, book_lines, entry_lines, all_entries, lines_of, sheet_of}

-- What the example's messages leave; that they do is `example_leaves` of exercises. "for numbers 1 to 5: second 34200; symbol 7, ABC, lot 100"
abbrev pub after : Edition → State
after ed = record { next = 6; clock = clock 34200; stop = 0; edition = ed }

-- x: the byte that is the Security Type in 1.3
abbrev pub symbol7 : ℕ → List ℕ
symbol7 x = 1 ∷ 0 ∷ 0 ∷ 0 ∷ 0 ∷ 7 ∷ 0 ∷ 0 ∷ 0 ∷ 65 ∷ 66 ∷ 67 ∷ 32 ∷ 32 ∷ 32 ∷ 32 ∷ 32 ∷ 32 ∷ 32 ∷ 32 ∷ x ∷ 78 ∷ 0 ∷ 100 ∷ 0 ∷ 0 ∷ 0 ∷ 0 ∷ 0 ∷ 0 ∷ 0 ∷ 0 ∷ 0 ∷ 0 ∷ 0 ∷ 0 ∷ 0 ∷ 0 ∷ 0 ∷ 0 ∷ 0 ∷ 72 ∷ []

-- "buy 500 at 10.000000 for 100; sell 501 at 10.020000 for 200; buy 502 at 10.000000 for 50"
abbrev pub three : List ℕ
three = 500 ∷ 14 ∷ 10000000 ∷ 100 ∷ 3 ∷ 501 ∷ 15 ∷ 10020000 ∷ 200 ∷ 4 ∷ 502 ∷ 14 ∷ 10000000 ∷ 50 ∷ 5 ∷ []

-- the thirteen lines, as the paper has them, with those given behind the ticker's
abbrev lines_with : List ℕ → List ℕ
lines_with type =
    join (
    -- recording=whole
    (114 ∷ 101 ∷ 99 ∷ 111 ∷ 114 ∷ 100 ∷ 105 ∷ 110 ∷ 103 ∷ 61 ∷ 119 ∷ 104 ∷ 111 ∷ 108 ∷ 101 ∷ 10 ∷ []) ∷
    -- bad=0
    (98 ∷ 97 ∷ 100 ∷ 61 ∷ 48 ∷ 10 ∷ []) ∷
    -- next=6
    (110 ∷ 101 ∷ 120 ∷ 116 ∷ 61 ∷ 54 ∷ 10 ∷ []) ∷
    -- stop=0
    (115 ∷ 116 ∷ 111 ∷ 112 ∷ 61 ∷ 48 ∷ 10 ∷ []) ∷
    -- second=34200
    (115 ∷ 101 ∷ 99 ∷ 111 ∷ 110 ∷ 100 ∷ 61 ∷ 51 ∷ 52 ∷ 50 ∷ 48 ∷ 48 ∷ 10 ∷ []) ∷
    -- symbols=1
    (115 ∷ 121 ∷ 109 ∷ 98 ∷ 111 ∷ 108 ∷ 115 ∷ 61 ∷ 49 ∷ 10 ∷ []) ∷
    -- orders=3
    (111 ∷ 114 ∷ 100 ∷ 101 ∷ 114 ∷ 115 ∷ 61 ∷ 51 ∷ 10 ∷ []) ∷
    -- symbol=7
    (115 ∷ 121 ∷ 109 ∷ 98 ∷ 111 ∷ 108 ∷ 61 ∷ 55 ∷ 10 ∷ []) ∷
    -- ticker=ABC
    (116 ∷ 105 ∷ 99 ∷ 107 ∷ 101 ∷ 114 ∷ 61 ∷ 65 ∷ 66 ∷ 67 ∷ 10 ∷ []) ∷
    type ∷
    -- lot=100
    (108 ∷ 111 ∷ 116 ∷ 61 ∷ 49 ∷ 48 ∷ 48 ∷ 10 ∷ []) ∷
    -- spread=20000
    (115 ∷ 112 ∷ 114 ∷ 101 ∷ 97 ∷ 100 ∷ 61 ∷ 50 ∷ 48 ∷ 48 ∷ 48 ∷ 48 ∷ 10 ∷ []) ∷
    -- bid=10000000 150 2
    (98 ∷ 105 ∷ 100 ∷ 61 ∷ 49 ∷ 48 ∷ 48 ∷ 48 ∷ 48 ∷ 48 ∷ 48 ∷ 48 ∷ 32 ∷ 49 ∷ 53 ∷ 48 ∷ 32 ∷ 50 ∷ 10 ∷ []) ∷
    -- ask=10020000 200 1
    (97 ∷ 115 ∷ 107 ∷ 61 ∷ 49 ∷ 48 ∷ 48 ∷ 50 ∷ 48 ∷ 48 ∷ 48 ∷ 48 ∷ 32 ∷ 50 ∷ 48 ∷ 48 ∷ 32 ∷ 49 ∷ 10 ∷ []) ∷
    [])

abbrev pub thirteen : List ℕ
thirteen = lines_with []

-- and in 1.3 type=E, or another byte, behind it
abbrev pub fourteen : ℕ → List ℕ
fourteen x = lines_with (116 ∷ 121 ∷ 112 ∷ 101 ∷ 61 ∷ x ∷ 10 ∷ [])

-- the sheet of those tables; from 1.3.a on byte 20 is on no line
pub example_is : (x : ℕ) → sheet_of Recording.Whole 0 (after Edition.V13b) three (symbol7 x) ≡ thirteen
unfolding sheet_of lines_of head_lines table_lines all_entries entry_lines symbol_lines type_lines recording_word recording_key whole_word bad_key next_key stop_key second_key symbols_key orders_key symbol_key ticker_key type_key lot_key ticker_of trim_of trim_cons shown_of count_used count_live entries used field le padded book_lines spread_word side_lines side_key levels_shown level_line level_value marked_of line_text text_of plain line_of spread_key bid_key ask_key none_word decimal_of digits_of signed_of spread_of between ladder level_of prices places_of far at_price key_of places ins sum_by only_if count_by of_key live rows row_of pieces cut join pick both
example_is x = refl

-- "Only the 1.3 sheet shows it, as `type=` after `ticker=`": E, and a byte that is no letter as a full stop
pub typed_is : sheet_of Recording.Whole 0 (after Edition.V13) three (symbol7 69) ≡ fourteen 69
unfolding sheet_of lines_of head_lines table_lines all_entries entry_lines symbol_lines type_lines recording_word recording_key whole_word bad_key next_key stop_key second_key symbols_key orders_key symbol_key ticker_key type_key lot_key ticker_of trim_of trim_cons shown_of count_used count_live entries used field le padded book_lines spread_word side_lines side_key levels_shown level_line level_value marked_of line_text text_of plain line_of spread_key bid_key ask_key none_word decimal_of digits_of signed_of spread_of between ladder level_of prices places_of far at_price key_of places ins sum_by only_if count_by of_key live rows row_of pieces cut join pick both
typed_is = refl

pub untyped_is : sheet_of Recording.Whole 0 (after Edition.V13) three (symbol7 0) ≡ fourteen 46
unfolding sheet_of lines_of head_lines table_lines all_entries entry_lines symbol_lines type_lines recording_word recording_key whole_word bad_key next_key stop_key second_key symbols_key orders_key symbol_key ticker_key type_key lot_key ticker_of trim_of trim_cons shown_of count_used count_live entries used field le padded book_lines spread_word side_lines side_key levels_shown level_line level_value marked_of line_text text_of plain line_of spread_key bid_key ask_key none_word decimal_of digits_of signed_of spread_of between ladder level_of prices places_of far at_price key_of places ins sum_by only_if count_by of_key live rows row_of pieces cut join pick both
untyped_is = refl

-- P9: "bid 10.020000, offer 10.000000: spread -20000"
abbrev crossed : List ℕ
crossed =
    join (
    -- spread=-20000
    (115 ∷ 112 ∷ 114 ∷ 101 ∷ 97 ∷ 100 ∷ 61 ∷ 45 ∷ 50 ∷ 48 ∷ 48 ∷ 48 ∷ 48 ∷ 10 ∷ []) ∷
    -- bid=10020000 100 1
    (98 ∷ 105 ∷ 100 ∷ 61 ∷ 49 ∷ 48 ∷ 48 ∷ 50 ∷ 48 ∷ 48 ∷ 48 ∷ 48 ∷ 32 ∷ 49 ∷ 48 ∷ 48 ∷ 32 ∷ 49 ∷ 10 ∷ []) ∷
    -- ask=10000000 200 1
    (97 ∷ 115 ∷ 107 ∷ 61 ∷ 49 ∷ 48 ∷ 48 ∷ 48 ∷ 48 ∷ 48 ∷ 48 ∷ 48 ∷ 32 ∷ 50 ∷ 48 ∷ 48 ∷ 32 ∷ 49 ∷ 10 ∷ []) ∷
    [])

pub crossed_is : text_of (book_lines 7 (rows (500 ∷ 14 ∷ 10020000 ∷ 100 ∷ 3 ∷ 501 ∷ 15 ∷ 10000000 ∷ 200 ∷ 4 ∷ []))) ≡ crossed
unfolding book_lines spread_word side_lines side_key levels_shown level_line level_value marked_of line_text text_of plain line_of spread_key bid_key ask_key none_word decimal_of digits_of signed_of spread_of between ladder level_of prices places_of far at_price key_of places ins sum_by only_if count_by of_key live rows row_of pieces cut join pick both
crossed_is = refl

-- "An empty side has no lines; an empty one makes spread=none"
abbrev bids_only : List ℕ
bids_only =
    join (
    -- spread=none
    (115 ∷ 112 ∷ 114 ∷ 101 ∷ 97 ∷ 100 ∷ 61 ∷ 110 ∷ 111 ∷ 110 ∷ 101 ∷ 10 ∷ []) ∷
    -- bid=10000000 100 1
    (98 ∷ 105 ∷ 100 ∷ 61 ∷ 49 ∷ 48 ∷ 48 ∷ 48 ∷ 48 ∷ 48 ∷ 48 ∷ 48 ∷ 32 ∷ 49 ∷ 48 ∷ 48 ∷ 32 ∷ 49 ∷ 10 ∷ []) ∷
    [])

pub empty_is : text_of (book_lines 7 (rows (500 ∷ 14 ∷ 10000000 ∷ 100 ∷ 3 ∷ []))) ≡ bids_only
unfolding book_lines spread_word side_lines side_key levels_shown level_line level_value marked_of line_text text_of plain line_of spread_key bid_key ask_key none_word decimal_of digits_of signed_of spread_of between ladder level_of prices places_of far at_price key_of places ins sum_by only_if count_by of_key live rows row_of pieces cut join pick both
empty_is = refl

-- what those three lines are about: the spread is no level, and each level is known by symbol, side and price
pub crossed_about : map (λ (l : Line). l.about) (book_lines 7 (rows (500 ∷ 14 ∷ 10020000 ∷ 100 ∷ 3 ∷ 501 ∷ 15 ∷ 10000000 ∷ 200 ∷ 4 ∷ []))) ≡ None ∷ Some (level 7 Side.Buy 10020000) ∷ Some (level 7 Side.Sell 10000000) ∷ []
unfolding book_lines side_lines levels_shown level_line plain ladder level_of prices places_of far at_price key_of places ins sum_by only_if count_by of_key live rows row_of pieces cut pick both
crossed_about = refl
