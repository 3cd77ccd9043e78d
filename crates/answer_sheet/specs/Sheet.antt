-- The sheet (document 01: "The sheet is key=value lines in a fixed order, each ended by one line feed, up to ten levels a side, bids first, symbols in table order").
use Rattle.std.specs.Prelude.{ℕ, ◌+◌, ◌*◌, List, [], ◌∷◌, ◌++◌, map, Bool, ◌≡◌, length, get_or, take, drop, Option, Some, None, Result, Ok, Err}
use Rattle.facts.specs.Pick.{pick, both}
use Rattle.facts.specs.Pieces.{join}
use Rattle.editions.specs.declared.Edition.{Edition}
use Rattle.fields.specs.Fields.{symbol_of, refusal}
use Rattle.fields.specs.declared.Symbol.{Symbol}
use Rattle.body.specs.Shown.{security_in}
use Rattle.fields.specs.declared.Refusal.{Refusal}
use Rattle.std.specs.Prelude.{ℤ}
use Rattle.rows.specs.Rows.{rows}
use Rattle.rows.specs.Find.{count_live}
use Rattle.rows.specs.declared.Row.{Row}
use Rattle.symbols.specs.Entries.{entries, used}
use Rattle.symbols.specs.Find.{count_used}
use Rattle.views.specs.Ladder.{key_of, ladder}
use Rattle.views.specs.Spread.{spread_of}
use Rattle.views.specs.Views.{good_tables, counts_view}
use Rattle.views.specs.declared.Level.{Level}
use Rattle.views.specs.declared.Side.{Side}
use Rattle.views.specs.declared.Sizes.{Sizes}
use Rattle.receiver.specs.Receiver.{next_ok}
use Rattle.receiver.specs.declared.State.{State}
use Rattle.text.specs.Text.{decimal_of, signed_of, shown_of, ticker_of}
use Rattle.answer_sheet.specs.declared.Recording.{Recording}
use Rattle.answer_sheet.specs.Keys.{recording_key, bad_key, next_key, stop_key, second_key, symbols_key, orders_key, symbol_key, ticker_key, type_key, lot_key, spread_key, side_key, whole_word, cut_word, none_word}
use Rattle.answer_sheet.specs.Lines.{level, Line, plain, text_of}

-- ---- the head
-- "a recording that ends inside a length or packet gives recording=cut"
unfoldable pub recording_word : Recording → List ℕ
recording_word Recording.Whole = whole_word
recording_word Recording.Cut = cut_word

-- "recording=whole", "bad=0", "next=6", "stop=0"
unfoldable pub head_lines : Recording → ℕ → State → List Line
head_lines word bad s =
    plain recording_key (recording_word word) ∷
    plain bad_key (decimal_of bad) ∷
    plain next_key (decimal_of s.next) ∷
    plain stop_key (decimal_of s.stop) ∷
    []

-- "second=34200", "symbols=1", "orders=3"
unfoldable pub table_lines : ℕ → ℕ → ℕ → List Line
table_lines second symbols orders =
    plain second_key (decimal_of second) ∷
    plain symbols_key (decimal_of symbols) ∷
    plain orders_key (decimal_of orders) ∷
    []

-- ---- a side of a symbol
-- a number and the byte behind it
unfoldable pub marked_of : ℕ → ℕ → List ℕ
marked_of n mark = decimal_of n ++ (mark ∷ [])

-- "price, shares, number of orders", as in "10000000 150 2"
unfoldable pub level_value : Level → List ℕ
level_value l = marked_of l.price 32 ++ (marked_of l.shares 32 ++ decimal_of l.orders)

-- "bid=10000000 150 2"
unfoldable pub level_line : Side → ℕ → Level → Line
level_line side id l = record { key = side_key side; value = level_value l; about = Some (level id side l.price) }

-- "up to ten levels a side"
unfoldable pub levels_shown : ℕ
levels_shown = 10

-- "An empty side has no lines"
unfoldable pub side_lines : Side → ℕ → List Row → List Line
side_lines side id rs = map (level_line side id) (take levels_shown (ladder (key_of side id) rs))

-- ---- a symbol
-- "with a side empty the answer is none": "spread=none"
unfoldable pub spread_word : Option ℤ → List ℕ
spread_word (Some z) = signed_of z
spread_word None = none_word

-- "Only the 1.3 sheet shows it, as `type=` after `ticker=`" (request 10): the byte, as "other bytes outside 32 to 126 shown as a full stop"
unfoldable pub type_lines : Option ℕ → List Line
type_lines (Some x) = plain type_key (shown_of x ∷ []) ∷ []
type_lines None = []

-- "symbol=7", "ticker=ABC", "lot=100"
unfoldable pub symbol_lines : Option ℕ → Symbol → List Line
symbol_lines y s =
    plain symbol_key (decimal_of s.id) ∷
    plain ticker_key (ticker_of s.ticker) ∷
    (type_lines y ++ (plain lot_key (decimal_of s.lot) ∷ []))

-- "spread=20000", then the levels, "bids first"
unfoldable pub book_lines : ℕ → List Row → List Line
book_lines id rs = plain spread_key (spread_word (spread_of id rs)) ∷ (side_lines Side.Buy id rs ++ side_lines Side.Sell id rs)

-- a free or spoiled entry has no lines: "type 1 marks an entry in use"
unfoldable pub entry_lines : Edition → List Row → List ℕ → List Line
entry_lines ed rs e = pick (used e) (symbol_lines (security_in ed e) (symbol_of e) ++ book_lines (symbol_of e).id rs) []

-- "symbols in table order"
unfoldable pub all_entries : Edition → List ℕ → List ℕ → List Line
all_entries ed orders symbols = join (map (entry_lines ed (rows orders)) (entries symbols))

-- ---- the whole
-- "The sheet is key=value lines in a fixed order": of a receiver's state and its tables, the count of bad packets and the recording's word
unfoldable pub lines_of : Recording → ℕ → State → List ℕ → List ℕ → List Line
lines_of word bad s orders symbols =
    head_lines word bad s ++ (table_lines s.clock.second (count_used (entries symbols)) (count_live (rows orders)) ++ all_entries s.edition orders symbols)

-- those lines, "each ended by one line feed"
unfoldable pub sheet_of : Recording → ℕ → State → List ℕ → List ℕ → List ℕ
sheet_of word bad s orders symbols = text_of (lines_of word bad s orders symbols)

-- as many bytes as the longest sheet may have, or more: 7 lines and 25 for each of 1,000 symbols, each of at most 50 bytes
abbrev pub sheet_most : ℕ
sheet_most = 1500000

-- no refusal 6: "a table size outside these limits or not in whole rows, or a next number outside 1 to 10^12 + 1"
unfoldable pub sheet_ok : State → List ℕ → List ℕ → Bool
sheet_ok s orders symbols = both (good_tables orders symbols) (next_ok s.next)

-- an answer, and every byte of the lent buffer behind it
pub record Sheet : Type 0 where
  pub answer : Result ℕ Refusal
  pub buf : List ℕ

abbrev pub sheet_and : Result ℕ Refusal → List ℕ → Sheet
sheet_and a b = record { answer = a; buf = b }

-- how long the whole text is, written or not; as much of it as the buffer reaches, and the rest of the buffer untouched
unfoldable pub stored : List ℕ → List ℕ → Sheet
stored t b = sheet_and (Ok (length t)) (take (length b) t ++ drop (length t) b)

-- "Each refusal returns its number alone; tables, output and state keep every byte"
unfoldable pub sheet_view : Recording → ℕ → State → List ℕ → List ℕ → List ℕ → Sheet
sheet_view word bad s orders symbols b =
    pick (sheet_ok s orders symbols) (stored (sheet_of word bad s orders symbols) b) (sheet_and (Err (refusal 6)) b)

-- document 01's number of each answer, 0 where nothing is refused
unfoldable pub sheet_number : Result ℕ Refusal → ℕ
sheet_number (Ok n) = 0
sheet_number (Err r) = r.number

-- ---- inside the code's loops and calls
-- what a view of good tables counted
abbrev pub AreSizes : Sizes → List ℕ → List ℕ → Type 0
AreSizes z orders symbols = Ok z ≡ counts_view orders symbols

-- level i of a run of numbers, three to a level
unfoldable pub level_at : List ℕ → ℕ → Level
level_at run i = record { price = get_or run (3 * i) 0; shares = get_or run (3 * i + 1) 0; orders = get_or run (3 * i + 2) 0 }
