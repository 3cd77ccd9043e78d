-- No line of a sheet has more than 50 bytes, no side more than ten lines, no symbol more than 25, and no table more than a thousand entries.
-- Assumes nothing.
use Prim.Native.Nat.{ℕ, zero, suc, ◌+◌, ◌*◌, ◌/◌, ◌^◌, ◌≤◌, ◌<◌}
use mathlib.Core.Path.{◌≡◌, refl}
use mathlib.Core.Bool.{true}
use mathlib.Core.List.{List, [], ◌∷◌, ◌++◌, map}
use native.Mathlib.Nat.{suc-mul}
use native.Mathlib.Omega.{arith}
use lib.ListN.{length, take, drop, length-append, length-take, length-map}
use lib.Seq.{get_or-drop}
use Rattle.facts.specs.Limits.{entry_size, most_rows, most_entries}
use Rattle.facts.specs.Pieces.{cut, pieces, join}
use Rattle.facts.proofs.Picks.{pick_ind, both_true}
use Rattle.facts.proofs.SumLaws.{count_bound}
use Rattle.wire.specs.Le.{Bytes}
use Rattle.wire.proofs.Laws.{field_below, length_padded}
use Rattle.editions.specs.declared.Edition.{Edition}
use Rattle.fields.specs.Fields.{symbol_of}
use Rattle.body.specs.Shown.{security_in}
use Rattle.std.specs.Prelude.{Option, Some, None}
use Rattle.std.specs.Prelude.{ℤ}
use Rattle.rows.specs.Rows.{rows, good_rows, live}
use Rattle.rows.specs.Find.{count_live}
use Rattle.rows.specs.declared.Row.{Row}
use Rattle.rows.proofs.Judged.{good_rows_lem}
use Rattle.rows.proofs.Tables.{length_rows}
use Rattle.ascend.proofs.Each.{all_take, all_append, all_join}
use Rattle.ascend.proofs.Places.{All}
use Rattle.ascend.proofs.Each.{all_weaken, all_map}
use Rattle.symbols.specs.Entries.{good_entries, entries, used}
use Rattle.symbols.specs.Find.{count_used}
use Rattle.symbols.proofs.EntryLaws.{good_entries_lem, length_entries}
use Rattle.views.specs.Ladder.{key_of, prices, level_of, ladder}
use Rattle.views.specs.Spread.{spread_of}
use Rattle.views.specs.Views.{good_tables}
use Rattle.views.specs.declared.Level.{Level}
use Rattle.views.specs.declared.Side.{Side}
use Rattle.views.proofs.Laws.{shares_fit, orders_fit}
use Rattle.views.proofs.Levels.{prices_low}
use Rattle.views.proofs.Theorems.{spread_sides}
use Rattle.receiver.specs.Receiver.{next_ok}
use Rattle.receiver.specs.declared.State.{State}
use Rattle.receiver.proofs.Accounts.{next_most}
use Rattle.text.specs.Text.{decimal_of, shown_of, ticker_of, line_of}
use Rattle.text.proofs.DecimalLaws.{decimal_length, decimal_le}
use Rattle.text.proofs.SignedLaws.{spread_le}
use Rattle.text.proofs.TickerLaws.{ticker_length}
use Rattle.answer_sheet.specs.declared.Recording.{Recording}
use Rattle.answer_sheet.specs.Keys.{recording_key, bad_key, next_key, stop_key, second_key, symbols_key, orders_key, symbol_key, ticker_key, type_key, lot_key, spread_key, bid_key, ask_key, side_key, whole_word, cut_word, none_word}
use Rattle.answer_sheet.specs.Lines.{Line, plain, line_text, text_of}
use Rattle.answer_sheet.specs.Sheet.{recording_word, head_lines, table_lines, marked_of, level_value, level_line, levels_shown, side_lines, spread_word, type_lines, symbol_lines, book_lines, entry_lines, all_entries, lines_of, sheet_of, sheet_ok, sheet_most}

-- ---- lists
-- where no element gives more than m, all of them back to back give at most that for each
join_le : {A B : Type 0} (f : A → List B) (m : ℕ) (xs : List A) → All (λ x. length (f x) ≤ m) xs → length (join (map f xs)) ≤ length xs * m
unfolding join
join_le f m [] a = omega arith
join_le f m (x ∷ xs) a = omega (arith, length-append (f x) (join (map f xs)), join_le f m xs a.1, a.0, suc-mul (length xs) m)

bytes_take : (n : ℕ) (b : List ℕ) → Bytes b → Bytes (take n b)
bytes_take zero b h i = omega arith
bytes_take (suc n) [] h i = h i
bytes_take (suc n) (x ∷ b) h zero = h 0
bytes_take (suc n) (x ∷ b) h (suc i) = bytes_take n b (λ j. h (suc j)) i

bytes_drop : (n : ℕ) (b : List ℕ) → Bytes b → Bytes (drop n b)
bytes_drop n b h i = rw get_or-drop (h (n + i))

bytes_entries : (t : List ℕ) → Bytes t → All Bytes (entries t)
unfolding entries pieces cut
bytes_entries t h = go (length t / entry_size) t h
  where
    go : (n : ℕ) (t : List ℕ) → Bytes t → All Bytes (cut entry_size n t)
    go zero t h = tt
    go (suc n) t h = (bytes_take entry_size t h, go n (drop entry_size t) (bytes_drop entry_size t h))

-- ---- lines
-- a line of at most 50 bytes, its line feed counted
abbrev Short : Line → Type 0
Short l = length (line_text l) ≤ 50

lines_le : (ls : List Line) → All Short ls → length (text_of ls) ≤ length ls * 50
unfolding text_of
lines_le ls a = join_le line_text 50 ls a

line_le : (key value : List ℕ) → length (line_of key value) ≡ length key + length value + 1
unfolding line_of
line_le key value = omega (arith, length-append key (value ++ (10 ∷ [])), length-append value (10 ∷ []))

plain_short : (key value : List ℕ) → length key ≤ 10 → length value ≤ 20 → Short (plain key value)
unfolding line_text plain
plain_short key value k v = omega (arith, line_le key value)

-- a key and a number of 64 bits
number_short : (key : List ℕ) (n : ℕ) → length key ≤ 10 → n < 2 ^ 64 → Short (plain key (decimal_of n))
number_short key n k h = plain_short key (decimal_of n) k (decimal_le n h)

-- ---- levels
-- a level of a table of good size
abbrev ShortLevel : Level → Type 0
ShortLevel l = (l.price < 10 ^ 16) × (l.shares < 2 ^ 64) × (l.orders < 10 ^ 5)

level_le : (l : Level) → ShortLevel l → length (level_value l) ≤ 43
unfolding level_value marked_of
level_le l h =
    let p = decimal_of l.price ++ (32 ∷ []) in
    let s = decimal_of l.shares ++ (32 ∷ []) in
    omega (
      arith,
      length-append p (s ++ decimal_of l.orders),
      length-append s (decimal_of l.orders),
      length-append (decimal_of l.price) (32 ∷ []),
      length-append (decimal_of l.shares) (32 ∷ []),
      decimal_length 15 l.price h.0,
      decimal_le l.shares h.1,
      decimal_length 4 l.orders h.2,
    )

side_key_le : (side : Side) → length (side_key side) ≤ 4
unfolding side_key bid_key ask_key
side_key_le Side.Buy = omega arith
side_key_le Side.Sell = omega arith

level_short : (side : Side) (id : ℕ) (l : Level) → ShortLevel l → Short (level_line side id l)
unfolding line_text level_line
level_short side id l h = omega (arith, line_le (side_key side) (level_value l), side_key_le side, level_le l h)

ladder_short : (k : ℕ) (t : List ℕ) → good_rows (length t) ≡ true → All ShortLevel (ladder k (rows t))
unfolding ladder level_of
ladder_short k t g =
    all_map ShortLevel (level_of k (rows t)) (prices k (rows t))
    (all_weaken (λ p h. (omega arith, omega (arith, shares_fit k p t g), omega (arith, orders_fit k p t g))) (prices k (rows t)) (prices_low k (rows t)))

-- what a run of lines has: few of them, and each short
record Few (n : ℕ) (ls : List Line) : Type 0 where
  count : length ls ≤ n
  short : All Short ls

few_append : {m n : ℕ} (xs ys : List Line) → Few m xs → Few n ys → Few (m + n) (xs ++ ys)
few_append xs ys a b = record { count = omega (arith, length-append xs ys, a.count, b.count); short = all_append Short xs ys a.short b.short }

-- ten levels a side
side_few : (side : Side) (id : ℕ) (t : List ℕ) → good_rows (length t) ≡ true → Few 10 (side_lines side id (rows t))
unfolding side_lines levels_shown
side_few side id t g =
    let ls = ladder (key_of side id) (rows t) in
    record {
      count = omega (arith, length-map (take 10 ls) (level_line side id), length-take 10 ls);
      short = all_map Short (level_line side id) (take 10 ls) (all_weaken (level_short side id) (take 10 ls) (all_take ShortLevel 10 ls (ladder_short (key_of side id) t g)));
    }

spread_short : (s : ℕ) (rs : List Row) → Short (plain spread_key (spread_word (spread_of s rs)))
unfolding spread_word spread_key none_word
spread_short s rs = plain_short spread_key (spread_word (spread_of s rs)) (omega arith) (go (spread_of s rs) refl)
  where
    go : (a : Option ℤ) → spread_of s rs ≡ a → length (spread_word a) ≤ 20
    go (Some z) e = omega (arith, spread_le z (spread_sides s rs z e).size)
    go None e = omega arith

-- ---- a symbol
type_few : (y : Option ℕ) → Few 1 (type_lines y)
unfolding type_lines type_key
type_few (Some x) = record { count = omega arith; short = (plain_short type_key (shown_of x ∷ []) (omega arith) (omega arith), tt) }
type_few None = record { count = omega arith; short = tt }

symbol_few : (ed : Edition) (e : List ℕ) → Bytes e → Few 4 (symbol_lines (security_in ed e) (symbol_of e))
unfolding symbol_lines symbol_key ticker_key lot_key
symbol_few ed e h =
    let s = symbol_of e in
    let lot : Few 1 (plain lot_key (decimal_of s.lot) ∷ []) = record { count = omega arith; short = (number_short lot_key s.lot (omega arith) (omega (arith, field_below e h 23 2)), tt) } in
    let rest = few_append (type_lines (security_in ed e)) (plain lot_key (decimal_of s.lot) ∷ []) (type_few (security_in ed e)) lot in
    record {
      count = omega (arith, rest.count);
      short = (
        number_short symbol_key s.id (omega arith) (omega (arith, field_below e h 5 4)),
        (
          plain_short ticker_key (ticker_of s.ticker) (omega arith) (omega (arith, ticker_length s.ticker, length_padded e 9 11)),
          rest.short,
        ),
      );
    }

book_few : (id : ℕ) (t : List ℕ) → good_rows (length t) ≡ true → Few 21 (book_lines id (rows t))
unfolding book_lines
book_few id t g =
    let sides = few_append (side_lines Side.Buy id (rows t)) (side_lines Side.Sell id (rows t)) (side_few Side.Buy id t g) (side_few Side.Sell id t g) in
    record { count = omega (arith, sides.count); short = (spread_short id (rows t), sides.short) }

entry_few : (ed : Edition) (t e : List ℕ) → good_rows (length t) ≡ true → Bytes e → Few 25 (entry_lines ed (rows t) e)
unfolding entry_lines
entry_few ed t e g h =
    pick_ind (Few 25) (used e) (symbol_lines (security_in ed e) (symbol_of e) ++ book_lines (symbol_of e).id (rows t)) []
    (λ _. few_append (symbol_lines (security_in ed e) (symbol_of e)) (book_lines (symbol_of e).id (rows t)) (symbol_few ed e h) (book_few (symbol_of e).id t g))
    (λ _. record { count = omega arith; short = tt })

-- ---- the whole
-- what a state of machine numbers and a table of bytes say of themselves
pub record Machine (bad : ℕ) (s : State) (symbols : List ℕ) : Type 0 where
  pub bad_fits : bad < 2 ^ 64
  pub second_fits : s.clock.second < 2 ^ 32
  pub stop_fits : s.stop < 2 ^ 8
  pub bytes : Bytes symbols

module _ (orders symbols : List ℕ) (g : good_tables orders symbols ≡ true) where
  rows_good : good_rows (length orders) ≡ true
  unfolding good_tables
  rows_good = (both_true g).0

  few_entries : length (entries symbols) ≤ most_entries
  unfolding good_tables
  few_entries = rw length_entries (good_entries_lem (length symbols) (both_true {a = good_rows (length orders)} {b = good_entries (length symbols)} g).1).1

  few_rows : length (rows orders) ≤ most_rows
  few_rows = rw length_rows (good_rows_lem (length orders) rows_good).1

  entries_few : (ed : Edition) → Bytes symbols → Few (most_entries * 25) (all_entries ed orders symbols)
  unfolding all_entries
  entries_few ed h =
      let each_few : All (λ e. Few 25 (entry_lines ed (rows orders) e)) (entries symbols) = all_weaken (λ e b. entry_few ed orders e rows_good b) (entries symbols) (bytes_entries symbols h) in
      record {
        count = omega (arith, few_entries, join_le (entry_lines ed (rows orders)) 25 (entries symbols) (all_weaken (λ e f. f.count) (entries symbols) each_few));
        short = all_join Short (map (entry_lines ed (rows orders)) (entries symbols)) (all_map (All Short) (entry_lines ed (rows orders)) (entries symbols) (all_weaken (λ e f. f.short) (entries symbols) each_few));
      }

  table_few : (second : ℕ) → second < 2 ^ 32 → Few 3 (table_lines second (count_used (entries symbols)) (count_live (rows orders)))
  unfolding table_lines second_key symbols_key orders_key count_used count_live
  table_few second h =
      record {
        count = omega arith;
        short = (
          number_short second_key second (omega arith) (omega arith),
          (
            number_short symbols_key (count_used (entries symbols)) (omega arith) (omega (arith, count_bound used (entries symbols), few_entries)),
            (number_short orders_key (count_live (rows orders)) (omega arith) (omega (arith, count_bound live (rows orders), few_rows)), tt),
          ),
        );
      }

word_le : (word : Recording) → length (recording_word word) ≤ 20
unfolding recording_word whole_word cut_word
word_le Recording.Whole = omega arith
word_le Recording.Cut = omega arith

head_few : (word : Recording) (bad : ℕ) (s : State) → bad < 2 ^ 64 → next_ok s.next ≡ true → s.stop < 2 ^ 8 → Few 4 (head_lines word bad s)
unfolding head_lines recording_key bad_key next_key stop_key
head_few word bad s b n p =
    record {
      count = omega arith;
      short = (
        plain_short recording_key (recording_word word) (omega arith) (word_le word),
        (
          number_short bad_key bad (omega arith) b,
          (
            number_short next_key s.next (omega arith) (omega (arith, next_most s.next n)),
            (number_short stop_key s.stop (omega arith) (omega arith), tt),
          ),
        ),
      );
    }

-- no sheet is longer than that
pub sheet_le : (word : Recording) (bad : ℕ) (s : State) (orders symbols : List ℕ) → sheet_ok s orders symbols ≡ true → Machine bad s symbols → length (sheet_of word bad s orders symbols) ≤ sheet_most
unfolding sheet_of lines_of sheet_ok
sheet_le word bad s orders symbols ok m =
    let w = both_true {a = good_tables orders symbols} {b = next_ok s.next} ok in
    let counts = table_lines s.clock.second (count_used (entries symbols)) (count_live (rows orders)) in
    let all = few_append (head_lines word bad s) (counts ++ all_entries s.edition orders symbols) (head_few word bad s m.bad_fits w.1 m.stop_fits)
    (few_append counts (all_entries s.edition orders symbols) (table_few orders symbols w.0 s.clock.second m.second_fits) (entries_few orders symbols w.0 s.edition m.bytes)) in
    omega (arith, all.count, lines_le (head_lines word bad s ++ (counts ++ all_entries s.edition orders symbols)) all.short)
