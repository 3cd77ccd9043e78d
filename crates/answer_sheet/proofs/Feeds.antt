-- Every byte of a key or a value is 32 or more, so a sheet has no line feed but those that end its lines.
-- Assumes nothing.
use Prim.Native.Nat.{ℕ, suc, ◌≤◌, ◌<◌}
use mathlib.Core.Path.{◌≡◌, refl, sym, ap, ◌∙◌}
use mathlib.Core.List.{List, [], ◌∷◌, ◌++◌, map, append_assoc}
use mathlib.Core.Bool.{Bool, true}
use native.Mathlib.Omega.{arith}
use lib.ListN.{length, get_or, take}
use lib.IntN.{ℤ, pos, negsuc}
use lib.Dec.{leb}
use borrow.Author.Tests.{ne_eqb, le-leb, leb-true}
use Rattle.facts.specs.Pick.{pick, both}
use Rattle.facts.specs.Pieces.{join}
use Rattle.facts.proofs.Picks.{pick_ind, both_true}
use Rattle.editions.specs.declared.Edition.{Edition}
use Rattle.fields.specs.Fields.{symbol_of}
use Rattle.body.specs.Shown.{security_in}
use Rattle.std.specs.Prelude.{Option, Some, None}
use Rattle.fields.specs.declared.Symbol.{Symbol}
use Rattle.rows.specs.Rows.{rows}
use Rattle.rows.specs.Find.{count_live}
use Rattle.rows.specs.declared.Row.{Row}
use Rattle.ascend.proofs.Each.{all_append, all_join, all_map}
use Rattle.ascend.proofs.Places.{All, all_of}
use Rattle.symbols.specs.Entries.{entries, used}
use Rattle.symbols.specs.Find.{count_used}
use Rattle.views.specs.Ladder.{key_of, ladder}
use Rattle.views.specs.Spread.{spread_of}
use Rattle.views.specs.declared.Level.{Level}
use Rattle.views.specs.declared.Side.{Side}
use Rattle.receiver.specs.declared.State.{State}
use Rattle.text.specs.Text.{decimal_of, signed_of, shown_of, ticker_of, line_of}
use Rattle.text.proofs.DecimalLaws.{decimal_digits}
use Rattle.text.proofs.TickerLaws.{shown_range, ticker_shown}
use Rattle.answer_sheet.specs.declared.Recording.{Recording}
use Rattle.answer_sheet.specs.Keys.{recording_key, bad_key, next_key, stop_key, second_key, symbols_key, orders_key, symbol_key, ticker_key, type_key, lot_key, spread_key, bid_key, ask_key, side_key, whole_word, cut_word, none_word}
use Rattle.answer_sheet.specs.Lines.{Line, plain, line_text, text_of, push_first, cut_feeds}
use Rattle.answer_sheet.specs.Sheet.{recording_word, head_lines, table_lines, marked_of, level_value, level_line, levels_shown, side_lines, spread_word, type_lines, symbol_lines, book_lines, entry_lines, all_entries, lines_of, sheet_of}

-- ---- bytes that no line feed is among
-- every byte is 32 or more
unfoldable visible : List ℕ → Bool
visible [] = true
visible (x ∷ s) = both (leb 32 x) (visible s)

visible_cons : (x : ℕ) (s : List ℕ) → 32 ≤ x → visible s ≡ true → visible (x ∷ s) ≡ true
unfolding visible both
visible_cons x s h e = rw (le-leb 32 x h) e

visible_then : (a b : List ℕ) → visible a ≡ true → visible b ≡ true → visible (a ++ b) ≡ true
unfolding visible
visible_then [] b p q = q
visible_then (x ∷ a) b p q = let w = both_true {a = leb 32 x} {b = visible a} p in visible_cons x (a ++ b) (leb-true 32 x w.0) (visible_then a b w.1 q)

by_index : (s : List ℕ) → ((i : ℕ) → i < length s → 32 ≤ get_or s i 0) → visible s ≡ true
unfolding visible
by_index [] h = refl
by_index (x ∷ s) h = visible_cons x s (h 0 (omega arith)) (by_index s (λ i l. h (suc i) (omega arith)))

digits_visible : (n : ℕ) → visible (decimal_of n) ≡ true
digits_visible n = by_index (decimal_of n) (λ i h. omega (arith, (decimal_digits n i h).0))

ticker_visible : (t : List ℕ) → visible (ticker_of t) ≡ true
ticker_visible t = by_index (ticker_of t) (λ i h. (ticker_shown t i h).0)

signed_visible : (z : ℤ) → visible (signed_of z) ≡ true
unfolding signed_of
signed_visible (pos n) = digits_visible n
signed_visible (negsuc k) = visible_cons 45 (decimal_of (suc k)) (omega arith) (digits_visible (suc k))

spread_visible : (a : Option ℤ) → visible (spread_word a) ≡ true
unfolding spread_word none_word visible both
spread_visible (Some z) = signed_visible z
spread_visible None = refl

word_visible : (word : Recording) → visible (recording_word word) ≡ true
unfolding recording_word whole_word cut_word visible both
word_visible Recording.Whole = refl
word_visible Recording.Cut = refl

side_key_visible : (side : Side) → visible (side_key side) ≡ true
unfolding side_key bid_key ask_key visible both
side_key_visible Side.Buy = refl
side_key_visible Side.Sell = refl

marked_visible : (n : ℕ) → visible (marked_of n 32) ≡ true
unfolding marked_of visible both
marked_visible n = visible_then (decimal_of n) (32 ∷ []) (digits_visible n) refl

-- ---- lines
-- a line without a line feed in its key or its value
abbrev OneFeed : Line → Type 0
OneFeed l = visible (l.key ++ l.value) ≡ true

plain_one : (key value : List ℕ) → visible key ≡ true → visible value ≡ true → OneFeed (plain key value)
unfolding plain
plain_one key value k v = visible_then key value k v

number_one : (key : List ℕ) (n : ℕ) → visible key ≡ true → OneFeed (plain key (decimal_of n))
number_one key n k = plain_one key (decimal_of n) k (digits_visible n)

level_one : (side : Side) (id : ℕ) (l : Level) → OneFeed (level_line side id l)
unfolding level_line level_value
level_one side id l =
    visible_then (side_key side) (marked_of l.price 32 ++ (marked_of l.shares 32 ++ decimal_of l.orders)) (side_key_visible side)
    (visible_then (marked_of l.price 32) (marked_of l.shares 32 ++ decimal_of l.orders) (marked_visible l.price)
    (visible_then (marked_of l.shares 32) (decimal_of l.orders) (marked_visible l.shares) (digits_visible l.orders)))

side_one : (side : Side) (id : ℕ) (rs : List Row) → All OneFeed (side_lines side id rs)
unfolding side_lines
side_one side id rs = all_map OneFeed (level_line side id) (take levels_shown (ladder (key_of side id) rs)) (all_of (level_one side id) (take levels_shown (ladder (key_of side id) rs)))

type_one : (y : Option ℕ) → All OneFeed (type_lines y)
unfolding type_lines type_key visible both
type_one (Some x) = (plain_one type_key (shown_of x ∷ []) refl (visible_cons (shown_of x) [] (shown_range x).0 refl), tt)
type_one None = tt

symbol_one : (y : Option ℕ) (s : Symbol) → All OneFeed (symbol_lines y s)
unfolding symbol_lines symbol_key ticker_key lot_key visible both
symbol_one y s = (
  number_one symbol_key s.id refl,
  (plain_one ticker_key (ticker_of s.ticker) refl (ticker_visible s.ticker), all_append OneFeed (type_lines y) (plain lot_key (decimal_of s.lot) ∷ []) (type_one y) (number_one lot_key s.lot refl, tt)),
)

book_one : (id : ℕ) (rs : List Row) → All OneFeed (book_lines id rs)
unfolding book_lines spread_key visible both
book_one id rs = (plain_one spread_key (spread_word (spread_of id rs)) refl (spread_visible (spread_of id rs)), all_append OneFeed (side_lines Side.Buy id rs) (side_lines Side.Sell id rs) (side_one Side.Buy id rs) (side_one Side.Sell id rs))

entry_one : (ed : Edition) (rs : List Row) (e : List ℕ) → All OneFeed (entry_lines ed rs e)
unfolding entry_lines
entry_one ed rs e =
    pick_ind (All OneFeed) (used e) (symbol_lines (security_in ed e) (symbol_of e) ++ book_lines (symbol_of e).id rs) []
    (λ _. all_append OneFeed (symbol_lines (security_in ed e) (symbol_of e)) (book_lines (symbol_of e).id rs) (symbol_one (security_in ed e) (symbol_of e)) (book_one (symbol_of e).id rs))
    (λ _. tt)

lines_one : (word : Recording) (bad : ℕ) (s : State) (orders symbols : List ℕ) → All OneFeed (lines_of word bad s orders symbols)
unfolding lines_of head_lines table_lines all_entries recording_key bad_key next_key stop_key second_key symbols_key orders_key visible both
lines_one word bad s orders symbols = (
  plain_one recording_key (recording_word word) refl (word_visible word),
  (
    number_one bad_key bad refl,
    (
      number_one next_key _ refl,
      (
        number_one stop_key _ refl,
        (
          number_one second_key _ refl,
          (
            number_one symbols_key (count_used (entries symbols)) refl,
            (
              number_one orders_key (count_live (rows orders)) refl,
              all_join OneFeed (map (entry_lines s.edition (rows orders)) (entries symbols)) (all_map (All OneFeed) (entry_lines s.edition (rows orders)) (entries symbols) (all_of (entry_one s.edition (rows orders)) (entries symbols))),
            ),
          ),
        ),
      ),
    ),
  ),
)

-- ---- cut behind each line feed
cut_body : (body rest : List ℕ) → visible body ≡ true → cut_feeds (body ++ (10 ∷ rest)) ≡ (body ++ (10 ∷ [])) ∷ cut_feeds rest
unfolding cut_feeds push_first visible pick
cut_body [] rest v = refl
cut_body (x ∷ body) rest v =
    let w = both_true {a = leb 32 x} {b = visible body} v in
    let n : x ≡ 10 → ⊥ = λ e. omega (arith, leb-true 32 x w.0) in
    rw (ne_eqb x 10 n, cut_body body rest w.1)

cut_line : (l : Line) (rest : List ℕ) → OneFeed l → cut_feeds (line_text l ++ rest) ≡ line_text l ∷ cut_feeds rest
unfolding line_text line_of
cut_line l rest o =
    let body = l.key ++ l.value in
    let e : line_text l ≡ body ++ (10 ∷ []) = sym (append_assoc l.key l.value (10 ∷ [])) in
    ap (λ (t : List ℕ). cut_feeds (t ++ rest)) e
    ∙ (ap cut_feeds (append_assoc body (10 ∷ []) rest) ∙ (cut_body body rest o ∙ ap (λ (t : List ℕ). t ∷ cut_feeds rest) (sym e)))

cut_lines : (ls : List Line) → All OneFeed ls → cut_feeds (text_of ls) ≡ map line_text ls
unfolding text_of join cut_feeds
cut_lines [] a = refl
cut_lines (l ∷ ls) a = cut_line l (text_of ls) a.0 ∙ ap (λ (x : List (List ℕ)). line_text l ∷ x) (cut_lines ls a.1)

-- "each ended by one line feed": a sheet cut behind each line feed is its lines
pub sheet_lines : (word : Recording) (bad : ℕ) (s : State) (orders symbols : List ℕ) → cut_feeds (sheet_of word bad s orders symbols) ≡ map line_text (lines_of word bad s orders symbols)
unfolding sheet_of
sheet_lines word bad s orders symbols = cut_lines (lines_of word bad s orders symbols) (lines_one word bad s orders symbols)
