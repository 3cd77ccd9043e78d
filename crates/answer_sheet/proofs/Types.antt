-- The sheet of 1.3 without its `type=` lines is that of 1.3.b, line by line (request 10): no other key is `type=`, and no other line hangs on the edition.
-- Assumes nothing.
use Prim.Native.Nat.{ℕ}
use mathlib.Core.Path.{◌≡◌, refl, ap, ◌∙◌}
use mathlib.Core.Bool.{Bool, true, false}
use mathlib.Core.List.{List, [], ◌∷◌, ◌++◌, map}
use lib.ListN.{take}
use Rattle.facts.specs.Pick.{pick, both}
use Rattle.facts.specs.Pieces.{join}
use Rattle.facts.specs.Same.{same_bytes}
use Rattle.editions.specs.declared.Edition.{Edition}
use Rattle.fields.specs.Fields.{symbol_of, security_of}
use Rattle.fields.specs.declared.Symbol.{Symbol}
use Rattle.body.specs.Shown.{security_in}
use Rattle.std.specs.Prelude.{Some, None}
use Rattle.rows.specs.Rows.{rows}
use Rattle.rows.specs.Find.{count_live}
use Rattle.rows.specs.declared.Row.{Row}
use Rattle.ascend.proofs.Each.{all_append, all_map}
use Rattle.ascend.proofs.Places.{All, all_of}
use Rattle.symbols.specs.Entries.{entries, used}
use Rattle.symbols.specs.Find.{count_used}
use Rattle.views.specs.Ladder.{key_of, ladder}
use Rattle.views.specs.declared.Level.{Level}
use Rattle.views.specs.declared.Side.{Side}
use Rattle.receiver.specs.declared.State.{State}
use Rattle.answer_sheet.specs.declared.Recording.{Recording}
use Rattle.answer_sheet.specs.Keys.{recording_key, bad_key, next_key, stop_key, second_key, symbols_key, orders_key, symbol_key, ticker_key, type_key, lot_key, spread_key, bid_key, ask_key, side_key}
use Rattle.answer_sheet.specs.Lines.{Line, plain}
use Rattle.answer_sheet.specs.Sheet.{head_lines, table_lines, level_line, levels_shown, side_lines, type_lines, symbol_lines, book_lines, entry_lines, all_entries, lines_of}
use Rattle.answer_sheet.specs.Types.{is_type, untyped, in_edition}

-- ---- lists of lines
-- any other line
abbrev Other : Line → Type 0
Other l = is_type l ≡ false

untyped_then : (a b : List Line) → untyped (a ++ b) ≡ untyped a ++ untyped b
unfolding untyped pick
untyped_then [] b = refl
untyped_then (l ∷ a) b = go (is_type l) (untyped_then a b)
  where
    go : (t : Bool) → untyped (a ++ b) ≡ untyped a ++ untyped b → pick t (untyped (a ++ b)) (l ∷ untyped (a ++ b)) ≡ pick t (untyped a) (l ∷ untyped a) ++ untyped b
    go true e = e
    go false e = ap (λ (ls : List Line). l ∷ ls) e

-- other lines stay
untyped_others : (ls : List Line) → All Other ls → untyped ls ≡ ls
unfolding untyped pick
untyped_others [] h = refl
untyped_others (l ∷ ls) h = rw h.0 (ap (λ (r : List Line). l ∷ r) (untyped_others ls h.1))

untyped_join : {A : Type 0} (f g : A → List Line) → ((x : A) → untyped (f x) ≡ g x) → (xs : List A) → untyped (join (map f xs)) ≡ join (map g xs)
unfolding untyped join
untyped_join f g e [] = refl
untyped_join f g e (x ∷ xs) = untyped_then (f x) (join (map f xs)) ∙ (λ i. e x i ++ untyped_join f g e xs i)

-- ---- the lines of a sheet
level_other : (side : Side) (id : ℕ) (l : Level) → Other (level_line side id l)
unfolding is_type same_bytes both level_line side_key bid_key ask_key type_key
level_other Side.Buy id l = refl
level_other Side.Sell id l = refl

side_other : (side : Side) (id : ℕ) (rs : List Row) → All Other (side_lines side id rs)
unfolding side_lines
side_other side id rs = all_map Other (level_line side id) (take levels_shown (ladder (key_of side id) rs)) (all_of (level_other side id) (take levels_shown (ladder (key_of side id) rs)))

book_other : (id : ℕ) (rs : List Row) → All Other (book_lines id rs)
unfolding book_lines is_type same_bytes both plain spread_key type_key
book_other id rs = (refl, all_append Other (side_lines Side.Buy id rs) (side_lines Side.Sell id rs) (side_other Side.Buy id rs) (side_other Side.Sell id rs))

head_other : (word : Recording) (bad : ℕ) (s : State) → All Other (head_lines word bad s)
unfolding head_lines is_type same_bytes both plain recording_key bad_key next_key stop_key type_key
head_other word bad s = (refl, (refl, (refl, (refl, tt))))

table_other : (second symbols orders : ℕ) → All Other (table_lines second symbols orders)
unfolding table_lines is_type same_bytes both plain second_key symbols_key orders_key type_key
table_other second symbols orders = (refl, (refl, (refl, tt)))

symbol_untyped : (x : ℕ) (s : Symbol) → untyped (symbol_lines (Some x) s) ≡ symbol_lines None s
unfolding untyped symbol_lines type_lines is_type same_bytes both pick plain symbol_key ticker_key type_key lot_key
symbol_untyped x s = refl

entry_untyped : (rs : List Row) (e : List ℕ) → untyped (entry_lines Edition.V13 rs e) ≡ entry_lines Edition.V13b rs e
unfolding entry_lines untyped pick
entry_untyped rs e = go (used e)
  where
    a : Edition → List Line
    a ed = symbol_lines (security_in ed e) (symbol_of e)

    b : List Line
    b = book_lines (symbol_of e).id rs

    go : (t : Bool) → untyped (pick t (a Edition.V13 ++ b) []) ≡ pick t (a Edition.V13b ++ b) []
    go true = untyped_then (a Edition.V13) b ∙ (λ i. symbol_untyped (security_of e) (symbol_of e) i ++ untyped_others b (book_other (symbol_of e).id rs) i)
    go false = refl

-- "Only the 1.3 sheet shows it": of one receiver's tables, the lines in 1.3 but for those `type=` are the lines in 1.3.b
pub only_types : (word : Recording) (bad : ℕ) (s : State) (orders symbols : List ℕ)
    → untyped (lines_of word bad (in_edition Edition.V13 s) orders symbols) ≡ lines_of word bad (in_edition Edition.V13b s) orders symbols
unfolding lines_of all_entries head_lines
only_types word bad s orders symbols =
    let counts : List Line = table_lines s.clock.second (count_used (entries symbols)) (count_live (rows orders)) in
    let front : List Line = head_lines word bad s in
    let all : Edition → List Line = λ ed. join (map (entry_lines ed (rows orders)) (entries symbols)) in
    untyped_then front (counts ++ all Edition.V13)
    ∙ (λ i. untyped_others front (head_other word bad s) i ++ untyped_then counts (all Edition.V13) i)
    ∙ (λ i. front ++ (untyped_others counts (table_other s.clock.second (count_used (entries symbols)) (count_live (rows orders))) i ++ untyped_join (entry_lines Edition.V13 (rows orders)) (entry_lines Edition.V13b (rows orders)) (entry_untyped (rows orders)) (entries symbols) i))
