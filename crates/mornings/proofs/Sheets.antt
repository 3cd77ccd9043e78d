-- No line but `type=` is made of byte 20, so tables that differ in it alone have the same other lines.
-- Assumes nothing.
use Prim.Native.Nat.{ℕ}
use mathlib.Core.Path.{◌≡◌, refl, sym, ap, ◌∙◌}
use mathlib.Core.Bool.{Bool, true, false}
use mathlib.Core.List.{List, [], ◌∷◌, ◌++◌, map}
use Rattle.facts.specs.Pick.{pick}
use Rattle.facts.specs.Pieces.{join}
use Rattle.editions.specs.declared.Edition.{Edition}
use Rattle.std.specs.Prelude.{None}
use Rattle.rows.specs.Rows.{rows}
use Rattle.rows.specs.Find.{count_live}
use Rattle.rows.specs.declared.Row.{Row}
use Rattle.symbols.specs.Entries.{entries}
use Rattle.receiver.specs.declared.State.{State}
use Rattle.answer_sheet.specs.declared.Recording.{Recording}
use Rattle.answer_sheet.specs.Lines.{Line}
use Rattle.answer_sheet.specs.Sheet.{head_lines, table_lines, symbol_lines, book_lines, entry_lines, all_entries, lines_of}
use Rattle.answer_sheet.specs.Types.{is_type, untyped, in_edition}
use Rattle.answer_sheet.proofs.Types.{only_types}
use Rattle.retype.specs.Retyped.{Asked, retyped}
use Rattle.mornings.specs.Tables.{entries_to}
use Rattle.mornings.proofs.Entries.{entries_to_lem, used_to, symbol_to, count_to}

-- lines without `type=` have none to lose
untyped_twice : (ls : List Line) → untyped (untyped ls) ≡ untyped ls
unfolding untyped pick
untyped_twice [] = refl
untyped_twice (l ∷ ls) = go (is_type l) refl (untyped_twice ls)
  where
    go : (t : Bool) → is_type l ≡ t → untyped (untyped ls) ≡ untyped ls → untyped (pick t (untyped ls) (l ∷ untyped ls)) ≡ pick t (untyped ls) (l ∷ untyped ls)
    go true e h = h
    go false e h = rw e (ap (λ (r : List Line). l ∷ r) h)

-- in every edition they are the lines of the 1.3.b sheet
pub untyped_is : (ed : Edition) (word : Recording) (bad : ℕ) (s : State) (orders symbols : List ℕ)
    → untyped (lines_of word bad (in_edition ed s) orders symbols) ≡ lines_of word bad (in_edition Edition.V13b s) orders symbols
untyped_is Edition.V13 word bad s o t = only_types word bad s o t
untyped_is Edition.V13b word bad s o t = ap untyped (sym (only_types word bad s o t)) ∙ untyped_twice (lines_of word bad (in_edition Edition.V13 s) o t) ∙ only_types word bad s o t

entry_alike : (a : Asked) (rs : List Row) (e : List ℕ) → entry_lines Edition.V13b rs (retyped a e) ≡ entry_lines Edition.V13b rs e
unfolding entry_lines
entry_alike a rs e = λ i. pick (used_to a e i) (symbol_lines None (symbol_to a e i) ++ book_lines (symbol_to a e i).id rs) []

join_alike : {A B : Type 0} (f : B → List A) (g : B → B) → ((x : B) → f (g x) ≡ f x) → (xs : List B) → join (map f (map g xs)) ≡ join (map f xs)
unfolding join
join_alike f g h [] = refl
join_alike f g h (x ∷ xs) = λ i. h x i ++ join_alike f g h xs i

newer_alike : (a : Asked) (word : Recording) (bad : ℕ) (s : State) (orders symbols : List ℕ)
    → lines_of word bad (in_edition Edition.V13b s) orders (entries_to a symbols) ≡ lines_of word bad (in_edition Edition.V13b s) orders symbols
unfolding lines_of all_entries
newer_alike a word bad s o t =
    let lines : List ℕ → List Line = entry_lines Edition.V13b (rows o) in
    let all : join (map lines (entries (entries_to a t))) ≡ join (map lines (entries t)) = ap (λ (es : List (List ℕ)). join (map lines es)) (entries_to_lem a t) ∙ join_alike lines (retyped a) (entry_alike a (rows o)) (entries t) in
    λ i. head_lines word bad (in_edition Edition.V13b s) ++ (table_lines s.clock.second (count_to a t i) (count_live (rows o)) ++ all i)

-- the lines of one morning in two editions, but for those `type=`
pub lines_alike : (ed ed' : Edition) (a : Asked) (word : Recording) (bad : ℕ) (s : State) (orders symbols : List ℕ)
    → untyped (lines_of word bad (in_edition ed' s) orders (entries_to a symbols)) ≡ untyped (lines_of word bad (in_edition ed s) orders symbols)
lines_alike ed ed' a word bad s o t = untyped_is ed' word bad s o (entries_to a t) ∙ newer_alike a word bad s o t ∙ sym (untyped_is ed word bad s o t)
