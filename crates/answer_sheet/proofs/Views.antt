-- A used entry's symbol is known, so its views are not refused: the run holds the first levels of its ladder, and their lines are those of the side.
-- Assumes nothing.
use Prim.Native.Nat.{ℕ, ◌+◌, ◌*◌, ◌/◌, ◌≤◌, ◌<◌, min}
use mathlib.Core.Path.{◌≡◌, refl, sym, ap, ◌∙◌}
use mathlib.Core.Bool.{true, false}
use mathlib.Core.List.{List, [], ◌++◌, map}
use native.Mathlib.Decide.{dec_le}
use native.Mathlib.Omega.{arith}
use lib.ListN.{length, get_or, take}
use lib.Seq.{take_all}
use borrow.Author.Tests.{eq-eqb}
use Rattle.facts.specs.Pick.{pick}
use Rattle.facts.specs.Pieces.{join}
use Rattle.rows.specs.Rows.{rows}
use Rattle.rows.specs.declared.Row.{Row}
use Rattle.editions.specs.declared.Edition.{Edition}
use Rattle.fields.specs.Fields.{symbol_of}
use Rattle.body.specs.Shown.{security_in}
use Rattle.symbols.specs.Entries.{entries, used, id_of}
use Rattle.symbols.proofs.FindLaws.{is_symbol_lem, some_known}
use Rattle.views.specs.Ladder.{key_of, ladder, three_of, written}
use Rattle.views.specs.Views.{good_tables, view_fault, LadderOut, ladder_out, ladder_view}
use Rattle.views.specs.declared.Level.{Level}
use Rattle.views.specs.declared.Side.{Side}
use Rattle.std.specs.Prelude.{Result, Ok}
use Rattle.fields.specs.declared.Refusal.{Refusal}
use Rattle.views.proofs.Theorems.{level_stands, run_length}
use Rattle.views.proofs.ViewLaws.{no_fault}
use Rattle.text.specs.Text.{line_of, first_texts}
use Rattle.answer_sheet.specs.Keys.{side_key}
use Rattle.answer_sheet.specs.Lines.{line_text, text_of}
use Rattle.answer_sheet.specs.Sheet.{level_value, level_line, levels_shown, side_lines, symbol_lines, book_lines, entry_lines, all_entries, level_at}
use Rattle.answer_sheet.proofs.Lines.{texts_of, texts_of_all, text_join, text_map}

-- no view of a used entry's symbol is refused
pub used_shown : (orders symbols : List ℕ) (i : ℕ) → good_tables orders symbols ≡ true → used (get_or (entries symbols) i []) ≡ true → view_fault (id_of (get_or (entries symbols) i [])) orders symbols ≡ 0
used_shown orders symbols i g u =
    let e = get_or (entries symbols) i [] in
    sym (no_fault (id_of e) orders symbols g (some_known (id_of e) (entries symbols) i (is_symbol_lem (id_of e) e u refl)))

-- ---- an entry's lines
pub unused_lines : (ed : Edition) (rs : List Row) (e : List ℕ) → used e ≡ false → [] ≡ text_of (entry_lines ed rs e)
unfolding entry_lines text_of join pick
unused_lines ed rs e u = rw u

pub used_lines : (ed : Edition) (rs : List Row) (e : List ℕ) → used e ≡ true → text_of (symbol_lines (security_in ed e) (symbol_of e) ++ book_lines (symbol_of e).id rs) ≡ text_of (entry_lines ed rs e)
unfolding entry_lines pick
used_lines ed rs e u = rw u

pub entries_are : (ed : Edition) (orders symbols : List ℕ) (n : ℕ) → n ≡ length (entries symbols) → first_texts (λ i. text_of (entry_lines ed (rows orders) (get_or (entries symbols) i []))) n ≡ text_of (all_entries ed orders symbols)
unfolding all_entries
entries_are ed orders symbols n e =
    rw e (texts_of_all (λ x. text_of (entry_lines ed (rows orders) x)) (λ i. text_of (entry_lines ed (rows orders) (get_or (entries symbols) i []))) (entries symbols) [] (λ i h. refl) ∙ sym (text_join (entry_lines ed (rows orders)) (entries symbols)))

-- ---- a run of thirty numbers
module _ (ls : List Level) (o : List ℕ) (l : length o ≡ 30) where
  stands : (i : ℕ) (d : Level) → i < length ls → i < 10 → level_at (written ls o) i ≡ get_or ls i d
  unfolding level_at three_of
  stands i d h t =
      let s : i < length o / 3 = omega arith in
      let p : get_or (written ls o) (3 * i + 0) 0 ≡ (get_or ls i d).price = level_stands ls o i 0 d h s (omega arith) in
      let p' : get_or (written ls o) (3 * i) 0 ≡ (get_or ls i d).price = (let e : 3 * i ≡ 3 * i + 0 = omega arith in ap (λ (k : ℕ). get_or (written ls o) k 0) e) ∙ p in
      rw (p', level_stands ls o i 1 d h s (omega arith), level_stands ls o i 2 d h s (omega arith))

shown_take : (ls : List Level) (n : ℕ) → take (min n (length ls)) ls ≡ take n ls
shown_take ls n = go (dec_le n (length ls))
  where
    go : Dec (n ≤ length ls) → take (min n (length ls)) ls ≡ take n ls
    go (yes h) = let e : min n (length ls) ≡ n = omega arith in rw e
    go (no h) = take_all (min n (length ls)) ls (omega arith) ∙ sym (take_all n ls (omega arith))

no_level : Level
no_level = record { price = 0; shares = 0; orders = 0 }

-- the first levels of a run, each under the side's key
module _ (side : Side) (id : ℕ) (key : List ℕ) (k : key ≡ side_key side) where
  run_lines : (ls : List Level) (o : List ℕ) (n : ℕ) → length o ≡ 30 → n ≡ min levels_shown (length ls)
      → first_texts (λ i. line_of key (level_value (level_at (written ls o) i))) n ≡ text_of (map (level_line side id) (take levels_shown ls))
  unfolding levels_shown level_line line_text
  run_lines ls o n l e =
      texts_of (λ x. line_of key (level_value x)) (λ i. line_of key (level_value (level_at (written ls o) i))) ls no_level n (omega arith) (λ i h. ap (λ (x : Level). line_of key (level_value x)) (stands ls o l i no_level (omega arith) (omega arith)))
      ∙ ap (λ (x : List Level). join (map (λ y. line_of key (level_value y)) x)) (ap (λ (m : ℕ). take m ls) e ∙ shown_take ls 10)
      ∙ ap (λ (q : List ℕ). join (map (λ y. line_of q (level_value y)) (take 10 ls))) k
      ∙ sym (text_map (level_line side id) (take 10 ls))

-- ---- the ladder of a symbol whose views are not refused
module _ (side : Side) (id : ℕ) (orders symbols o : List ℕ) (f : view_fault id orders symbols ≡ 0) (a : Result ℕ Refusal) (u : List ℕ) (e : ladder_out a u ≡ ladder_view side id orders symbols o) where
  told : ladder_out a u ≡ ladder_out (Ok (length (ladder (key_of side id) (rows orders)))) (written (ladder (key_of side id) (rows orders)) o)
  unfolding ladder_view pick
  told = e ∙ rw (eq-eqb (view_fault id orders symbols) 0 f)

  -- it is told how many levels there are
  pub ladder_told : a ≡ Ok (length (ladder (key_of side id) (rows orders)))
  ladder_told = ap (λ (x : LadderOut). x.answer) told

  pub ladder_lines : (key : List ℕ) → key ≡ side_key side → (m n : ℕ) → a ≡ Ok m → length o ≡ 30 → n ≡ min levels_shown m
      → first_texts (λ i. line_of key (level_value (level_at u i))) n ≡ text_of (side_lines side id (rows orders))
  unfolding side_lines
  ladder_lines key k m n q l h =
      let ls = ladder (key_of side id) (rows orders) in
      let c : m ≡ length ls = (let w = sym q ∙ ladder_told in cc) in
      ap (λ (x : LadderOut). first_texts (λ i. line_of key (level_value (level_at x.run i))) n) told
      ∙ run_lines side id key k ls o n l (h ∙ ap (λ (x : ℕ). min levels_shown x) c)

  -- and the levels that are shown lie in the run
  pub run_fits : (m n : ℕ) → a ≡ Ok m → length o ≡ 30 → n ≡ min levels_shown m → 3 * n ≤ length u
  unfolding levels_shown
  run_fits m n q l h =
      let r : length u ≡ 30 = ap (λ (x : LadderOut). length x.run) told ∙ (run_length (ladder (key_of side id) (rows orders)) o ∙ l) in
      omega arith
