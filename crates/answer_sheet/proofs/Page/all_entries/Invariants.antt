-- The loop keeps: the first i entries are printed; each turn prints one more.
-- Assumes nothing.
use mathlib.Core.List.{[]}
use lib.ListN.{get_or}
use Rattle.rows.specs.Rows.{rows}
use Rattle.symbols.specs.Entries.{entries}
use Rattle.text.specs.Text.{first_texts}
use Rattle.answer_sheet.specs.Lines.{text_of}
use Rattle.answer_sheet.specs.Page.{Printed}
use Rattle.answer_sheet.specs.Sheet.{entry_lines}
use Rattle.answer_sheet.proofs.Page.all_entries.Given as goal

abbrev pub invariant-loop-i : goal.invariant-loop-i
invariant-loop-i l = Printed l.initial.self (first_texts (λ j. text_of (entry_lines l.e (rows l.t.orders.now) (get_or (entries l.t.symbols.now) j []))) l.i) l.self
