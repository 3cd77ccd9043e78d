use borrow.Author.Tests.{eqb-true}
use mathlib.Core.Path.{refl, sym, ap, ◌∙◌}
use Prim.Native.Nat.{ℕ}
use Rattle.rows.specs.Rows.{rows}
use Rattle.index.specs.Index.{each_row}
use Rattle.engines.specs.Engines.{left, noted}
use Rattle.engines.proofs.Alone.{noted_none}
use Rattle.engines.proofs.note.Goals as goal

pub returns-then-is_empty : goal.returns-then-is_empty
returns-then-is_empty c = noted_none c.args.w (rows c.args.t.now) c.args.ix.now (eqb-true _ _ (sym c.if-is_empty.ensures))

pub returns-in-Keep : goal.returns-in-Keep
unfolding noted
returns-in-Keep c = rw c.in-Keep.is refl

pub returns-in-Put : goal.returns-in-Put
unfolding noted
returns-in-Put c = rw c.in-Put.is c.note_put.ensures

pub returns-in-Clear : goal.returns-in-Clear
unfolding noted
returns-in-Clear c = rw c.in-Clear.is (c.note_clear.ensures ∙ ap (λ (s : ℕ). each_row (left s) 0 (rows c.args.t.now) c.args.ix.now) c.from.ensures)
