-- What is entered from row i on gives what all rows give.
-- Assumes nothing.
use Rattle.std.proofs.Common.{arith, get_or, drop, ◌+◌, ◌≡◌, sym, ap, refl, ◌∙◌}
use Rattle.rows.specs.declared.Row.{Row}
use Rattle.rows.specs.Rows.{rows, zero_row}
use Rattle.rows.proofs.Tables.{length_rows}
use Rattle.index.specs.Index.{entered, each_row}
use Rattle.index.proofs.Cases.{each_more, each_end}
use Rattle.index.proofs.enter_rows.Goals as goal

pub loop-i-init : goal.loop-i-init
loop-i-init c = record { end = omega arith; rest = refl }

pub loop-i-preserved : goal.loop-i-preserved
loop-i-preserved c =
    let a = c.args in
    let l = c.loop-i in
    let e : c.enter.new.ix ≡ entered l.ix (get_or (rows a.t.now) l.i zero_row) l.i = c.enter.ensures ∙ ap (λ (r : Row). entered l.ix r l.i) c.row_at.ensures in
    record {
      end = l.invariant.end;
      rest = l.invariant.rest ∙ each_more entered (rows a.t.now) l.i l.ix (rw length_rows (omega arith)) ∙ ap (each_row entered (l.i + 1) (drop (l.i + 1) (rows a.t.now))) (sym e);
    }

pub returns : goal.returns
returns c = sym (c.loop-i.invariant.rest ∙ each_end entered (rows c.args.t.now) c.loop-i.i c.loop-i.ix (rw length_rows (omega arith)))
