-- The loop keeps: the first i rows are wiped, the others and the rest as they were; a table is its rows and the rest.
-- Assumes nothing.
use mathlib.Core.Path.{refl, sym, ap, ◌∙◌}
use native.Mathlib.Omega.{arith}
use lib.ListN.{length}
use Rattle.facts.proofs.Lists.{map_none}
use Rattle.rows.specs.Rows.{rows, rest}
use Rattle.rows.proofs.Tables.{length_put_row, rest_put_row, flat_rest}
use Rattle.rows.proofs.Walks.{map_row, map_past}
use Rattle.orders.specs.Work.{wiped, cleared}
use Rattle.orders.proofs.clear.Goals as goal

pub loop-i-init : goal.loop-i-init
loop-i-init c = record { end = omega arith; size = refl; rest = refl; rows = sym (map_none (wiped c.args.symbol) (rows c.args.t.now)) }

pub loop-i-preserved : goal.loop-i-preserved
loop-i-preserved c =
    let a = c.args in
    let l = c.loop-i in
    let e = c.wipe.ensures in
    record {
      end = l.invariant.end;
      size = ap length e ∙ length_put_row _ _ _ ∙ l.invariant.size;
      rest = ap rest e ∙ rest_put_row _ _ _ ∙ l.invariant.rest;
      rows = ap rows e ∙ map_row (wiped a.symbol) a.t.now l.i l.t (omega arith) l.invariant.rows;
    }

pub returns : goal.returns
unfolding cleared
returns c =
    let a = c.args in
    let l = c.loop-i in
    sym (flat_rest l.t) ∙ rw (l.invariant.rest, l.invariant.rows, map_past (wiped a.symbol) a.t.now l.i (omega arith))
