-- The search from row i on, over the rows left, gives what the search from row s on gives.
-- Assumes nothing.
use Rattle.std.proofs.Common.{arith, ◌≡◌, true, false, get_or, refl, sym, ◌∙◌}
use Rattle.rows.specs.Rows.{rows, zero_row, free}
use Rattle.rows.proofs.Walks.{row_hit, row_miss, row_end}
use Rattle.rows.proofs.free_from.Goals as goal

pub loop-i-init : goal.loop-i-init
loop-i-init c = record { end = omega arith; rest = refl }

pub returns-then-is_free : goal.returns-then-is_free
returns-then-is_free c =
    let e : free (get_or (rows c.args.t.now) c.loop-i.i zero_row) ≡ true = cc in
    sym (c.loop-i.invariant.rest ∙ row_hit free c.args.t.now c.loop-i.i (omega arith) e)

pub loop-i-preserved : goal.loop-i-preserved
loop-i-preserved c =
    let e : free (get_or (rows c.args.t.now) c.loop-i.i zero_row) ≡ false = cc in
    record { end = c.loop-i.invariant.end; rest = c.loop-i.invariant.rest ∙ row_miss free c.args.t.now c.loop-i.i (omega arith) e }

pub returns : goal.returns
returns c = sym (c.loop-i.invariant.rest ∙ row_end free c.args.t.now c.loop-i.i (omega arith))
