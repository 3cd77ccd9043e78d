-- The block found decides where the walk over the rows begins; it is below 250, so the product fits.
-- Assumes nothing.
use Rattle.std.proofs.Common.{arith, sym, ◌∙◌}
use Rattle.rows.specs.Rows.{rows}
use Rattle.index.proofs.Cases.{free_none, free_at, block_below}
use Rattle.index.proofs.lowest_free.Goals as goal

pub returns-in_err-b : goal.returns-in_err-b
returns-in_err-b c = c.from_residual.ensures ∙ sym (free_none c.args.ix.now (rows c.args.t.now) (sym c.in_err-b.ensures))

pub overflow_mul-b : goal.overflow_mul-b
overflow_mul-b c = omega (arith, block_below c.args.ix.now c.in_ok-b.b (sym c.in_ok-b.ensures))

pub returns : goal.returns
returns c = c.free_from.ensures ∙ sym (free_at c.args.ix.now (rows c.args.t.now) c.in_ok-b.b (sym c.in_ok-b.ensures))
