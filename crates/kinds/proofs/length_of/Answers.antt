-- Each turn is one step of the walk of all pairs (walked_at), and that finds what the search finds (walked_table).
-- Assumes nothing.
use mathlib.Core.Path.{sym, ◌∙◌}
use native.Mathlib.Omega.{arith}
use Rattle.kinds.specs.Table.{pair, table}
use Rattle.kinds.proofs.Laws.{kept_new, kept_old, walked_at, walked_end, walked_table}
use Rattle.kinds.proofs.length_of.Goals as goal
use Rattle.kinds.proofs.length_of.Goals.{then-m-t, else-m-t}

pub loop-m-preserved : goal.loop-m-preserved
unfolding table
loop-m-preserved c =
    let l = c.loop-m in
    walked_at c.args.t l.n c.if-m-t.n table l.m-index (pair 0 0) (omega arith) (elim c.if-m-t.branch [ then-m-t w ↦ kept_new c.args.t _ _ l.n _ w.if-m-t.true w.n-is | else-m-t w ↦ kept_old c.args.t _ _ l.n _ w.if-m-t.false w.n-is ])
    ∙ l.invariant

pub returns : goal.returns
unfolding table
returns c =
    let l = c.loop-m in
    sym (walked_end c.args.t l.n table l.m-index (omega arith)) ∙ l.invariant ∙ walked_table c.args.t
