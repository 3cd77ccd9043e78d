-- What the walk from here on ends at, over the slots that are left, is what the whole walk ends at.
-- Assumes nothing.
use Rattle.std.proofs.Common.{arith}
use Rattle.index.proofs.Cases.{hash_below, walk_start, walk_hit, walk_on, walk_end}
use Rattle.index.proofs.first_slot.Goals as goal

pub overflow_add-p : goal.overflow_add-p
overflow_add-p g c = omega (arith, c.loop-n.invariant.start, hash_below c.args.id)

pub loop-n-init : goal.loop-n-init
loop-n-init g c = record { start = c.start_of-start.ensures; rest = λ found w. walk_start _ c.args.ix.now c.args.id c.start_of-start.result found c.start_of-start.ensures w }

pub returns-then-passes : goal.returns-then-passes
returns-then-passes g c = c.loop-n.invariant.rest _ (walk_hit _ c.args.ix.now c.loop-n.n _ c.word.result (omega arith) c.word.ensures c.if-passes.ensures)

pub loop-n-preserved : goal.loop-n-preserved
loop-n-preserved g c =
    record {
      start = c.loop-n.invariant.start;
      rest = λ found w. c.loop-n.invariant.rest found (walk_on _ c.args.ix.now c.loop-n.n _ _ c.word.result found (omega arith) c.word.ensures c.if-passes.ensures (omega arith) w);
    }

pub returns : goal.returns
returns g c = c.loop-n.invariant.rest _ (walk_end _ c.args.ix.now _ _ (omega arith))
