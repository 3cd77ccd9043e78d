-- The search from block b on gives what the whole search gives.
-- Assumes nothing.
use Rattle.std.proofs.Common.{arith, ◌≡◌, sym, ◌∙◌}
use Rattle.index.specs.Index.{count_of}
use Rattle.index.proofs.Cases.{block_hit, block_on, block_end}
use Rattle.index.proofs.first_block.Goals as goal

pub returns-then-word-ne0 : goal.returns-then-word-ne0
returns-then-word-ne0 c = sym (c.loop-b.invariant ∙ block_hit c.args.ix.now c.loop-b.b (omega arith) (λ e. c.if-word-ne0.true (c.word.ensures ∙ e)))

pub loop-b-preserved : goal.loop-b-preserved
loop-b-preserved c =
    let z : count_of c.args.ix.now c.loop-b.b ≡ 0 = omega (arith, c.word.ensures) in
    c.loop-b.invariant ∙ block_on c.args.ix.now c.loop-b.b (omega arith) z

pub returns : goal.returns
returns c = sym (c.loop-b.invariant ∙ block_end c.args.ix.now c.loop-b.b (omega arith))
