-- The search from block b on gives what the whole search gives.
-- Assumes nothing.
use Rattle.std.proofs.Common.{◌≡◌, ◌-◌}
use Rattle.index.specs.Index.{blocks, block_from}
use Rattle.index.proofs.first_block.Given as goal

abbrev pub invariant-loop-b : goal.invariant-loop-b
invariant-loop-b l = block_from blocks l.ix 0 ≡ block_from (blocks - l.b) l.ix l.b
