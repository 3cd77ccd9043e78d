-- The four bytes stored over zeros, and the type behind them, are the definition's bytes one by one.
-- Assumes nothing.
use mathlib.Core.Path.{refl}
use Rattle.wire.specs.Le.{to_le}
use Rattle.words.specs.Types.{by_id}
use Rattle.words.proofs.by_id.Goals as goal

pub returns : goal.returns
unfolding by_id to_le
returns c = rw c.put.ensures refl
