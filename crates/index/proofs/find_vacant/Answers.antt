-- A walk that ends at 0 ends at the first empty slot.
-- Assumes nothing.
use Rattle.std.proofs.Common.{rules, tests}
use Rattle.index.specs.Index.{slots, hash}
use Rattle.index.proofs.Cases.{vacant_walk}
use Rattle.index.proofs.find_vacant.Goals as goal

pub returns : goal.returns
returns c = vacant_walk _ c.args.ix.now (λ s b k. search (rules, tests)) slots (hash c.args.id) c.first_slot.result c.first_slot.ensures
