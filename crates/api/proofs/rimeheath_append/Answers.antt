-- The number and the new length of what was written; an offset is one of reading, and small.
-- Assumes nothing.
use Rattle.api.proofs.Writing.{numbers_small}
use Rattle.api.proofs.rimeheath_append.Goals as goal

pub code-requires : goal.code-requires
code-requires c = rw c.store.ensures.done (numbers_small _ _ _ _ _ _ _ _ c.append_numbers-written.ensures)
