-- A slot that is not there has number 0.
-- Assumes nothing.
use Rattle.std.proofs.Common.{rules, [], refl}
use Rattle.shelf.proofs.Laws.{number_none}
use Rattle.shelf.proofs.slot_number.Goals as goal

pub returns-in-None : goal.returns-in-None
returns-in-None c = let a = c.args in number_none a.s.now a.i [] (search rules) refl
