-- The number and the head of what was read; an offset in a record is small.
-- Assumes nothing.
use mathlib.Core.Path.{sym, ◌∙◌}
use native.Mathlib.Omega.{arith}
use Rattle.packet.proofs.Places.{record_small}
use Rattle.api.proofs.Telling.{refused}
use Rattle.api.proofs.rimeheath_record.Goals as goal

pub with_offset-requires : goal.with_offset-requires
with_offset-requires c = omega (arith, record_small _ c.args.rest.now _ (sym (refused _ _ (sym c.store.ensures.done ∙ c.in-Err.is)) ∙ c.read_record.ensures))
