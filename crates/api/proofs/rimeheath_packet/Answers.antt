-- The number and the records of what was read; an offset in a packet is small.
-- Assumes nothing.
use mathlib.Core.Path.{sym, ◌∙◌}
use Rattle.packet.proofs.Places.{packet_small}
use Rattle.api.proofs.Telling.{small_err}
use Rattle.api.proofs.rimeheath_packet.Goals as goal

pub code-requires : goal.code-requires
code-requires c = rw c.store.ensures.done (small_err _ (λ f e. packet_small _ c.args.p.now f (sym c.read_packet.ensures ∙ e)))
