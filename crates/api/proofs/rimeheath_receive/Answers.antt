-- The number, the state and the account of what was received; an offset is one of reading, and small.
-- Assumes nothing.
use mathlib.Core.Path.{sym, ap, ◌∙◌}
use Rattle.packet.proofs.Places.{packet_small}
use Rattle.receiver.specs.Lent.{Handled}
use Rattle.receiver.proofs.Places.{bad_read}
use Rattle.api.proofs.Telling.{small_err}
use Rattle.api.proofs.rimeheath_receive.Goals as goal
use Rattle.api.proofs.rimeheath_receive.Goals.{then-is_ok, else-is_ok}

pub code-requires : goal.code-requires
code-requires c = rw c.store-done.ensures.done (small_err _ (λ f e. packet_small _ c.args.p.now f (bad_read _ c.args.p.now f (ap (λ (x : Handled). x.answer) (sym c.receive-r.ensures) ∙ e))))
