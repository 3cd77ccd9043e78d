-- The number and the Symbol Updates of a conversion; an offset is one of reading, and small.
-- Assumes nothing.
use mathlib.Core.Path.{sym, ap, ◌∙◌}
use Rattle.conversion.specs.Packet.{Conversion}
use Rattle.api.proofs.Converting.{convert_small}
use Rattle.api.proofs.Telling.{small_err}
use Rattle.api.proofs.rimeheath_convert.Goals as goal

pub code-requires : goal.code-requires
code-requires c = rw c.store.ensures.done (small_err _ (λ f e. convert_small _ _ _ f (sym (ap (λ (x : Conversion). x.answer) c.convert-converted.ensures) ∙ e)))
