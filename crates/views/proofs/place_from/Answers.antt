-- A row of the key is live, so its price is in range.
-- Assumes nothing.
use mathlib.Core.Path.{sym, ◌∙◌}
use Rattle.views.proofs.Laws.{key_price}
use Rattle.views.proofs.place_from.Goals as goal

pub far_of-d-requires : goal.far_of-d-requires
far_of-d-requires c = key_price c.args.key c.args.r (sym c.of_key.ensures ∙ c.if-not-of_key.false)
