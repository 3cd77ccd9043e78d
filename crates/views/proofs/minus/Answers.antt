-- Each price stands as it is in a signed number, and so does the difference (minus_fits).
-- Assumes nothing.
use mir.Syntax.{w64}
use mir.ValLaws.{to_z-of_z}
use Rattle.views.proofs.Signs.{minus_fits, price_signed}
use Rattle.views.proofs.minus.Goals as goal

pub overflow_sub-result : goal.overflow_sub-result
overflow_sub-result c = rw (price_signed c.args.a c.requires.0, price_signed c.args.b c.requires.1) (minus_fits c.args.a c.args.b c.requires.0 c.requires.1)

pub returns : goal.returns
returns c = rw (price_signed c.args.a c.requires.0, price_signed c.args.b c.requires.1) (to_z-of_z w64 _ (minus_fits c.args.a c.args.b c.requires.0 c.requires.1))
