-- The name, and the spaces and the type behind it.
-- Assumes nothing.
use mathlib.Core.Path.{◌≡◌, refl}
use Prim.Native.Nat.{◌+◌, ◌-◌}
use native.Mathlib.Omega.{arith}
use lib.ListN.{length}
use Rattle.words.specs.Types.{by_ticker}
use Rattle.words.proofs.TypeLaws.{type_behind}
use Rattle.words.proofs.by_ticker.Goals as goal

pub returns : goal.returns
unfolding by_ticker
returns c =
    let n = length c.args.name.now in
    let k : 1 + n - 1 ≡ n = omega arith in
    rw (← type_behind n c.args.t c.requires) (rw (k, c.copy_from_slice.ensures.after) refl)
