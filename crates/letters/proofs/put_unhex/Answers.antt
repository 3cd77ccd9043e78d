-- Each byte so far is what its two digits say.
-- Assumes nothing.
use Rattle.std.proofs.Common.{◌+◌, ◌*◌, arith}
use Rattle.facts.proofs.Lists.{write_more}
use Rattle.letters.proofs.HexLaws.{byte_at, is_unhex, hex_at}
use Rattle.letters.proofs.put_unhex.Goals as goal

pub two_digits-requires-clause-high : goal.two_digits-requires-clause-high
two_digits-requires-clause-high c = hex_at c.args.digits.now (2 * c.loop-i.i) c.requires.good (omega arith)

pub two_digits-requires-clause-low : goal.two_digits-requires-clause-low
two_digits-requires-clause-low c = hex_at c.args.digits.now (2 * c.loop-i.i + 1) c.requires.good (omega arith)

pub loop-i-preserved : goal.loop-i-preserved
unfolding byte_at
loop-i-preserved c =
    let l = c.loop-i in
    write_more l.out (byte_at c.args.digits.now) l.i c.two_digits.result (omega arith) c.two_digits.ensures l.invariant

pub returns : goal.returns
returns c = is_unhex c.args.digits.now c.loop-i.out (omega arith) (λ k h. c.loop-i.invariant k (omega arith))
