-- The digits of the first bytes are written; each turn writes one byte's.
-- Assumes nothing.
use Rattle.std.proofs.Common.{rules}
use Rattle.letters.proofs.HexLaws.{digits_none, digits_more}
use Rattle.letters.proofs.put_hex.Goals as goal

pub loop-x-init : goal.loop-x-init
loop-x-init c = digits_none c.args.v.now (search rules)

pub loop-x-preserved : goal.loop-x-preserved
loop-x-preserved c = search (rules, digits_more)
