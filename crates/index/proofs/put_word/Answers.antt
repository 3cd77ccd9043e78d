-- A store past the end leaves the list as it is.
-- Assumes nothing.
use mathlib.Core.Path.{sym}
use lib.Seq.{set_out}
use Rattle.index.proofs.put_word.Goals as goal

pub returns-else-p-ix : goal.returns-else-p-ix
returns-else-p-ix c = sym (set_out c.args.ix.now c.args.p c.args.v c.if-p-ix.false)
