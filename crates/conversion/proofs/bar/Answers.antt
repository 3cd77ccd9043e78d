-- The reader of the edition asked for decides: it takes the packet, whose byte behind the fault is then 0 (bar_taken), or refuses it (bar_refused).
-- Assumes nothing.
use mathlib.Core.Path.{sym, ◌∙◌}
use Rattle.retype.specs.Retyped.{asked_of}
use Rattle.conversion.proofs.Exits.{bar_taken, bar_refused}
use Rattle.conversion.proofs.bar.Goals as goal

pub returns-then-is_err : goal.returns-then-is_err
returns-then-is_err c = bar_refused (asked_of c.args.a.now) c.args.f c.args.p.now c.read_packet.result c.read_packet.ensures (sym c.is_err.ensures.value ∙ c.if-is_err.true)

pub returns : goal.returns
returns c = rw c.put.ensures (bar_taken (asked_of c.args.a.now) c.args.f c.args.p.now c.read_packet.result c.read_packet.ensures (sym c.is_err.ensures.value ∙ c.if-is_err.false))
