-- The reader of its own edition decides: rewritten (pass_good), refused for its size as by every edition (pass_refused), or what `bar` does (pass_bad).
-- Assumes nothing.
use mathlib.Core.Path.{sym}
use Rattle.packet.proofs.Places.{packet_small}
use Rattle.retype.specs.Retyped.{asked_of}
use Rattle.conversion.proofs.Exits.{packet_is, pass_good, pass_refused, pass_bad}
use Rattle.conversion.proofs.pass.Goals as goal

pub rewrite-requires : goal.rewrite-requires
rewrite-requires c = packet_is c.args.from c.args.p.now _ (sym (c.in-Ok.ensures))

pub bar-requires : goal.bar-requires
bar-requires c = packet_small c.args.from c.args.p.now _ (sym (rw c.in-Err-Placed.field-0-is at c.in-Err-Placed.ensures))

pub returns-in-Ok : goal.returns-in-Ok
returns-in-Ok c = pass_good c.args.from (asked_of c.args.a.now) c.args.p.now _ c.rewrite.result _ (sym (c.in-Ok.ensures)) c.rewrite.ensures

pub returns-in-Err-Alone : goal.returns-in-Err-Alone
returns-in-Err-Alone c = pass_refused c.args.from (asked_of c.args.a.now) c.args.p.now _ (sym (rw c.in-Err-Alone.field-0-is at c.in-Err-Alone.ensures))

pub returns-in-Err-Placed : goal.returns-in-Err-Placed
returns-in-Err-Placed c = pass_bad c.args.from (asked_of c.args.a.now) c.args.p.now _ _ (sym (rw c.in-Err-Placed.field-0-is at c.in-Err-Placed.ensures)) c.bar.ensures
