-- What is asked for is judged first (answer_not), and then the reader of its own edition decides (answer_bad, answer_good).
-- Assumes nothing.
use mathlib.Core.Path.{sym}
use Rattle.std.proofs.lemmas.Result.{err_from_is_err_and}
use Rattle.retype.specs.Retyped.{asked_of}
use Rattle.conversion.proofs.Exits.{packet_is, answer_not, answer_bad, answer_good}
use Rattle.conversion.proofs.convert.Goals as goal

pub returns-in_err-judge : goal.returns-in_err-judge
returns-in_err-judge c =
    let p = err_from_is_err_and c.from_residual.result c.from_residual.ensures.1 in
    rw (p.1, p.2) (answer_not c.args.from (asked_of c.args.a.now) c.args.p.now c.in_err-judge.field-0.0 (c.in_err-judge.ensures))

pub returns-in_err-read_packet : goal.returns-in_err-read_packet
returns-in_err-read_packet c =
    let p = err_from_is_err_and c.from_residual-in_err-read_packet.result c.from_residual-in_err-read_packet.ensures.1 in
    rw (p.1, p.2) (answer_bad c.args.from (asked_of c.args.a.now) c.args.p.now (c.in_ok-judge.ensures) c.in_err-read_packet.field-0.0 (sym (c.in_err-read_packet.ensures)))

pub rewrite-requires : goal.rewrite-requires
rewrite-requires c = packet_is c.args.from c.args.p.now _ (sym (c.in_ok-read_packet.ensures))

pub returns : goal.returns
returns c = answer_good c.args.from (asked_of c.args.a.now) c.args.p.now (c.in_ok-judge.ensures) _ c.rewrite.result _ (sym (c.in_ok-read_packet.ensures)) c.rewrite.ensures
