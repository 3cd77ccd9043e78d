-- Beyond the memory, or what the reader says of the packet, or the packet behind its length (beyond, refused_here, good_here).
-- Assumes nothing.
use mathlib.Core.Path.{sym, ap, ◌∙◌}
use native.Mathlib.Omega.{arith}
use Rattle.packet.specs.declared.Why.{Why}
use Rattle.packet.proofs.Good.{good_framing, framing_size}
use Rattle.std.specs.Prelude.{Err}
use Rattle.std.proofs.lemmas.Result.{err_from_is_err_and}
use Rattle.writer.proofs.Laws.{beyond, refused_here, good_here}
use Rattle.writer.specs.Append.{writing, packet_appended}
use Rattle.writer.proofs.append_packet.Goals as goal

pub returns-then-memory-used : goal.returns-then-memory-used
unfolding packet_appended
returns-then-memory-used c = beyond _ _ c.args.memory.now c.args.used _ c.if-memory-used.true

pub returns-in_err-read_packet : goal.returns-in_err-read_packet
unfolding packet_appended
returns-in_err-read_packet c =
    let p = err_from_is_err_and c.from_residual.result c.from_residual.ensures.1 in
    ap (λ r. writing r c.args.memory.now) (p.1 ∙ ap (λ (w : Why). Err w) p.2) ∙ refused_here _ _ c.args.memory.now c.args.used _ _ c.if-memory-used.false (sym c.read_packet.ensures ∙ c.in_err-read_packet.was)

pub put_packet-requires : goal.put_packet-requires
put_packet-requires c =
    let f = good_framing c.args.e c.args.p.now _ (sym c.read_packet.ensures ∙ c.in_ok-read_packet.was) in
    omega (arith, (framing_size c.args.e c.args.p.now f.0 f.1).1)

pub returns : goal.returns
unfolding packet_appended
returns c = c.put_packet.ensures ∙ good_here _ _ c.args.memory.now c.args.used _ _ c.if-memory-used.false (sym c.read_packet.ensures ∙ c.in_ok-read_packet.was)
