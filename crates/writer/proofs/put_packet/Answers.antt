-- Without room the memory is as it was (put_packet_refused); else length and packet stand in it (put_packet_stored).
-- Assumes nothing.
use mathlib.Core.Path.{sym, ◌∙◌}
use borrow.Author.Tests.{not-true, not-false}
use Rattle.writer.proofs.Laws.{put_packet_refused, put_packet_stored}
use Rattle.writer.proofs.put_packet.Goals as goal

pub returns-then-not-room_for : goal.returns-then-not-room_for
returns-then-not-room_for c = put_packet_refused c.args.memory.now c.args.used c.args.p.now (sym c.room_for.ensures ∙ not-true c.room_for.result c.if-not-room_for.true-raw)

pub returns : goal.returns
returns c = put_packet_stored c.args.memory.now c.args.used c.args.p.now _ _ (sym c.room_for.ensures ∙ not-false c.room_for.result c.if-not-room_for.false-raw) c.put.ensures c.put_at.ensures
