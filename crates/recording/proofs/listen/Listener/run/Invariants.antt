-- The loop keeps: the rest of the chunk, from here, gives the end of all.
-- Assumes nothing.
use mathlib.Core.Path.{◌≡◌}
use lib.ListN.{length}
use Rattle.arbitration.specs.Stream.{each}
use Rattle.recording.specs.Stream.{byte}
use Rattle.recording.specs.Steps.{Kept, Room, hearing_at}
use Rattle.recording.proofs.listen.Listener.run.Given as goal

abbrev pub invariant-loop-rest : goal.invariant-loop-rest
invariant-loop-rest l = record {
  kept : Kept l.initial.self l.self;
  room : Room l.self l.hold;
  size : length l.hold ≡ length l.initial.hold;
  same : each byte l.rest (hearing_at l.self l.hold) ≡ each byte l.chunk (hearing_at l.initial.self l.initial.hold);
}

abbrev pub decreases-loop-rest : goal.decreases-loop-rest
decreases-loop-rest l = length l.rest
