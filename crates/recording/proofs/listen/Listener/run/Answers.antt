-- The loop keeps: the rest of the chunk, from here, gives the end of all.
-- Assumes nothing.
use borrow.Author.Rules.{rules}
use Rattle.recording.specs.Steps.{hearing_at}
use Rattle.recording.proofs.Exits.{ran}
use Rattle.recording.proofs.listen.Listener.run.Goals as goal

pub returns-clause-hearing : goal.returns-clause-hearing
returns-clause-hearing c = let l = c.loop-rest in ran l.rest.now (search rules) (hearing_at l.self l.hold) _ l.invariant.same
