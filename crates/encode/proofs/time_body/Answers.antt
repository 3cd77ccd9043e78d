-- Each call stores its fields behind those before it, so that what stands there in the end is the message written (body_written).
-- Assumes nothing.
use Rattle.fields.specs.Messages.{system_time}
use Rattle.encode.proofs.Laws.{body_written}
use borrow.Author.Rules.{rules}
use Rattle.encode.proofs.time_body.Goals as goal

pub returns : goal.returns
returns c = rw (c.put-2.ensures, c.put.ensures) (body_written system_time c.args.seconds (search rules))
