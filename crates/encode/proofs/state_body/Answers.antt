-- Each call stores its fields behind those before it, so that what stands there in the end is the message written (body_written).
-- Assumes nothing.
use Rattle.fields.specs.Messages.{system_state}
use Rattle.encode.proofs.Laws.{body_written}
use borrow.Author.Rules.{rules}
use Rattle.encode.proofs.state_body.Goals as goal

pub returns : goal.returns
returns c = rw (c.put_at-2.ensures, c.put_at.ensures, c.put-2.ensures, c.put.ensures) (body_written system_state c.args.m (search rules))
