-- Each call stores its fields behind those before it, so that what stands there in the end is the message written (body_written).
-- Assumes nothing.
use Rattle.fields.specs.Messages.{add_order}
use Rattle.encode.proofs.Laws.{body_written}
use borrow.Author.Rules.{rules}
use Rattle.encode.proofs.add_body.Goals as goal

pub returns : goal.returns
returns c = rw (c.put-4.ensures, c.put-3.ensures, c.put-2.ensures, c.put.ensures, c.front_id.ensures) (body_written add_order c.args.m (search rules))
