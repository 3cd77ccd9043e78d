-- Each call stores its fields behind those before it, so that what stands there in the end is the message written (body_written).
-- Assumes nothing.
use Rattle.fields.specs.Messages.{delete_order}
use Rattle.encode.proofs.Laws.{body_written}
use borrow.Author.Rules.{rules}
use Rattle.encode.proofs.delete_body.Goals as goal

pub returns : goal.returns
returns c = rw c.front_id.ensures (body_written delete_order c.args.m (search rules))
