-- Each call stores its fields behind those before it, so that what stands there in the end is the message written (body_written).
-- Assumes nothing.
use Rattle.fields.specs.Messages.{trading_status}
use Rattle.encode.proofs.Laws.{body_written}
use borrow.Author.Rules.{rules}
use Rattle.encode.proofs.status_body.Goals as goal

pub returns : goal.returns
returns c = rw (c.put_at.ensures, c.front.ensures) (body_written trading_status c.args.m (search rules))
