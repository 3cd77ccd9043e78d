-- Each call stores its fields behind those before it, so that what stands there in the end is the message written (body_written).
-- Assumes nothing.
use Rattle.fields.specs.Messages.{symbol_clear}
use Rattle.encode.proofs.Laws.{body_written}
use borrow.Author.Rules.{rules}
use Rattle.encode.proofs.clear_body.Goals as goal

pub returns : goal.returns
returns c = rw c.front.ensures (body_written symbol_clear c.args.m (search rules))
