-- Number, length and body, stored one behind the other, are the record's bytes (record_put).
-- Assumes nothing.
use Rattle.writer.proofs.Laws.{record_put}
use Rattle.writer.proofs.put_record.Goals as goal

pub returns : goal.returns
returns c = rw (c.put_at.ensures, c.put-2.ensures, c.put.ensures) (record_put c.args.memory.now c.args.body.now c.args.at c.args.number)
