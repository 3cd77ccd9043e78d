-- Number and length stored in front, and the body's part behind them, are the slot (filled).
-- Assumes nothing.
use Rattle.shelf.proofs.Laws.{filled}
use Rattle.shelf.proofs.write.Goals as goal

pub returns : goal.returns
returns c =
    let one = c.put_le in
    let two = c.put_le-2 in
    let three = c.copy_at in
    filled c.args.x.now c.args.number c.args.body.now one.new.out two.new.out three.new.out c.requires one.ensures two.ensures three.ensures
