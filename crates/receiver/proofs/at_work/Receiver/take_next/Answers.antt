-- A good record that is next, tried as it came: one law for each exit.
-- Assumes nothing.
use mathlib.Core.Path.{refl}
use Rattle.book.specs.Book.{book}
use Rattle.book.specs.Ledger.{ledger}
use Rattle.book.proofs.Laws.{rule_some}
use Rattle.receiver.proofs.Calls.{came_broken, came_goes}
use Rattle.receiver.proofs.at_work.Receiver.take_next.Goals as goal

pub returns-in_default-clause-turned : goal.returns-in_default-clause-turned
returns-in_default-clause-turned c =
    let w = c.args.self.now in
    let t = c.try_kind-tried in
    came_broken w.edition w.next (ledger (book w.orders.now w.symbols.now w.clock) w.index.now) w.shelf.now c.args.body.now w.whole c.requires c.at.result c.from-k.result c.at.ensures c.from-k.ensures _ (ledger (book t.new.orders t.new.symbols w.clock) t.new.index) c.in_default.ensures (rule_some _) c.put.new.s c.put.ensures

pub returns-clause-turned : goal.returns-clause-turned
returns-clause-turned c =
    let w = c.args.self.now in
    let t = c.try_kind-tried in
    came_goes w.edition w.next (ledger (book w.orders.now w.symbols.now w.clock) w.index.now) w.shelf.now c.args.body.now w.whole c.requires c.at.result c.from-k.result c.at.ensures c.from-k.ensures 0 (ledger (book t.new.orders t.new.symbols c.in-Ok.clock) t.new.index) c.in-Ok.ensures refl c.empty.new.s c.empty.ensures
