-- Refused as it came; else the end of the loop, with the rest of the buffer zeroed.
-- Assumes nothing.
use mathlib.Core.Path.{sym, ◌∙◌}
use borrow.Author.Rules.{rules}
use Rattle.recording.proofs.Exits.{fed_refused, fed_took, buffer_fits, clear_zeros}
use Rattle.recording.proofs.feed.Goals as goal

pub returns-then-not-can_feed : goal.returns-then-not-can_feed
returns-then-not-can_feed c =
    let a = c.args in
    fed_refused a.s a.orders.now a.symbols.now a.shelf.now a.index.now a.hold.now a.chunk.now (sym c.can_feed.ensures ∙ c.if-not-can_feed.true)

pub run-requires : goal.run-requires
run-requires c = let f = buffer_fits c.args.s _ _ _ _ _ (sym c.can_feed.ensures ∙ c.if-not-can_feed.false) in record { held = f.0; least = f.1 }

pub returns : goal.returns
returns c =
    let a = c.args in
    let r = c.run in
    let w = r.new.self in
    fed_took a.s a.orders.now a.symbols.now a.shelf.now a.index.now a.hold.now a.chunk.now (sym c.can_feed.ensures ∙ c.if-not-can_feed.false) w.stream _ _ _ _ r.new.hold _ w.orders.now w.symbols.now w.shelf.now w.index.now (search rules) (search rules) (search rules) (search rules) r.auto.hold r.ensures.room.held r.ensures.hearing
    (clear_zeros r.new.hold w.stream.held c.wipe.new.t r.ensures.room.held c.wipe.ensures)
