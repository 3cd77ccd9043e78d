-- A part of 74 bytes that comes back zeroed is an empty slot put (part_put); without such a slot nothing changes.
-- Assumes nothing.
use mathlib.Core.Path.{refl}
use Rattle.arbitration.specs.Slots.{empty_slot}
use Rattle.shelf.proofs.Laws.{part_put, put_past, empty_part}
use Rattle.shelf.proofs.empty.Goals as goal

pub returns-then-i-s : goal.returns-then-i-s
returns-then-i-s c =
    let a = c.args in
    let w = c.wipe in
    let h = c.if-i-s.true in
    part_put a.s.now a.i empty_slot w.new.t h (empty_part a.s.now a.i w.new.t h w.ensures) refl

pub returns-else-i-s : goal.returns-else-i-s
returns-else-i-s c = let a = c.args in put_past a.s.now a.i empty_slot c.if-i-s.false
