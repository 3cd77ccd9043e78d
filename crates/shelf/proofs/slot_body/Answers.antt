-- A slot that is there has 64 bytes, of which the length takes the first or all (body_in); one that is not there has none.
-- Assumes nothing.
use Rattle.std.proofs.Common.{◌≡◌, min, rules, [], get_or, refl}
use Rattle.facts.specs.Pieces.{pieces}
use Rattle.shelf.specs.Shelf.{slot_size}
use Rattle.shelf.proofs.Laws.{body_none, body_in}
use Rattle.shelf.proofs.slot_body.Goals as goal

pub returns-in-Some : goal.returns-in-Some
returns-in-Some c =
    let a = c.args in
    let x = c.in-Some.x.now in
    let is : x ≡ get_or (pieces slot_size a.s.now) a.i [] = search rules in
    let e : c.min-n.result ≡ min c.at.result 64 = c.min-n.ensures in
    rw e (body_in a.s.now a.i x is c.at.result c.at.ensures (search rules))

pub returns-in-None : goal.returns-in-None
returns-in-None c = let a = c.args in body_none a.s.now a.i [] (search rules) refl
