-- The part of place j, filled with the level's three numbers, is the piece put in place; without such a place the run stays as it is.
-- Assumes nothing.
use Rattle.std.proofs.Common.{arith, ◌≡◌, ◌<◌, ◌+◌, ◌*◌, ◌-◌, ◌/◌, length, refl, sym}
use Rattle.facts.proofs.TableLaws.{part_put}
use Rattle.views.specs.Ladder.{three_of, put_level}
use Rattle.views.proofs.Runs.{level_past}
use Rattle.views.proofs.put_level.Goals as goal

pub returns-then-j-out : goal.returns-then-j-out
unfolding put_level three_of
returns-then-j-out c =
    let a = c.args in
    let h : a.j < length a.out.now / 3 = omega arith in
    let e : 3 * a.j + 3 - 3 * a.j ≡ 3 = omega arith in
    rw e (rw c.copy_from_slice.ensures.after (part_put 3 a.out.now a.j (three_of a.l) h refl))

pub returns-else-j-out : goal.returns-else-j-out
returns-else-j-out c = let a = c.args in sym (level_past a.out.now a.j a.l (omega arith))
