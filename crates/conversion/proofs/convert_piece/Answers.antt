-- What is asked for is judged first (piece_not), and then the loop does the rest (piece_done).
-- Assumes nothing.
use Rattle.std.proofs.lemmas.Result.{err_from_is_err_and}
use Rattle.retype.specs.Retyped.{asked_of}
use Rattle.conversion.proofs.Exits.{piece_not, piece_done}
use Rattle.conversion.proofs.convert_piece.Goals as goal

pub returns-in_err-judge : goal.returns-in_err-judge
returns-in_err-judge c =
    let p = err_from_is_err_and c.from_residual.result c.from_residual.ensures.1 in
    rw (p.1, p.2) (piece_not c.args.from (asked_of c.args.a.now) c.args.b.now c.in_err-judge.field-0.0 (c.in_err-judge.ensures))

pub returns : goal.returns
returns c = piece_done c.args.from (asked_of c.args.a.now) c.args.b.now (c.in_ok-judge.ensures) _ c.turn.ensures
