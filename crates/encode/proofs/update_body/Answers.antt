-- Each call stores its fields behind those before it, so that what stands there in the end is the message written (body_written).
-- That the arrays of the symbol are as long as their fields is known of the parameter alone (good): it lies too far back for search to find it unasked.
-- Assumes nothing.
use native.Mathlib.Omega.{arith}
use Rattle.layout.specs.Message.{Fit}
use Rattle.fields.specs.Messages.{symbol_update}
use Rattle.encode.proofs.Laws.{body_written}
use borrow.Author.Rules.{rules}
use Rattle.encode.proofs.update_body.Goals as goal

pub slice_bounds-put_at-end-6 : goal.slice_bounds-put_at-end-6
slice_bounds-put_at-end-6 c = search (rules, c.well_formed)

pub slice_bounds-put_at-end-8 : goal.slice_bounds-put_at-end-8
slice_bounds-put_at-end-8 c = search (rules, c.well_formed)

pub returns : goal.returns
returns c =
    let good = c.well_formed in
    let m = c.args.m in
    let fit : Fit symbol_update m = (omega (arith, good), (omega (arith, good), (search (rules, good), (omega (arith, good), (omega (arith, good), (omega (arith, good), (omega (arith, good), (search (rules, good), (search (rules, good), (omega (arith, good), tt)))))))))) in
    rw (c.put-2.ensures, c.put_at-4.ensures, c.put_at-3.ensures, c.put.ensures, c.put_at-2.ensures, c.put_at.ensures, c.front.ensures) (body_written symbol_update m fit)
