-- Each number is compared with its own largest, and the largest are those of the fields (all_fit).
-- Assumes nothing.
use mathlib.Core.Path.{◌∙◌, ap}
use native.Mathlib.Omega.{arith}
use lib.ListN.{drop, length-drop}
use lib.Seq.{take_all}
use borrow.Author.Tests.{tests}
use Rattle.std.proofs.Common.{rules}
use Rattle.std.proofs.lemmas.Iterator.{cases_from_all, YieldsList-from_zip, YieldsList-from_slice}
use Rattle.std.specs.Slice.Iter.{iter_rest}
use Rattle.numbers.specs.Drafts.{most}
use Rattle.numbers.proofs.Held.{Below, Above, by_all, all_fit}
use Rattle.numbers.proofs.fits.Goals as goal

pub returns : goal.returns
returns c t h =
    let numbers = YieldsList-from_slice (drop 1 c.args.n.now) (ap iter_rest c.zip.ensures.first ∙ c.iter.ensures.rest ∙ take_all 7 (drop 1 c.args.n.now) (omega (arith, length-drop 1 c.args.n.now, c.told-n))) in
    let largest = YieldsList-from_slice (most c.args.e c.args.k) (ap iter_rest c.zip.ensures.second ∙ c.iter-2.ensures.rest ∙ c.most-largest.ensures) in
    let ran = cases_from_all c.all.new.self _ _ Below Above c.all.ensures.ran (YieldsList-from_zip numbers largest) (λ x q k. search (rules, tests)) (λ x q k. search (rules, tests)) in
    by_all (drop 1 c.args.n.now) (most c.args.e c.args.k) c.all.result ran
    ∙ all_fit c.args.e c.args.k c.args.n.now t c.told-n (c.fits-n 1, c.fits-n 2, c.fits-n 3, c.fits-n 4, c.fits-n 5, c.fits-n 6, c.fits-n 7) h
