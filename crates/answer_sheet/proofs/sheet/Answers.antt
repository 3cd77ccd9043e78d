-- A bad size or next number is refused with the buffer as it was; else the whole text is stored as far as the buffer reaches.
-- Assumes nothing.
use mathlib.Core.Path.{sym, ◌∙◌}
use native.Mathlib.Omega.{arith}
use borrow.Author.Rules.{rules}
use borrow.Author.Tests.{not-true, not-false}
use Rattle.std.proofs.lemmas.Result.{err_from_is_err_and}
use Rattle.answer_sheet.proofs.Bound.{Machine}
use Rattle.answer_sheet.proofs.Exits.{sizes_good, sizes_refused, next_refused, sheet_stored}
use Rattle.answer_sheet.proofs.sheet.Goals as goal

pub returns-in_err-sizes : goal.returns-in_err-sizes
returns-in_err-sizes c =
    let a = c.args in
    let p = err_from_is_err_and c.from_residual.result c.from_residual.ensures.1 in
    rw (p.1, p.2) (sizes_refused a.word a.bad a.state a.orders.now a.symbols.now a.buf.now _ (sym c.in_err-sizes.was ∙ c.counts.ensures))

pub returns-then-not-next_ok : goal.returns-then-not-next_ok
returns-then-not-next_ok c =
    let a = c.args in
    let g = sizes_good a.orders.now a.symbols.now _ (sym c.in_ok-sizes.was ∙ c.counts.ensures) in
    next_refused a.word a.bad a.state a.orders.now a.symbols.now a.buf.now g (sym c.next_ok.ensures ∙ not-true _ c.if-not-next_ok.true-raw)

pub returns : goal.returns
returns c =
    let a = c.args in
    let g = sizes_good a.orders.now a.symbols.now _ (sym c.in_ok-sizes.was ∙ c.counts.ensures) in
    let n = sym c.next_ok.ensures ∙ not-false _ c.if-not-next_ok.false-raw in
    let wrote = c.all_lines.ensures in
    let m : Machine a.bad a.state a.symbols.now = record { bad_fits = search rules; second_fits = wrote.2; stop_fits = wrote.1; bytes = λ i. omega (arith, c.type_inv.symbols i) } in
    let k = sheet_stored a.word a.bad a.state a.orders.now a.symbols.now a.buf.now g n m in
    search (rules, k)
