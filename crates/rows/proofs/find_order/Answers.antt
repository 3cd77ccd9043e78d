-- The first place whose numbers are the order's row is the first row that is the order's.
-- Assumes nothing.
use Rattle.std.proofs.Common.{rules, tests, sym, ap, ◌∙◌}
use Rattle.std.proofs.lemmas.Iterator.{YieldsList-from_slice}
use Rattle.std.proofs.lemmas.Iterator.Search.{position_from_yields_List}
use Rattle.facts.specs.Search.{first}
use Rattle.rows.specs.Rows.{row_of}
use Rattle.rows.specs.Find.{is_order, find_order}
use Rattle.rows.proofs.Walks.{first_position}
use Rattle.rows.proofs.find_order.Goals as goal

pub returns : goal.returns
unfolding find_order
returns c =
    let p = is_order c.args.id in
    let xs = c.whole_rows.result.now in
    position_from_yields_List (λ x. p (row_of x)) _ _ _ c.position.ensures.ran (YieldsList-from_slice xs cc) (λ x b q k. search (rules, tests))
    ∙ sym (first_position p row_of xs) ∙ ap (first p 0) c.whole_rows.ensures
