-- The first place that holds the symbol's entry is the lowest.
-- Assumes nothing.
use Rattle.std.proofs.Common.{rules, tests, sym, ap, ◌∙◌}
use Rattle.std.proofs.lemmas.Iterator.{YieldsList-from_slice}
use Rattle.std.proofs.lemmas.Iterator.Search.{position_from_yields_List}
use Rattle.facts.specs.Search.{first}
use Rattle.symbols.specs.Find.{is_symbol, find_symbol}
use Rattle.symbols.proofs.FindLaws.{first_position}
use Rattle.symbols.proofs.find_symbol.Goals as goal

pub returns : goal.returns
unfolding find_symbol
returns c =
    let p = is_symbol c.args.id in
    let es = c.whole_entries.result.now in
    position_from_yields_List p _ _ _ c.position.ensures.ran (YieldsList-from_slice es cc) (λ x b q k. search (rules, tests))
    ∙ sym (first_position p es) ∙ ap (first p 0) c.whole_entries.ensures
