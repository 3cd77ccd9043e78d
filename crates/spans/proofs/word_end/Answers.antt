-- What is counted is what stands before the byte that ends the count, or all that is left.
-- Assumes nothing.
use Rattle.std.proofs.Common.{◌≡◌, ◌+◌, length, ap, ◌∙◌, rules, position, unwrap_or, tests}
use Rattle.std.proofs.lemmas.Iterator.{YieldsList-from_slice}
use Rattle.std.proofs.lemmas.Iterator.Search.{position_from_yields_List}
use Rattle.spans.specs.Spans.{blank, filled}
use Rattle.spans.proofs.Laws.{word_ends}
use Rattle.spans.proofs.word_end.Goals as goal

pub returns : goal.returns
returns c =
    let rest = c.behind-rest.result.now in
    let q : c.position.result ≡ position blank rest = position_from_yields_List blank _ _ _ c.position.ensures.ran (YieldsList-from_slice rest cc) (λ x b q k. search (rules, tests)) in
    let u = c.unwrap_or.ensures ∙ ap (λ o. unwrap_or o (length rest)) q ∙ word_ends rest in
    ap (λ n. c.args.from + n) (u ∙ ap filled c.behind-rest.ensures)
