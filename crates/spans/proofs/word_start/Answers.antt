-- What is counted is what stands before the byte that ends the count, or all that is left.
-- Assumes nothing.
use Rattle.std.proofs.Common.{◌≡◌, ◌+◌, not, length, ap, ◌∙◌, rules, position, unwrap_or, tests}
use Rattle.std.proofs.lemmas.Iterator.{YieldsList-from_slice}
use Rattle.std.proofs.lemmas.Iterator.Search.{position_from_yields_List}
use Rattle.spans.specs.Spans.{blank, blanks}
use Rattle.spans.proofs.Laws.{word_starts}
use Rattle.spans.proofs.word_start.Goals as goal

pub returns : goal.returns
returns c =
    let rest = c.behind-rest.result.now in
    let q : c.position.result ≡ position (λ x. not (blank x)) rest = position_from_yields_List (λ x. not (blank x)) _ _ _ c.position.ensures.ran (YieldsList-from_slice rest cc) (λ x b q k. search (rules, tests)) in
    let u = c.unwrap_or.ensures ∙ ap (λ o. unwrap_or o (length rest)) q ∙ word_starts rest in
    ap (λ n. c.args.from + n) (u ∙ ap blanks c.behind-rest.ensures)
