-- Eight blocks without a free row are passed at once, and the search from there on gives what the whole search gives.
-- Assumes nothing.
use Rattle.std.proofs.Common.{rules, tests, arith, ◌==◌, ℕ, ap, ◌∙◌}
use Rattle.std.specs.List.{prefix_len, list_all}
use Rattle.std.proofs.lemmas.List.Folds.{length-prefix_len}
use Rattle.std.proofs.lemmas.Iterator.{YieldsList-from_slice}
use Rattle.std.proofs.lemmas.Iterator.Search.{YieldsList-from_take_while}
use Rattle.std.proofs.lemmas.Iterator.Consumers.{YieldsList-at, count_from_yields_List}
use Rattle.index.proofs.Cases.{block_start, eights_on}
use Rattle.index.proofs.skipped.Goals as goal

pub returns-in_default : goal.returns-in_default
returns-in_default c = (omega arith, block_start c.args.ix.now)

pub returns : goal.returns
returns c =
    let p = list_all {X = ℕ} (λ n. n == 0) in
    let cs = c.as_chunks.result.0.now in
    let r = count_from_yields_List c.take_while.result _ c.count.ensures.ran (YieldsList-from_take_while _ p (YieldsList-at c.take_while.ensures.source (YieldsList-from_slice cs cc)) c.take_while.ensures.closure c.take_while.ensures.done (λ x b q k. search (rules, tests))) in
    let at = c.in-Some.ensures.lookup.0 in
    eights_on c.args.ix.now c.in-Some.counts.now c.count.result at.2 at.3 (r ∙ length-prefix_len p cs ∙ ap (prefix_len p) c.as_chunks.ensures.front)
