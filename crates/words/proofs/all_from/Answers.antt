use Rattle.std.proofs.Common.{◌∙◌, sym, rules, ◌&&◌, leb}
use Rattle.std.proofs.lemmas.Iterator.{YieldsList-from_slice}
use Rattle.std.proofs.lemmas.Iterator.Search.{all_from_yields_List}
use borrow.Author.Tests.{tests}
use Rattle.words.proofs.TypeLaws.{all_is}
use Rattle.words.proofs.all_from.Goals as goal

pub returns : goal.returns
returns c =
    let a = c.args in
    all_from_yields_List (λ x. leb a.lo x && leb x a.hi) _ _ c.all.result c.all.ensures.ran (YieldsList-from_slice a.s.now cc) (λ x b q k. search (rules, tests)) ∙ sym (all_is a.lo a.hi a.s.now)
