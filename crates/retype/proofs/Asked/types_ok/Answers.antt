-- All of them are in range where none is found that is not.
-- Assumes nothing.
use Rattle.std.proofs.Common.{◌∙◌, refl, rules}
use Rattle.std.proofs.lemmas.Iterator.Search.{all_from_yields_List}
use borrow.Author.Tests.{tests}
use Rattle.facts.specs.Pick.{both}
use Rattle.body.specs.Ranges.{security_ok}
use Rattle.retype.specs.Types.{type_of, types_ok}
use Rattle.retype.proofs.ExceptionLaws.{one_by_one, all_good}
use Rattle.retype.proofs.Asked.types_ok.Goals as goal

pub returns-then-security_ok : goal.returns-then-security_ok
unfolding types_ok both
returns-then-security_ok c =
    let a = c.args.self.now in
    let all = c.chunks_exact.ensures in
    rw (← c.security_ok.ensures, c.if-security_ok.true)
    (all_from_yields_List (λ x. security_ok a.to (type_of x)) _ _ c.all.result c.all.ensures.ran (one_by_one a.others.now all.size all.rest) (λ x b q k. search (rules, tests)) ∙ all_good a.to a.others.now)

pub returns-else-security_ok : goal.returns-else-security_ok
unfolding types_ok both
returns-else-security_ok c = rw (← c.security_ok.ensures, c.if-security_ok.false) refl
