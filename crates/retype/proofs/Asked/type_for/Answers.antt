-- The first of them that names the symbol is the one that is found.
-- Assumes nothing.
use Rattle.std.proofs.Common.{◌≡◌, ◌∙◌, ap, rules}
use Rattle.std.specs.Option.{MatchOption}
use Rattle.std.proofs.lemmas.Iterator.Search.{find_from_yields_List}
use borrow.Author.Tests.{tests}
use Rattle.fields.specs.Fields.{symbol_of}
use Rattle.retype.specs.Types.{names_symbol, names, type_of}
use Rattle.retype.proofs.ExceptionLaws.{one_by_one, type_or, type_mapped, type_found, type_none}
use Rattle.retype.proofs.Asked.type_for.Goals as goal

pub returns : goal.returns
unfolding names
returns c =
    let a = c.args.self.now in
    let b = c.args.b.now in
    let all = c.chunks_exact.ensures in
    let found = find_from_yields_List (λ x. names_symbol x (symbol_of b)) _ _ c.find.result c.find.ensures.ran (one_by_one a.others.now all.size all.rest) (λ x b q k. search (rules, tests)) in
    let given : MatchOption c.find.result (c.map_or.result ≡ a.all) (λ x. c.map_or.result ≡ type_of x.now) = search rules in
    type_mapped c.find.result a.all c.map_or.result given ∙ ap (λ o. type_or o a.all) found ∙ type_found a.all a.others.now b

pub returns-then-is_empty : goal.returns-then-is_empty
returns-then-is_empty c = let a = c.args.self.now in type_none a.all a.others.now c.args.b.now (search (rules, tests))
