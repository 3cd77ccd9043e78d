-- The last digit goes behind those of the tenth part, one place fewer; the measure is the number of places.
-- Assumes nothing.
use borrow.Author.Rules.{rules}
use Rattle.figures.proofs.PlaceLaws.{places_none, places_more}
use Rattle.figures.proofs.+put_places.Goals as goal

pub returns-then-k-eq0 : goal.returns-then-k-eq0
returns-then-k-eq0 t c = places_none _ _ c.if-k-eq0.true (search rules)

pub returns : goal.returns
returns t c = search (rules, places_more)
