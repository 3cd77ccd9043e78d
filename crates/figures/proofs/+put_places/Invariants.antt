-- The last digit goes behind those of the tenth part, one place fewer; the measure is the number of places.
-- Assumes nothing.
use Rattle.figures.proofs.+put_places.Given as goal

abbrev pub decreases-put_places : goal.decreases-put_places
decreases-put_places l = l.k
