-- The nearest place of a key's orders by a scan of the rows: where each row lies, and the least of them.
use Rattle.std.specs.Prelude.{ℕ, ◌+◌, List, leb, ltb, Option, Some, None}
use Rattle.facts.specs.Pick.{pick}
use Rattle.facts.specs.Limits.{most_price}
use Rattle.rows.specs.declared.Row.{Row}
use Rattle.rows.specs.Find.{of_key}
use Rattle.ascend.specs.Ascend.{least_from}
use Rattle.views.specs.Ladder.{far, places_of}

-- beyond every place
abbrev pub beyond : ℕ
beyond = most_price + 1

-- where a row lies, if it is the key's and lies not below low
unfoldable pub place_from : ℕ → ℕ → Row → Option ℕ
place_from k low r = pick (of_key k r) (pick (leb low (far k r.price)) (Some (far k r.price)) None) None

-- a place; none beyond every place
unfoldable pub within : ℕ → Option ℕ
within d = pick (ltb d beyond) (Some d) None

-- the nearest place of the key's orders that lies not below low
unfoldable pub nearest : ℕ → ℕ → List Row → Option ℕ
nearest k low rs = within (least_from beyond low (places_of k rs))
