-- The lowest element that passes a test (document 01: "the lowest free row", "a search for an ID taking the lowest live row or used entry").
use Rattle.std.specs.Prelude.{ℕ, suc, List, [], ◌∷◌, Bool, true, false, Option, Some, None}
use Rattle.facts.specs.Pick.{pick}

-- the first element that passes, its place counted from i
unfoldable pub first : {A : Type 0} → (A → Bool) → ℕ → List A → Option ℕ
first p i [] = None
first p i (x ∷ xs) = pick (p x) (Some i) (first p (suc i) xs)

-- a search that found an element
abbrev pub is_found : Option ℕ → Bool
is_found (Some i) = true
is_found None = false

-- where one search ended, or another where it found nothing
abbrev pub or_else : Option ℕ → Option ℕ → Option ℕ
or_else (Some i) g = Some i
or_else None g = g
