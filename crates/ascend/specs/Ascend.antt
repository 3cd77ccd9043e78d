-- Ascending lists of numbers, each once: the price levels of a ladder, the places of a queue.
use Rattle.std.specs.Prelude.{ℕ, List, [], ◌∷◌, Bool, false, ltb, leb, eqb}
use Rattle.facts.specs.Pick.{pick, both, either}

-- d put into an ascending list, unless it is there
unfoldable pub ins : ℕ → List ℕ → List ℕ
ins d [] = d ∷ []
ins d (x ∷ xs) = pick (ltb d x) (d ∷ x ∷ xs) (pick (eqb d x) (x ∷ xs) (x ∷ ins d xs))

-- the first that is not below d, or T
unfoldable pub least_from : ℕ → ℕ → List ℕ → ℕ
least_from T d [] = T
least_from T d (x ∷ xs) = pick (leb d x) x (least_from T d xs)

-- the list from d on
unfoldable pub from_on : ℕ → List ℕ → List ℕ
from_on d [] = []
from_on d (x ∷ xs) = pick (leb d x) (x ∷ xs) (from_on d xs)

-- d is in the list
unfoldable pub has : ℕ → List ℕ → Bool
has d [] = false
has d (x ∷ xs) = either (eqb x d) (has d xs)

-- some element passes
unfoldable pub any_by : {A : Type 0} → (A → Bool) → List A → Bool
any_by p [] = false
any_by p (x ∷ xs) = either (p x) (any_by p xs)

-- the places of the elements that are mine, ascending, each once
unfoldable pub places : {A : Type 0} → (A → Bool) → (A → ℕ) → List A → List ℕ
places mine place [] = []
places mine place (x ∷ xs) = pick (mine x) (ins (place x) (places mine place xs)) (places mine place xs)

-- an element that is mine and in place d
unfoldable pub in_place : {A : Type 0} → (A → Bool) → (A → ℕ) → ℕ → A → Bool
in_place mine place d x = both (mine x) (eqb (place x) d)
