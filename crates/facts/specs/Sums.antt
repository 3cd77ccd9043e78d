-- Sums and counts over a list.
use Rattle.std.specs.Prelude.{ℕ, ◌+◌, List, [], ◌∷◌, Bool}
use Rattle.facts.specs.Pick.{pick}

-- f of each element, added up
unfoldable pub sum_by : {A : Type 0} → (A → ℕ) → List A → ℕ
sum_by f [] = 0
sum_by f (x ∷ xs) = f x + sum_by f xs

-- f where the test holds, else nothing
unfoldable pub only_if : {A : Type 0} → (A → Bool) → (A → ℕ) → A → ℕ
only_if p f x = pick (p x) (f x) 0

-- how many elements pass
unfoldable pub count_by : {A : Type 0} → (A → Bool) → List A → ℕ
count_by p xs = sum_by (only_if p (λ x. 1)) xs
