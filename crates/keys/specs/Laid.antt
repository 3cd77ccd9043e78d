-- How the fields of a message lie in its body (docs/TEXT.md, "Messages").
use Rattle.std.specs.Prelude.{ℕ, ◌+◌, List, [], ◌∷◌, ◌≡◌}
use Rattle.keys.specs.Keys.{Entry}

-- the fields lie back to back from `at` on and fill the body to its end
abbrev pub Laid : ℕ → List Entry → ℕ → Type 0
Laid at [] end = at ≡ end
Laid at (f ∷ fs) end = (f.form.at ≡ at) × Laid (at + f.form.width) fs end
