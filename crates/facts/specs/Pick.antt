-- Choosing by a test. All three are shut, so that a proof can take a definition apart by its tests; an answer opens them by name.
use Rattle.std.specs.Prelude.{Bool, true, false}

-- the first of two where the test holds, else the second
unfoldable pub pick {ℓ} : {A : Type ℓ} → Bool → A → A → A
pick true x y = x
pick false x y = y

unfoldable pub both : Bool → Bool → Bool
both true b = b
both false b = false

unfoldable pub either : Bool → Bool → Bool
either true b = true
either false b = b
