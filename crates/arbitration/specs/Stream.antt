-- A recording in pieces (request 13: "chunks cut anywhere, even inside the 2-byte length"): whatever one byte does to a stream's state.
use Rattle.std.specs.Prelude.{ℕ, List, [], ◌∷◌}

module _ {X : Type 0} (byte : ℕ → X → X) where
  -- a chunk, byte by byte
  unfoldable pub each : List ℕ → X → X
  each [] s = s
  each (b ∷ bs) s = each bs (byte b s)

  -- chunks, one after another
  unfoldable pub each_of : List (List ℕ) → X → X
  each_of [] s = s
  each_of (p ∷ ps) s = each_of ps (each p s)
