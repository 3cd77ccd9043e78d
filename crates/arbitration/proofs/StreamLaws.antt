-- What is worked byte by byte comes out the same however it is cut, by recursion on the bytes and on the chunks.
-- Assumes nothing.
use Prim.Native.Nat.{ℕ}
use mathlib.Core.Path.{◌≡◌, refl, sym, ◌∙◌}
use mathlib.Core.List.{List, [], ◌∷◌, ◌++◌}
use Rattle.facts.specs.Pieces.{join}
use Rattle.arbitration.specs.Stream.{each, each_of}

module _ {X : Type 0} (byte : ℕ → X → X) where
  pub feed_append : (a b : List ℕ) (s : X) → each byte (a ++ b) s ≡ each byte b (each byte a s)
  unfolding each
  feed_append [] b s = refl
  feed_append (x ∷ a) b s = feed_append a b (byte x s)

  -- "However a recording is cut, empty chunks included"
  pub any_cut : (ps : List (List ℕ)) (s : X) → each_of byte ps s ≡ each byte (join ps) s
  unfolding each_of each join
  any_cut [] s = refl
  any_cut (p ∷ ps) s = any_cut ps (each byte p s) ∙ sym (feed_append p (join ps) s)
