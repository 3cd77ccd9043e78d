-- The bytes that the library writes of a number are the number in so many bytes (low_bytes).
-- Assumes nothing.
use mathlib.Core.Path.{◌∙◌, ap}
use mathlib.Core.List.{List}
use Prim.Native.Nat.{ℕ}
use lib.Seq.{sets}
use Rattle.wire.proofs.Laws.{low_bytes}
use Rattle.wire.proofs.U16Number.put.Goals as goal

pub returns : goal.returns
returns c = c.put_at.ensures ∙ ap (λ (l : List ℕ). sets c.args.out.now c.args.at l) (c.to_le_bytes.ensures ∙ low_bytes 2 c.args.self)
