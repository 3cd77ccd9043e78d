-- A zeroed body of its kind's length, with type and fields stored one behind the other, is the message written (stored_written).
-- Assumes nothing.
use mathlib.Core.Path.{◌≡◌}
use mathlib.Core.List.{◌∷◌, []}
use Prim.Native.Nat.{◌+◌}
use lib.ListN.{replicate, length-replicate}
use lib.Seq.{sets}
use Rattle.kinds.specs.Table.{type_of}
use Rattle.layout.specs.Shape.{total}
use Rattle.layout.specs.Layout.{shapes}
use Rattle.layout.specs.Message.{Message, written, Fit}
use Rattle.layout.proofs.Stored.{stored, stored_written}

pub body_written : {M : Type 0} (s : Message M) (m : M) → Fit s m → stored (shapes s.kind) (s.to m) (sets (replicate (1 + total (shapes s.kind)) 0) 0 (type_of s.kind ∷ [])) 1 ≡ written s m
body_written s m f = stored_written s m (replicate (1 + total (shapes s.kind)) 0) f (length-replicate (1 + total (shapes s.kind)) 0)
