-- A word ends at a blank, which docs/PORT.md names.
-- Assumes nothing.
use Prim.Native.Nat.{ℕ, ◌+◌, ◌<◌}
use mathlib.Core.Bool.{true}
use mathlib.Core.List.{List}
use mathlib.Core.Path.{◌≡◌}
use native.Mathlib.Omega.{arith}
use lib.ListN.{length, drop, get_or}
use lib.Seq.{drop-cons}
use Rattle.spans.specs.Spans.{blank, filled}

pub filled_stop : (s : List ℕ) (i : ℕ) → i < length s → blank (get_or s i 0) ≡ true → i ≡ i + filled (drop i s)
filled_stop s i h e = rw (drop-cons s i 0 h, e) (omega arith)
