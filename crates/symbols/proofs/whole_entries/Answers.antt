-- std's chunks of 42 are the pieces of 42.
-- Assumes nothing.
use mathlib.Core.Path.{◌≡◌}
use mathlib.Core.List.{List}
use Prim.Native.Nat.{ℕ, ◌/◌}
use native.Mathlib.Omega.{arith}
use lib.ListN.{length}
use lib.Seq.{take_all}
use Rattle.std.proofs.Common.{◌∙◌}
use Rattle.std.specs.Simd.{first_chunks}
use Rattle.facts.specs.Limits.{entry_size}
use Rattle.symbols.specs.Entries.{entries}
use Rattle.symbols.proofs.EntryLaws.{entries_chunks}
use Rattle.symbols.proofs.whole_entries.Goals as goal

-- and so they are of bytes that are all of the table
whole : (x t : List ℕ) → x ≡ t → first_chunks entry_size (length x / entry_size) x ≡ entries t
whole x t e = rw e (entries_chunks t)

pub returns : goal.returns
returns c = c.as_chunks.ensures.front ∙ whole _ c.args.t.now (grind (arith, take_all))
