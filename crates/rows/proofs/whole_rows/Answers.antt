-- std's chunks of five are the pieces of five.
-- Assumes nothing.
use Rattle.std.proofs.Common.{List, ℕ, ap, map, ◌∙◌}
use Rattle.rows.specs.Rows.{row_of}
use Rattle.rows.proofs.Tables.{rows_chunks}
use Rattle.rows.proofs.whole_rows.Goals as goal

pub returns : goal.returns
returns c = ap (λ (x : List (List ℕ)). map row_of x) c.as_chunks.ensures.front ∙ rows_chunks c.args.t.now
