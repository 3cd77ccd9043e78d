-- Any work keeps the length of the table.
-- Assumes nothing.
use mathlib.Core.Path.{◌≡◌, refl}
use mathlib.Core.List.{List}
use Prim.Native.Nat.{ℕ}
use lib.ListN.{length}
use Rattle.rows.proofs.Tables.{length_put_row}
use Rattle.orders.specs.declared.RowWork.{RowWork}
use Rattle.orders.specs.Work.{committed}
use Rattle.orders.proofs.Clears.{clear_length}

pub committed_length : (w : RowWork) (t : List ℕ) → length (committed w t) ≡ length t
unfolding committed
committed_length RowWork.Keep t = refl
committed_length (RowWork.Put i r) t = length_put_row t i r
committed_length (RowWork.Clear s) t = clear_length s t
