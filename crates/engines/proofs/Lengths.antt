-- No work changes how long an index is.
-- Assumes nothing.
use mathlib.Core.Path.{◌≡◌, refl}
use mathlib.Core.List.{List}
use Prim.Native.Nat.{ℕ}
use lib.ListN.{length, length-set}
use Rattle.facts.specs.Pick.{pick}
use Rattle.facts.proofs.Picks.{pick_ind}
use Rattle.rows.specs.declared.Row.{Row}
use Rattle.rows.specs.Rows.{free}
use Rattle.std.specs.Prelude.{Option, Some, None}
use Rattle.symbols.specs.Entries.{id_of}
use Rattle.orders.specs.declared.RowWork.{RowWork}
use Rattle.index.specs.Index.{freed, came, hint_at}
use Rattle.index.proofs.Stored.{freed_length}
use Rattle.index.proofs.Lengths.{each_length, came_length}
use Rattle.engines.specs.Engines.{put_noted, left, noted, hinted_to}

put_length : (i : ℕ) (r : Row) (rs : List Row) (ix : List ℕ) → length (put_noted i r rs ix) ≡ length ix
unfolding put_noted
put_length i r rs ix =
    pick_ind Long _ (pick (free r) ix (came ix rs r.order i)) (pick (free r) (freed ix i) ix)
    (λ e. pick_ind Long _ ix (came ix rs r.order i) (λ d. refl) (λ d. came_length ix rs r.order i))
    (λ e. pick_ind Long _ (freed ix i) ix (λ d. freed_length ix i) (λ d. refl))
  where
    Long : List ℕ → Type 0
    Long jx = length jx ≡ length ix

left_length : (symbol : ℕ) (ix : List ℕ) (r : Row) (i : ℕ) → length (left symbol ix r i) ≡ length ix
unfolding left
left_length symbol ix r i = pick_ind (λ (jx : List ℕ). length jx ≡ length ix) _ (freed ix i) ix (λ d. freed_length ix i) (λ d. refl)

pub noted_length : (w : RowWork) (rs : List Row) (ix : List ℕ) → length (noted w rs ix) ≡ length ix
unfolding noted
noted_length RowWork.Keep rs ix = refl
noted_length (RowWork.Put i r) rs ix = put_length i r rs ix
noted_length (RowWork.Clear s) rs ix = each_length (left s) (left_length s) 0 rs ix

pub hinted_length : (w : Option ℕ) (b ix : List ℕ) → length (hinted_to w b ix) ≡ length ix
unfolding hinted_to
hinted_length None b ix = refl
hinted_length (Some i) b ix = length-set ix (hint_at (id_of b)) i
