-- The work that a message plans leaves the index that of the table: an order that comes to a free row, one that leaves, one that changes and keeps its ID, and a Clear.
-- Assumes nothing.
use mathlib.Core.Path.{◌≡◌, refl, sym, ap, ◌∙◌, subst}
use mathlib.Core.List.{List, [], ◌∷◌, map}
use mathlib.Core.Bool.{Bool, true, false}
use Prim.Native.Nat.{ℕ, zero, suc, ◌+◌, ◌<◌}
use native.Mathlib.Omega.{arith}
use lib.ListN.{length, get_or, set, drop}
use lib.Seq.{set-get_or}
use Rattle.facts.proofs.Lists.{map_to, map_none, map_more, map_all}
use Rattle.rows.specs.declared.Row.{Row}
use Rattle.rows.specs.Rows.{rows, zero_row, free, live}
use Rattle.rows.specs.Find.{of_symbol}
use Rattle.rows.proofs.Tables.{rows_put}
use Rattle.rows.proofs.Judged.{symbol_is, live_not_free, zero_free}
use Rattle.std.specs.Prelude.{Option, Some, None}
use Rattle.symbols.specs.Entries.{id_of}
use Rattle.orders.specs.declared.RowWork.{RowWork}
use Rattle.orders.specs.Work.{wiped, committed}
use Rattle.orders.proofs.Cases.{wiped_yes, wiped_no}
use Rattle.orders.proofs.Clears.{clear_rows}
use Rattle.index.specs.Index.{each_row}
use Rattle.index.specs.Indexed.{Indexed}
use Rattle.index.proofs.Cases.{each_more, each_end}
use Rattle.index.proofs.Kept.{come_indexed, gone_indexed, change_indexed, hint_indexed}
use Rattle.engines.specs.Engines.{left, noted, hinted_to}
use Rattle.engines.proofs.Cases.{put_comes, put_goes, put_stays, left_yes, left_no}

-- ---- work that the index can follow
pub data Proper (rs : List Row) : RowWork → Type 0 where
  nothing : Proper rs RowWork.Keep
  comes : (i : ℕ) (r : Row) → i < length rs → free (get_or rs i zero_row) ≡ true → free r ≡ false → Proper rs (RowWork.Put i r)
  goes : (i : ℕ) → i < length rs → live (get_or rs i zero_row) ≡ true → Proper rs (RowWork.Put i zero_row)
  stays : (i : ℕ) (r : Row) → i < length rs → live (get_or rs i zero_row) ≡ true → free r ≡ false → r.order ≡ (get_or rs i zero_row).order → Proper rs (RowWork.Put i r)
  clears : (s : ℕ) → Proper rs (RowWork.Clear s)

-- ---- a Clear: the first i rows are wiped
at_map : {A : Type 0} (f : A → A) (l : List A) (i : ℕ) (d : A) → get_or (map_to f i l) i d ≡ get_or l i d
unfolding map_to
at_map f [] zero d = refl
at_map f [] (suc i) d = refl
at_map f (y ∷ l) zero d = refl
at_map f (y ∷ l) (suc i) d = at_map f l i d

length_map_to : {A : Type 0} (f : A → A) (l : List A) (i : ℕ) → length (map_to f i l) ≡ length l
unfolding map_to
length_map_to f l zero = refl
length_map_to f [] (suc i) = refl
length_map_to f (y ∷ l) (suc i) = ap suc (length_map_to f l i)

module _ (symbol : ℕ) (rs : List Row) where
  wipe_one : (i : ℕ) (ix : List ℕ) → i < length rs → Indexed ix (map_to (wiped symbol) i rs) → Indexed (left symbol ix (get_or rs i zero_row) i) (map_to (wiped symbol) (i + 1) rs)
  wipe_one i ix h x = subst (Indexed (left symbol ix (get_or rs i zero_row) i)) (map_more (wiped symbol) rs i zero_row h) (go (of_symbol symbol (get_or rs i zero_row)) refl)
    where
      here : get_or (map_to (wiped symbol) i rs) i zero_row ≡ get_or rs i zero_row
      here = at_map (wiped symbol) rs i zero_row

      go : (b : Bool) → of_symbol symbol (get_or rs i zero_row) ≡ b → Indexed (left symbol ix (get_or rs i zero_row) i) (set (map_to (wiped symbol) i rs) i (wiped symbol (get_or (map_to (wiped symbol) i rs) i zero_row)))
      go true e =
          let l : live (get_or (map_to (wiped symbol) i rs) i zero_row) ≡ true = ap live here ∙ (symbol_is symbol (get_or rs i zero_row) e).1 in
          rw (left_yes symbol ix (get_or rs i zero_row) i e, here, wiped_yes symbol (get_or rs i zero_row) e)
          (gone_indexed ix (map_to (wiped symbol) i rs) i x (rw length_map_to h) (live_not_free (get_or (map_to (wiped symbol) i rs) i zero_row) l))
      go false e =
          rw (left_no symbol ix (get_or rs i zero_row) i e, here, wiped_no symbol (get_or rs i zero_row) e, ← here, set-get_or) x

  wipe_all : (m i : ℕ) (ix : List ℕ) → i + m ≡ length rs → Indexed ix (map_to (wiped symbol) i rs) → Indexed (each_row (left symbol) i (drop i rs) ix) (map (wiped symbol) rs)
  wipe_all zero i ix e x = rw (each_end (left symbol) rs i ix (omega arith)) (subst (Indexed ix) (map_all (wiped symbol) rs i (omega arith)) x)
  wipe_all (suc m) i ix e x =
      rw (each_more (left symbol) rs i ix (omega arith))
      (wipe_all m (i + 1) (left symbol ix (get_or rs i zero_row) i) (omega arith) (wipe_one i ix (omega arith) x))

-- ---- any proper work
pub noted_indexed : (t ix : List ℕ) → Indexed ix (rows t) → (w : RowWork) → Proper (rows t) w → Indexed (noted w (rows t) ix) (rows (committed w t))
unfolding noted committed
noted_indexed t ix x w nothing = x
noted_indexed t ix x w (comes i r h f g) =
    rw (put_comes i r (rows t) ix f g, rows_put t i r) (come_indexed ix (rows t) i r x h f g)
noted_indexed t ix x w (goes i h l) =
    rw (put_goes i zero_row (rows t) ix (live_not_free (get_or (rows t) i zero_row) l) zero_free, rows_put t i zero_row)
    (gone_indexed ix (rows t) i x h (live_not_free (get_or (rows t) i zero_row) l))
noted_indexed t ix x w (stays i r h l g o) =
    rw (put_stays i r (rows t) ix (live_not_free (get_or (rows t) i zero_row) l) g, rows_put t i r) (change_indexed ix (rows t) i r x h l g o)
noted_indexed t ix x w (clears s) =
    rw (clear_rows s t)
    (wipe_all s (rows t) (length (rows t)) 0 ix (omega arith) (subst (Indexed ix) (sym (map_none (wiped s) (rows t))) x))

-- and the symbols' work touches hints alone
pub hinted_indexed : (ix : List ℕ) (rs : List Row) → Indexed ix rs → (w : Option ℕ) (b : List ℕ) → Indexed (hinted_to w b ix) rs
unfolding hinted_to
hinted_indexed ix rs x None b = x
hinted_indexed ix rs x (Some i) b = hint_indexed ix rs (id_of b) i x
