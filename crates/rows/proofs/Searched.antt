-- A search that found nothing has passed every row, and a place without a row holds the zero row, which is not live.
-- Assumes nothing.
use mathlib.Core.Path.{◌≡◌, refl, sym, ap, ◌∙◌}
use mathlib.Core.List.{List}
use mathlib.Core.Bool.{Bool, true, false, true≢false}
use Prim.Native.Nat.{ℕ, ◌<◌}
use lib.ListN.{length, get_or, get_or-eq_default}
use lib.Dec.{ltb}
use borrow.Author.Tests.{ltb-true, ltb-false}
use Rattle.std.specs.Prelude.{Option, Some, None}
use Rattle.facts.proofs.Searches.{first_none}
use Rattle.rows.specs.declared.Row.{Row}
use Rattle.rows.specs.Rows.{zero_row, free, live}
use Rattle.rows.specs.Find.{is_order, find_order, find_free}
use Rattle.rows.proofs.Judged.{zero_not_live, is_this}

module _ (rs : List Row) where
  pub live_there : (j : ℕ) → live (get_or rs j zero_row) ≡ true → j < length rs
  live_there j l = go (ltb j (length rs)) refl
    where
      go : (b : Bool) → ltb j (length rs) ≡ b → j < length rs
      go true e = ltb-true j (length rs) e
      go false e = absurd (true≢false (sym l ∙ ap live (get_or-eq_default rs zero_row (ltb-false j (length rs) e)) ∙ zero_not_live))

  pub order_nowhere : (id : ℕ) → find_order id rs ≡ None → (j : ℕ) → live (get_or rs j zero_row) ≡ true → (get_or rs j zero_row).order ≡ id → ⊥
  unfolding find_order
  order_nowhere id e j l o = true≢false (sym (is_this id (get_or rs j zero_row) o l) ∙ first_none (is_order id) 0 rs e j zero_row (live_there j l))

  pub free_somewhere : (i : ℕ) → i < length rs → free (get_or rs i zero_row) ≡ true → (k : ℕ) × (find_free rs ≡ Some k)
  unfolding find_free
  free_somewhere i h f = go (find_free rs) refl
    where
      go : (a : Option ℕ) → find_free rs ≡ a → (k : ℕ) × (find_free rs ≡ Some k)
      go (Some k) e = (k, e)
      go None e = absurd (true≢false (sym f ∙ first_none free 0 rs e i zero_row h))
