-- No work that a message asks for makes a live or a free row spoiled: what is put is live or all zero.
-- Assumes nothing.
use mathlib.Core.Path.{◌≡◌, sym, ap, subst, ◌∙◌}
use mathlib.Core.List.{List}
use mathlib.Core.Bool.{true, false, true≢false}
use mathlib.Core.Logic.{◌⊎◌, inl, inr}
use Prim.Native.Nat.{ℕ, ◌-◌}
use native.Mathlib.Decide.{ℕ_discrete}
use lib.Dec.{eqb}
use borrow.Author.Tests.{eqb-false}
use Rattle.facts.proofs.Picks.{pick_ind}
use Rattle.rows.specs.declared.Row.{Row}
use Rattle.rows.specs.Rows.{zero_row, free, live, spoiled}
use Rattle.rows.specs.Find.{of_symbol}
use Rattle.rows.proofs.Judged.{RowState, row_is_free, row_is_live, row_is_spoiled, row_state, zero_free}
use Rattle.orders.specs.Work.{less, reduced, wiped, cleared}
use Rattle.orders.proofs.Applied.{row, Became, Added, Named}
use Rattle.orders.proofs.Clears.{clear_row}
use Rattle.orders.proofs.Shares.{less_live}

-- live or free
abbrev pub Sane : Row → Type 0
Sane r = (live r ≡ true) ⊎ (free r ≡ true)

pub sane_unspoiled : (r : Row) → Sane r → spoiled r ≡ false
sane_unspoiled r s = go (row_state r) s
  where
    go : RowState r → Sane r → spoiled r ≡ false
    go (row_is_free p q x) s = x
    go (row_is_live p q x) s = x
    go (row_is_spoiled p q x) (inl l) = absurd (true≢false (sym l ∙ q))
    go (row_is_spoiled p q x) (inr f) = absurd (true≢false (sym f ∙ p))

pub unspoiled_sane : (r : Row) → spoiled r ≡ false → Sane r
unspoiled_sane r h = go (row_state r)
  where
    go : RowState r → Sane r
    go (row_is_free p q x) = inr p
    go (row_is_live p q x) = inl q
    go (row_is_spoiled p q x) = absurd (true≢false (sym x ∙ h))

-- ---- one row put
pub became_sane : (t u : List ℕ) (i : ℕ) (r : Row) → Became t u i r → Sane r → (j : ℕ) → Sane (row t j) → Sane (row u j)
became_sane t u i r b s j h = go (ℕ_discrete j i)
  where
    go : Dec (j ≡ i) → Sane (row u j)
    go (yes e) = subst Sane (sym (ap (row u) e ∙ b.here)) s
    go (no n) = subst Sane (sym (b.others j n)) h

-- ---- what becomes of a live row
pub reduced_sane : (n : ℕ) (r : Row) → live r ≡ true → Sane (reduced n r)
unfolding reduced
reduced_sane n r l =
    pick_ind Sane (eqb (less n r).size 0) zero_row (less n r) (λ e. inr zero_free) (λ e. inl (less_live n r l (eqb-false (r.size - n) 0 e)))

pub wiped_sane : (symbol : ℕ) (r : Row) → Sane r → Sane (wiped symbol r)
unfolding wiped
wiped_sane symbol r s = pick_ind Sane (of_symbol symbol r) zero_row r (λ e. inr zero_free) (λ e. s)

-- ---- the five messages
module _ (t : List ℕ) (j : ℕ) (h : Sane (row t j)) where
  pub add_sane : (new : Row) (u : List ℕ) → Added new t u → live new ≡ true → Sane (row u j)
  add_sane new u d l = became_sane t u d.place new d.became (inl l) j h

  pub named_sane : (order symbol : ℕ) (f : Row → Row) (u : List ℕ) (n : Named order symbol f t u) → Sane (f (row t n.place)) → Sane (row u j)
  named_sane order symbol f u n s = became_sane t u n.place (f (row t n.place)) n.became s j h

  pub clear_sane : (symbol : ℕ) → Sane (row (cleared symbol t) j)
  clear_sane symbol = subst Sane (sym (clear_row symbol t j)) (wiped_sane symbol (row t j) h)
