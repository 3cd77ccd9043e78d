-- A live row counts for its own symbol and its own key, so a symbol's shares are those of its two keys.
-- Assumes nothing.
use mathlib.Core.Path.{◌≡◌, refl, ◌∙◌}
use mathlib.Core.List.{List}
use mathlib.Core.Bool.{Bool, true, false}
use Prim.Native.Nat.{ℕ, ◌+◌, ◌-◌, ◌≤◌}
use native.Mathlib.Omega.{arith}
use native.Mathlib.Decide.{ℕ_discrete}
use lib.Dec.{eqb}
use borrow.Author.Tests.{eq-eqb, ne_eqb}
use Rattle.facts.specs.Pick.{pick, both}
use Rattle.facts.specs.Sums.{sum_by, only_if}
use Rattle.facts.proofs.Picks.{pick_ind}
use Rattle.facts.proofs.SumLaws.{sum_add, only_no}
use Rattle.rows.specs.declared.Row.{Row}
use Rattle.rows.specs.Keys.{key_for, symbol_in}
use Rattle.rows.specs.Rows.{zero_row, symbol_of, live}
use Rattle.rows.specs.Find.{of_symbol, of_key}
use Rattle.rows.specs.Shares.{share_of, live_shares, key_shares, under}
use Rattle.rows.proofs.Judged.{zero_not_live, dead_symbol, live_symbol}

-- ---- the shares of one row
module _ (s : ℕ) (r : Row) where
  pub share_dead : live r ≡ false → share_of s r ≡ 0
  unfolding share_of
  share_dead l = only_no (of_symbol s) (λ x. x.size) r (dead_symbol s r l)

  pub share_live : live r ≡ true → share_of s r ≡ under s (symbol_of r) r.size
  unfolding share_of only_if under
  share_live l = rw (live_symbol s r l)

  share_split : share_of s r ≡ only_if (of_key (key_for s 0)) (λ x. x.size) r + only_if (of_key (key_for s 1)) (λ x. x.size) r
  unfolding share_of only_if of_symbol of_key both pick
  share_split = go (live r) (ℕ_discrete r.key (key_for s 0)) (ℕ_discrete r.key (key_for s 1))
    where
      go : (l : Bool) → Dec (r.key ≡ key_for s 0) → Dec (r.key ≡ key_for s 1)
          → pick (both (eqb (symbol_in r.key) s) l) r.size 0 ≡ pick (both (eqb r.key (key_for s 0)) l) r.size 0 + pick (both (eqb r.key (key_for s 1)) l) r.size 0
      go l (yes e) q = rw (eq-eqb (symbol_in r.key) s (omega arith), eq-eqb r.key (key_for s 0) e, ne_eqb r.key (key_for s 1) (λ z. omega arith)) (omega arith)
      go l (no n) (yes e) = rw (eq-eqb (symbol_in r.key) s (omega arith), ne_eqb r.key (key_for s 0) n, eq-eqb r.key (key_for s 1) e) (omega arith)
      go l (no n) (no m) = rw (ne_eqb (symbol_in r.key) s (λ z. omega arith), ne_eqb r.key (key_for s 0) n, ne_eqb r.key (key_for s 1) m) refl

pub zero_share : (s : ℕ) → share_of s zero_row ≡ 0
zero_share s = share_dead s zero_row zero_not_live

-- ---- shares of a message's symbol, as any symbol counts them
module _ (s own : ℕ) where
  pub under_none : under s own 0 ≡ 0
  unfolding under
  under_none = pick_ind (λ k. k ≡ 0) (eqb own s) 0 0 (λ e. refl) (λ e. refl)

  pub under_split : (a b : ℕ) → b ≤ a → under s own (a - b) + under s own b ≡ under s own a
  unfolding under pick
  under_split a b h = go (eqb own s)
    where
      go : (c : Bool) → pick c (a - b) 0 + pick c b 0 ≡ pick c a 0
      go true = omega arith
      go false = refl

-- ---- live shares of a symbol are those under its two keys
pub shares_split : (s : ℕ) (rs : List Row) → live_shares s rs ≡ key_shares (key_for s 0) rs + key_shares (key_for s 1) rs
unfolding live_shares key_shares
shares_split s rs = (λ i. sum_by (λ r. share_split s r i) rs) ∙ sum_add (only_if (of_key (key_for s 0)) (λ x. x.size)) (only_if (of_key (key_for s 1)) (λ x. x.size)) rs
