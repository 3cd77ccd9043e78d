-- One row changed moves a sum over the rows by that row alone, so each message moves live shares by what it brings or takes, and those of its own symbol only.
-- Assumes nothing.
use mathlib.Core.Path.{◌≡◌, refl, sym, ap, ◌∙◌}
use mathlib.Core.List.{List}
use mathlib.Core.Bool.{Bool, true}
use Prim.Native.Nat.{ℕ, ◌+◌, ◌-◌, ◌≤◌}
use native.Mathlib.Nat.{add-zero}
use native.Mathlib.Omega.{arith}
use lib.Dec.{eqb}
use borrow.Author.Tests.{eqb-true, eqb-false}
use Rattle.facts.specs.Limits.{most_price}
use Rattle.facts.specs.Sums.{sum_by}
use Rattle.facts.proofs.Picks.{pick_ind}
use Rattle.facts.proofs.SumLaws.{sum_set, sum_map_as, sum_zero, only_no}
use Rattle.rows.specs.declared.Row.{Row}
use Rattle.rows.specs.Rows.{rows, zero_row, symbol_of, live}
use Rattle.rows.specs.Find.{of_symbol}
use Rattle.rows.proofs.Judged.{free_not_live, symbol_is, other_symbol, live_ranges, ranges_live}
use Rattle.orders.specs.Work.{remade, less, reduced, wiped, cleared}
use Rattle.rows.specs.Shares.{share_of, live_shares, under}
use Rattle.rows.proofs.Shares.{share_dead, share_live, zero_share, under_none, under_split}
use Rattle.orders.proofs.Applied.{row, Became, Added, Named}
use Rattle.orders.proofs.Clears.{wiped_gone, clear_rows}

-- ---- any measure of a row, summed
pub became_sum : (f : Row → ℕ) (t u : List ℕ) (i : ℕ) (r : Row) → Became t u i r → sum_by f (rows u) + f (row t i) ≡ sum_by f (rows t) + f r
became_sum f t u i r b = rw b.all (sum_set f (rows t) i r zero_row b.there)

-- ---- Add: the new row's shares come
pub add_shares : (s : ℕ) (new : Row) (t u : List ℕ) → Added new t u → live new ≡ true → live_shares s (rows u) ≡ live_shares s (rows t) + under s (symbol_of new) new.size
unfolding live_shares
add_shares s new t u d l =
    let e = became_sum (share_of s) t u d.place new d.became in
    let z = share_dead s (row t d.place) (free_not_live (row t d.place) d.was_free) in
    omega (arith, e, z, share_live s new l)

-- ---- a message that names an order: the row's shares go, and those of what it becomes come
pub named_shares : (s order symbol : ℕ) (f : Row → Row) (t u : List ℕ) (n : Named order symbol f t u)
    → live_shares s (rows u) + under s symbol (row t n.place).size ≡ live_shares s (rows t) + share_of s (f (row t n.place))
unfolding live_shares
named_shares s order symbol f t u n =
    let e = became_sum (share_of s) t u n.place (f (row t n.place)) n.became in
    let w : share_of s (row t n.place) ≡ under s symbol (row t n.place).size = share_live s (row t n.place) n.was_live ∙ ap (λ k. under s k (row t n.place).size) n.was_under in
    rw (← w) e

-- Modify: the size is replaced, where the row stays live
pub modify_shares : (s order symbol price size : ℕ) (moved : Bool) (number : ℕ) (t u : List ℕ) (n : Named order symbol (remade price size moved number) t u)
    → live (remade price size moved number (row t n.place)) ≡ true
    → live_shares s (rows u) + under s symbol (row t n.place).size ≡ live_shares s (rows t) + under s symbol size
unfolding remade
modify_shares s order symbol price size moved number t u n l =
    named_shares s order symbol (remade price size moved number) t u n
    ∙ ap (λ k. live_shares s (rows t) + k) (share_live s (remade price size moved number (row t n.place)) l ∙ ap (λ k. under s k size) n.was_under)

-- and it does, with a price, a size and a number in range
pub remade_live : (price size : ℕ) (moved : Bool) (number : ℕ) (r : Row) → live r ≡ true → 1 ≤ price → price ≤ most_price → 1 ≤ size → size ≤ 4294967295 → 1 ≤ number
    → live (remade price size moved number r) ≡ true
unfolding remade
remade_live price size moved number r l a b c d e =
    let w = live_ranges r l in
    ranges_live (remade price size moved number r)
    (record {
      ranked = pick_ind (λ k. 1 ≤ k) moved number r.rank (λ z. e) (λ z. w.ranked);
      symbol = w.symbol;
      priced = a;
      price_top = b;
      sized = c;
      size_top = d;
    })

-- Delete: the row's shares go
pub delete_shares : (s order symbol : ℕ) (t u : List ℕ) (n : Named order symbol (λ r. zero_row) t u) → live_shares s (rows u) + under s symbol (row t n.place).size ≡ live_shares s (rows t)
delete_shares s order symbol t u n = named_shares s order symbol (λ r. zero_row) t u n ∙ rw (zero_share s) (add-zero (live_shares s (rows t)))

-- Order Execution: the executed shares go, and no more
pub less_live : (n : ℕ) (r : Row) → live r ≡ true → (r.size - n ≡ 0 → ⊥) → live (less n r) ≡ true
less_live n r l h =
    let w = live_ranges r l in
    ranges_live (less n r)
    (record { ranked = w.ranked; symbol = w.symbol; priced = w.priced; price_top = w.price_top; sized = omega arith; size_top = omega (arith, w.size_top) })

reduced_share : (s n : ℕ) (r : Row) → live r ≡ true → share_of s (reduced n r) ≡ under s (symbol_of r) (r.size - n)
unfolding reduced
reduced_share s n r l =
    pick_ind (λ x. share_of s x ≡ under s (symbol_of r) (r.size - n)) (eqb (less n r).size 0) zero_row (less n r)
    (λ e. zero_share s ∙ sym (ap (under s (symbol_of r)) (eqb-true (r.size - n) 0 e) ∙ under_none s (symbol_of r)))
    (λ e. share_live s (less n r) (less_live n r l (eqb-false (r.size - n) 0 e)))

pub execute_shares : (s order symbol size : ℕ) (t u : List ℕ) (n : Named order symbol (reduced size) t u) → size ≤ (row t n.place).size
    → live_shares s (rows u) + under s symbol size ≡ live_shares s (rows t)
execute_shares s order symbol size t u n h =
    let r = row t n.place in
    let e = named_shares s order symbol (reduced size) t u n in
    let w : share_of s (reduced size r) ≡ under s symbol (r.size - size) = reduced_share s size r n.was_live ∙ ap (λ k. under s k (r.size - size)) n.was_under in
    omega (arith, e, w, under_split s symbol r.size size h)

-- ---- Symbol Clear: all shares of the symbol go, and none of another
pub clear_own : (symbol : ℕ) (t : List ℕ) → live_shares symbol (rows (cleared symbol t)) ≡ 0
unfolding live_shares share_of
clear_own symbol t =
    rw clear_rows
    (sum_map_as (share_of symbol) (wiped symbol) (λ r. 0) (λ r. only_no (of_symbol symbol) (λ x. x.size) (wiped symbol r) (wiped_gone symbol r)) (rows t)
    ∙ sum_zero (rows t))

other_kept : (s symbol : ℕ) (r : Row) → (symbol ≡ s → ⊥) → share_of s (wiped symbol r) ≡ share_of s r
unfolding wiped share_of
other_kept s symbol r n =
    pick_ind (λ x. share_of s x ≡ share_of s r) (of_symbol symbol r) zero_row r
    (λ e. zero_share s ∙ sym (only_no (of_symbol s) (λ x. x.size) r (other_symbol s r (λ q. n (sym (symbol_is symbol r e).0 ∙ q)))))
    (λ e. refl)

pub clear_others : (s symbol : ℕ) (t : List ℕ) → (symbol ≡ s → ⊥) → live_shares s (rows (cleared symbol t)) ≡ live_shares s (rows t)
unfolding live_shares
clear_others s symbol t n = rw clear_rows (sum_map_as (share_of s) (wiped symbol) (share_of s) (λ r. other_kept s symbol r n) (rows t))

pub clear_shares : (s symbol : ℕ) (t : List ℕ) → live_shares s (rows (cleared symbol t)) + under s symbol (live_shares s (rows t)) ≡ live_shares s (rows t)
unfolding under
clear_shares s symbol t =
    pick_ind (λ k. live_shares s (rows (cleared symbol t)) + k ≡ live_shares s (rows t)) (eqb symbol s) (live_shares s (rows t)) 0
    (λ e. let w = ap (λ k. live_shares s (rows (cleared k t))) (eqb-true symbol s e) ∙ clear_own s t in omega (arith, w))
    (λ e. omega (arith, clear_others s symbol t (eqb-false symbol s e)))
