-- A live row has one key, and a key one symbol and side; so a symbol's two ladders hold its live shares, and a live row on each side leaves no spread none.
-- Assumes nothing.
use mathlib.Core.Path.{◌≡◌, refl, sym}
use mathlib.Core.List.{List, [], ◌∷◌}
use mathlib.Core.Bool.{true, false}
use Prim.Native.Nat.{ℕ, ◌+◌, ◌≤◌}
use native.Mathlib.Decide.{dec_le}
use native.Mathlib.Omega.{arith}
use lib.IntN.{pos, ◌-ℤ◌}
use Rattle.facts.specs.Sums.{sum_by, count_by}
use Rattle.rows.specs.declared.Row.{Row}
use Rattle.rows.specs.Rows.{rows, live}
use Rattle.rows.specs.Find.{of_key}
use Rattle.rows.specs.Shares.{live_shares, key_shares}
use Rattle.rows.proofs.Keys.{Home, one_home}
use Rattle.rows.proofs.Shares.{shares_split}
use Rattle.ascend.specs.Ascend.{any_by}
use Rattle.ascend.proofs.Each.{any_sum, none_sum}
use Rattle.ascend.proofs.Places.{All}
use Rattle.views.specs.declared.Level.{Level}
use Rattle.views.specs.declared.Side.{Side}
use Rattle.std.specs.Prelude.{Option, Some, None, Result, Ok}
use Rattle.fields.specs.declared.Refusal.{Refusal}
use Rattle.std.specs.Prelude.{ℤ}
use Rattle.views.specs.Ladder.{key_of, at_price, prices, ladder}
use Rattle.views.specs.Spread.{between, spread_of}
use Rattle.views.specs.Views.{view_fault, spread_view}
use Rattle.views.proofs.Theorems.{shares_add_up, price_taken, no_levels, no_orders, bid_highest, offer_lowest, no_bids_empty, no_offers_empty}
use Rattle.views.proofs.ViewLaws.{spread_shown}

-- ---- one symbol and side
pub record Belongs (r : Row) : Type 0 where
  pub symbol : ℕ
  pub side : Side
  pub its : of_key (key_of side symbol) r ≡ true
  pub only : (s : ℕ) (d : Side) → of_key (key_of d s) r ≡ true → (s ≡ symbol) × (d ≡ side)

-- every live row belongs to exactly one symbol and side
pub belongs : (r : Row) → live r ≡ true → Belongs r
unfolding key_of
belongs r l = go (one_home r l)
  where
    go : Home r → Belongs r
    go h = by (dec_le 1 h.side)
      where
        bought : h.side ≡ 0 → (s : ℕ) (d : Side) → of_key (key_of d s) r ≡ true → (s ≡ h.symbol) × (d ≡ Side.Buy)
        bought z s Side.Buy e = ((h.only s 0 (omega arith) e).0, refl)
        bought z s Side.Sell e = absurd (omega (arith, (h.only s 1 (omega arith) e).1))

        sold : h.side ≡ 1 → (s : ℕ) (d : Side) → of_key (key_of d s) r ≡ true → (s ≡ h.symbol) × (d ≡ Side.Sell)
        sold z s Side.Buy e = absurd (omega (arith, (h.only s 0 (omega arith) e).1))
        sold z s Side.Sell e = ((h.only s 1 (omega arith) e).0, refl)

        by : Dec (1 ≤ h.side) → Belongs r
        by (yes n) = let z : h.side ≡ 1 = omega (arith, h.side_below) in record { symbol = h.symbol; side = Side.Sell; its = rw z at h.its; only = sold z }
        by (no n) = let z : h.side ≡ 0 = omega arith in record { symbol = h.symbol; side = Side.Buy; its = rw z at h.its; only = bought z }

-- the shares of a symbol's two ladders, all levels of both, are its live shares
pub two_ladders : (s : ℕ) (rs : List Row) → sum_by (λ (l : Level). l.shares) (ladder (key_of Side.Buy s) rs) + sum_by (λ (l : Level). l.shares) (ladder (key_of Side.Sell s) rs) ≡ live_shares s rs
unfolding key_of key_shares
two_ladders s rs = rw (shares_add_up (key_of Side.Buy s) rs, shares_add_up (key_of Side.Sell s) rs) (sym (shares_split s rs))

-- ---- a spread
some_price : (k : ℕ) (rs : List Row) → any_by (of_key k) rs ≡ true → (p : ℕ) × ((ps : List ℕ) × (prices k rs ≡ p ∷ ps))
unfolding count_by
some_price k rs a = go (prices k rs) refl
  where
    go : (ps : List ℕ) → prices k rs ≡ ps → (p : ℕ) × ((ps : List ℕ) × (prices k rs ≡ p ∷ ps))
    go [] e = absurd (omega (arith, no_levels k rs e, any_sum (of_key k) (λ r. 1) (λ r h. omega arith) rs a))
    go (p ∷ ps) e = (p, (ps, e))

side_empty : (k : ℕ) (rs : List Row) → any_by (of_key k) rs ≡ false → prices k rs ≡ []
unfolding count_by
side_empty k rs a = no_orders k rs (none_sum (of_key k) (λ r. 1) rs a)

-- best offer less best bid, where each is the price of a live order and no live order of its side is better
pub record Quoted (s : ℕ) (rs : List Row) (a : Result (Option ℤ) Refusal) : Type 0 where
  pub bid : ℕ
  pub offer : ℕ
  pub answer : a ≡ Ok (Some (pos offer -ℤ pos bid))
  pub bid_live : any_by (at_price (key_of Side.Buy s) bid) rs ≡ true
  pub bid_best : All (λ r. of_key (key_of Side.Buy s) r ≡ true → r.price ≤ bid) rs
  pub offer_live : any_by (at_price (key_of Side.Sell s) offer) rs ≡ true
  pub offer_best : All (λ r. of_key (key_of Side.Sell s) r ≡ true → offer ≤ r.price) rs

module _ (s : ℕ) (rs : List Row) where
  -- with a live order on each side
  pub both_quoted : any_by (of_key (key_of Side.Buy s)) rs ≡ true → any_by (of_key (key_of Side.Sell s)) rs ≡ true → Quoted s rs (Ok (spread_of s rs))
  unfolding spread_of between
  both_quoted buys sells =
      let b = some_price (key_of Side.Buy s) rs buys in
      let a = some_price (key_of Side.Sell s) rs sells in
      let t : All (λ p. any_by (at_price (key_of Side.Buy s) p) rs ≡ true) (b.0 ∷ b.1.0) = rw b.1.1 at (price_taken (key_of Side.Buy s) rs) in
      let u : All (λ p. any_by (at_price (key_of Side.Sell s) p) rs ≡ true) (a.0 ∷ a.1.0) = rw a.1.1 at (price_taken (key_of Side.Sell s) rs) in
      record {
        bid = b.0;
        offer = a.0;
        answer = rw (b.1.1, a.1.1);
        bid_live = t.0;
        bid_best = bid_highest s rs b.0 b.1.0 b.1.1;
        offer_live = u.0;
        offer_best = offer_lowest s rs a.0 a.1.0 a.1.1;
      }

  -- "with a side empty the answer is none"
  pub no_buys_none : any_by (of_key (key_of Side.Buy s)) rs ≡ false → spread_of s rs ≡ None
  no_buys_none e = no_bids_empty s rs (side_empty (key_of Side.Buy s) rs e)

  pub no_sells_none : any_by (of_key (key_of Side.Sell s)) rs ≡ false → spread_of s rs ≡ None
  no_sells_none e = no_offers_empty s rs (side_empty (key_of Side.Sell s) rs e)

-- a view that is not refused, of a symbol with a live buy and a live sell row, answers best offer less best bid
pub spread_quoted : (s : ℕ) (orders symbols : List ℕ) → view_fault s orders symbols ≡ 0 → any_by (of_key (key_of Side.Buy s)) (rows orders) ≡ true → any_by (of_key (key_of Side.Sell s)) (rows orders) ≡ true
    → Quoted s (rows orders) (spread_view s orders symbols)
spread_quoted s orders symbols f buys sells = rw (spread_shown s orders symbols f) at (both_quoted s (rows orders) buys sells)
