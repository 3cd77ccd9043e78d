-- The nearest place of each side is its best price, a side without one is empty, and the difference of two best prices has the sign of their comparison.
-- Assumes nothing.
use mathlib.Core.Path.{◌≡◌, sym, ◌∙◌, refl}
use mathlib.Core.List.{List, [], ◌∷◌}
use Prim.Native.Nat.{ℕ, ◌+◌, ◌-◌, ◌≤◌}
use lib.Dec.{ltb}
use lib.IntN.{pos, ◌-ℤ◌, ℤ, nat_abs}
use lib.Signed.{lt_z}
use Rattle.facts.specs.Limits.{most_price}
use Rattle.rows.specs.declared.Row.{Row}
use Rattle.ascend.proofs.Places.{All}
use Rattle.views.specs.declared.Side.{Side}
use Rattle.std.specs.Prelude.{Some, None, Ok}
use Rattle.views.specs.Ladder.{key_of, far, prices}
use Rattle.views.specs.Nearest.{nearest}
use Rattle.views.specs.Spread.{between, spread_of}
use Rattle.views.specs.Views.{spread_number}
use Rattle.views.proofs.Laws.{bid_far, offer_far, prices_from, prices_start, prices_next, prices_end}
use Rattle.views.proofs.Signs.{minus_top, minus_below, minus_same, minus_zero}

module _ (k : ℕ) (rs : List Row) where
  pub no_price : None ≡ nearest k 0 rs → prices k rs ≡ []
  no_price e = sym (prices_start k rs) ∙ prices_end k rs 0 e

  pub best_price : (d : ℕ) → Some d ≡ nearest k 0 rs → prices k rs ≡ far k d ∷ prices_from k rs (d + 1)
  best_price d e = sym (prices_start k rs) ∙ prices_next k rs 0 d e

module _ (s : ℕ) (rs : List Row) where
  pub no_bid : None ≡ nearest (key_of Side.Buy s) 0 rs → None ≡ spread_of s rs
  unfolding spread_of between
  no_bid e = rw (no_price (key_of Side.Buy s) rs e)

  module _ (b : ℕ) (e : Some b ≡ nearest (key_of Side.Buy s) 0 rs) where
    pub no_offer : None ≡ nearest (key_of Side.Sell s) 0 rs → None ≡ spread_of s rs
    unfolding spread_of between
    no_offer f = rw (best_price (key_of Side.Buy s) rs b e, no_price (key_of Side.Sell s) rs f)

    pub two_sided : (a : ℕ) → Some a ≡ nearest (key_of Side.Sell s) 0 rs → Some (pos a -ℤ pos (most_price - b)) ≡ spread_of s rs
    unfolding spread_of between
    two_sided a f = rw (best_price (key_of Side.Buy s) rs b e, best_price (key_of Side.Sell s) rs a f, bid_far s b, offer_far s a)

-- ---- the two sides
-- what a spread tells of the two sides
pub record Sides (s : ℕ) (rs : List Row) (z : ℤ) : Type 0 where
  pub bid : ℕ
  pub bids : List ℕ
  pub bid_best : prices (key_of Side.Buy s) rs ≡ bid ∷ bids
  pub offer : ℕ
  pub offers : List ℕ
  pub offer_best : prices (key_of Side.Sell s) rs ≡ offer ∷ offers
  pub gap : z ≡ pos offer -ℤ pos bid
  pub negative_crossed : lt_z z (pos 0) ≡ ltb offer bid
  pub zero_locked : z ≡ pos 0 → offer ≡ bid
  pub locked_zero : offer ≡ bid → z ≡ pos 0
  pub size : nat_abs z ≤ most_price

pub between_none : (bs : List ℕ) → between bs [] ≡ None
unfolding between
between_none [] = refl
between_none (b ∷ bs) = refl

pub sides : (s : ℕ) (rs : List Row) (z : ℤ) (bs : List ℕ) → prices (key_of Side.Buy s) rs ≡ bs → All (λ p. p ≤ most_price) bs
    → (os : List ℕ) → prices (key_of Side.Sell s) rs ≡ os → All (λ p. p ≤ most_price) os → between bs os ≡ Some z → Sides s rs z
unfolding between
sides s rs z [] p h os q l f = cc
sides s rs z (b ∷ bs) p h [] q l f = cc
sides s rs z (b ∷ bs) p h (a ∷ os) q l f =
    let e : z ≡ pos a -ℤ pos b = cc in
    record {
      bid = b;
      bids = bs;
      bid_best = p;
      offer = a;
      offers = os;
      offer_best = q;
      gap = e;
      negative_crossed = rw e (minus_below a b);
      zero_locked = λ n. minus_zero a b (sym e ∙ n);
      locked_zero = λ n. e ∙ minus_same a b n;
      size = rw e (minus_top a b l.0 h.0);
    }

pub spread_told : (bs os : List ℕ) → spread_number (Ok (between bs os)) ≡ 0
unfolding between spread_number
spread_told [] os = refl
spread_told (b ∷ bs) [] = refl
spread_told (b ∷ bs) (a ∷ os) = refl
