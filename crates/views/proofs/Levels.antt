-- A place among the key's places is the price as far as it, so what the places say of order, membership and sums the prices say too.
-- Assumes nothing.
use mathlib.Core.Path.{◌≡◌, refl, sym, ap, ◌∙◌}
use mathlib.Core.List.{List, [], ◌∷◌, map}
use mathlib.Core.Bool.{Bool, true, false}
use Prim.Native.Nat.{ℕ, suc, ◌-◌, ◌≤◌, ◌<◌}
use native.Mathlib.Omega.{arith}
use lib.Dec.{eqb}
use borrow.Author.Tests.{eq-eqb, ne_eqb, eqb-true, eqb-false}
use Rattle.facts.specs.Limits.{most_price}
use Rattle.facts.specs.Pick.{both}
use Rattle.facts.specs.Sums.{sum_by, only_if, count_by}
use Rattle.facts.proofs.SumLaws.{only_no, only_yes}
use Rattle.rows.specs.declared.Row.{Row}
use Rattle.rows.specs.Find.{of_key}
use Rattle.ascend.specs.Ascend.{any_by, in_place}
use Rattle.ascend.proofs.Laws.{Ascends, Rising}
use Rattle.ascend.proofs.Each.{all_weaken, all_map, rising_below}
use Rattle.ascend.proofs.Places.{All, sum_places}
use Rattle.views.specs.declared.Side.{Side}
use Rattle.views.specs.Ladder.{key_of, far, at_price, places_of, prices}
use Rattle.views.specs.Nearest.{beyond}
use Rattle.views.proofs.Laws.{at_price_is, bid_far, offer_far, far_top, far_far, key_price, rising}

-- ---- in order
-- strictly falling, from below b
abbrev pub Falls : ℕ → List ℕ → Type 0
Falls b [] = Unit {0}
Falls b (x ∷ xs) = (x < b) × Falls x xs

pub bid_prices_fall : (s b : ℕ) (ds : List ℕ) → Rising beyond b ds → Falls (beyond - b) (map (far (key_of Side.Buy s)) ds)
bid_prices_fall s b [] r = tt
bid_prices_fall s b (d ∷ ds) r =
    let t = (rising_below beyond (suc d) ds r.1).0 in
    let e : far (key_of Side.Buy s) d ≡ beyond - suc d = bid_far s d ∙ omega arith in
    (omega (arith, r.0), rw e (bid_prices_fall s (suc d) ds r.1))

pub offer_prices : (s : ℕ) (ds : List ℕ) → map (far (key_of Side.Sell s)) ds ≡ ds
offer_prices s [] = refl
offer_prices s (d ∷ ds) = rw (offer_far s d, offer_prices s ds)

-- ---- in range
pub places_low : (k : ℕ) (rs : List Row) → All (λ d. d ≤ most_price) (places_of k rs)
places_low k rs = all_weaken (λ d h. omega arith) (places_of k rs) (rising_below beyond 0 (places_of k rs) (rising k rs)).1

pub prices_low : (k : ℕ) (rs : List Row) → All (λ p. p ≤ most_price) (prices k rs)
unfolding prices
prices_low k rs = all_map (λ p. p ≤ most_price) (far k) (places_of k rs) (all_weaken (λ d h. far_top k d h) (places_of k rs) (places_low k rs))

-- ---- a place and its price
module _ (k d : ℕ) (h : d ≤ most_price) where
  same_place : (p : ℕ) → p ≤ most_price → eqb (far k p) d ≡ eqb p (far k d)
  same_place p l = go (eqb (far k p) d) refl
    where
      go : (b : Bool) → eqb (far k p) d ≡ b → b ≡ eqb p (far k d)
      go true e = sym (eq-eqb p (far k d) (sym (far_far k p l) ∙ ap (far k) (eqb-true (far k p) d e)))
      go false e = sym (ne_eqb p (far k d) (λ q. eqb-false (far k p) d e (ap (far k) q ∙ far_far k d h)))

  in_place_lem : (r : Row) → in_place (of_key k) (λ r. far k r.price) d r ≡ at_price k (far k d) r
  unfolding in_place at_price both
  in_place_lem r = go (of_key k r) refl
    where
      go : (b : Bool) → of_key k r ≡ b → both b (eqb (far k r.price) d) ≡ both b (eqb r.price (far k d))
      go true e = same_place r.price (key_price k r e)
      go false e = refl

  sum_in_place : (f : Row → ℕ) (rs : List Row) → sum_by (only_if (at_price k (far k d)) f) rs ≡ sum_by (only_if (in_place (of_key k) (λ r. far k r.price) d) f) rs
  unfolding sum_by only_if
  sum_in_place f [] = refl
  sum_in_place f (r ∷ rs) = rw (in_place_lem r, sum_in_place f rs)

  pub any_in_place : (rs : List Row) → any_by (in_place (of_key k) (λ r. far k r.price) d) rs ≡ any_by (at_price k (far k d)) rs
  unfolding any_by
  any_in_place [] = refl
  any_in_place (r ∷ rs) = rw (in_place_lem r, any_in_place rs)

-- ---- sums over levels
pub sum_prices : (k : ℕ) (f : Row → ℕ) (rs : List Row) (ds : List ℕ) → All (λ d. d ≤ most_price) ds
    → sum_by (λ p. sum_by (only_if (at_price k p) f) rs) (map (far k) ds) ≡ sum_by (λ d. sum_by (only_if (in_place (of_key k) (λ r. far k r.price) d) f) rs) ds
unfolding sum_by
sum_prices k f rs [] h = refl
sum_prices k f rs (d ∷ ds) h = rw (sum_in_place k d h.0 f rs, sum_prices k f rs ds h.1)

-- one row: the levels that it stands in, and its own part in the sum over the key's rows
pub alone : (k : ℕ) (r : Row) (ps : List ℕ) → count_by (λ p. at_price k p r) ps ≡ sum_by (λ p. sum_by (only_if (at_price k p) (λ r. 1)) (r ∷ [])) ps
unfolding count_by sum_by only_if
alone k r [] = refl
alone k r (p ∷ ps) = omega (arith, alone k r ps)

pub mine_once : (k : ℕ) (r : Row) → of_key k r ≡ true → sum_by (only_if (of_key k) (λ r. 1)) (r ∷ []) ≡ 1
unfolding sum_by
mine_once k r e = omega (arith, only_yes (of_key k) (λ r. 1) r e)

module _ (k : ℕ) (rs : List Row) where
  pub price_sums : (f : Row → ℕ) → sum_by (λ p. sum_by (only_if (at_price k p) f) rs) (prices k rs) ≡ sum_by (only_if (of_key k) f) rs
  unfolding prices places_of
  price_sums f = sum_prices k f rs (places_of k rs) (places_low k rs) ∙ sum_places (of_key k) (λ r. far k r.price) f rs

-- what holds of every price holds of the one that a row counted in stands at
pub stands_at : (k : ℕ) (r : Row) (P : ℕ → Type 0) (ps : List ℕ) → All P ps → 1 ≤ count_by (λ p. at_price k p r) ps → P r.price
unfolding count_by sum_by
stands_at k r P [] a h = absurd (omega arith)
stands_at k r P (p ∷ ps) a h = go (λ l. stands_at k r P ps a.1 l) (at_price k p r) refl
  where
    go : (1 ≤ count_by (λ p. at_price k p r) ps → P r.price) → (b : Bool) → at_price k p r ≡ b → P r.price
    go rec true e = let q : r.price ≡ p = eqb-true r.price p (at_price_is k p r e).1 in rw q a.0
    go rec false e = rec (omega (arith, h, only_no (λ p. at_price k p r) (λ p. 1) p e))

pub falls_below : (b : ℕ) (ps : List ℕ) → Falls b ps → All (λ p. p < b) ps
falls_below b [] f = tt
falls_below b (p ∷ ps) f = (f.0, all_weaken (λ x h. omega (arith, h, f.0)) ps (falls_below p ps f.1))

pub ascends_above : (b : ℕ) (ps : List ℕ) → Ascends b ps → All (λ p. b ≤ p) ps
ascends_above b [] f = tt
ascends_above b (p ∷ ps) f = (f.0, all_weaken (λ x h. omega (arith, h, f.0)) ps (ascends_above (suc p) ps f.1))
