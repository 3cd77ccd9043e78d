-- The ladder's places ascend and hold each live order of the key once, so its prices are strictly ordered and its levels add up to what is live.
-- Assumes nothing.
use mathlib.Core.Path.{◌≡◌, refl, sym, ap, ◌∙◌}
use mathlib.Core.List.{List, [], ◌∷◌, ◌++◌, map}
use mathlib.Core.Bool.{Bool, true, false}
use Prim.Native.Nat.{ℕ, suc, ◌+◌, ◌*◌, ◌/◌, ◌-◌, ◌≤◌, ◌<◌, min}
use native.Mathlib.Omega.{arith}
use lib.ListN.{length, get_or, drop, length-append, length-drop, get_or-append}
use lib.Seq.{get_or-drop, get_or-append-add}
use lib.Dec.{eqb}
use lib.IntN.{ℤ}
use borrow.Author.Tests.{ne_eqb, eqb-true}
use Rattle.facts.specs.Limits.{most_price}
use Rattle.facts.specs.Pick.{pick}
use Rattle.facts.specs.Sums.{sum_by, only_if, count_by}
use Rattle.facts.proofs.Picks.{pick_ind}
use Rattle.facts.proofs.SumLaws.{sum_map}
use Rattle.fields.specs.Fields.{refusal}
use Rattle.rows.specs.declared.Row.{Row}
use Rattle.rows.specs.Find.{of_key, count_live}
use Rattle.rows.specs.Rows.{rows}
use Rattle.rows.proofs.Judged.{live_ranges}
use Rattle.ascend.specs.Ascend.{has, any_by}
use Rattle.ascend.proofs.Laws.{Ascends, rising_ascends}
use Rattle.ascend.proofs.Each.{all_weaken, all_and, all_map, all_has, any_sum}
use Rattle.ascend.proofs.Places.{All, sum_covered, places_ascend, places_has, places_covered}
use Rattle.symbols.specs.Entries.{entries}
use Rattle.symbols.specs.Find.{count_used}
use Rattle.views.specs.declared.Level.{Level}
use Rattle.views.specs.declared.Side.{Side}
use Rattle.std.specs.Prelude.{Some, None, Ok, Err}
use Rattle.views.specs.Ladder.{key_of, far, at_price, places_of, prices, level_of, ladder, three_of, fitting, written}
use Rattle.views.specs.Nearest.{beyond}
use Rattle.views.specs.Views.{good_tables, view_fault, LadderOut, ladder_view, spread_view, counts_view, ladder_number, spread_number, counts_number}
use Rattle.views.specs.Spread.{between, spread_of}
use Rattle.views.proofs.Laws.{at_price_live, rising}
use Rattle.views.proofs.Levels.{stands_at, falls_below, ascends_above, Falls, bid_prices_fall, offer_prices, prices_low, places_low, any_in_place, sum_prices, alone, mine_once, price_sums}
use Rattle.views.proofs.Runs.{fitting_length, fitting_at}
use Rattle.views.proofs.Spreads.{Sides, sides, between_none, spread_told}

-- ---- strictly ordered
pub level_prices : (k : ℕ) (rs : List Row) → map (λ (l : Level). l.price) (ladder k rs) ≡ prices k rs
unfolding ladder level_of
level_prices k rs = go (prices k rs)
  where
    go : (ps : List ℕ) → map (λ (l : Level). l.price) (map (level_of k rs) ps) ≡ ps
    go [] = refl
    go (p ∷ ps) = rw (go ps)

-- "bids from the highest"
pub bids_fall : (s : ℕ) (rs : List Row) → Falls (most_price + 1) (prices (key_of Side.Buy s) rs)
unfolding prices
bids_fall s rs = bid_prices_fall s 0 (places_of (key_of Side.Buy s) rs) (rising (key_of Side.Buy s) rs)

-- "offers from the lowest"
pub offers_rise : (s : ℕ) (rs : List Row) → Ascends 0 (prices (key_of Side.Sell s) rs)
unfolding prices
offers_rise s rs = rw (offer_prices s (places_of (key_of Side.Sell s) rs)) (rising_ascends beyond 0 (places_of (key_of Side.Sell s) rs) (rising (key_of Side.Sell s) rs))

module _ (k : ℕ) (rs : List Row) where
  -- the orders of all levels are the live orders of the key
  pub orders_add_up : sum_by (λ (l : Level). l.orders) (ladder k rs) ≡ count_by (of_key k) rs
  unfolding ladder level_of count_by
  orders_add_up = sum_map (λ (l : Level). l.orders) (level_of k rs) (prices k rs) ∙ price_sums k rs (λ r. 1)

  -- and their shares are its live shares
  pub shares_add_up : sum_by (λ (l : Level). l.shares) (ladder k rs) ≡ sum_by (only_if (of_key k) (λ r. r.size)) rs
  unfolding ladder level_of
  shares_add_up = sum_map (λ (l : Level). l.shares) (level_of k rs) (prices k rs) ∙ price_sums k rs (λ r. r.size)

  -- each live order of the key stands at exactly one of the prices, so it is counted in exactly one level
  pub at_one_price : All (λ r. of_key k r ≡ true → count_by (λ p. at_price k p r) (prices k rs) ≡ 1) rs
  unfolding prices places_of
  at_one_price = all_weaken (λ r h e. one r h e) rs (places_covered (of_key k) (λ r. far k r.price) rs)
    where
      one : (r : Row) → (of_key k r ≡ true → has (far k r.price) (places_of k rs) ≡ true) → of_key k r ≡ true → count_by (λ p. at_price k p r) (map (far k) (places_of k rs)) ≡ 1
      one r h e =
          alone k r (map (far k) (places_of k rs))
          ∙ (sum_prices k (λ r. 1) (r ∷ []) (places_of k rs) (places_low k rs)
          ∙ (sum_covered (of_key k) (λ r. far k r.price) (λ r. 1) 0 (places_of k rs) (places_ascend (of_key k) (λ r. far k r.price) rs) (r ∷ []) (h, tt)
          ∙ mine_once k r e))

  pub in_one_level : All (λ r. of_key k r ≡ true → count_by (λ (l : Level). at_price k l.price r) (ladder k rs) ≡ 1) rs
  unfolding ladder level_of count_by only_if
  in_one_level = all_weaken (λ r h e. sum_map (only_if (λ (l : Level). at_price k l.price r) (λ l. 1)) (level_of k rs) (prices k rs) ∙ h e) rs at_one_price

  -- ---- no empty level
  -- each level's price is that of a live order of the key
  pub price_taken : All (λ p. any_by (at_price k p) rs ≡ true) (prices k rs)
  unfolding prices places_of
  price_taken =
      all_map (λ p. any_by (at_price k p) rs ≡ true) (far k) (places_of k rs)
      (all_weaken (λ d w. sym (any_in_place k d w.1 rs) ∙ (sym (places_has (of_key k) (λ r. far k r.price) d rs) ∙ w.0)) (places_of k rs) (all_and (λ d. has d (places_of k rs) ≡ true) (λ d. d ≤ most_price) (places_of k rs) (all_has (places_of k rs)) (places_low k rs)))

  pub level_filled : All (λ (l : Level). (1 ≤ l.orders) × (1 ≤ l.shares)) (ladder k rs)
  unfolding ladder level_of count_by
  level_filled =
      all_map (λ (l : Level). (1 ≤ l.orders) × (1 ≤ l.shares)) (level_of k rs) (prices k rs)
      (all_weaken
      (λ p e. (any_sum (at_price k p) (λ r. 1) (λ r h. omega arith) rs e, any_sum (at_price k p) (λ r. r.size) (λ r h. (live_ranges r (at_price_live k p r h)).sized) rs e))
      (prices k rs) price_taken)

-- ---- empty sides and best prices
module _ (k : ℕ) (rs : List Row) where
  pub no_levels : prices k rs ≡ [] → count_by (of_key k) rs ≡ 0
  unfolding ladder sum_by
  no_levels e = sym (orders_add_up k rs) ∙ rw e

  pub no_orders : count_by (of_key k) rs ≡ 0 → prices k rs ≡ []
  unfolding ladder sum_by
  no_orders e = go (prices k rs) refl
    where
      go : (ps : List ℕ) → prices k rs ≡ ps → ps ≡ []
      go [] q = refl
      go (p ∷ ps) q =
          let f : All (λ (l : Level). (1 ≤ l.orders) × (1 ≤ l.shares)) (map (level_of k rs) (p ∷ ps)) = rw q at (level_filled k rs) in
          let t : sum_by (λ (l : Level). l.orders) (map (level_of k rs) (p ∷ ps)) ≡ 0 = (rw q at (orders_add_up k rs)) ∙ e in
          absurd (omega (arith, f.0.0, t))

-- no live bid is above the best
pub bid_highest : (s : ℕ) (rs : List Row) (b : ℕ) (bs : List ℕ) → prices (key_of Side.Buy s) rs ≡ b ∷ bs → All (λ r. of_key (key_of Side.Buy s) r ≡ true → r.price ≤ b) rs
bid_highest s rs b bs e =
    let f : Falls (most_price + 1) (b ∷ bs) = rw e at (bids_fall s rs) in
    let l : All (λ p. p ≤ b) (prices (key_of Side.Buy s) rs) = rw e (omega arith, all_weaken (λ x h. omega arith) bs (falls_below b bs f.1)) in
    all_weaken (λ r h m. stands_at (key_of Side.Buy s) r (λ p. p ≤ b) (prices (key_of Side.Buy s) rs) l (omega (arith, h m))) rs (at_one_price (key_of Side.Buy s) rs)

-- and no live offer below the best
pub offer_lowest : (s : ℕ) (rs : List Row) (a : ℕ) (os : List ℕ) → prices (key_of Side.Sell s) rs ≡ a ∷ os → All (λ r. of_key (key_of Side.Sell s) r ≡ true → a ≤ r.price) rs
offer_lowest s rs a os e =
    let f : Ascends 0 (a ∷ os) = rw e at (offers_rise s rs) in
    let l : All (λ p. a ≤ p) (prices (key_of Side.Sell s) rs) = rw e (omega arith, all_weaken (λ x h. omega arith) os (ascends_above (suc a) os f.1)) in
    all_weaken (λ r h m. stands_at (key_of Side.Sell s) r (λ p. a ≤ p) (prices (key_of Side.Sell s) rs) l (omega (arith, h m))) rs (at_one_price (key_of Side.Sell s) rs)

-- ---- by index
module _ (ls : List Level) (o : List ℕ) where
  -- level i stands at 3i, 3i + 1 and 3i + 2 of the run, if it fits whole
  pub level_stands : (i c : ℕ) (d : Level) → i < length ls → i < length o / 3 → c < 3 → get_or (written ls o) (3 * i + c) 0 ≡ get_or (three_of (get_or ls i d)) c 0
  unfolding written
  level_stands i c d l h k =
      get_or-append (fitting ls (length o)) _ 0 (3 * i + c) (rw fitting_length (omega arith)) ∙ fitting_at ls (length o) i c d h l k

  -- every other element of the run is as it was
  pub rest_stands : (j : ℕ) → 3 * min (length o / 3) (length ls) ≤ j → get_or (written ls o) j 0 ≡ get_or o j 0
  unfolding written
  rest_stands j h =
      let f = fitting ls (length o) in
      let e : j ≡ length f + (j - length f) = omega (arith, fitting_length ls (length o)) in
      ap (λ x. get_or (f ++ drop (length f) o) x 0) e
      ∙ (get_or-append-add f (drop (length f) o) (j - length f) 0
      ∙ (get_or-drop (length f) o (j - length f) 0 ∙ ap (λ x. get_or o x 0) (sym e)))

  pub run_length : length (written ls o) ≡ length o
  unfolding written
  run_length = rw (length-append, length-drop) (omega (arith, fitting_length ls (length o)))

-- ---- the spread
module _ (s : ℕ) (rs : List Row) where
  -- best offer less best bid, negative exactly if the bid is above the offer, zero exactly if they are equal
  pub spread_sides : (z : ℤ) → spread_of s rs ≡ Some z → Sides s rs z
  unfolding spread_of
  spread_sides z e =
      sides s rs z (prices (key_of Side.Buy s) rs) refl (prices_low (key_of Side.Buy s) rs) (prices (key_of Side.Sell s) rs) refl (prices_low (key_of Side.Sell s) rs) e

  pub no_bids_empty : prices (key_of Side.Buy s) rs ≡ [] → spread_of s rs ≡ None
  unfolding spread_of between
  no_bids_empty p = rw p

  pub no_offers_empty : prices (key_of Side.Sell s) rs ≡ [] → spread_of s rs ≡ None
  unfolding spread_of
  no_offers_empty q = rw q (between_none (prices (key_of Side.Buy s) rs))

-- ---- numbers of the answers
pub spread_of_number : (s : ℕ) (rs : List Row) → spread_number (Ok (spread_of s rs)) ≡ 0
unfolding spread_of
spread_of_number s rs = spread_told (prices (key_of Side.Buy s) rs) (prices (key_of Side.Sell s) rs)

module _ (s : ℕ) (orders symbols : List ℕ) where
  pub ladder_number_lem : (side : Side) (out : List ℕ) → ladder_number (ladder_view side s orders symbols out).answer ≡ view_fault s orders symbols
  unfolding ladder_view ladder_number
  ladder_number_lem side out =
      pick_ind (λ (x : LadderOut). ladder_number x.answer ≡ view_fault s orders symbols) (eqb (view_fault s orders symbols) 0) _ _
      (λ e. sym (eqb-true (view_fault s orders symbols) 0 e))
      (λ e. refl)

  -- "Each refusal returns its number alone; tables, output and state keep every byte"
  pub refused_kept : (side : Side) (out : List ℕ) → (view_fault s orders symbols ≡ 0 → ⊥) → (ladder_view side s orders symbols out).run ≡ out
  unfolding ladder_view pick
  refused_kept side out n = rw (ne_eqb (view_fault s orders symbols) 0 n)

  pub spread_number_lem : spread_number (spread_view s orders symbols) ≡ view_fault s orders symbols
  unfolding spread_view spread_number
  spread_number_lem =
      pick_ind (λ x. spread_number x ≡ view_fault s orders symbols) (eqb (view_fault s orders symbols) 0) _ _
      (λ e. spread_of_number s (rows orders) ∙ sym (eqb-true (view_fault s orders symbols) 0 e))
      (λ e. refl)

  pub counts_number_lem : counts_number (counts_view orders symbols) ≡ pick (good_tables orders symbols) 0 6
  unfolding counts_view counts_number pick
  counts_number_lem = go (good_tables orders symbols)
    where
      go : (b : Bool) → counts_number (pick b (Ok (record { orders = count_live (rows orders); symbols = count_used (entries symbols) })) (Err (refusal 6))) ≡ pick b 0 6
      go true = refl
      go false = refl
