-- A place is as far as its price, so one ascending list of places serves bids and offers; a scan of the rows finds the nearest place, and the ladder goes on from there.
-- Assumes nothing.
use mathlib.Core.Path.{◌≡◌, refl, sym, ap, ◌∙◌}
use mathlib.Core.List.{List, [], ◌∷◌, map}
use mathlib.Core.Bool.{Bool, true, false}
use Rattle.std.specs.Prelude.{Option, Some, None}
use Rattle.std.specs.List.{fold, reduce, filter_map, cons_option}
use Rattle.std.specs.Option.{option_map_or}
use Rattle.std.specs.Bool.{then_some}
use Rattle.std.proofs.lemmas.Option.{none-some}
use Prim.Native.Nat.{ℕ, ◌+◌, ◌*◌, ◌-◌, ◌≤◌, ◌<◌, min}
use native.Mathlib.Numerals.{add-one}
use native.Mathlib.Omega.{arith}
use lib.ListN.{length, get_or, drop, drop_of_length-le, length-map}
use lib.Seq.{drop-cons}
use lib.Dec.{leb, ltb, eqb}
use borrow.Author.Tests.{eq-eqb, ne_eqb, leb-true, leb-false, lt-ltb, le-ltb, ltb-true, ltb-false}
use Rattle.facts.specs.Limits.{most_price, most_rows}
use Rattle.facts.specs.Pick.{pick}
use Rattle.facts.specs.Sums.{sum_by, count_by}
use Rattle.facts.proofs.Picks.{pick_ind, both_true}
use Rattle.facts.proofs.SumLaws.{count_bound}
use Rattle.rows.specs.declared.Row.{Row}
use Rattle.rows.specs.Keys.{key_for, side_in}
use Rattle.rows.specs.Rows.{rows, row_count, zero_row, live, good_rows}
use Rattle.rows.specs.Find.{of_key}
use Rattle.rows.proofs.Tables.{length_rows}
use Rattle.rows.proofs.Judged.{live_ranges, key_is, good_rows_lem}
use Rattle.rows.proofs.Walks.{shares_bound}
use Rattle.ascend.specs.Ascend.{ins, least_from, from_on, places}
use Rattle.ascend.proofs.Laws.{Rising, ins_least, least_top, from_all, from_none, from_some}
use Rattle.ascend.proofs.Places.{all_of, places_rising, places_length}
use Rattle.views.specs.declared.Level.{Level}
use Rattle.views.specs.declared.Side.{Side}
use Rattle.views.specs.Ladder.{key_of, far, at_price, places_of, prices, size_at, level_of, ladder}
use Rattle.views.specs.Nearest.{beyond, place_from, within, nearest}

-- ---- keys and places
pub bid_far : (s p : ℕ) → far (key_of Side.Buy s) p ≡ most_price - p
unfolding key_of far pick
bid_far s p = rw (eq-eqb (side_in (key_for s 0)) 0 (omega arith))

pub offer_far : (s p : ℕ) → far (key_of Side.Sell s) p ≡ p
unfolding key_of far pick
offer_far s p = rw (ne_eqb (side_in (key_for s 1)) 0 (λ e. omega arith))

pub far_top : (k p : ℕ) → p ≤ most_price → far k p ≤ most_price
unfolding far
far_top k p h = pick_ind (λ n. n ≤ most_price) (eqb (side_in k) 0) (most_price - p) p (λ e. omega arith) (λ e. h)

-- a place's price is as far as the place
pub far_far : (k p : ℕ) → p ≤ most_price → far k (far k p) ≡ p
unfolding far pick
far_far k p h = go (eqb (side_in k) 0)
  where
    go : (b : Bool) → pick b (most_price - pick b (most_price - p) p) (pick b (most_price - p) p) ≡ p
    go true = omega arith
    go false = refl

pub key_price : (k : ℕ) (r : Row) → of_key k r ≡ true → r.price ≤ most_price
key_price k r e = (live_ranges r (key_is k r e).1).price_top

pub at_price_is : (k p : ℕ) (r : Row) → at_price k p r ≡ true → (of_key k r ≡ true) × (eqb r.price p ≡ true)
unfolding at_price
at_price_is k p r e = both_true e

pub at_price_live : (k p : ℕ) (r : Row) → at_price k p r ≡ true → live r ≡ true
at_price_live k p r e = (key_is k r (at_price_is k p r e).0).1

row_place : (k : ℕ) (r : Row) → of_key k r ≡ true → far k r.price < beyond
row_place k r e = omega (arith, far_top k r.price (key_price k r e))

module _ (k : ℕ) (rs : List Row) where
  pub rising : Rising beyond 0 (places_of k rs)
  unfolding places_of
  rising = places_rising (of_key k) (λ r. far k r.price) beyond rs (all_of (row_place k) rs)

  pub places_few : length (places_of k rs) ≤ length rs
  unfolding places_of
  places_few = places_length (of_key k) (λ r. far k r.price) rs

  pub ladder_length : length (ladder k rs) ≡ length (places_of k rs)
  unfolding ladder prices
  ladder_length = simp length-map

-- ---- the scan
-- where a row lies that has a place, and what the nearest place is with it in front
module _ (k low : ℕ) where
  place_in : (r : Row) (d : ℕ) → place_from k low r ≡ Some d → d ≤ most_price
  unfolding place_from pick
  place_in r d = go (of_key k r) refl (leb low (far k r.price))
    where
      go : (b : Bool) → of_key k r ≡ b → (l : Bool) → pick b (pick l (Some (far k r.price)) None) None ≡ Some d → d ≤ most_price
      go true e true h = let q : far k r.price ≡ d = cc in rw (← q) (far_top k r.price (key_price k r e))
      go true e false h = absurd (none-some d h)
      go false e l h = absurd (none-some d h)

  abbrev pub least : List Row → ℕ
  least rs = least_from beyond low (places_of k rs)

  least_some : (r : Row) (rs : List Row) (d : ℕ) → place_from k low r ≡ Some d → least (r ∷ rs) ≡ min d (least rs)
  unfolding place_from places_of places pick
  least_some r rs d = go (of_key k r) refl
    where
      go : (b : Bool) → of_key k r ≡ b → pick b (pick (leb low (far k r.price)) (Some (far k r.price)) None) None ≡ Some d
          → least_from beyond low (pick b (ins (far k r.price) (places_of k rs)) (places_of k rs)) ≡ min d (least rs)
      go true e h = rw (ins_least beyond low (far k r.price) 0 (places_of k rs) (row_place k r e) (rising k rs)) (there (leb low (far k r.price)) h)
        where
          there : (l : Bool) → pick l (Some (far k r.price)) None ≡ Some d → pick l (min (far k r.price) (least rs)) (least rs) ≡ min d (least rs)
          there true h = let q : far k r.price ≡ d = cc in rw q
          there false h = absurd (none-some d h)
      go false e h = absurd (none-some d h)

  least_none : (r : Row) (rs : List Row) → place_from k low r ≡ None → least (r ∷ rs) ≡ least rs
  unfolding place_from places_of places pick
  least_none r rs = go (of_key k r) refl
    where
      go : (b : Bool) → of_key k r ≡ b → pick b (pick (leb low (far k r.price)) (Some (far k r.price)) None) None ≡ None
          → least_from beyond low (pick b (ins (far k r.price) (places_of k rs)) (places_of k rs)) ≡ least rs
      go true e h = rw (ins_least beyond low (far k r.price) 0 (places_of k rs) (row_place k r e) (rising k rs)) (there (leb low (far k r.price)) h)
        where
          there : (l : Bool) → pick l (Some (far k r.price)) None ≡ None → pick l (min (far k r.price) (least rs)) (least rs) ≡ least rs
          there true h = absurd (none-some (far k r.price) (sym h))
          there false h = refl
      go false e h = refl

  -- the least of the rows' places, from b on
  folded : (b : ℕ) → b ≤ beyond → (rs : List Row) → fold min b (filter_map (place_from k low) rs) ≡ min b (least rs)
  unfolding places_of places least_from
  folded b t [] = omega arith
  folded b t (r ∷ rs) = go (λ x l. folded x l rs) (place_from k low r) refl
    where
      go : ((x : ℕ) → x ≤ beyond → fold min x (filter_map (place_from k low) rs) ≡ min x (least rs)) → (o : Option ℕ) → place_from k low r ≡ o
          → fold min b (cons_option o (filter_map (place_from k low) rs)) ≡ min b (least (r ∷ rs))
      go rec (Some d) e = omega (arith, rec (min b d) (omega arith), least_some r rs d e)
      go rec None e = omega (arith, rec b t, least_none r rs e)

  lowest : (rs : List Row) → reduce min (filter_map (place_from k low) rs) ≡ nearest k low rs
  unfolding places_of places least_from nearest within pick
  lowest [] = refl
  lowest (r ∷ rs) = go (lowest rs) (place_from k low r) refl
    where
      go : reduce min (filter_map (place_from k low) rs) ≡ nearest k low rs → (o : Option ℕ) → place_from k low r ≡ o → reduce min (cons_option o (filter_map (place_from k low) rs)) ≡ nearest k low (r ∷ rs)
      go rec (Some d) e =
          let t : d ≤ most_price = place_in r d e in
          let q : fold min d (filter_map (place_from k low) rs) ≡ least (r ∷ rs) = folded d (omega arith) rs ∙ sym (least_some r rs d e) in
          let l : least (r ∷ rs) < beyond = omega (arith, least_some r rs d e) in
          ap Some q ∙ sym (rw (lt-ltb (least (r ∷ rs)) beyond l) refl)
      go rec None e = rec ∙ ap within (sym (least_none r rs e))

  -- the nearest of what was found so far and of what these rows have
  unfoldable pub nearest_of : Option ℕ → List Row → Option ℕ
  nearest_of None rs = reduce min (filter_map (place_from k low) rs)
  nearest_of (Some b) rs = Some (fold min b (filter_map (place_from k low) rs))

  pub scan_start : (rs : List Row) → nearest_of None rs ≡ nearest k low rs
  unfolding nearest_of
  scan_start rs = lowest rs

  found : (o : Option ℕ) (r : Row) (rs : List Row) (d : ℕ) → place_from k low r ≡ Some d → nearest_of o (r ∷ rs) ≡ nearest_of (Some (option_map_or (λ b. min b d) o d)) rs
  unfolding nearest_of
  found None r rs d e = rw e
  found (Some b) r rs d e = rw e

  passed : (o : Option ℕ) (r : Row) (rs : List Row) → place_from k low r ≡ None → nearest_of o (r ∷ rs) ≡ nearest_of o rs
  unfolding nearest_of
  passed None r rs e = rw e
  passed (Some b) r rs e = rw e

  module _ (o : Option ℕ) (t : List ℕ) (i : ℕ) where
    from_row : i < row_count t → drop i (rows t) ≡ get_or (rows t) i zero_row ∷ drop (i + 1) (rows t)
    from_row h = let l : i < length (rows t) = rw length_rows h in drop-cons (rows t) i zero_row l ∙ ap (λ j. get_or (rows t) i zero_row ∷ drop j (rows t)) (sym (add-one i))

    pub scan_found : (d : ℕ) → i < row_count t → place_from k low (get_or (rows t) i zero_row) ≡ Some d → nearest_of o (drop i (rows t)) ≡ nearest_of (Some (option_map_or (λ b. min b d) o d)) (drop (i + 1) (rows t))
    scan_found d h e = ap (nearest_of o) (from_row h) ∙ found o (get_or (rows t) i zero_row) (drop (i + 1) (rows t)) d e

    pub scan_passed : i < row_count t → place_from k low (get_or (rows t) i zero_row) ≡ None → nearest_of o (drop i (rows t)) ≡ nearest_of o (drop (i + 1) (rows t))
    scan_passed h e = ap (nearest_of o) (from_row h) ∙ passed o (get_or (rows t) i zero_row) (drop (i + 1) (rows t)) e

  pub scan_end : (o : Option ℕ) (t : List ℕ) (i : ℕ) → row_count t ≤ i → nearest_of o (drop i (rows t)) ≡ o
  unfolding nearest_of
  scan_end o t i h = let l : length (rows t) ≤ i = rw length_rows h in rw (drop_of_length-le (rows t) l) (go o)
    where
      go : (o : Option ℕ) → nearest_of o [] ≡ o
      go None = refl
      go (Some b) = refl

  -- the same by a number beyond every place where nothing is found yet
  least_below : (rs : List Row) → least rs ≤ beyond
  least_below rs = least_top beyond low 0 (places_of k rs) (rising k rs)

  -- a number beyond every place changes no least
  pub turn_start : (rs : List Row) (b : ℕ) → beyond ≤ b → min b (least rs) ≡ least rs
  turn_start rs b h = omega (arith, least_below rs)

  module _ (t : List ℕ) (i : ℕ) where
    first_row : i < row_count t → drop i (rows t) ≡ get_or (rows t) i zero_row ∷ drop (i + 1) (rows t)
    first_row h = let l : i < length (rows t) = rw length_rows h in drop-cons (rows t) i zero_row l ∙ ap (λ j. get_or (rows t) i zero_row ∷ drop j (rows t)) (sym (add-one i))

    pub turn_found : (d : ℕ) → i < row_count t → place_from k low (get_or (rows t) i zero_row) ≡ Some d → least (drop i (rows t)) ≡ min d (least (drop (i + 1) (rows t)))
    turn_found d h e = ap least (first_row h) ∙ least_some (get_or (rows t) i zero_row) (drop (i + 1) (rows t)) d e

    pub turn_passed : i < row_count t → place_from k low (get_or (rows t) i zero_row) ≡ None → least (drop i (rows t)) ≡ least (drop (i + 1) (rows t))
    turn_passed h e = ap least (first_row h) ∙ least_none (get_or (rows t) i zero_row) (drop (i + 1) (rows t)) e

    pub turn_end : row_count t ≤ i → least (drop i (rows t)) ≡ beyond
    unfolding places_of places least_from
    turn_end h = let l : length (rows t) ≤ i = rw length_rows h in rw (drop_of_length-le (rows t) l)

  -- what the scan ends with tells the nearest place
  pub turns_told : (rs : List Row) (b : ℕ) → min b beyond ≡ least rs → then_some (leb b most_price) b ≡ nearest k low rs
  unfolding nearest within pick
  turns_told rs b h = go (leb b most_price) refl
    where
      go : (t : Bool) → leb b most_price ≡ t → then_some t b ≡ pick (ltb (least rs) beyond) (Some (least rs)) None
      go true e =
          let q : least rs ≡ b = omega (arith, h, leb-true b most_price e) in
          rw (q, lt-ltb b beyond (omega (arith, leb-true b most_price e)))
      go false e =
          let q : least rs ≡ beyond = omega (arith, h, leb-false b most_price e) in
          rw (le-ltb (least rs) beyond (omega arith))

  module _ (rs : List Row) where
    -- what is found is the least place, and where nothing is found every place is below
    pub place_found : (d : ℕ) → Some d ≡ nearest k low rs → (d ≡ least rs) × (d ≤ most_price)
    unfolding nearest within pick
    place_found d e = go (ltb (least rs) beyond) refl e
      where
        go : (b : Bool) → ltb (least rs) beyond ≡ b → Some d ≡ pick b (Some (least rs)) None → (d ≡ least rs) × (d ≤ most_price)
        go true l e = let q : d ≡ least rs = cc in (q, omega (arith, ltb-true (least rs) beyond l))
        go false l e = absurd (none-some d (sym e))

    pub no_place : None ≡ nearest k low rs → most_price < least rs
    unfolding nearest within pick
    no_place e = go (ltb (least rs) beyond) refl e
      where
        go : (b : Bool) → ltb (least rs) beyond ≡ b → None ≡ pick b (Some (least rs)) None → most_price < least rs
        go true l e = absurd (none-some (least rs) e)
        go false l e = omega (arith, ltb-false (least rs) beyond l)

-- ---- the ladder from a place on
unfoldable pub prices_from : ℕ → List Row → ℕ → List ℕ
prices_from k rs low = map (far k) (from_on low (places_of k rs))

unfoldable pub ladder_from : ℕ → List Row → ℕ → List Level
ladder_from k rs low = map (level_of k rs) (prices_from k rs low)

module _ (k : ℕ) (rs : List Row) where
  pub prices_start : prices_from k rs 0 ≡ prices k rs
  unfolding prices_from prices
  prices_start = ap (map (far k)) (from_all beyond 0 0 (places_of k rs) (rising k rs) (omega arith))

  pub ladder_start : ladder_from k rs 0 ≡ ladder k rs
  unfolding ladder_from ladder
  ladder_start = ap (map (level_of k rs)) prices_start

  module _ (low : ℕ) where
    module _ (d : ℕ) (e : Some d ≡ nearest k low rs) where
      pub prices_next : prices_from k rs low ≡ far k d ∷ prices_from k rs (d + 1)
      unfolding prices_from
      prices_next =
          let p = place_found k low rs d e in
          let f : from_on low (places_of k rs) ≡ d ∷ from_on (d + 1) (places_of k rs) = rw p.0 (from_some beyond low 0 (places_of k rs) (rising k rs) (omega (arith, p.0, p.1))) in
          ap (map (far k)) f

      pub ladder_next : ladder_from k rs low ≡ level_of k rs (far k d) ∷ ladder_from k rs (d + 1)
      unfolding ladder_from
      ladder_next = ap (map (level_of k rs)) prices_next

    module _ (e : None ≡ nearest k low rs) where
      pub prices_end : prices_from k rs low ≡ []
      unfolding prices_from
      prices_end = ap (map (far k)) (from_none beyond low 0 (places_of k rs) (rising k rs) (omega (arith, no_place k low rs e)))

      pub ladder_end : ladder_from k rs low ≡ []
      unfolding ladder_from
      ladder_end = ap (map (level_of k rs)) prices_end

-- ---- sums of a table of good size
module _ (k p : ℕ) (t : List ℕ) (g : good_rows (length t) ≡ true) where
  rows_few : length (rows t) ≤ most_rows
  rows_few = rw length_rows (good_rows_lem (length t) g).1

  pub shares_fit : sum_by (size_at k p) (rows t) ≤ 4294967295 * most_rows
  shares_fit = omega (arith, shares_bound (at_price k p) (at_price_live k p) (rows t), rows_few)

  pub orders_fit : count_by (at_price k p) (rows t) ≤ most_rows
  orders_fit = omega (arith, count_bound (at_price k p) (rows t), rows_few)
