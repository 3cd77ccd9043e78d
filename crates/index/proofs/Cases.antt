-- Each definition taken apart by its tests: what it is where a slot, a count or a row came out one way.
-- Assumes nothing.
use mathlib.Core.Path.{◌≡◌, refl, sym, ap, ◌∙◌}
use mathlib.Core.List.{List, [], ◌∷◌}
use mathlib.Core.Bool.{Bool, true, false, true≢false, ◌&&◌}
use mathlib.Core.Logic.{inl, inr, ⊎_elim}
use Prim.Native.Nat.{ℕ, zero, suc, ◌+◌, ◌-◌, ◌*◌, ◌/◌, ◌%◌, ◌≤◌, ◌<◌}
use native.Mathlib.Nat.{sub-zero}
use native.Mathlib.Numerals.{add-one}
use native.Mathlib.Omega.{arith}
use lib.ListN.{length, get_or, set, drop, drop_of_length-le, length-drop}
use lib.Seq.{drop-cons}
use lib.Dec.{eqb, ltb}
use native.Mathlib.Decide.{ℕ_discrete}
use Rattle.std.specs.Prelude.{◌==◌, ◌++◌, bit_or, fold, take, replicate, leb, min}
use Rattle.std.proofs.lemmas.List.Sums.{prefix_len-le-length}
use Rattle.std.specs.List.{list_all, prefix_len, slice_range}
use Rattle.std.specs.Simd.{first_chunks}
use Rattle.std.proofs.Math.Bool.{and-false}
use Rattle.std.proofs.lemmas.Nat.{le_or_l, le_or_r}
use Rattle.std.proofs.lemmas.List.{get_or-take, get_or-drop, length-take-le}
use borrow.Author.Tests.{le-leb, lt-leb, leb-true, leb-false, lt-ltb, le-ltb, ltb-true, ltb-false, eq-eqb, ne_eqb, eqb-true, eqb-false}
use Rattle.facts.specs.Pick.{pick, both, either}
use Rattle.facts.specs.Search.{first}
use Rattle.std.specs.Prelude.{Option, Some, None}
use Rattle.facts.proofs.Picks.{pick_cases}
use Rattle.rows.specs.declared.Row.{Row}
use Rattle.rows.specs.Rows.{zero_row, free, live}
use Rattle.rows.specs.Find.{is_order}
use Rattle.index.specs.Index.{slots, blocks, used_of, count_of, tag_of, packed, fits, hash, next, probe, looked, WalkEnds, vacant, filled_at, placed, taken, freed, block_from, free_in, lowest_free, entered, each_row, front, zeroed, built, roomy}

-- ---- the numbers, for omega
pub slots_is : slots ≡ 32768
unfolding slots
slots_is = refl

pub blocks_is : blocks ≡ 250
unfolding blocks
blocks_is = refl

pub hash_below : (id : ℕ) → hash id < 32768
unfolding hash
hash_below id = omega arith

pub next_below : (p : ℕ) → next p < 32768
unfolding next
next_below p = omega arith

-- one step of fuel
slot_more : (n : ℕ) → n < 32768 → slots - n ≡ suc (slots - (n + 1))
slot_more n h = omega (arith, slots_is)

slot_none : (n : ℕ) → 32768 ≤ n → slots - n ≡ 0
slot_none n h = omega (arith, slots_is)

block_more : (n : ℕ) → n < 250 → blocks - n ≡ suc (blocks - (n + 1))
block_more n h = omega (arith, blocks_is)

block_none : (n : ℕ) → 250 ≤ n → blocks - n ≡ 0
block_none n h = omega (arith, blocks_is)

-- ---- a slot's row
module _ (id : ℕ) (rs : List Row) (s : ℕ) where
  pub fits_same : s / 65536 ≡ tag_of id → is_order id (get_or rs (s % 65536) zero_row) ≡ fits id rs s
  unfolding fits both
  fits_same e = rw (eq-eqb (s / 65536) (tag_of id) e)

-- ---- a walk that a test decides, at slot p after n steps
module _ (says : ℕ → Bool → Type 0) (ix : List ℕ) where
  pub walk_start : (id p : ℕ) (found : Option ℕ) → p ≡ hash id → WalkEnds says (slots - 0) ix ((p + 0) % 32768) found → WalkEnds says slots ix (hash id) found
  walk_start id p found e w = let q : (p + 0) % 32768 ≡ hash id = omega (arith, e, hash_below id) in rw (q, sub-zero slots) at w

  pub walk_hit : (n p s : ℕ) → n < 32768 → s ≡ get_or ix p 0 → says s true → WalkEnds says (slots - n) ix p (Some p)
  unfolding WalkEnds
  walk_hit n p s h e t = rw (slot_more n h) (inl (rw e at t, refl))

  pub walk_on : (n p q s : ℕ) (found : Option ℕ) → n < 32768 → s ≡ get_or ix p 0 → says s false → q ≡ (p + 1) % 32768 → WalkEnds says (slots - (n + 1)) ix q found → WalkEnds says (slots - n) ix p found
  unfolding WalkEnds next
  walk_on n p q s found h e f z w = rw (slot_more n h) (inr (rw e at f, rw z at w))

  pub walk_end : (n p : ℕ) → 32768 ≤ n → WalkEnds says (slots - n) ix p None
  unfolding WalkEnds
  walk_end n p h = rw (slot_none n h) refl

-- the walk over the slots of an order ID: a slot that it ends at is empty, or the order's row
pub slot_row : List ℕ → Option ℕ → Option ℕ
slot_row ix None = None
slot_row ix (Some p) = pick (eqb (get_or ix p 0) 0) None (Some (get_or ix p 0 % 65536))

ends : {A : Type 0} (b f : Bool) (x y z : A) → true ≡ either b f → pick b x (pick f y z) ≡ pick b x y
unfolding either pick
ends true f x y z h = refl
ends false true x y z h = refl
ends false false x y z h = absurd (true≢false h)

goes_on : {A : Type 0} (b f : Bool) (x y z : A) → false ≡ either b f → pick b x (pick f y z) ≡ z
unfolding either pick
goes_on true f x y z h = absurd (true≢false (sym h))
goes_on false true x y z h = absurd (true≢false (sym h))
goes_on false false x y z h = refl

module _ (says : ℕ → Bool → Type 0) (ix : List ℕ) where
  pub probe_walk : (id : ℕ) (rs : List Row) → ((s : ℕ) (b : Bool) → says s b → b ≡ either (eqb s 0) (fits id rs s)) → (n p : ℕ) (found : Option ℕ) → WalkEnds says n ix p found → probe n ix rs id p ≡ slot_row ix found
  unfolding WalkEnds probe slot_row
  probe_walk id rs is zero p found e = rw e refl
  probe_walk id rs is (suc n) p found (inl (t, e)) = rw e (ends (eqb (get_or ix p 0) 0) (fits id rs (get_or ix p 0)) _ _ _ (is (get_or ix p 0) true t))
  probe_walk id rs is (suc n) p found (inr (f, w)) = goes_on (eqb (get_or ix p 0) 0) (fits id rs (get_or ix p 0)) _ _ _ (is (get_or ix p 0) false f) ∙ probe_walk id rs is n (next p) found w

  pub vacant_walk : ((s : ℕ) (b : Bool) → says s b → b ≡ eqb s 0) → (n p : ℕ) (found : Option ℕ) → WalkEnds says n ix p found → found ≡ vacant n ix p
  unfolding WalkEnds vacant pick
  vacant_walk is zero p found e = e
  vacant_walk is (suc n) p found (inl (t, e)) = rw (sym (is (get_or ix p 0) true t)) e
  vacant_walk is (suc n) p found (inr (f, w)) = rw (sym (is (get_or ix p 0) false f)) (vacant_walk is n (next p) found w)

-- as the code meets it
module _ (says : ℕ → Bool → Type 0) (ix : List ℕ) (id : ℕ) (rs : List Row) (is : (s : ℕ) (b : Bool) → says s b → b ≡ either (eqb s 0) (fits id rs s)) where
  pub look_nowhere : WalkEnds says slots ix (hash id) None → looked ix rs id ≡ None
  unfolding looked slot_row
  look_nowhere w = probe_walk says ix id rs is slots (hash id) None w

  pub look_empty : (p : ℕ) → WalkEnds says slots ix (hash id) (Some p) → get_or ix p 0 ≡ 0 → looked ix rs id ≡ None
  unfolding looked slot_row pick
  look_empty p w e = probe_walk says ix id rs is slots (hash id) (Some p) w ∙ rw (eq-eqb (get_or ix p 0) 0 e)

  pub look_row : (p : ℕ) → WalkEnds says slots ix (hash id) (Some p) → (get_or ix p 0 ≡ 0 → ⊥) → looked ix rs id ≡ Some (get_or ix p 0 % 65536)
  unfolding looked slot_row pick
  look_row p w n = probe_walk says ix id rs is slots (hash id) (Some p) w ∙ rw (ne_eqb (get_or ix p 0) 0 n)

-- ---- a row placed
module _ (ix : List ℕ) (id i : ℕ) where
  pub placed_full : 32768 ≤ used_of ix → placed ix id i ≡ ix
  unfolding placed pick
  placed_full h = rw (le-leb 32768 (used_of ix) h)

  pub placed_none : used_of ix < 32768 → vacant slots ix (hash id) ≡ None → placed ix id i ≡ ix
  unfolding placed pick filled_at
  placed_none h e = rw (lt-leb 32768 (used_of ix) h, e)

  pub placed_at : (p : ℕ) → used_of ix < 32768 → vacant slots ix (hash id) ≡ Some p → placed ix id i ≡ set (set ix p (packed id i)) 32768 (used_of ix + 1)
  unfolding placed pick filled_at
  placed_at p h e = rw (lt-leb 32768 (used_of ix) h, e)

-- ---- a block's count
module _ (ix : List ℕ) (i : ℕ) where
  pub taken_one : 0 < count_of ix (i / 64) → taken ix i ≡ set ix (32769 + i / 64) (count_of ix (i / 64) - 1)
  unfolding taken pick
  taken_one h = rw (lt-ltb 0 (count_of ix (i / 64)) h)

  pub taken_none : count_of ix (i / 64) ≤ 0 → taken ix i ≡ ix
  unfolding taken pick
  taken_none h = rw (le-ltb 0 (count_of ix (i / 64)) h)

  pub freed_one : count_of ix (i / 64) < 64 → freed ix i ≡ set ix (32769 + i / 64) (count_of ix (i / 64) + 1)
  unfolding freed pick
  freed_one h = rw (lt-ltb (count_of ix (i / 64)) 64 h)

  pub freed_full : 64 ≤ count_of ix (i / 64) → freed ix i ≡ ix
  unfolding freed pick
  freed_full h = rw (le-ltb (count_of ix (i / 64)) 64 h)

-- ---- eight numbers asked at once
and_both : (a b : Bool) → a && b ≡ true → (a ≡ true) × (b ≡ true)
and_both true true e = (refl, refl)
and_both true false e = absurd (true≢false (sym e))
and_both false b e = absurd (true≢false (sym e))

and_true : (a : Bool) → a && true ≡ a
and_true true = refl
and_true false = refl

and_assoc : (a b c : Bool) → (a && b) && c ≡ a && (b && c)
and_assoc true b c = refl
and_assoc false b c = refl

or_zero : (a b : ℕ) → eqb (bit_or a b) 0 ≡ eqb a 0 && eqb b 0
or_zero a b = go (ℕ_discrete a 0) (ℕ_discrete b 0)
  where
    go : Dec (a ≡ 0) → Dec (b ≡ 0) → eqb (bit_or a b) 0 ≡ eqb a 0 && eqb b 0
    go (yes e) (yes f) = rw (e, f)
    go (yes e) (no f) = rw (ne_eqb b 0 f, ne_eqb (bit_or a b) 0 (λ z. f (omega (arith, le_or_r a b)))) (sym (and-false (eqb a 0)))
    go (no e) f = rw (ne_eqb a 0 e, ne_eqb (bit_or a b) 0 (λ z. e (omega (arith, le_or_l a b))))

pub zeros_or : (a : ℕ) (xs : List ℕ) → eqb (fold bit_or a xs) 0 ≡ eqb a 0 && list_all (λ n. n == 0) xs
zeros_or a [] = sym (and_true (eqb a 0))
zeros_or a (x ∷ xs) = zeros_or (bit_or a x) xs ∙ rw (or_zero a x) (and_assoc (eqb a 0) (eqb x 0) (list_all (λ n. n == 0) xs))

zero_all : (xs : List ℕ) (k : ℕ) → list_all (λ n. n == 0) xs ≡ true → k < length xs → get_or xs k 0 ≡ 0
zero_all [] k e h = refl
zero_all (x ∷ xs) zero e h = eqb-true x 0 (and_both _ _ e).0
zero_all (x ∷ xs) (suc k) e h = zero_all xs k (and_both _ _ e).1 (omega arith)

length-first_chunks : (w n : ℕ) (t : List ℕ) → length (first_chunks w n t) ≡ n
length-first_chunks w zero t = refl
length-first_chunks w (suc n) t = ap suc (length-first_chunks w n (drop w t))

-- and by eights, as far as each is all 0
eight_more : (xs : List ℕ) (k : ℕ) → 8 ≤ length xs → list_all (λ n. n == 0) (take 8 xs) ≡ true → (8 ≤ k → get_or (drop 8 xs) (k - 8) 0 ≡ 0) → get_or xs k 0 ≡ 0
eight_more xs k l e far = go (ltb k 8) refl
  where
    go : (b : Bool) → ltb k 8 ≡ b → get_or xs k 0 ≡ 0
    go true q = let h : k < 8 = ltb-true k 8 q in sym (get_or-take 8 xs k 0 h) ∙ zero_all (take 8 xs) k e (rw (length-take-le 8 xs l) h)
    go false q = let h : 8 ≤ k = ltb-false k 8 q in let z : 8 + (k - 8) ≡ k = omega arith in ap (λ (n : ℕ). get_or xs n 0) (sym z) ∙ sym (get_or-drop 8 xs (k - 8) 0) ∙ far h

pub eights_zero : (n : ℕ) (xs : List ℕ) (k : ℕ) → 8 * n ≤ length xs → k < 8 * prefix_len (list_all (λ n. n == 0)) (first_chunks 8 n xs) → get_or xs k 0 ≡ 0
eights_zero zero xs k l h = absurd (omega arith)
eights_zero (suc n) xs k l h =
    go (list_all (λ n. n == 0) (take 8 xs)) refl (λ m. eights_zero n (drop 8 xs) m (rw length-drop (omega arith)))
  where
    go : (b : Bool) → list_all (λ n. n == 0) (take 8 xs) ≡ b → ((m : ℕ) → m < 8 * prefix_len (list_all (λ n. n == 0)) (first_chunks 8 n (drop 8 xs)) → get_or (drop 8 xs) m 0 ≡ 0) → get_or xs k 0 ≡ 0
    go true e rec = let g = rw e at h in eight_more xs k (omega arith) e (λ f. rec (k - 8) (omega (arith, g)))
    go false e rec = let g = rw e at h in absurd (omega (arith, g))

-- ---- a search for a block that stands at block b
module _ (ix : List ℕ) where
  pub block_start : block_from blocks ix 0 ≡ block_from (blocks - 0) ix 0
  block_start = rw (sub-zero blocks)

  pub block_hit : (b : ℕ) → b < 250 → (count_of ix b ≡ 0 → ⊥) → block_from (blocks - b) ix b ≡ Some b
  unfolding block_from pick
  block_hit b h e = rw (block_more b h, ne_eqb (count_of ix b) 0 e)

  pub block_on : (b : ℕ) → b < 250 → count_of ix b ≡ 0 → block_from (blocks - b) ix b ≡ block_from (blocks - (b + 1)) ix (b + 1)
  unfolding block_from pick
  block_on b h e = let s : b + 1 ≡ suc b = omega arith in rw (block_more b h, eq-eqb (count_of ix b) 0 e, s)

  -- n blocks from b on without a free row
  pub blocks_on : (n b : ℕ) → b + n ≤ 250 → ((k : ℕ) → k < n → count_of ix (b + k) ≡ 0) → block_from (blocks - b) ix b ≡ block_from (blocks - (b + n)) ix (b + n)
  blocks_on zero b h z = let e : b + 0 ≡ b = omega arith in rw e refl
  blocks_on (suc n) b h z =
      let e : b + 1 + n ≡ b + suc n = omega arith in
      block_on b (omega arith) (let q : b + 0 ≡ b = omega arith in rw (← q) (z 0 (omega arith)))
      ∙ blocks_on n (b + 1) (omega arith) (λ k l. let q : b + 1 + k ≡ b + suc k = omega arith in rw q (z (suc k) (omega arith)))
      ∙ rw e refl

  -- eights of blocks without a free row, in front
  pub eights_on : (counts : List ℕ) (r : ℕ) → counts ≡ slice_range ix 32769 33019 → length counts + 32769 ≡ 33019 → r ≡ prefix_len (list_all (λ n. n == 0)) (first_chunks 8 (length counts / 8) counts)
      → (8 * r ≤ 250) × (block_from blocks ix 0 ≡ block_from (blocks - 8 * r) ix (8 * r))
  eights_on counts r e l p =
      let c : length (first_chunks 8 (length counts / 8) counts) ≡ length counts / 8 = length-first_chunks 8 (length counts / 8) counts in
      let h : 8 * r ≤ 250 = omega (arith, p, prefix_len-le-length (list_all (λ n. n == 0)) (first_chunks 8 (length counts / 8) counts), c) in
      let z : 0 + 8 * r ≡ 8 * r = omega arith in (
        h,
        block_start ∙ rw z at (blocks_on (8 * r) 0 (omega arith) (λ k k8.
            let g : get_or counts k 0 ≡ 0 = eights_zero (length counts / 8) counts k (omega arith) (omega (arith, p)) in
            let q : 0 + k ≡ k = omega arith in
            rw q (sym (get_or-drop 32769 ix k 0) ∙ sym (get_or-take 250 (drop 32769 ix) k 0 (omega arith)) ∙ ap (λ (x : List ℕ). get_or x k 0) (sym e) ∙ g))),
      )

  pub block_end : (b : ℕ) → 250 ≤ b → block_from (blocks - b) ix b ≡ None
  unfolding block_from
  block_end b h = rw (block_none b h)

  pub free_none : (rs : List Row) → block_from blocks ix 0 ≡ None → lowest_free ix rs ≡ None
  unfolding lowest_free free_in
  free_none rs e = rw e

  pub free_at : (rs : List Row) (b : ℕ) → block_from blocks ix 0 ≡ Some b → lowest_free ix rs ≡ first free (64 * b) (drop (64 * b) rs)
  unfolding lowest_free free_in
  free_at rs b e = rw e

-- ---- a row entered
module _ (ix : List ℕ) (r : Row) (i : ℕ) where
  pub entered_live : live r ≡ true → entered ix r i ≡ placed ix r.order i
  unfolding entered pick
  entered_live e = rw e

  pub entered_free : live r ≡ false → free r ≡ true → entered ix r i ≡ freed ix i
  unfolding entered pick
  entered_free e f = rw (e, f)

  pub entered_else : live r ≡ false → free r ≡ false → entered ix r i ≡ ix
  unfolding entered pick
  entered_else e f = rw (e, f)

-- ---- room for one order more
module _ (ix : List ℕ) (rs : List Row) where
  pub room_full : 24576 ≤ used_of ix → roomy ix rs ≡ built ix rs
  unfolding roomy pick
  room_full h = rw (le-leb 24576 (used_of ix) h)

  pub room_left : used_of ix < 24576 → roomy ix rs ≡ ix
  unfolding roomy pick
  room_left h = rw (lt-leb 24576 (used_of ix) h)

-- ---- all but the hints set to 0
pub front_is : front ≡ 33019
unfolding front
front_is = refl

pub zeroed_none : (ix : List ℕ) → zeroed 0 ix ≡ ix
unfolding zeroed
zeroed_none [] = refl
zeroed_none (x ∷ ix) = refl

pub zeroed_more : (ix : List ℕ) (i : ℕ) → i < length ix → set (zeroed i ix) i 0 ≡ zeroed (suc i) ix
unfolding zeroed
zeroed_more [] i h = absurd (omega arith)
zeroed_more (x ∷ ix) zero h = ap (◌∷◌ 0) (sym (zeroed_none ix))
zeroed_more (x ∷ ix) (suc i) h = ap (◌∷◌ 0) (zeroed_more ix i (omega arith))

pub zeroed_all : (ix : List ℕ) (n m : ℕ) → length ix ≤ n → length ix ≤ m → zeroed n ix ≡ zeroed m ix
unfolding zeroed
zeroed_all [] n m h l = refl
zeroed_all (x ∷ ix) zero m h l = absurd (omega arith)
zeroed_all (x ∷ ix) (suc n) zero h l = absurd (omega arith)
zeroed_all (x ∷ ix) (suc n) (suc m) h l = ap (◌∷◌ 0) (zeroed_all ix n m (omega arith) (omega arith))

-- zeros up to the hints, or to the end of a shorter memory
zeroed_fill : (n : ℕ) (ix : List ℕ) → n ≤ length ix → replicate n 0 ++ drop n ix ≡ zeroed n ix
unfolding zeroed
zeroed_fill zero ix h = sym (zeroed_none ix)
zeroed_fill (suc n) [] h = absurd (omega arith)
zeroed_fill (suc n) (x ∷ ix) h = ap (◌∷◌ 0) (zeroed_fill n ix (omega arith))

pub zeroed_end : (ix : List ℕ) (end : ℕ) → end ≡ min (length ix) 33019 → replicate (length (take end ix)) 0 ++ drop end ix ≡ zeroed front ix
zeroed_end ix end e = rw (length-take-le end ix (omega arith)) (zeroed_fill end ix (omega arith)) ∙ go (leb 33019 (length ix)) refl
  where
    go : (b : Bool) → leb 33019 (length ix) ≡ b → zeroed end ix ≡ zeroed front ix
    go true q = let l = leb-true 33019 (length ix) q in ap (λ (n : ℕ). zeroed n ix) (omega (arith, front_is, l))
    go false q = let l = leb-false 33019 (length ix) q in zeroed_all ix end front (omega (arith, l)) (omega (arith, front_is, l))

pub length_zeroed : (n : ℕ) (ix : List ℕ) → length (zeroed n ix) ≡ length ix
unfolding zeroed
length_zeroed n [] = refl
length_zeroed zero (x ∷ ix) = refl
length_zeroed (suc n) (x ∷ ix) = ap suc (length_zeroed n ix)

pub zeroed_at : (n : ℕ) (ix : List ℕ) (k : ℕ) → k < n → ◌≡◌ {A = ℕ} (get_or (zeroed n ix) k 0) 0
unfolding zeroed
zeroed_at n [] k h = refl
zeroed_at zero (x ∷ ix) k h = absurd (omega arith)
zeroed_at (suc n) (x ∷ ix) zero h = refl
zeroed_at (suc n) (x ∷ ix) (suc k) h = zeroed_at n ix k (omega arith)

-- ---- a walk over the rows, at row i
module _ (f : List ℕ → Row → ℕ → List ℕ) (rs : List Row) (i : ℕ) (ix : List ℕ) where
  pub each_more : i < length rs → each_row f i (drop i rs) ix ≡ each_row f (i + 1) (drop (i + 1) rs) (f ix (get_or rs i zero_row) i)
  unfolding each_row
  each_more h = rw (drop-cons rs i zero_row h, add-one i)

  pub each_end : length rs ≤ i → each_row f i (drop i rs) ix ≡ ix
  unfolding each_row
  each_end h = rw (drop_of_length-le rs h)

-- ---- where a search for a block ends
-- what is found is not nowhere
pub never : {B : Type 0} {i : ℕ} → Some i ≡ None → B
never e = let z : ◌≡◌ {A = ℕ} 0 1 = cc in absurd (omega arith)

pub block_at : (n : ℕ) (ix : List ℕ) (b k : ℕ) → block_from n ix b ≡ Some k → (b ≤ k) × (k < b + n) × (count_of ix k ≡ 0 → ⊥)
unfolding block_from
block_at zero ix b k e = never (sym e)
block_at (suc n) ix b k e =
    ⊎_elim
    (λ w. let ih = block_at n ix (suc b) k w.1 in (omega (arith, ih.0), omega (arith, ih.1), ih.2))
    (λ w.
    let kb : b ≡ k = cc w.1 in
    (omega arith, omega arith, λ z. eqb-false (count_of ix b) 0 w.0 (ap (count_of ix) kb ∙ z)))
    (pick_cases e)

pub block_below : (ix : List ℕ) (k : ℕ) → block_from blocks ix 0 ≡ Some k → k < 250
block_below ix k e = omega (arith, (block_at blocks ix 0 k e).1, blocks_is)
