-- While the index reaches every live row, its searches find the rows that a walk over the whole table finds. Whatever it holds, a row that is found has the ID.
-- Assumes nothing.
use mathlib.Core.Path.{◌≡◌, refl, sym, ap, ◌∙◌, subst}
use mathlib.Core.List.{List}
use mathlib.Core.Bool.{true, false, true≢false}
use mathlib.Core.Logic.{⊎_elim}
use Prim.Native.Nat.{ℕ, zero, suc, ◌/◌, ◌%◌, ◌<◌}
use native.Mathlib.Nat.{sub-zero}
use native.Mathlib.Omega.{arith}
use lib.ListN.{get_or}
use lib.Dec.{eqb}
use borrow.Author.Tests.{eq-eqb, ne_eqb}
use Rattle.facts.specs.Pick.{pick, both}
use Rattle.std.specs.Prelude.{Option, Some, None}
use Rattle.facts.proofs.Picks.{pick_cases, pick_ind, refuted, both_true}
use Rattle.facts.proofs.Searches.{first_at}
use Rattle.rows.specs.declared.Row.{Row}
use Rattle.rows.specs.Rows.{zero_row}
use Rattle.rows.specs.Find.{is_order, find_order}
use Rattle.rows.proofs.Judged.{order_is}
use Rattle.rows.proofs.Searched.{order_nowhere}
use Rattle.rows.specs.Tidy.{Unique}
use Rattle.index.specs.Index.{slots, tag_of, packed, fits, hash, next, probe, looked}
use Rattle.index.specs.Indexed.{Reaches, here, on, Indexed}
use Rattle.index.proofs.Cases.{never}

-- ---- what a slot names
pub packed_some : (id i : ℕ) → packed id i ≡ 0 → ⊥
unfolding packed tag_of
packed_some id i z = omega arith

packed_tag : (id i : ℕ) → packed id i / 65536 ≡ tag_of id
unfolding packed
packed_tag id i = omega arith

packed_row : (id i : ℕ) → i < 65536 → packed id i % 65536 ≡ i
unfolding packed
packed_row id i h = omega arith

fits_order : (id : ℕ) (rs : List Row) (s : ℕ) → fits id rs s ≡ true → is_order id (get_or rs (s % 65536) zero_row) ≡ true
unfolding fits
fits_order id rs s e = (both_true e).1

fits_packed : (id : ℕ) (rs : List Row) (i : ℕ) → i < 65536 → is_order id (get_or rs i zero_row) ≡ true → fits id rs (packed id i) ≡ true
unfolding fits both
fits_packed id rs i h e = rw (eq-eqb (packed id i / 65536) (tag_of id) (packed_tag id i), packed_row id i h) e

module _ (ix : List ℕ) (rs : List Row) (id : ℕ) where
  probe_order : (i n p : ℕ) → probe n ix rs id p ≡ Some i → is_order id (get_or rs i zero_row) ≡ true
  unfolding probe
  probe_order i zero p e = never (sym e)
  probe_order i (suc n) p e =
      ⊎_elim
      (λ w. never (sym w.1))
      (λ w.
      ⊎_elim
      (λ v. let k : get_or ix p 0 % 65536 ≡ i = cc v.1 in subst (λ (j : ℕ). is_order id (get_or rs j zero_row) ≡ true) k (fits_order id rs (get_or ix p 0) v.0))
      (λ v. probe_order i n (next p) v.1)
      (pick_cases w.1))
      (pick_cases e)

  -- for any index: a row that is found is live and has this ID
  pub looked_order : (i : ℕ) → looked ix rs id ≡ Some i → is_order id (get_or rs i zero_row) ≡ true
  unfolding looked
  looked_order i e = probe_order i slots (hash id) e

  -- no row fits: no slot answers
  probe_none : ((j : ℕ) → is_order id (get_or rs j zero_row) ≡ false) → (n p : ℕ) → probe n ix rs id p ≡ None
  unfolding probe
  probe_none h zero p = refl
  probe_none h (suc n) p =
      pick_ind (λ (x : Option ℕ). x ≡ None) (eqb (get_or ix p 0) 0) None (pick (fits id rs (get_or ix p 0)) (Some (get_or ix p 0 % 65536)) (probe n ix rs id (next p)))
      (λ e. refl)
      (λ e.
      pick_ind (λ (x : Option ℕ). x ≡ None) (fits id rs (get_or ix p 0)) (Some (get_or ix p 0 % 65536)) (probe n ix rs id (next p))
      (λ f. absurd (true≢false (sym (fits_order id rs (get_or ix p 0) f) ∙ h (get_or ix p 0 % 65536))))
      (λ f. probe_none h n (next p)))

  -- one row fits, and is reached
  probe_one : (i : ℕ) → i < 65536 → is_order id (get_or rs i zero_row) ≡ true → ((j : ℕ) → is_order id (get_or rs j zero_row) ≡ true → j ≡ i) → (n p : ℕ) → Reaches ix (packed id i) n p → probe n ix rs id p ≡ Some i
  unfolding probe pick
  probe_one i h o only n p (here e) = rw (e, ne_eqb (packed id i) 0 (packed_some id i), fits_packed id rs i h o, packed_row id i h)
  probe_one i h o only n p (on {n = m} ne r) =
      rw (ne_eqb (get_or ix p 0) 0 ne)
      (pick_ind (λ (x : Option ℕ). x ≡ Some i) (fits id rs (get_or ix p 0)) (Some (get_or ix p 0 % 65536)) (probe m ix rs id (next p))
      (λ f. ap Some (only (get_or ix p 0 % 65536) (fits_order id rs (get_or ix p 0) f)))
      (λ f. probe_one i h o only m (next p) r))

  pub looked_is : Indexed ix rs → Unique rs → looked ix rs id ≡ find_order id rs
  unfolding looked find_order
  looked_is x u = go (find_order id rs) refl
    where
      go : (a : Option ℕ) → find_order id rs ≡ a → probe slots ix rs id (hash id) ≡ a
      go (Some i) e =
          let w = first_at (is_order id) 0 rs i zero_row e in
          let o : is_order id (get_or rs i zero_row) ≡ true = rw (sub-zero i) at w.2 in
          let a = order_is id (get_or rs i zero_row) o in
          let r : Reaches ix (packed id i) slots (hash id) = subst (λ (k : ℕ). Reaches ix (packed k i) slots (hash k)) a.0 (x.all.reach i (omega (arith, w.1)) a.1) in
          probe_one i (omega (arith, w.1, x.few)) o
          (λ j q. let b = order_is id (get_or rs j zero_row) q in u j i b.1 a.1 (b.0 ∙ sym a.0))
          slots (hash id) r
      go None e = probe_none (λ j. sym (refuted (is_order id (get_or rs j zero_row)) (λ q. let b = order_is id (get_or rs j zero_row) q in order_nowhere rs id e j b.1 b.0))) slots (hash id)
