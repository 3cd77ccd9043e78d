-- Slots are only ever filled, so what was reached stays reached; a new one goes into the first empty slot of its path, and one is empty while fewer are filled than there are.
-- Assumes nothing.
use mathlib.Core.Path.{◌≡◌, refl, sym, ap, ◌∙◌}
use mathlib.Core.List.{List}
use mathlib.Core.Bool.{true, not}
use mathlib.Core.Logic.{⊎_elim}
use Prim.Native.Nat.{ℕ, zero, suc, ◌+◌, ◌-◌, ◌%◌, ◌≤◌, ◌<◌}
use native.Mathlib.Omega.{arith}
use lib.ListN.{get_or}
use borrow.Author.Tests.{eqb-true, eqb-false, ne_eqb}
use Rattle.std.specs.Prelude.{Option, Some, None}
use Rattle.facts.proofs.Picks.{pick_cases}
use Rattle.index.specs.Index.{slots, next, vacant}
use Rattle.index.specs.Indexed.{Reaches, here, on, count_at, is_filled}
use Rattle.index.proofs.Cases.{slots_is, next_below, never}
use Rattle.index.proofs.Counts.{count_all}

-- every slot of ix that is filled is as it was in jx
abbrev pub Grows : List ℕ → List ℕ → Type 0
Grows ix jx = (q : ℕ) → q < 32768 → (get_or ix q 0 ≡ 0 → ⊥) → get_or jx q 0 ≡ get_or ix q 0

pub reach_keep : (ix jx : List ℕ) (s : ℕ) → Grows ix jx → (s ≡ 0 → ⊥) → (n p : ℕ) → p < 32768 → Reaches ix s n p → Reaches jx s n p
reach_keep ix jx s g ns n p h (here e) = here (g p h (λ z. ns (sym e ∙ z)) ∙ e)
reach_keep ix jx s g ns n p h (on ne r) = on (λ z. ne (sym (g p h ne) ∙ z)) (reach_keep ix jx s g ns _ (next p) (next_below p) r)

-- ---- where a search for an empty slot ends
pub vacant_at : (n : ℕ) (ix : List ℕ) (p e : ℕ) → p < 32768 → vacant n ix p ≡ Some e → (e < 32768) × (get_or ix e 0 ≡ 0)
unfolding vacant
vacant_at zero ix p e h v = never (sym v)
vacant_at (suc n) ix p e h v =
    ⊎_elim
    (λ w. let pe : p ≡ e = cc w.1 in (omega arith, ap (λ k. get_or ix k 0) (sym pe) ∙ eqb-true (get_or ix p 0) 0 w.0))
    (λ w. vacant_at n ix (next p) e (next_below p) w.1)
    (pick_cases v)

pub vacant_reach : (n : ℕ) (ix jx : List ℕ) (p e s : ℕ) → p < 32768 → Grows ix jx → get_or jx e 0 ≡ s → vacant n ix p ≡ Some e → Reaches jx s n p
unfolding vacant
vacant_reach zero ix jx p e s h g t v = never (sym v)
vacant_reach (suc n) ix jx p e s h g t v =
    ⊎_elim
    (λ w. let pe : p ≡ e = cc w.1 in here (ap (λ k. get_or jx k 0) pe ∙ t))
    (λ w.
    let ne : get_or ix p 0 ≡ 0 → ⊥ = eqb-false (get_or ix p 0) 0 w.0 in
    on (λ z. ne (sym (g p h ne) ∙ z)) (vacant_reach n ix jx (next p) e s (next_below p) g t w.1))
    (pick_cases v)

pub vacant_none : (n : ℕ) (ix : List ℕ) (p k : ℕ) → p < 32768 → vacant n ix p ≡ None → k < n → get_or ix ((p + k) % 32768) 0 ≡ 0 → ⊥
unfolding vacant next
vacant_none zero ix p k h v l z = absurd (omega arith)
vacant_none (suc n) ix p zero h v l z =
    ⊎_elim
    (λ w. never w.1)
    (λ w. let e : (p + 0) % 32768 ≡ p = omega arith in eqb-false (get_or ix p 0) 0 w.0 (rw e at z))
    (pick_cases v)
vacant_none (suc n) ix p (suc k) h v l z =
    ⊎_elim
    (λ w. never w.1)
    (λ w. let e : (p + suc k) % 32768 ≡ ((p + 1) % 32768 + k) % 32768 = omega arith in vacant_none n ix ((p + 1) % 32768) k (omega arith) w.1 (omega arith) (rw e at z))
    (pick_cases v)

-- ---- an empty slot is found while fewer are filled than there are
pub some_vacant : (ix : List ℕ) (p : ℕ) → p < 32768 → count_at (is_filled ix) slots 0 < 32768 → (e : ℕ) × (vacant slots ix p ≡ Some e)
unfolding is_filled
some_vacant ix p h f = go (vacant slots ix p) refl
  where
    go : (a : Option ℕ) → vacant slots ix p ≡ a → (e : ℕ) × (vacant slots ix p ≡ Some e)
    go (Some e) v = (e, v)
    go None v =
        let all : (q : ℕ) → 0 ≤ q → q < 0 + slots → is_filled ix q ≡ true = λ q a b.
        (let k : (p + (q + 32768 - p) % 32768) % 32768 ≡ q = omega (arith, slots_is) in
        let m : (q + 32768 - p) % 32768 < slots = omega (arith, slots_is) in
        let n : get_or ix q 0 ≡ 0 → ⊥ = rw k at (vacant_none slots ix p ((q + 32768 - p) % 32768) h v m) in
        ap not (ne_eqb (get_or ix q 0) 0 n)) in
        absurd (omega (arith, count_all (is_filled ix) slots 0 all, slots_is))
