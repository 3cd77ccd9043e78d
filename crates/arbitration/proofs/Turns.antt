-- One turn of the drain by its tests, and the drain as a loop: "what is left of the turns, from here, gives the end". By cases of `try`.
-- Assumes nothing.
use Prim.Native.Nat.{ℕ, zero, suc, ◌+◌, ◌-◌, ◌≤◌, ◌<◌}
use mathlib.Core.Path.{◌≡◌, refl, sym, ap, ◌∙◌}
use mathlib.Core.Logic.{◌≢◌, inl, inr}
use mathlib.Core.Bool.{Bool, true, false, false≢true}
use native.Mathlib.Omega.{arith}
use borrow.Author.Tests.{le-leb, lt-leb, eq-eqb, ne_eqb, eqb-true, eqb-false}
use Rattle.facts.specs.Pick.{pick, both}
use Rattle.facts.proofs.Picks.{pick_cases, both_true}
use Rattle.arbitration.specs.Slots.{Slot, slot_body}
use Rattle.arbitration.specs.Engine.{Applied, ok, broke, Engine, Store}
use Rattle.arbitration.specs.Receive.{Try, nothing, stuck, goes, of_applied, good_slot, State, slot_of, try, stop, turned, drain}
use Rattle.arbitration.specs.Loops.{turn_to, goes_on}

pub nothing≢goes : {B : Type 0} {b : B} → ◌≡◌ {A = Try B} nothing (goes b) → ⊥
nothing≢goes e = let z : ◌≡◌ {A = ℕ} 0 1 = cc in omega arith

pub stuck≢goes : {B : Type 0} {q : ℕ} {b : B} → ◌≡◌ {A = Try B} (stuck q) (goes b) → ⊥
stuck≢goes e = let z : ◌≡◌ {A = ℕ} 0 1 = cc in omega arith

applied_goes : {B : Type 0} (a : Applied B) {b : B} → of_applied a ≡ goes b → a ≡ ok b
applied_goes (ok x) e = cc
applied_goes (broke q) e = absurd (stuck≢goes e)

-- ---- a slot's body by its tests: its length first
pub long_bad : (E : Engine) (s : Slot) → 64 < s.len → good_slot E s ≡ false
unfolding good_slot both
long_bad E s h = rw (lt-leb _ _ h)

pub short_good : (E : Engine) (s : Slot) → s.len ≤ 64 → good_slot E s ≡ E.good (slot_body s)
unfolding good_slot both
short_good E s h = rw (le-leb _ _ h)

pub slot_good : (E : Engine) (s : Slot) → good_slot E s ≡ true → E.good (slot_body s) ≡ true
unfolding good_slot
slot_good E s e = (both_true e).1

pub slot_bad : (E : Engine) (s : Slot) → E.good (slot_body s) ≡ false → good_slot E s ≡ false
slot_bad E s g = go (good_slot E s) refl
  where
    go : (t : Bool) → good_slot E s ≡ t → good_slot E s ≡ false
    go true e = absurd (false≢true (sym g ∙ slot_good E s e))
    go false e = e

module _ (S : Store) (E : Engine) where
  -- ---- the tests, in their order
  module _ (r : State S E) where
    abbrev here : Slot
    here = slot_of S E r r.next

    pub try_empty : here.number ≡ 0 → try S E r ≡ nothing
    unfolding try pick
    try_empty e = rw (eq-eqb _ _ e)

    pub try_other : here.number ≢ 0 → here.number ≢ r.next → try S E r ≡ stuck 27
    unfolding try pick
    try_other a b = rw (ne_eqb _ _ a, ne_eqb _ _ b)

    pub try_bad : here.number ≢ 0 → here.number ≡ r.next → good_slot E here ≡ false → try S E r ≡ stuck 27
    unfolding try pick
    try_bad a b g = rw (ne_eqb _ _ a, eq-eqb _ _ b, g)

    pub try_good : here.number ≢ 0 → here.number ≡ r.next → good_slot E here ≡ true
        → try S E r ≡ of_applied (E.apply r.next (slot_body here) r.book)
    unfolding try pick
    try_good a b g = rw (ne_eqb _ _ a, eq-eqb _ _ b, g)

    -- ---- what a turn answers, from what it tried
    pub record Stays : Type 0 where
      pub same : turn_to S E r ≡ r
      pub off : goes_on S E r ≡ false

    pub record Moves (b : E.Book) : Type 0 where
      pub moved : turn_to S E r ≡ turned S E r b
      pub on : goes_on S E r ≡ true

    pub stays_nothing : try S E r ≡ nothing → Stays
    unfolding turn_to goes_on
    stays_nothing e = record { same = rw (e, turn_to); off = rw (e, goes_on) }

    pub stays_stuck : (q : ℕ) → try S E r ≡ stuck q → Stays
    unfolding turn_to goes_on
    stays_stuck q e = record { same = rw (e, turn_to); off = rw (e, goes_on) }

    pub moves : (b : E.Book) → try S E r ≡ goes b → Moves b
    unfolding turn_to goes_on
    moves b e = record { moved = rw (e, turn_to); on = rw (e, goes_on) }

    -- ---- the stop, from what was tried
    pub stop_nothing : try S E r ≡ nothing → stop S E r ≡ 0
    unfolding stop
    stop_nothing e = rw (e, stop)

    pub stop_stuck : (q : ℕ) → try S E r ≡ stuck q → stop S E r ≡ q
    unfolding stop
    stop_stuck q e = rw (e, stop)

    pub stop_goes : (b : E.Book) → try S E r ≡ goes b → stop S E r ≡ 0
    unfolding stop
    stop_goes b e = rw (e, stop)

    -- what is stuck is not worked, nor is anything behind it
    pub drain_stuck : (q : ℕ) → try S E r ≡ stuck q → (turns : ℕ) → drain S E turns r ≡ r
    unfolding drain
    drain_stuck q e zero = refl
    drain_stuck q e (suc f) = rw (e, drain) refl

    -- ---- what a message that was applied shows
    pub record Went (b : E.Book) : Type 0 where
      pub number_is : here.number ≡ r.next
      pub number_not_0 : here.number ≢ 0
      pub is_good : E.good (slot_body here) ≡ true
      pub applied : E.apply r.next (slot_body here) r.book ≡ ok b

    pub try_goes : (b : E.Book) → try S E r ≡ goes b → Went b
    unfolding try
    try_goes b e =
        elim (pick_cases e) [
          | inl h ↦ absurd (nothing≢goes h.1)
          | inr h ↦ elim (pick_cases h.1) [
            | inr g ↦ absurd (stuck≢goes g.1)
            | inl g ↦ elim (pick_cases g.1) [
              | inr f ↦ absurd (stuck≢goes f.1)
              | inl f ↦ record { number_is = eqb-true _ _ g.0; number_not_0 = eqb-false _ _ h.0; is_good = slot_good E _ f.0; applied = applied_goes _ f.1 }
            ]
          ]
        ]

  -- ---- the drain
  drain_turn : (f : ℕ) (r : State S E) → goes_on S E r ≡ true → drain S E (suc f) r ≡ drain S E f (turn_to S E r)
  unfolding drain turn_to goes_on
  drain_turn f r e = go (try S E r) refl
    where
      go : (t : Try E.Book) → try S E r ≡ t → drain S E (suc f) r ≡ drain S E f (turn_to S E r)
      go nothing q = absurd (false≢true (sym (rw (q, goes_on)) ∙ e))
      go (stuck s) q = absurd (false≢true (sym (rw (q, goes_on)) ∙ e))
      go (goes b) q = rw (q, drain, turn_to)

  pub drain_rest : (f : ℕ) (r : State S E) → goes_on S E r ≡ false → (drain S E f r ≡ r) × (turn_to S E r ≡ r)
  unfolding drain turn_to goes_on
  drain_rest f r e = go f (try S E r) refl
    where
      go : (f : ℕ) (t : Try E.Book) → try S E r ≡ t → (drain S E f r ≡ r) × (turn_to S E r ≡ r)
      go zero nothing q = (refl, rw (q, turn_to))
      go zero (stuck s) q = (refl, rw (q, turn_to))
      go (suc f) nothing q = (rw (q, drain), rw (q, turn_to))
      go (suc f) (stuck s) q = (rw (q, drain), rw (q, turn_to))
      go f (goes b) q = absurd (false≢true (sym e ∙ rw (q, goes_on)))

  -- a loop of at most n turns that keeps `drain (n - i) r ≡ end`: a turn that applied keeps it, one that did not has come to the end
  pub loop_step : (n i : ℕ) (r r' end : State S E) → i < n → drain S E (n - i) r ≡ end → r' ≡ turn_to S E r → goes_on S E r ≡ true → drain S E (n - (i + 1)) r' ≡ end
  loop_step n i r r' end h v m g =
      let e : n - i ≡ suc (n - (i + 1)) = omega arith in
      ap (drain S E (n - (i + 1))) m ∙ sym (drain_turn (n - (i + 1)) r g) ∙ ap (λ (f : ℕ). drain S E f r) (sym e) ∙ v

  pub loop_rest : (n i : ℕ) (r r' end : State S E) → drain S E (n - i) r ≡ end → r' ≡ turn_to S E r → goes_on S E r ≡ false → r' ≡ end
  loop_rest n i r r' end v m g = let z = drain_rest (n - i) r g in m ∙ z.1 ∙ sym z.0 ∙ v

  pub loop_end : (n i : ℕ) (r end : State S E) → n ≤ i → drain S E (n - i) r ≡ end → r ≡ end
  unfolding drain
  loop_end n i r end h v = let z : n - i ≡ 0 = omega arith in rw z at v

  -- what every turn keeps, the drain keeps
  pub drain_keeps : (P : State S E → Type 0) → ((r : State S E) (b : E.Book) → Went r b → P r → P (turned S E r b)) → (f : ℕ) (r : State S E) → P r → P (drain S E f r)
  unfolding drain
  drain_keeps P step zero r p = p
  drain_keeps P step (suc f) r p = go (try S E r) refl (λ r' p'. drain_keeps P step f r' p')
    where
      go : (t : Try E.Book) → try S E r ≡ t → ((r' : State S E) → P r' → P (drain S E f r')) → P (elim t [ nothing ↦ r | stuck q ↦ r | goes b ↦ drain S E f (turned S E r b) ])
      go nothing e ih = p
      go (stuck q) e ih = p
      go (goes b) e ih = ih (turned S E r b) (step r b (try_goes r b e) p)

  -- how far next can go
  pub turn_next : (r : State S E) → (r.next ≤ (turn_to S E r).next) × ((turn_to S E r).next ≤ r.next + 1)
  unfolding turn_to
  turn_next r = go (try S E r)
    where
      go : (t : Try E.Book) → let r' : State S E = elim t [ nothing ↦ r | stuck q ↦ r | goes b ↦ turned S E r b ] in (r.next ≤ r'.next) × (r'.next ≤ r.next + 1)
      go nothing = (omega arith, omega arith)
      go (stuck q) = (omega arith, omega arith)
      go (goes b) = (omega arith, omega arith)

  pub drain_next : (f : ℕ) (r : State S E) → (r.next ≤ (drain S E f r).next) × ((drain S E f r).next ≤ r.next + f)
  unfolding drain
  drain_next zero r = (omega arith, omega arith)
  drain_next (suc f) r = go (try S E r) (λ r'. drain_next f r')
    where
      go : (t : Try E.Book) → ((r' : State S E) → (r'.next ≤ (drain S E f r').next) × ((drain S E f r').next ≤ r'.next + f))
          → let e : State S E = elim t [ nothing ↦ r | stuck q ↦ r | goes b ↦ drain S E f (turned S E r b) ] in (r.next ≤ e.next) × (e.next ≤ r.next + suc f)
      go nothing ih = (omega arith, omega arith)
      go (stuck q) ih = (omega arith, omega arith)
      go (goes b) ih = let w = ih (turned S E r b) in (omega (arith, w.0), omega (arith, w.1))
