-- A record that is next, tried as it came: on the shelf it would be what the slot for next offers, so what the rules say of its body is what the first turn would find.
-- Assumes nothing.
use Prim.Native.Nat.{ℕ, ◌+◌, ◌%◌, ◌≤◌}
use mathlib.Core.Path.{◌≡◌, refl, sym, ap, ◌∙◌}
use mathlib.Core.Logic.{◌≢◌}
use mathlib.Core.Bool.{true, false}
use mathlib.Core.List.{List}
use native.Mathlib.Omega.{arith}
use Rattle.wire.specs.Records.{rec}
use Rattle.arbitration.specs.Slots.{Slot, empty_slot, slot_for, slot_body}
use Rattle.arbitration.specs.Engine.{Engine, Store}
use Rattle.arbitration.specs.Receive.{State, drain, shelved}
use Rattle.arbitration.specs.Loops.{turn_to, goes_on}
use Rattle.arbitration.specs.Lists.{Bounded}
use Rattle.arbitration.proofs.Window.{slot_lt}
use Rattle.arbitration.proofs.SlotLaws.{body_back}
use Rattle.arbitration.proofs.Range.{bounded_fits}
use Rattle.arbitration.proofs.Turns.{loop_step, loop_rest, turn_next}
use Rattle.receiver.specs.Parts.{Parts}
use Rattle.receiver.proofs.PartsLaws.{PartsLaws}
use Rattle.receiver.proofs.Exits.{Turns, turn_broken, turn_goes}

module _ (P : Parts) (L : PartsLaws P) (next : ℕ) (k : P.rules.Book) (h : P.store.Shelf) (b : List ℕ) (sized : P.store.Ok h) (from : 1 ≤ next) (fits : Bounded (rec next b)) where
  -- the shelf with the record on it, and its slot there
  abbrev laid : P.store.Shelf
  laid = P.store.put h (next % 64) (slot_for next b)

  abbrev here : Slot
  here = P.store.get laid (next % 64)

  slot_is : here ≡ slot_for next b
  slot_is = L.store.get_same h (next % 64) (slot_for next b) sized (slot_lt next) (bounded_fits (rec next b) fits)

  own : here.number ≡ next
  own = ap (λ (s : Slot). s.number) slot_is

  some : here.number ≢ 0
  some z = omega (arith, own, z)

  short : here.len ≤ 64
  short = omega (arith, ap (λ (s : Slot). s.len) slot_is, fits.short)

  body_is : slot_body here ≡ b
  body_is = ap slot_body slot_is ∙ body_back next b fits.short

  -- what the code's call of the book answered: the rule q, and the book k' that it left
  module _ (q : ℕ) (k' : P.rules.Book) (rule_is : q ≡ P.rules.rule next b k) (book_is : k' ≡ P.rules.after next b k) where
    of_slot : q ≡ P.rules.rule next (slot_body here) k
    of_slot = rule_is ∙ ap (λ (x : List ℕ). P.rules.rule next x k) (sym body_is)

    after_slot : k' ≡ P.rules.after next (slot_body here) k
    after_slot = book_is ∙ ap (λ (x : List ℕ). P.rules.after next x k) (sym body_is)

    -- a message that breaks a rule waits on the shelf
    pub next_broken : q ≢ 0 → (h' : P.store.Shelf) → h' ≡ laid → Turns P L next k laid (record { next = next; shelf = h'; book = k' }) false
    next_broken e h' p =
        let t = turn_broken P L next k laid some own short q k' of_slot after_slot e in
        record { to = (λ i. record { next = next; shelf = p i; book = k' }) ∙ t.to; on_is = t.on_is }

    -- one that applies leaves its slot zeroed, whether it lay there or not
    pub next_goes : q ≡ 0 → (h' : P.store.Shelf) → h' ≡ P.store.put h (next % 64) empty_slot → P.store.put laid (next % 64) empty_slot ≡ P.store.put h (next % 64) empty_slot
        → Turns P L next k laid (record { next = next + 1; shelf = h'; book = k' }) true
    next_goes e h' p again = turn_goes P L next k laid some own short q k' of_slot after_slot e h' (p ∙ sym again)

-- ---- a taken record that is next: the turn that it makes itself is the first of the 64
module _ (S : Store) (E : Engine) (number : ℕ) (b : List ℕ) (r : State S E) (is_next : number ≡ r.next) where
  abbrev pub tried : State S E
  tried = shelved S E (rec r.next b) r

  same_drain : drain S E 64 tried ≡ drain S E 64 (shelved S E (rec number b) r)
  same_drain = ap (λ (n : ℕ). drain S E 64 (shelved S E (rec n b) r)) (sym is_next)

  -- where it led: the state r'
  module _ (r' : State S E) (turned_to : r' ≡ turn_to S E tried) where
    pub own_next : r'.next ≤ r.next + 1
    own_next = omega (arith, (turn_next S E tried).1, ap (λ (x : State S E). x.next) turned_to)

    pub own_rest : goes_on S E tried ≡ false → r' ≡ drain S E 64 (shelved S E (rec number b) r)
    own_rest off = loop_rest S E 64 0 tried r' (drain S E 64 tried) refl turned_to off ∙ same_drain

    pub own_then : goes_on S E tried ≡ true → (end : State S E) → end ≡ drain S E 63 r' → end ≡ drain S E 64 (shelved S E (rec number b) r)
    own_then on end e = e ∙ loop_step S E 64 0 tried r' (drain S E 64 tried) (omega arith) refl turned_to on ∙ same_drain
