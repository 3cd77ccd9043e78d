-- Next stays at most 10^12 + 1, whatever bodies come: it passes only numbers that the shelf holds, and the shelf holds only numbers that came. So no run
-- from a start is refused (6) for its next number.
-- Assumes nothing.
use Prim.Native.Nat.{ℕ, ◌+◌, ◌%◌, ◌≤◌, ◌<◌}
use mathlib.Core.List.{List}
use native.Mathlib.Omega.{arith}
use Rattle.facts.specs.Limits.{last_number}
use Rattle.wire.specs.Records.{Rec, Frames}
use Rattle.arbitration.specs.Slots.{empty_slot, slot_for, Fits}
use Rattle.arbitration.specs.Engine.{Engine, Store, Laws}
use Rattle.arbitration.specs.Receive.{records_of, accepted, State, turned, shelved, after, run, worked_all}
use Rattle.arbitration.specs.Lists.{Every, Bounded, Zeroed}
use Rattle.arbitration.proofs.Window.{slot_lt}
use Rattle.arbitration.proofs.SlotLaws.{empty_fits, slot_for_fits, put_at}
use Rattle.arbitration.proofs.Turns.{Went, drain_keeps}
use Rattle.arbitration.proofs.Answers.{after_cases, run_keeps}
use Rattle.arbitration.proofs.Packets.{every_accepted, packets_run}

pub bounded_fits : (c : Rec) → Bounded c → Fits (slot_for c.number c.body)
bounded_fits c b = slot_for_fits c.number c.body (omega (arith, b.number_to)) b.short

module _ (S : Store) (E : Engine) where
  pub record Below (r : State S E) : Type 0 where
    pub ok_shelf : S.Ok r.shelf
    pub next_to : r.next ≤ last_number + 1
    pub numbers_to : (i : ℕ) → i < 64 → (S.get r.shelf i).number ≤ last_number

module _ (S : Store) (E : Engine) (L : Laws S E) where
  turn_below : (r : State S E) (b : E.Book) → Went S E r b → Below S E r → Below S E (turned S E r b)
  turn_below r b w v =
      record {
        ok_shelf = L.store.ok_put _ _ empty_slot v.ok_shelf (slot_lt r.next) empty_fits;
        next_to = omega (arith, w.number_is, v.numbers_to (r.next % 64) (slot_lt r.next));
        numbers_to = λ i h. put_at S L.store r.shelf (r.next % 64) empty_slot v.ok_shelf (slot_lt r.next) empty_fits (λ s. s.number ≤ last_number) i h (λ e. omega arith) (λ n. v.numbers_to i h);
      }

  shelve_below : (c : Rec) (r : State S E) → Bounded c → Below S E r → Below S E (shelved S E c r)
  shelve_below c r g v =
      record {
        ok_shelf = L.store.ok_put _ _ _ v.ok_shelf (slot_lt c.number) (bounded_fits c g);
        next_to = v.next_to;
        numbers_to = λ i h. put_at S L.store r.shelf (c.number % 64) (slot_for c.number c.body) v.ok_shelf (slot_lt c.number) (bounded_fits c g) (λ s. s.number ≤ last_number) i h (λ e. g.number_to) (λ n. v.numbers_to i h);
      }

  pub after_below : (c : Rec) (r : State S E) → Bounded c → Below S E r → Below S E (after S E c r)
  after_below c r g v = after_cases S E (Below S E) c r v (λ e. drain_keeps S E (Below S E) turn_below 64 (shelved S E c r) (shelve_below c r g v))

  pub run_below : (cs : List Rec) (r : State S E) → Every Bounded cs → Below S E r → Below S E (run S E cs r)
  run_below cs r h v = run_keeps S E (Below S E) Bounded after_below cs r h v

  pub start_below : (b0 : E.Book) (r : State S E) → Zeroed S E b0 r → Below S E r
  start_below b0 r s = record { ok_shelf = s.ok_shelf; next_to = omega (arith, s.next_1); numbers_to = λ i h. omega (arith, s.shelf_empty i h) }

  pub packets_below : {Q : Type 0} (frame : List ℕ → Frames Q) → ((p : List ℕ) → Every Bounded (records_of (frame p))) → (ps : List (List ℕ)) (r : State S E) → Below S E r → Below S E (worked_all S E frame ps r)
  packets_below frame h ps r v = rw (packets_run frame S E ps r) (run_below (accepted frame ps) r (every_accepted frame Bounded h ps) v)
