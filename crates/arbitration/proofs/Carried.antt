-- What surrounds every message that a run applies: its number is at least 1, its body is good and made of bytes, because next starts at 1 and packets hold bytes.
-- So what each such message keeps of a book, a run keeps.
-- Assumes nothing.
use Prim.Native.Nat.{ℕ, ◌%◌, ◌≤◌, ◌<◌}
use mathlib.Core.Path.{◌≡◌}
use mathlib.Core.Bool.{true}
use mathlib.Core.List.{List}
use native.Mathlib.Omega.{arith}
use Rattle.wire.specs.Le.{Bytes}
use Rattle.wire.specs.Records.{Rec, Frames}
use Rattle.wire.proofs.Bytewise.{bytes_take, bytes_padded, bytes_zeros}
use Rattle.arbitration.specs.Slots.{empty_slot, slot_for, slot_body}
use Rattle.arbitration.specs.Engine.{ok, Engine, Store, Laws}
use Rattle.arbitration.specs.Receive.{State, slot_of, turned, drain, shelved, after, run, accepted, worked_all}
use Rattle.arbitration.specs.Lists.{Every, Sent, Zeroed}
use Rattle.arbitration.proofs.Window.{slot_lt}
use Rattle.arbitration.proofs.SlotLaws.{empty_fits, put_at}
use Rattle.arbitration.proofs.Turns.{Went, drain_keeps}
use Rattle.arbitration.proofs.Answers.{after_cases, run_keeps}
use Rattle.arbitration.proofs.Range.{bounded_fits}
use Rattle.arbitration.proofs.Packets.{packets_run}

empty_bytes : Bytes empty_slot.bytes
empty_bytes = bytes_zeros 64

module _ (S : Store) (E : Engine) where
  pub record Carried (r : State S E) : Type 0 where
    pub ok_shelf : S.Ok r.shelf
    pub from_1 : 1 ≤ r.next
    pub slots : (i : ℕ) → i < 64 → Bytes (S.get r.shelf i).bytes

  -- the message of next is made of bytes
  pub next_bytes : (r : State S E) → Carried r → Bytes (slot_body (slot_of S E r r.next))
  next_bytes r v = bytes_take (slot_of S E r r.next).len (slot_of S E r r.next).bytes (v.slots (r.next % 64) (slot_lt r.next))

module _ (S : Store) (E : Engine) (L : Laws S E) where
  pub turn_carried : (r : State S E) (b : E.Book) → Carried S E r → Carried S E (turned S E r b)
  turn_carried r b v =
      record {
        ok_shelf = L.store.ok_put _ _ empty_slot v.ok_shelf (slot_lt r.next) empty_fits;
        from_1 = omega arith;
        slots = λ i h. put_at S L.store r.shelf (r.next % 64) empty_slot v.ok_shelf (slot_lt r.next) empty_fits (λ s. Bytes s.bytes) i h (λ e. empty_bytes) (λ n. v.slots i h);
      }

  pub shelve_carried : (c : Rec) (r : State S E) → Sent c → Carried S E r → Carried S E (shelved S E c r)
  shelve_carried c r g v =
      record {
        ok_shelf = L.store.ok_put _ _ _ v.ok_shelf (slot_lt c.number) (bounded_fits c g.bounded);
        from_1 = v.from_1;
        slots = λ i h. put_at S L.store r.shelf (c.number % 64) (slot_for c.number c.body) v.ok_shelf (slot_lt c.number) (bounded_fits c g.bounded) (λ s. Bytes s.bytes) i h (λ e. bytes_padded c.body 0 64 g.bytes) (λ n. v.slots i h);
      }

  pub drain_carried : (f : ℕ) (r : State S E) → Carried S E r → Carried S E (drain S E f r)
  drain_carried f r v = drain_keeps S E (Carried S E) (λ r b w v. turn_carried r b v) f r v

  pub after_carried : (c : Rec) (r : State S E) → Sent c → Carried S E r → Carried S E (after S E c r)
  after_carried c r g v = after_cases S E (Carried S E) c r v (λ e. drain_carried 64 (shelved S E c r) (shelve_carried c r g v))

  pub run_carried : (cs : List Rec) (r : State S E) → Every Sent cs → Carried S E r → Carried S E (run S E cs r)
  run_carried cs r h v = run_keeps S E (Carried S E) Sent after_carried cs r h v

  pub start_carried : (b0 : E.Book) (r : State S E) → Zeroed S E b0 r → ((i : ℕ) → i < 64 → Bytes (S.get r.shelf i).bytes) → Carried S E r
  start_carried b0 r s h = record { ok_shelf = s.ok_shelf; from_1 = omega (arith, s.next_1); slots = h }

  -- ---- from a start, for whole runs
  module _
      (P : E.Book → Type 0)
      (keeps : (n : ℕ) (b : List ℕ) (x y : E.Book) → 1 ≤ n → Bytes b → E.good b ≡ true → E.apply n b x ≡ ok y → P x → P y) where
    pub record Keeping (r : State S E) : Type 0 where
      pub carried : Carried S E r
      pub holds : P r.book

    turn_keeping : (r : State S E) (b : E.Book) → Went S E r b → Keeping r → Keeping (turned S E r b)
    turn_keeping r b w v =
        record {
          carried = turn_carried r b v.carried;
          holds = keeps r.next (slot_body (slot_of S E r r.next)) r.book b v.carried.from_1 (next_bytes S E r v.carried) w.is_good w.applied v.holds;
        }

    after_keeping : (c : Rec) (r : State S E) → Sent c → Keeping r → Keeping (after S E c r)
    after_keeping c r g v =
        after_cases S E Keeping c r v
        (λ e. drain_keeps S E Keeping turn_keeping 64 (shelved S E c r) (record { carried = shelve_carried c r g v.carried; holds = v.holds }))

    -- what every applied good message keeps is kept by a run
    pub run_holds : (cs : List Rec) (r : State S E) → Every Sent cs → Keeping r → Keeping (run S E cs r)
    run_holds cs r h v = run_keeps S E Keeping Sent after_keeping cs r h v

    -- and so by packets
    pub packets_hold : {Q : Type 0} (frame : List ℕ → Frames Q) (ps : List (List ℕ)) (r : State S E) → Every Sent (accepted frame ps) → Keeping r → Keeping (worked_all S E frame ps r)
    packets_hold frame ps r h v = rw (packets_run frame S E ps r) (run_holds (accepted frame ps) r h v)
