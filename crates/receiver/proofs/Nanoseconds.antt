-- Nanoseconds of a second over the receiver (request 6): a packet that holds too many is refused whole and leaves a gap, demand 3's lists have none, and an altered slot that does stops with 27.
-- Assumes nothing.
use Prim.Native.Nat.{ℕ, ◌+◌, ◌%◌, ◌≤◌, ◌<◌}
use mathlib.Core.Path.{◌≡◌, refl, sym, ap, subst, ◌∙◌}
use mathlib.Core.Bool.{true}
use mathlib.Core.List.{List, [], ◌∷◌, ◌++◌}
use native.Mathlib.Omega.{arith}
use lib.ListN.{length, get_or}
use Rattle.facts.specs.Limits.{most_nanos, last_number, shelf_size}
use Rattle.facts.specs.Pick.{pick}
use Rattle.editions.specs.declared.Edition.{Edition}
use Rattle.wire.specs.Records.{Rec, rec}
use Rattle.fields.specs.Fields.{bad_at}
use Rattle.body.specs.Read.{good_body}
use Rattle.body.specs.Nanoseconds.{stamped, stamp_of, PastSecond}
use Rattle.body.proofs.Laws.{framed_is}
use Rattle.body.proofs.Nanoseconds.{past_bad, largest}
use Rattle.packet.specs.Packet.{framing}
use Rattle.packet.specs.Nanoseconds.{PastIn}
use Rattle.packet.proofs.Nanoseconds.{past_packet, past_none}
use Rattle.arbitration.specs.Slots.{Slot, slot_for, slot_body}
use Rattle.arbitration.specs.Receive.{stuck, accepted, slot_of, try, stop, drain, shelved}
use Rattle.arbitration.specs.Lists.{Every, WellFormed}
use Rattle.arbitration.proofs.Window.{slot_lt}
use Rattle.arbitration.proofs.SlotLaws.{body_back}
use Rattle.arbitration.proofs.Range.{bounded_fits}
use Rattle.arbitration.proofs.Turns.{slot_bad, try_bad, stop_stuck, drain_stuck}
use Rattle.arbitration.proofs.Packets.{every_accepted, refused_adds_none}
use Rattle.shelf.specs.Shelf.{slot_at, put_slot}
use Rattle.shelf.specs.Store.{shelf_store}
use Rattle.shelf.proofs.StoreLaws.{shelf_laws}
use Rattle.receiver.specs.Receiver.{fit, receives, handled_by}
use Rattle.receiver.specs.Lent.{ledger_engine, real, Rx, Lent, handled, received, received_all}
use Rattle.std.specs.Prelude.{Err}
use Rattle.packet.specs.declared.Why.{Why}
use Rattle.receiver.proofs.Accounts.{refused_lost}
use Rattle.receiver.proofs.Editions.{calls_keep}
use Rattle.receiver.proofs.Real.{every_framed}

-- ---- "Larger is refused with 4 and its offset": a packet with such a record behind good ones is refused whole, at the Timestamp, where nothing is by 6
pub past_received : (k : Lent) (p : List ℕ) → fit (real k.edition) k ≡ true → (x : PastIn k.edition p) → received k p ≡ handled (Err (Why.Placed (bad_at 4 (x.at + 11)))) k
unfolding receives handled_by pick
past_received k p f x = rw (f, past_packet k.edition p x) refl

-- ---- "Recordings that held such values now leave a gap": as any refused packet, it might as well have been lost
pub past_lost : (ps qs : List (List ℕ)) (p : List ℕ) (k : Lent) → PastIn k.edition p → received_all (ps ++ (p ∷ qs)) k ≡ received_all (ps ++ qs) k
past_lost ps qs p k x =
    calls_keep (ps ++ (p ∷ qs)) k
    ∙ refused_lost (real k.edition) p (Why.Placed (bad_at 4 (x.at + 11))) (past_packet k.edition p x) ps qs k
    ∙ sym (calls_keep (ps ++ qs) k)

-- and none of its records is accepted, the good ones no more than the other
pub past_gap : (ed : Edition) (ps qs : List (List ℕ)) (p : List ℕ) → PastIn ed p → accepted (framing ed) (ps ++ (p ∷ qs)) ≡ accepted (framing ed) (ps ++ qs)
past_gap ed ps qs p x = refused_adds_none (framing ed) p (Why.Placed (bad_at 4 (x.at + 11))) (past_packet ed p x) ps qs

-- wherever in a packet it stands: no accepted record is such
pub never_accepted : (ed : Edition) (ps : List (List ℕ)) → Every (λ (c : Rec). PastSecond c.body → ⊥) (accepted (framing ed) ps)
never_accepted ed ps = every_accepted (framing ed) (λ (c : Rec). PastSecond c.body → ⊥) (every_framed ed (λ (c : Rec). PastSecond c.body → ⊥) (past_none ed)) ps

-- ---- "demand 3's well-formed list excludes them"
pub listed_in_second : (ed : Edition) (ms : List (List ℕ)) → WellFormed (good_body ed) ms → (i : ℕ) → i < length ms → stamped (get_or ms i []) ≡ true → stamp_of (get_or ms i []) ≤ most_nanos
listed_in_second ed ms w i l s = largest ed (get_or ms i []) (w i l) s

pub never_listed : (ed : Edition) (ms : List (List ℕ)) → WellFormed (good_body ed) ms → (i : ℕ) → i < length ms → PastSecond (get_or ms i []) → ⊥
never_listed ed ms w i l p = omega (arith, p.larger, listed_in_second ed ms w i l p.carries)

-- ---- "A slot for next that holds .. no good body stops with 27": one that the caller altered so, for any tables and shelf
module _ (ed : Edition) (r : Rx) where
  abbrev here : Slot
  here = slot_of shelf_store (ledger_engine ed) r r.next

  past_stuck : 1 ≤ r.next → here.number ≡ r.next → PastSecond (slot_body here) → try shelf_store (ledger_engine ed) r ≡ stuck 27
  past_stuck l e p = try_bad shelf_store (ledger_engine ed) r (λ z. omega (arith, z, e)) e (slot_bad (ledger_engine ed) here (past_bad ed (slot_body here) p))

  pub past_stops : 1 ≤ r.next → here.number ≡ r.next → PastSecond (slot_body here) → stop shelf_store (ledger_engine ed) r ≡ 27
  past_stops l e p = stop_stuck shelf_store (ledger_engine ed) r 27 (past_stuck l e p)

  -- and nothing is worked behind it
  pub past_waits : 1 ≤ r.next → here.number ≡ r.next → PastSecond (slot_body here) → (turns : ℕ) → drain shelf_store (ledger_engine ed) turns r ≡ r
  past_waits l e p turns = drain_stuck shelf_store (ledger_engine ed) r 27 (past_stuck l e p) turns

-- such a slot: one for next with such a body in it, as a record is shelved, on any shelf of the right size
pub past_laid : (ed : Edition) (r : Rx) (b : List ℕ) → length r.shelf ≡ shelf_size → 1 ≤ r.next → r.next ≤ last_number → PastSecond b → stop shelf_store (ledger_engine ed) (shelved shelf_store (ledger_engine ed) (rec r.next b) r) ≡ 27
past_laid ed r b o l m p =
    let c : Rec = rec r.next b in
    let short : length b ≤ 64 = omega (arith, (framed_is b p.whole).most) in
    let x : Slot = slot_for r.next b in
    let at : slot_at (put_slot r.shelf (r.next % 64) x) (r.next % 64) ≡ x = shelf_laws.get_same r.shelf (r.next % 64) x o (slot_lt r.next) (bounded_fits c (record { number_to = m; short = short })) in
    past_stops ed (shelved shelf_store (ledger_engine ed) c r) l (ap (λ (y : Slot). y.number) at)
    (subst PastSecond (sym (ap slot_body at ∙ body_back r.next b short)) p)
