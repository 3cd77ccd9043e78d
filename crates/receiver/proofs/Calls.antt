-- The receiver's exits over what its calls ensure, in plain numbers and lists: the slot's number, length and body as the shelf told them, the book's answer and the packet's work as they came.
-- Assumes nothing.
use Prim.Native.Nat.{ℕ, ◌+◌, ◌-◌, ◌%◌, ◌≤◌}
use mathlib.Core.Path.{◌≡◌, sym, ap, subst, ◌∙◌}
use mathlib.Core.Logic.{◌≢◌}
use mathlib.Core.Bool.{true, false}
use mathlib.Core.List.{List}
use lib.ListN.{length, get_or}
use Rattle.facts.specs.Limits.{shelf_size}
use Rattle.editions.specs.declared.Edition.{Edition}
use Rattle.kinds.specs.Table.{kind_of}
use Rattle.kinds.specs.declared.Kind.{Kind}
use Rattle.wire.specs.Records.{Rec, rec, records}
use Rattle.fields.specs.Fields.{decoded}
use Rattle.packet.specs.Packet.{Framing, framing}
use Rattle.book.specs.Plan.{Plan, plan_by}
use Rattle.book.specs.declared.Clock.{Clock}
use Rattle.book.specs.Ledger.{Ledger, Posting, posting, looks, devised, posts, posted}
use Rattle.book.proofs.Laws.{devised_good, posted_by}
use Rattle.arbitration.specs.Slots.{Slot, empty_slot, slot_for, slot_body}
use Rattle.arbitration.specs.Receive.{records_of, no_counts, stop, highest}
use Rattle.arbitration.specs.Loops.{Working, work}
use Rattle.arbitration.specs.declared.Counts.{Counts}
use Rattle.arbitration.proofs.SlotLaws.{empty_fits}
use Rattle.arbitration.proofs.Range.{bounded_fits}
use Rattle.shelf.specs.Shelf.{slot_at, put_slot}
use Rattle.shelf.specs.Store.{shelf_store}
use Rattle.shelf.proofs.StoreLaws.{put_again}
use Rattle.receiver.specs.Receiver.{handled_by}
use Rattle.receiver.specs.Lent.{ledger_engine, real, Rx, rx, Lent, lent, handled}
use Rattle.receiver.specs.AtWork.{Good}
use Rattle.std.specs.Prelude.{Ok}
use Rattle.receiver.proofs.Exits.{Turns, turn_broken, turn_goes, stops_rule}
use Rattle.receiver.proofs.Direct.{next_broken, next_goes}
use Rattle.receiver.proofs.Accounts.{next_grows, accepted}
use Rattle.receiver.proofs.Real.{real_laws}

-- ---- the slot for next holds next, in a body of at most 64 bytes
module _ (ed : Edition) (next : ℕ) (l : Ledger) (h : List ℕ) (n len : ℕ) (b : List ℕ) (n_is : n ≡ (slot_at h (next % 64)).number) (some : n ≢ 0) (own : n ≡ next)
    (len_is : len ≡ (slot_at h (next % 64)).len) (short : len ≤ 64) (b_is : b ≡ slot_body (slot_at h (next % 64))) where
  abbrev here : Slot
  here = slot_at h (next % 64)

  held : here.number ≢ 0
  held z = some (n_is ∙ z)

  is_next : here.number ≡ next
  is_next = sym n_is ∙ own

  fits : here.len ≤ 64
  fits = subst (λ (x : ℕ). x ≤ 64) len_is short

  -- the book's answer to it: the rule q, and the ledger l' that it left
  module _ (q : ℕ) (l' : Ledger) (tried : posting q l' ≡ posted ed next b l) where
    of_slot : posting q l' ≡ posted ed next (slot_body here) l
    of_slot = tried ∙ ap (λ (x : List ℕ). posted ed next x l) b_is

    rule_is : q ≡ (posted ed next (slot_body here) l).rule
    rule_is = ap (λ (x : Posting). x.rule) of_slot

    after_is : l' ≡ (posted ed next (slot_body here) l).after
    after_is = ap (λ (x : Posting). x.after) of_slot

    pub slot_broken : q ≢ 0 → Turns (real ed) (real_laws ed) next l h (record { next = next; shelf = h; book = l' }) false
    slot_broken = turn_broken (real ed) (real_laws ed) next l h held is_next fits q l' rule_is after_is

    pub slot_goes : q ≡ 0 → (h' : List ℕ) → h' ≡ put_slot h (next % 64) empty_slot → Turns (real ed) (real_laws ed) next l h (record { next = next + 1; shelf = h'; book = l' }) true
    slot_goes = turn_goes (real ed) (real_laws ed) next l h held is_next fits q l' rule_is after_is

  -- its rule alone, by its plan
  pub slot_stops : (p : Plan) → p ≡ devised ed next b l → (posts p b l).rule ≡ stop shelf_store (ledger_engine ed) (record { next = next; shelf = h; book = l })
  slot_stops p e =
      ap (λ (x : Posting). x.rule) (posted_by ed p next b l (sym e))
      ∙ ap (λ (x : List ℕ). (posted ed next x l).rule) b_is
      ∙ stops_rule (real ed) (real_laws ed) next l h held is_next fits

-- ---- a good record that is next, tried as it came: x its type byte, k its kind
module _ (ed : Edition) (next : ℕ) (l : Ledger) (h b : List ℕ) (sized : length h ≡ shelf_size) (good : Good ed (rec next b))
    (x : ℕ) (k : Kind) (x_is : x ≡ get_or b 0 0) (k_is : k ≡ kind_of x) (q : ℕ) (l' : Ledger)
    (tried : posting q l' ≡ posts (plan_by (decoded k b) next b l.plain.clock (looks l)) b l) where
  of_body : posting q l' ≡ posted ed next b l
  of_body = tried ∙ posted_by ed (plan_by (decoded k b) next b l.plain.clock (looks l)) next b l (devised_good ed next b l k good.body_good (k_is ∙ ap kind_of x_is))

  abbrev laid : List ℕ
  laid = put_slot h (next % 64) (slot_for next b)

  pub came_broken : q ≢ 0 → (h' : List ℕ) → h' ≡ laid → Turns (real ed) (real_laws ed) next l laid (record { next = next; shelf = h'; book = l' }) false
  came_broken = next_broken (real ed) (real_laws ed) next l h b sized good.number_from good.bounded q l' (ap (λ (y : Posting). y.rule) of_body) (ap (λ (y : Posting). y.after) of_body)

  pub came_goes : q ≡ 0 → (h' : List ℕ) → h' ≡ put_slot h (next % 64) empty_slot → Turns (real ed) (real_laws ed) next l laid (record { next = next + 1; shelf = h'; book = l' }) true
  came_goes e h' p =
      next_goes (real ed) (real_laws ed) next l h b sized good.number_from good.bounded q l' (ap (λ (y : Posting). y.rule) of_body) (ap (λ (y : Posting). y.after) of_body) e h' p
      (put_again h (next % 64) (slot_for next b) empty_slot (bounded_fits (rec next b) good.bounded) empty_fits)

-- ---- a good packet, worked: the place and the counts that its records led to
module _ (k : Lent) (p : List ℕ) (cs : List Rec) (framed : framing k.edition p ≡ records cs) (next : ℕ) (clock : Clock) (t : Counts) (o s h ix : List ℕ)
    (worked : ◌≡◌ {A = Working shelf_store (ledger_engine k.edition)} (record { rx = rx next clock o s h ix; counts = t }) (work shelf_store (ledger_engine k.edition) (records_of (framing k.edition p)) (record { rx = k.rx; counts = no_counts }))) where
  abbrev now : Rx
  now = rx next clock o s h ix

  of_records : ◌≡◌ {A = Working shelf_store (ledger_engine k.edition)} (record { rx = now; counts = t }) (work shelf_store (ledger_engine k.edition) cs (record { rx = k.rx; counts = no_counts }))
  of_records = worked ∙ ap (λ (y : Framing). work shelf_store (ledger_engine k.edition) (records_of y) (record { rx = k.rx; counts = no_counts })) framed

  pub worked_grows : k.rx.next ≤ next
  worked_grows = next_grows (real k.edition) cs k now t of_records

  -- q the stop and top the highest number, told of the tables as they came back
  pub worked_told : (q top : ℕ) (o' s' h' ix' : List ℕ) → o' ≡ o → s' ≡ s → h' ≡ h → ix' ≡ ix → q ≡ stop shelf_store (ledger_engine k.edition) now → top ≡ highest shelf_store 64 h'
      → handled (Ok (record { counts = t; next = next; applied = next - k.rx.next; highest = top; stop = q })) (lent o' s' h' ix' (record { next = next; clock = clock; stop = q; edition = k.edition }))
      ≡ handled_by (real k.edition) (framing k.edition p) k
  worked_told q top o' s' h' ix' os ss hs is e f =
      (λ i. handled (Ok (record { counts = t; next = next; applied = next - k.rx.next; highest = top; stop = q })) (lent (os i) (ss i) (hs i) (is i) (record { next = next; clock = clock; stop = q; edition = k.edition })))
      ∙ accepted (real k.edition) cs k now t of_records q top e (f ∙ ap (highest shelf_store 64) hs) (framing k.edition p) framed
