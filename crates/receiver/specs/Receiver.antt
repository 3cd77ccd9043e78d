-- A receiver over any parts, and what a packet does to it (document 01, "Lent tables and the shelf", "Refused, and what is left").
use Rattle.std.specs.Prelude.{ℕ, ◌+◌, Bool, List, [], ◌∷◌, leb, Result, Ok, Err}
use Rattle.facts.specs.Pick.{pick, both}
use Rattle.facts.specs.Limits.{last_number}
use Rattle.editions.specs.declared.Edition.{Edition}
use Rattle.wire.specs.Records.{Frames, bad, records}
use Rattle.fields.specs.Fields.{refusal}
use Rattle.arbitration.specs.Receive as theory
use Rattle.receiver.specs.Parts.{Parts, engine_of}
use Rattle.receiver.specs.declared.Account.{Account}
use Rattle.packet.specs.declared.Why.{Why}

-- "a next number outside 1 to 10^12 + 1": 6
unfoldable pub next_ok : ℕ → Bool
next_ok n = both (leb 1 n) (leb n (last_number + 1))

-- "The packet's answer tells how many records got each of 10 to 14, the next number, how many messages were applied (the growth of next), the highest number on the shelf (0 if none), and the stop"
abbrev pub account : theory.Told → Account
account t = record { counts = t.counts; next = t.next_number; applied = t.applied; highest = t.top; stop = t.stopped }

-- document 01's number of each answer to a packet, 0 for an account
abbrev pub received_number : Result Account Why → ℕ
received_number (Ok a) = 0
received_number (Err (Why.Alone r)) = r.number
received_number (Err (Why.Placed f)) = f.number

-- "Demand 1 reads "number and offset" for these four" (request 5): a refused packet is told as its reader tells it
abbrev pub refused_by : Why → Result Account Why
refused_by w = Err w

-- a receiver with what it is lent: the next number, the shelf, the book; the stop of its last accepted packet; and its edition, which is "chosen at start" (request 10): no packet changes it
pub record Keeps (Shelf Book : Type 0) : Type 0 where
  pub rx : theory.Rx Shelf Book
  pub stop : ℕ
  pub edition : Edition

abbrev pub keeps : {Shelf Book : Type 0} → theory.Rx Shelf Book → ℕ → Edition → Keeps Shelf Book
keeps r q v = record { rx = r; stop = q; edition = v }

-- an answer, and the receiver after it
pub record Handles (Shelf Book : Type 0) : Type 0 where
  pub answer : Result Account Why
  pub after : Keeps Shelf Book

abbrev pub handles : {Shelf Book : Type 0} → Result Account Why → Keeps Shelf Book → Handles Shelf Book
handles a k = record { answer = a; after = k }

module _ (P : Parts) where
  -- the receiver of the theory
  abbrev pub Rx : Type 0
  Rx = theory.State P.store (engine_of P.rules)

  abbrev pub Receiver : Type 0
  Receiver = Keeps P.store.Shelf P.rules.Book

  abbrev pub receiver : Rx → ℕ → Edition → Receiver
  receiver r q v = keeps r q v

  abbrev pub Handled : Type 0
  Handled = Handles P.store.Shelf P.rules.Book

  abbrev pub handled : Result Account Why → Receiver → Handled
  handled a k = handles a k

  -- "tables, output and state keep every byte"
  unfoldable pub handled_by : Frames Why → Receiver → Handled
  handled_by (bad w) k = handled (refused_by w) k
  handled_by (records cs) k =
      let t : theory.Told = theory.told P.store (engine_of P.rules) cs k.rx in
      handled (Ok (account t)) (receiver (theory.run P.store (engine_of P.rules) cs k.rx) t.stopped k.edition)

  -- no 6
  unfoldable pub fit : Receiver → Bool
  fit k = both (P.sized k.rx.book k.rx.shelf) (next_ok k.rx.next)

  -- "Order: 6, 1, then records from the front, each by 2, 5, 3, 4"
  unfoldable pub receives : Receiver → List ℕ → Handled
  receives k p = pick (fit k) (handled_by (P.frame p) k) (handled (Err (Why.Alone (refusal 6))) k)

  -- packet after packet, a call for each; a refused one leaves the receiver as it is
  unfoldable pub receives_all : List (List ℕ) → Receiver → Receiver
  receives_all [] k = k
  receives_all (p ∷ ps) k = receives_all ps (receives k p).after
