-- DEMAND 3 of document 00, sentence by sentence, of a start and any number of calls of `receive`. Whatever gives packets to a receiver (`feed`, a program, C) is a case of it.
use Rattle.std.specs.Prelude.{ℕ, ◌-◌, ◌≤◌, ◌≡◌, ◌⊎◌, true, List, [], ◌∷◌, ◌++◌, length, Result, Ok}
use Rattle.arbitration.specs.Engine.{ok, broke}
use Rattle.arbitration.specs.Receive.{records_of, accepted, said, counts_of}
use Rattle.arbitration.specs.Lists.{WellFormed, Copies, Answered, made, Zeroed}
use Rattle.receiver.specs.Parts.{Parts, engine_of}
use Rattle.receiver.specs.Receiver.{Receiver, receives, receives_all}
use Rattle.receiver.specs.declared.Account.{Account}
use Rattle.packet.specs.declared.Why.{Why}

module _ (P : Parts) where
  -- "Start a receiver": good sizes, everything zeroed, next 1, no stop; b0 is its book, the lent tables all zero and the second 0
  pub record Started (b0 : P.rules.Book) (k : Receiver P) : Type 0 where
    pub sizes_good : P.sized b0 k.rx.shelf ≡ true
    pub zeroed : Zeroed P.store (engine_of P.rules) b0 k.rx
    pub no_stop : k.stop ≡ 0

  -- "Take any list of well-formed messages, numbered from 1. Start a receiver, leave its tables to it, and give it packets whose accepted records are true copies
  -- from that list, lost, repeated or shuffled at will." ms is the list, k0 the receiver after its start, ps are the packets so far, any number of them: a call for each,
  -- and each call is handed what the one before left (`Calls` below), so that its tables are left to it
  pub record Given (ms : List (List ℕ)) (b0 : P.rules.Book) (k0 : Receiver P) (ps : List (List ℕ)) : Type 0 where
    pub well_formed : WellFormed P.rules.good ms
    pub started : Started b0 k0
    pub copies : Copies ms (accepted P.frame ps)

  -- "its order table, symbol table and second are exactly those made by the list's first k messages, k being one less than the next number it reports"
  pub record MadeBy (ms : List (List ℕ)) (b0 : P.rules.Book) (k : Receiver P) : Type 0 where
    pub from_1 : 1 ≤ k.rx.next
    pub in_list : k.rx.next - 1 ≤ length ms
    pub tables_are : made (engine_of P.rules) ms 0 b0 (k.rx.next - 1) ≡ ok k.rx.book

  -- "the receiver names message k + 1, which the list itself, in tables of that size, can't apply, and the rule broken": k + 1 is next, the rule is the stop, and b0 has the sizes
  pub record Names (ms : List (List ℕ)) (b0 : P.rules.Book) (k : Receiver P) : Type 0 where
    pub in_list : k.rx.next ≤ length ms
    pub rule_named : 1 ≤ k.stop
    pub list_breaks : made (engine_of P.rules) ms 0 b0 k.rx.next ≡ broke k.stop

  -- "every number up to j was answered as taken, repeated or old"
  abbrev pub AnsweredTo : ℕ → List (List ℕ) → Receiver P → Type 0
  AnsweredTo j ps k0 = (n : ℕ) → 1 ≤ n → n ≤ j → Answered P.store (engine_of P.rules) n (accepted P.frame ps) k0.rx

  -- the account a of a packet p that the receiver k accepted, and the receiver k' after it
  pub record Reported (k : Receiver P) (p : List ℕ) (a : Account) (k' : Receiver P) : Type 0 where
    pub next_is : a.next ≡ k'.rx.next
    pub stop_is : a.stop ≡ k'.stop
    pub counts_are : a.counts ≡ counts_of (said P.store (engine_of P.rules) (records_of (P.frame p)) k.rx)

  -- the calls of which it is said: the receivers that are called; what of one the demand speaks of; those that a run may start with; what a call with a packet answers and
  -- leaves; and what a call for each packet leaves
  pub record Calls : Type 1 where
    pub Kept : Type 0
    pub seen : Kept → Receiver P
    pub begins : Kept → Type 0
    pub answers : Kept → List ℕ → Result Account Why
    pub leaves : Kept → List ℕ → Kept
    pub calls : List (List ℕ) → Kept → Kept

  pub record Demand3 (C : Calls) (ms : List (List ℕ)) (b0 : P.rules.Book) : Type 0 where
    -- "After each accepted packet": ps are any packets, so this holds after each one of a run
    pub first : (k0 : C.Kept) (ps : List (List ℕ)) → C.begins k0 → Given ms b0 (C.seen k0) ps → MadeBy ms b0 (C.seen (C.calls ps k0))
    -- "If every number up to j was answered as taken, repeated or old, then k is at least j, or the receiver names message k + 1"
    pub second : (k0 : C.Kept) (ps : List (List ℕ)) → C.begins k0 → Given ms b0 (C.seen k0) ps → (j : ℕ) → AnsweredTo j ps (C.seen k0)
        → (j ≤ (C.seen (C.calls ps k0)).rx.next - 1) ⊎ Names ms b0 (C.seen (C.calls ps k0))
    -- "Two such receivers on one list, with equal capacities and equal k, agree in these three": one b0, so equal capacities
    pub agreement : (k0 k0' : C.Kept) (ps ps' : List (List ℕ)) → C.begins k0 → C.begins k0' → Given ms b0 (C.seen k0) ps → Given ms b0 (C.seen k0') ps'
        → (C.seen (C.calls ps k0)).rx.next ≡ (C.seen (C.calls ps' k0')).rx.next
        → (C.seen (C.calls ps k0)).rx.book ≡ (C.seen (C.calls ps' k0')).rx.book
    -- "each": one packet more is one call more, so that all of this is said of the receiver after each call of a run
    pub one_more : (k0 : C.Kept) (ps : List (List ℕ)) (p : List ℕ) → C.calls (ps ++ (p ∷ [])) k0 ≡ C.leaves (C.calls ps k0) p
    -- "the next number it reports", the rule that it names, and how many records were answered in each way: an accepted packet's account tells them
    pub reported : (k0 : C.Kept) (ps : List (List ℕ)) (p : List ℕ) (a : Account) → C.begins k0 → Started b0 (C.seen k0) → C.answers (C.calls ps k0) p ≡ Ok a
        → Reported (C.seen (C.calls ps k0)) p a (C.seen (C.leaves (C.calls ps k0) p))

  -- the calls of a receiver of these parts
  abbrev pub parts_calls : Calls
  parts_calls = record { Kept = Receiver P; seen = λ k. k; begins = λ k. Unit {0}; answers = λ k p. (receives P k p).answer; leaves = λ k p. (receives P k p).after; calls = receives_all P }
