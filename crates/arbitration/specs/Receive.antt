-- How records and packets are worked and answered (document 01, "Lent tables and the shelf").
use Rattle.std.specs.Prelude.{ℕ, zero, suc, ◌+◌, ◌-◌, ◌%◌, max, Bool, List, [], ◌∷◌, ◌++◌, ltb, leb, eqb}
use Rattle.facts.specs.Pick.{pick, both}
use Rattle.facts.specs.Sums.{count_by}
use Rattle.wire.specs.Records.{Rec, Frames, bad, records}
use Rattle.arbitration.specs.Slots.{Slot, empty_slot, slot_for, slot_body, same_slot}
use Rattle.arbitration.specs.Engine.{Applied, ok, broke, Engine, Store}
use Rattle.arbitration.specs.declared.Counts.{Counts}

-- how a record is answered
pub data Answer : Type 0 where
  taken old too_far repeated differing : Answer

-- the number of each answer, "each of 10 to 14"
abbrev pub code_of : Answer → ℕ
code_of taken = 10
code_of old = 11
code_of too_far = 12
code_of repeated = 13
code_of differing = 14

-- "A record with n below next is old (11); n at or above next + 64 is too far (12). A slot that holds n with the same length and the same 64
-- padded bytes is a repeat (13); any other occupied slot is a differing copy (14), and the first stays. Otherwise it is shelved: taken (10)."
unfoldable pub judge : ℕ → Slot → Rec → Answer
judge next s c =
    pick (ltb c.number next) old
    (pick (leb (next + 64) c.number) too_far
    (pick (eqb s.number 0) taken
    (pick (same_slot s (slot_for c.number c.body)) repeated differing)))

-- a receiver: the next number, the shelf, and what messages change
pub record Rx (Shelf Book : Type 0) : Type 0 where
  pub next : ℕ
  pub shelf : Shelf
  pub book : Book

-- what the slot for next has to offer: no message, one that is stopped, or one that applies
pub data Try (Book : Type 0) : Type 0 where
  nothing : Try Book
  stuck : ℕ → Try Book
  goes : Book → Try Book

abbrev pub of_applied : {Book : Type 0} → Applied Book → Try Book
of_applied (ok b) = goes b
of_applied (broke q) = stuck q

-- a slot that holds a good body; one of a length above 64 holds none, which is judged before the body is cut out
unfoldable pub good_slot : Engine → Slot → Bool
good_slot E s = both (leb s.len 64) (E.good (slot_body s))

-- "the highest number on the shelf (0 if none)", over the first i slots
unfoldable pub highest : (S : Store) → ℕ → S.Shelf → ℕ
highest S zero s = 0
highest S (suc i) s = max (highest S i s) (S.get s i).number

-- one record's answer
pub record Said : Type 0 where
  pub number : ℕ
  pub answer : Answer

-- "how many records got each of 10 to 14"
unfoldable pub count : ℕ → List Said → ℕ
count q l = count_by (λ x. eqb (code_of x.answer) q) l

unfoldable pub counts_of : List Said → Counts
counts_of l = record { taken = count 10 l; old = count 11 l; far = count 12 l; repeated = count 13 l; differing = count 14 l }

-- of no records
abbrev pub no_counts : Counts
no_counts = record { taken = 0; old = 0; far = 0; repeated = 0; differing = 0 }

-- "The packet's answer tells how many records got each of 10 to 14, the next number, how many messages were applied (the growth of next),
-- the highest number on the shelf (0 if none), and the stop"
pub record Told : Type 0 where
  pub counts : Counts
  pub next_number : ℕ
  pub applied : ℕ
  pub top : ℕ
  pub stopped : ℕ

-- the records of a packet, none of a refused one
abbrev pub records_of : {Q : Type 0} → Frames Q → List Rec
records_of (bad q) = []
records_of (records cs) = cs

-- the accepted records of packets, in their order
unfoldable pub accepted : {Q : Type 0} → (List ℕ → Frames Q) → List (List ℕ) → List Rec
accepted frame [] = []
accepted frame (p ∷ ps) = records_of (frame p) ++ accepted frame ps

module _ (S : Store) (E : Engine) where
  abbrev pub State : Type 0
  State = Rx S.Shelf E.Book

  -- "message n goes in slot n mod 64"
  abbrev pub slot_of : State → ℕ → Slot
  slot_of r n = S.get r.shelf (n % 64)

  -- "A slot for next that holds another number or no good body stops with 27"
  unfoldable pub try : State → Try E.Book
  try r =
      let s : Slot = slot_of r r.next in
      pick (eqb s.number 0) nothing
      (pick (eqb s.number r.next)
      (pick (good_slot E s) (of_applied (E.apply r.next (slot_body s) r.book)) (stuck 27))
      (stuck 27))

  -- "the stop: 0 if next's slot is empty or its message breaks no rule, else the rule that its message breaks"
  unfoldable pub stop : State → ℕ
  stop r = elim (try r) [ nothing ↦ 0 | stuck q ↦ q | goes b ↦ 0 ]

  -- "it is applied, its slot zeroed and next raised by one"
  abbrev pub turned : State → E.Book → State
  turned r b = record { next = r.next + 1; shelf = S.put r.shelf (r.next % 64) empty_slot; book = b }

  -- "while the slot for next holds next and its message applies", so many times at most
  unfoldable pub drain : ℕ → State → State
  drain zero r = r
  drain (suc f) r = elim (try r) [ nothing ↦ r | stuck q ↦ r | goes b ↦ drain f (turned r b) ]

  -- "it is shelved"
  abbrev pub shelved : Rec → State → State
  shelved c r = record { next = r.next; shelf = S.put r.shelf (c.number % 64) (slot_for c.number c.body); book = r.book }

  -- old and too far are judged against next as it stands at this record
  abbrev pub judged : Rec → State → Answer
  judged c r = judge r.next (slot_of r c.number) c

  -- "After each taken record" messages are worked, after no other; 64 turns are enough (proofs/Settled.antt)
  abbrev pub acted : Answer → Rec → State → State
  acted taken c r = drain 64 (shelved c r)
  acted old c r = r
  acted too_far c r = r
  acted repeated c r = r
  acted differing c r = r

  unfoldable pub after : Rec → State → State
  after c r = acted (judged c r) c r

  -- "A good packet is worked record by record"
  unfoldable pub run : List Rec → State → State
  run [] r = r
  run (c ∷ cs) r = run cs (after c r)

  -- the records' answers, in order
  unfoldable pub said : List Rec → State → List Said
  said [] r = []
  said (c ∷ cs) r = record { number = c.number; answer = judged c r } ∷ said cs (after c r)

  -- the answer to an accepted packet
  unfoldable pub told : List Rec → State → Told
  told cs r =
      let end : State = run cs r in
      record {
        counts = counts_of (said cs r);
        next_number = end.next;
        applied = end.next - r.next;
        top = highest S 64 end.shelf;
        stopped = stop end;
      }

  -- a packet: "tables, output and state keep every byte"
  unfoldable pub worked : {Q : Type 0} → Frames Q → State → State
  worked (bad q) r = r
  worked (records cs) r = run cs r

  -- packets, one after another
  unfoldable pub worked_all : {Q : Type 0} → (List ℕ → Frames Q) → List (List ℕ) → State → State
  worked_all frame [] r = r
  worked_all frame (p ∷ ps) r = worked_all frame ps (worked (frame p) r)
