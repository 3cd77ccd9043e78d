-- Second copies where each body of the one receiver is given to the other as f of it: what the slots of both hold, and what each answers. A function cannot part what is the same,
-- so that a repeat (13) stays one; it can make two bodies the same, and then a differing copy (14) becomes a repeat.
use Rattle.std.specs.Prelude.{ℕ, ◌≤◌, ◌<◌, ◌≡◌, ◌≢◌, true, List, [], ◌∷◌, map, length, get_or, Result, Ok}
use Rattle.wire.specs.Records.{Rec, rec}
use Rattle.arbitration.specs.Slots.{Slot, slot_for}
use Rattle.arbitration.specs.Engine.{Engine, Store}
use Rattle.arbitration.specs.Receive.{Answer, repeated, differing, Said, counts_of, State, slot_of, after}
use Rattle.arbitration.specs.Meaning.{Close, CountsAlike}
use Rattle.arbitration.specs.declared.Counts.{Counts}
use Rattle.packet.specs.declared.Why.{Why}
use Rattle.receiver.specs.declared.Account.{Account}
use Rattle.retype.specs.Retyped.{is_update}
use Rattle.mornings.specs.Alongside.{Refusing}

-- ---- what they are given
-- a record of the other receiver: its number as it is, its body by f
abbrev pub rec_by : (List ℕ → List ℕ) → Rec → Rec
rec_by f c = rec c.number (f c.body)

abbrev pub recs_by : (List ℕ → List ℕ) → List Rec → List Rec
recs_by f cs = map (rec_by f) cs

-- what fits a slot still fits it
abbrev pub StaysShort : (List ℕ → List ℕ) → Type 0
StaysShort f = (b : List ℕ) → length b ≤ 64 → length (f b) ≤ 64

-- ---- where they stand
-- two slots: both are empty, or they hold one number, with a body and f of it
pub data SlotTo (f : List ℕ → List ℕ) (s t : Slot) : Type 0 where
  both_empty : s.number ≡ 0 → t.number ≡ 0 → SlotTo f s t
  both_hold : (n : ℕ) (b : List ℕ) → 1 ≤ n → length b ≤ 64 → s ≡ slot_for n b → t ≡ slot_for n (f b) → SlotTo f s t

-- so all slots of two shelves
abbrev pub Kept : (f : List ℕ → List ℕ) (S : Store) → S.Shelf → S.Shelf → Type 0
Kept f S s t = (i : ℕ) → i < 64 → SlotTo f (S.get s i) (S.get t i)

-- receivers that are close, with such shelves
pub record Firm (f : List ℕ → List ℕ) (S : Store) (E F : Engine) (R : E.Book → F.Book → Type 0) (r : State S E) (q : State S F) : Type 0 where
  pub near : Close S E F R r q
  pub kept : Kept f S r.shelf q.shelf

-- ---- what they answer
-- the body of the first copy of a record, which waits in its slot s: another body, which f makes the same
pub record Merged (f : List ℕ → List ℕ) (s : Slot) (c : Rec) : Type 0 where
  pub first : List ℕ
  pub first_short : length first ≤ 64
  pub waits : s ≡ slot_for c.number first
  pub other : first ≢ c.body
  pub made_same : f first ≡ f c.body

-- to the record c, whose slot in the one receiver is s, and to what it is by f: the same, or 14 before and 13 after where f made it the same as the first copy
pub data AnswerTo (f : List ℕ → List ℕ) (s : Slot) (c : Rec) : Answer → Answer → Type 0 where
  as_before : (a : Answer) → AnswerTo f s c a a
  now_repeats : Merged f s c → AnswerTo f s c differing repeated

-- record by record, each with its slot in the one receiver, r, as it then stands
pub data SaidTo (f : List ℕ → List ℕ) (S : Store) (E : Engine) : State S E → List Rec → List Said → List Said → Type 0 where
  nothing_said : (r : State S E) → SaidTo f S E r [] [] []
  said_next : (r : State S E) (c : Rec) {a b : Answer} {cs : List Rec} {l m : List Said} → AnswerTo f (slot_of S E r c.number) c a b → SaidTo f S E (after S E c r) cs l m
      → SaidTo f S E r (c ∷ cs) (record { number = c.number; answer = a } ∷ l) (record { number = c.number; answer = b } ∷ m)

-- so many taken, old and too far, so many second copies, and of them no fewer repeats
pub record CountsTo (c d : Counts) : Type 0 where
  pub alike : CountsAlike c d
  pub repeats_stay : c.repeated ≤ d.repeated

-- among these records is one that only f makes the same as its first copy, which waits in its slot as the record comes
pub data SomeMerged (f : List ℕ → List ℕ) (S : Store) (E : Engine) : State S E → List Rec → Type 0 where
  this_one : (r : State S E) (c : Rec) {cs : List Rec} → Merged f (slot_of S E r c.number) c → SomeMerged f S E r (c ∷ cs)
  one_behind : (r : State S E) (c : Rec) {cs : List Rec} → SomeMerged f S E (after S E c r) cs → SomeMerged f S E r (c ∷ cs)

-- the accounts of two packets, of the records cs and of what they are by f: each counts its answers
pub record AccountTo (f : List ℕ → List ℕ) (S : Store) (E : Engine) (r : State S E) (cs : List Rec) (x y : Account) : Type 0 where
  pub before : List Said
  pub converted : List Said
  pub counts_before : x.counts ≡ counts_of before
  pub counts_converted : y.counts ≡ counts_of converted
  pub answers : SaidTo f S E r cs before converted

-- both accept, or both refuse, by whichever numbers
pub data ReceivedTo (f : List ℕ → List ℕ) (S : Store) (E : Engine) (r : State S E) (cs : List Rec) : Result Account Why → Result Account Why → Type 0 where
  accepted_to : {x y : Account} → AccountTo f S E r cs x y → ReceivedTo f S E r cs (Ok x) (Ok y)
  refused_to : {u v : Result Account Why} → Refusing u → Refusing v → ReceivedTo f S E r cs u v

-- ---- where f writes byte 20 of Symbol Updates anew
-- two Symbol Updates of the same length that differ in byte 20, and in no other
pub record DifferIn20 (b c : List ℕ) : Type 0 where
  pub update : is_update b ≡ true
  pub update' : is_update c ≡ true
  pub length_same : length c ≡ length b
  pub but_for_20 : (k : ℕ) → k ≢ 20 → get_or c k 0 ≡ get_or b k 0
  pub byte_20 : get_or b 20 0 ≢ get_or c 20 0
