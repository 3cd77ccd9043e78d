-- Bodies that mean the same to two books, though their bytes differ, and receivers that differ in nothing else. E and F are the engines of the two, or one engine twice, and
-- R tells which books of theirs are alike. (`Sim` of Same is of two engines that read the same bytes.)
use Rattle.std.specs.Prelude.{ℕ, ◌+◌, ◌≤◌, ◌<◌, ◌≡◌, true, List, [], ◌∷◌, length}
use Rattle.wire.specs.Records.{Rec}
use Rattle.arbitration.specs.Slots.{Slot, slot_body}
use Rattle.arbitration.specs.Engine.{Engine, Store}
use Rattle.arbitration.specs.Receive.{Answer, repeated, differing, Said, Told, good_slot, highest, State, stop}
use Rattle.arbitration.specs.Lists.{msg}
use Rattle.arbitration.specs.Same.{Alike}
use Rattle.arbitration.specs.declared.Counts.{Counts}

-- ---- messages
-- both are good or neither is, and good ones do to alike books the same, at any number from 1
pub record Means (E F : Engine) (R : E.Book → F.Book → Type 0) (b c : List ℕ) : Type 0 where
  pub as_good : F.good c ≡ E.good b
  pub as_applied : (n : ℕ) (x : E.Book) (y : F.Book) → 1 ≤ n → E.good b ≡ true → R x y → Alike R (E.apply n b x) (F.apply n c y)

-- records, one by one: the same numbers, and bodies that mean the same
pub data Meant (E F : Engine) (R : E.Book → F.Book → Type 0) : List Rec → List Rec → Type 0 where
  none : Meant E F R [] []
  more : (n : ℕ) {b c : List ℕ} {bs cs : List Rec} → Means E F R b c → Meant E F R bs cs → Meant E F R (record { number = n; body = b } ∷ bs) (record { number = n; body = c } ∷ cs)

-- of one engine, books are alike that are the same
abbrev pub SameBook : (E : Engine) → E.Book → E.Book → Type 0
SameBook E x y = x ≡ y

-- a copy from a list that means what the list's message means, true or not
pub record Faithful (E : Engine) (ms : List (List ℕ)) (c : Rec) : Type 0 where
  pub in_list : c.number ≤ length ms
  pub means : Means E E (SameBook E) (msg ms c.number) c.body

-- ---- receivers
-- two slots: both are empty, or they have the same number and bodies that mean the same
pub record SlotMeans (E F : Engine) (R : E.Book → F.Book → Type 0) (s t : Slot) : Type 0 where
  pub number_same : t.number ≡ s.number
  pub as_good : 1 ≤ s.number → good_slot F t ≡ good_slot E s
  pub as_applied : (x : E.Book) (y : F.Book) → 1 ≤ s.number → good_slot E s ≡ true → R x y → Alike R (E.apply s.number (slot_body s) x) (F.apply s.number (slot_body t) y)

-- two receivers with the same next and alike books, slot by slot with messages that mean the same
pub data Close (S : Store) (E F : Engine) (R : E.Book → F.Book → Type 0) : State S E → State S F → Type 0 where
  close : (n : ℕ) {x : E.Book} {y : F.Book} {s t : S.Shelf} → R x y → S.Ok s → S.Ok t → ((i : ℕ) → i < 64 → SlotMeans E F R (S.get s i) (S.get t i))
      → Close S E F R (record { next = n; shelf = s; book = x }) (record { next = n; shelf = t; book = y })

-- what they agree in, whatever came
pub record Agrees (S : Store) (E F : Engine) (R : E.Book → F.Book → Type 0) (r : State S E) (q : State S F) : Type 0 where
  pub next_same : q.next ≡ r.next
  pub books_alike : R r.book q.book
  pub stop_same : stop S F q ≡ stop S E r
  pub top_same : highest S 64 q.shelf ≡ highest S 64 r.shelf

-- ---- answers
-- of two second copies the one may have its first copy's bytes where the other has not; all else is answered the same
pub data AnswerAlike : Answer → Answer → Type 0 where
  same_answer : (a : Answer) → AnswerAlike a a
  repeat_differs : AnswerAlike repeated differing
  differs_repeat : AnswerAlike differing repeated

-- record by record, of the same numbers
pub data SaidAlike : List Said → List Said → Type 0 where
  none_said : SaidAlike [] []
  more_said : (n : ℕ) {a b : Answer} {l m : List Said} → AnswerAlike a b → SaidAlike l m → SaidAlike (record { number = n; answer = a } ∷ l) (record { number = n; answer = b } ∷ m)

-- so many taken, old and too far, and so many second copies
pub record CountsAlike (c d : Counts) : Type 0 where
  pub taken_same : d.taken ≡ c.taken
  pub old_same : d.old ≡ c.old
  pub far_same : d.far ≡ c.far
  pub seconds_same : d.repeated + d.differing ≡ c.repeated + c.differing

-- the answers to two packets
pub record ToldAlike (t u : Told) : Type 0 where
  pub counts_alike : CountsAlike t.counts u.counts
  pub next_same : u.next_number ≡ t.next_number
  pub applied_same : u.applied ≡ t.applied
  pub top_same : u.top ≡ t.top
  pub stopped_same : u.stopped ≡ t.stopped
