-- The words of demand 3 (document 00): lists of messages, true copies of them, what a list makes, and what was answered. The demand itself, of a start and
-- any number of calls of `receive`, is receiver/specs/Demand3.antt.
use Rattle.std.specs.Prelude.{ℕ, zero, suc, ◌+◌, ◌-◌, ◌≤◌, ◌<◌, ◌≡◌, Bool, true, List, [], ◌∷◌, length, get_or}
use Rattle.facts.specs.Limits.{last_number}
use Rattle.wire.specs.Le.{Bytes}
use Rattle.wire.specs.Records.{Rec}
use Rattle.arbitration.specs.Engine.{Applied, ok, broke, Engine, Store}
use Rattle.arbitration.specs.Receive.{Answer, taken, old, repeated, Said, State, said}

-- every element of a list
abbrev pub Every : {A : Type 0} → (A → Type 0) → List A → Type 0
Every P [] = Unit {0}
Every P (x ∷ xs) = P x × Every P xs

-- message n of a list, "numbered from 1"
abbrev pub msg : List (List ℕ) → ℕ → List ℕ
msg ms n = get_or ms (n - 1) []

-- "any list of well-formed messages"
abbrev pub WellFormed : (List ℕ → Bool) → List (List ℕ) → Type 0
WellFormed good ms = (i : ℕ) → i < length ms → good (get_or ms i []) ≡ true

-- "true copies from that list": a number of the list, with exactly that message's bytes (the numbers of accepted records start at 1)
pub record TrueCopy (ms : List (List ℕ)) (c : Rec) : Type 0 where
  pub in_list : c.number ≤ length ms
  pub same : c.body ≡ msg ms c.number

-- "lost, repeated or shuffled at will": nothing is asked of their order or number
abbrev pub Copies : List (List ℕ) → List Rec → Type 0
Copies ms cs = Every (TrueCopy ms) cs

-- "Sequence numbers run from 1 to 1,000,000,000,000"
pub record Numbered (c : Rec) : Type 0 where
  pub number_from : 1 ≤ c.number
  pub number_to : c.number ≤ last_number

-- a record that fits a slot, its number at most the last
pub record Bounded (c : Rec) : Type 0 where
  pub number_to : c.number ≤ last_number
  pub short : length c.body ≤ 64

-- a record as packets bring it: they hold bytes
pub record Sent (c : Rec) : Type 0 where
  pub bounded : Bounded c
  pub bytes : Bytes c.body

-- a true copy that came in an accepted packet
abbrev pub Copy : List (List ℕ) → Rec → Type 0
Copy ms c = Numbered c × TrueCopy ms c

-- "answered as taken, repeated or old"
pub data Arrived : Answer → Type 0 where
  by_taken : Arrived taken
  by_old : Arrived old
  by_repeated : Arrived repeated

-- the number n is among these answers, so answered
pub data Among (n : ℕ) : List Said → Type 0 where
  here : {x : Said} {l : List Said} → x.number ≡ n → Arrived x.answer → Among n (x ∷ l)
  later : {x : Said} {l : List Said} → Among n l → Among n (x ∷ l)

-- the book made by messages s + 1 to s + k of a list, from the book b; with s = 0 and the start's book, "those made by the list's first k messages"
unfoldable pub made : (E : Engine) → List (List ℕ) → ℕ → E.Book → ℕ → Applied E.Book
made E ms s b zero = ok b
made E ms s b (suc k) = elim (made E ms s b k) [ ok x ↦ E.apply (s + suc k) (msg ms (s + suc k)) x | broke q ↦ broke q ]

module _ (S : Store) (E : Engine) where
  -- "A start zeroes all three, the second included, and sets the next number to 1"
  pub record Zeroed (b0 : E.Book) (r : State S E) : Type 0 where
    pub ok_shelf : S.Ok r.shelf
    pub next_1 : r.next ≡ 1
    pub book_start : r.book ≡ b0
    pub shelf_empty : (i : ℕ) → i < 64 → (S.get r.shelf i).number ≡ 0

  -- the number n was answered as taken, repeated or old in a run of records
  abbrev pub Answered : ℕ → List Rec → State S E → Type 0
  Answered n cs r = Among n (said S E cs r)
