-- What a receiver is made of: a book with its rules, and a place for 64 slots; and the laws that the theory asks of each.
use Rattle.std.specs.Prelude.{ℕ, ◌≤◌, ◌<◌, ◌≡◌, ◌≢◌, Bool, true, List, length}
use Rattle.arbitration.specs.Slots.{Slot, Fits}

-- what applying a message gives: the book it makes, or the rule that it breaks ("the first broken one counts")
pub data Applied (Book : Type 0) : Type 0 where
  ok : Book → Applied Book
  broke : ℕ → Applied Book

-- the tables and what is kept by value, what a message (its number, its body) does to them, and which bodies are good
pub record Engine : Type 1 where
  pub Book : Type 0
  pub apply : ℕ → List ℕ → Book → Applied Book
  pub good : List ℕ → Bool

-- 64 slots, kept somehow; Ok tells a shelf of the right size
pub record Store : Type 1 where
  pub Shelf : Type 0
  pub Ok : Shelf → Type 0
  pub get : Shelf → ℕ → Slot
  pub put : Shelf → ℕ → Slot → Shelf

-- ---- what they owe
pub record EngineLaws (E : Engine) : Type 0 where
  pub good_fits : (b : List ℕ) → E.good b ≡ true → length b ≤ 64
  pub rule_pos : (n : ℕ) (b : List ℕ) (k : E.Book) (q : ℕ) → E.apply n b k ≡ broke q → 1 ≤ q

pub record StoreLaws (S : Store) : Type 0 where
  pub ok_put : (s : S.Shelf) (i : ℕ) (x : Slot) → S.Ok s → i < 64 → Fits x → S.Ok (S.put s i x)
  pub get_same : (s : S.Shelf) (i : ℕ) (x : Slot) → S.Ok s → i < 64 → Fits x → S.get (S.put s i x) i ≡ x
  pub get_other : (s : S.Shelf) (i j : ℕ) (x : Slot) → S.Ok s → i < 64 → j < 64 → j ≢ i → Fits x → S.get (S.put s i x) j ≡ S.get s j

pub record Laws (S : Store) (E : Engine) : Type 0 where
  pub store : StoreLaws S
  pub engine : EngineLaws E
