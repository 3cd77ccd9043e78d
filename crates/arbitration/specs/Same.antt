-- Two engines side by side (request 9: "Both give the same answers and the same tables on every run"): books that are related, and that every message which
-- a run applies leaves related. (Requests 11 and 12 do not fit this: a book with a tape breaks rules where one without applies.)
use Rattle.std.specs.Prelude.{ℕ, ◌≤◌, ◌≡◌, true, List, [], ◌∷◌}
use Rattle.arbitration.specs.Engine.{Applied, ok, broke, Engine, Store}
use Rattle.wire.specs.Records.{Rec}
use Rattle.arbitration.specs.Receive.{State}
use Rattle.arbitration.specs.Refresh.{Event, came, renewed}

-- both apply, to related books, or both break the same rule
pub data Alike {A B : Type 0} (R : A → B → Type 0) : Applied A → Applied B → Type 0 where
  both_ok : {a : A} {b : B} → R a b → Alike R (ok a) (ok b)
  both_broke : (q : ℕ) → Alike R (broke q) (broke q)

-- its law is asked for messages that a run applies: numbered from 1, and good
pub record Sim (E F : Engine) : Type 1 where
  pub R : E.Book → F.Book → Type 0
  pub good_same : (b : List ℕ) → F.good b ≡ E.good b
  pub step : (n : ℕ) (b : List ℕ) (x : E.Book) (y : F.Book) → 1 ≤ n → E.good b ≡ true → R x y → Alike R (E.apply n b x) (F.apply n b y)

-- two receivers with the same next, the same shelf and related books
pub data Twin (S : Store) (E F : Engine) (M : Sim E F) : State S E → State S F → Type 0 where
  twin : (n : ℕ) (s : S.Shelf) {x : E.Book} {y : F.Book} → M.R x y → Twin S E F M (record { next = n; shelf = s; book = x }) (record { next = n; shelf = s; book = y })

-- the same records, and refreshes at the same numbers with related books ("refreshes included")
pub data Twins (S : Store) (E F : Engine) (M : Sim E F) : List (Event S E) → List (Event S F) → Type 0 where
  end : Twins S E F M [] []
  same : (c : Rec) {es : List (Event S E)} {fs : List (Event S F)} → Twins S E F M es fs → Twins S E F M (came c ∷ es) (came c ∷ fs)
  anew : (s : ℕ) {x : E.Book} {y : F.Book} {es : List (Event S E)} {fs : List (Event S F)} → M.R x y → Twins S E F M es fs → Twins S E F M (renewed s x ∷ es) (renewed s y ∷ fs)
