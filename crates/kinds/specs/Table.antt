-- The eleven messages (document 01, "The types and lengths of all eleven messages stand in one table"; document 003, section 4).
use Rattle.std.specs.Prelude.{ℕ, List, [], ◌∷◌, eqb}
use Rattle.facts.specs.Pick.{pick}
use Rattle.kinds.specs.declared.Kind.{Kind}
use Rattle.kinds.specs.declared.Pair.{Pair}

abbrev pub pair : ℕ → ℕ → Pair
pair t n = record { code = t; len = n }

-- type and length, message by message: 4.1 to 4.11
unfoldable pub table : List Pair
table =
    pair 49 5 ∷ pair 1 42 ∷ pair 83 15 ∷ pair 4 12 ∷ pair 5 9 ∷ pair 20 34 ∷ pair 21 30 ∷ pair 23 17 ∷ pair 24 38 ∷ pair 10 31 ∷ pair 11 30 ∷ []

-- the length that a table gives a type, 0 where it has no such type
unfoldable pub lookup : ℕ → List Pair → ℕ
lookup t [] = 0
lookup t (m ∷ rest) = pick (eqb t m.code) m.len (lookup t rest)

unfoldable pub length_of : ℕ → ℕ
length_of t = lookup t table

-- "The type byte decides the message"
unfoldable pub kind_of : ℕ → Kind
kind_of t =
    pick (eqb t 49) Kind.SystemTime
    (pick (eqb t 1) Kind.SymbolUpdate
    (pick (eqb t 83) Kind.SystemState
    (pick (eqb t 4) Kind.TradingStatus
    (pick (eqb t 5) Kind.SymbolClear
    (pick (eqb t 20) Kind.Add
    (pick (eqb t 21) Kind.Modify
    (pick (eqb t 23) Kind.Delete
    (pick (eqb t 24) Kind.Execution
    (pick (eqb t 10) Kind.Trade
    (pick (eqb t 11) Kind.TradeCancel Kind.Unknown))))))))))

-- the type byte of a kind; 0 is no message's
abbrev pub type_of : Kind → ℕ
type_of Kind.SystemTime = 49
type_of Kind.SymbolUpdate = 1
type_of Kind.SystemState = 83
type_of Kind.TradingStatus = 4
type_of Kind.SymbolClear = 5
type_of Kind.Add = 20
type_of Kind.Modify = 21
type_of Kind.Delete = 23
type_of Kind.Execution = 24
type_of Kind.Trade = 10
type_of Kind.TradeCancel = 11
type_of Kind.Unknown = 0

-- the length of a good body of a kind
unfoldable pub kind_length : Kind → ℕ
kind_length k = length_of (type_of k)

-- "giving the message kind or refusal 3": the number of each kind as an answer, 0 for a message
abbrev pub refusal_of : Kind → ℕ
refusal_of k = pick (eqb (type_of k) 0) 3 0
