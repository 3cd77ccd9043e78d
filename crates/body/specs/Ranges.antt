-- The field ranges of document 01, "Message bodies": "Field ranges: ..". Flags have none: "the field range for flags is struck out" (request 2). Timestamps have that of request 6, and byte 20 of a
-- Symbol Update that of its edition (request 10).
use Rattle.std.specs.Prelude.{ℕ, Bool, true, false, List, [], ◌∷◌, eqb, leb}
use Rattle.facts.specs.Limits.{most_price, most_nanos}
use Rattle.facts.specs.Pick.{both, either}
use Rattle.editions.specs.declared.Edition.{Edition}

-- one of the listed bytes
unfoldable pub one_of : ℕ → List ℕ → Bool
one_of x [] = false
one_of x (y ∷ ys) = either (eqb x y) (one_of x ys)

-- "Nanoseconds of a second .. The largest good value is 999,999,999" (request 6)
unfoldable pub nanos_ok : ℕ → Bool
nanos_ok n = leb n most_nanos

-- "side `B` or `S`"
unfoldable pub side_ok : ℕ → Bool
side_ok x = one_of x (66 ∷ 83 ∷ [])

-- "price (millionths of a dollar) 1 to 1,000,000,000,000,000"
unfoldable pub price_ok : ℕ → Bool
price_ok n = both (leb 1 n) (leb n most_price)

-- "sizes, the executed size included, 1 or more"
unfoldable pub size_ok : ℕ → Bool
size_ok n = leb 1 n

-- "version 1.3, where byte 20 of a Symbol Update is Security Type, `E` or `F`; from 1.3.a it is reserved" (request 10), and "Nothing else is judged: not .. reserved bytes". All in which the editions judge differently; what
-- they show is `security_in` (Shown)
unfoldable pub security_ok : Edition → ℕ → Bool
security_ok Edition.V13 x = one_of x (69 ∷ 70 ∷ [])
security_ok Edition.V13b x = true

-- "test indicator `Y` or `N`"
unfoldable pub test_ok : ℕ → Bool
test_ok x = one_of x (89 ∷ 78 ∷ [])

-- "market one of A B C H I J K L M N P Q U V W X Y Z"
unfoldable pub market_ok : ℕ → Bool
market_ok x =
    one_of x (65 ∷ 66 ∷ 67 ∷ 72 ∷ 73 ∷ 74 ∷ 75 ∷ 76 ∷ 77 ∷ 78 ∷ 80 ∷ 81 ∷ 85 ∷ 86 ∷ 87 ∷ 88 ∷ 89 ∷ 90 ∷ [])
