-- A run of fields, back to back: one description, from which reading (cut) and writing (joined) both come.
use Rattle.std.specs.Prelude.{ℕ, ◌+◌, ◌^◌, ◌<◌, ◌≡◌, List, [], ◌∷◌, ◌++◌, length, get_or}
use Rattle.wire.specs.Le.{to_le, field, padded}

-- a field: one byte, a number of w bytes, or w bytes as they are
pub data Shape : Type 0 where
  byte : Shape
  number : ℕ → Shape
  text : ℕ → Shape

abbrev pub width : Shape → ℕ
width byte = 1
width (number w) = w
width (text w) = w

abbrev pub total : List Shape → ℕ
total [] = 0
total (s ∷ ss) = width s + total ss

-- what a field holds
abbrev pub Value : Shape → Type 0
Value byte = ℕ
Value (number w) = ℕ
Value (text w) = List ℕ

abbrev pub Values : List Shape → Type 0
Values [] = Unit {0}
Values (s ∷ ss) = Value s × Values ss

-- a value that its field can hold
abbrev pub Fits : (s : Shape) → Value s → Type 0
Fits byte v = v < 256
Fits (number w) v = v < 256 ^ w
Fits (text w) v = length v ≡ w

abbrev pub AllFit : (ss : List Shape) → Values ss → Type 0
AllFit [] vs = Unit {0}
AllFit (s ∷ ss) vs = Fits s vs.0 × AllFit ss vs.1

-- reading: the field at a place of any bytes, and all fields from there on
abbrev pub value_at : (s : Shape) → List ℕ → ℕ → Value s
value_at byte b at = get_or b at 0
value_at (number w) b at = field b at w
value_at (text w) b at = padded b at w

abbrev pub cut : (ss : List Shape) → List ℕ → ℕ → Values ss
cut [] b at = tt
cut (s ∷ ss) b at = (value_at s b at, cut ss b (at + width s))

-- writing: the bytes of a field, and of all fields
abbrev pub bytes_of : (s : Shape) → Value s → List ℕ
bytes_of byte v = v ∷ []
bytes_of (number w) v = to_le w v
bytes_of (text w) v = v

unfoldable pub joined : (ss : List Shape) → Values ss → List ℕ
joined [] vs = []
joined (s ∷ ss) vs = bytes_of s vs.0 ++ joined ss vs.1
