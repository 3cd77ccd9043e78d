-- Numbers as the feed writes them (document 01: "All numbers are unsigned and little-endian, as the BinaryU type is").
use Rattle.std.specs.Prelude.{ℕ, zero, suc, ◌+◌, ◌*◌, ◌/◌, ◌%◌, ◌<◌, List, [], ◌∷◌, ◌++◌, take, drop, replicate, get_or}

-- the number that a run of bytes is, the low byte first
unfoldable pub le : List ℕ → ℕ
le [] = 0
le (x ∷ xs) = x + 256 * le xs

-- a number in w bytes, the low byte first; what does not fit is left out
unfoldable pub to_le : ℕ → ℕ → List ℕ
to_le zero n = []
to_le (suc w) n = n % 256 ∷ to_le w (n / 256)

-- the number in the w bytes of b that start at `at`
unfoldable pub field : List ℕ → ℕ → ℕ → ℕ
field b at w = le (take w (drop at b))

-- the n bytes of b that start at `at`, with zeros for those past the end
unfoldable pub padded : List ℕ → ℕ → ℕ → List ℕ
padded b at n = take n (drop at b ++ replicate n 0)

-- every element is a byte, as in any lent slice of bytes
abbrev pub Bytes : List ℕ → Type 0
Bytes b = (i : ℕ) → get_or b i 0 < 256
