-- The words of a line (docs/TEXT.md, "Lines").
use Rattle.std.specs.Prelude.{ℕ, suc, Bool, true, false, not, ◌||◌, List, [], ◌∷◌, length, get_or, eqb, leb, ◌==◌, if◌then◌else◌, Option, Some, None}
use Rattle.std.specs.List.{position_or_len}
use Rattle.facts.specs.Pick.{pick}

-- "A line has at most 4,096 bytes"
abbrev pub line_most : ℕ
line_most = 4096

-- "Spaces (32), tabs (9) and carriage returns (13) are blanks"
unfoldable pub blank : ℕ → Bool
blank x = (x == 32) || ((x == 9) || (x == 13))

-- how many bytes in front are blanks, and how many are none
abbrev pub blanks : List ℕ → ℕ
blanks s = position_or_len (λ x. not (blank x)) s

abbrev pub filled : List ℕ → ℕ
filled s = position_or_len blank s

-- a word, and the place of its first byte in the line
pub record Word : Type 0 where
  pub at : ℕ
  pub bytes : List ℕ

abbrev pub word : ℕ → List ℕ → Word
word i s = record { at = i; bytes = s }

-- whether a word begins with the first byte
unfoldable pub opens : List ℕ → Bool
opens [] = false
opens (x ∷ s) = pick (blank x) false true

-- the byte x, at place i, in front of the first word, which begins right behind it
unfoldable pub grown : ℕ → ℕ → List Word → List Word
grown i x [] = word i (x ∷ []) ∷ []
grown i x (w ∷ ws) = word i (x ∷ w.bytes) ∷ ws

-- "what stands between blanks is a word": the words of s, whose first byte is at place i of the line
unfoldable pub words_at : ℕ → List ℕ → List Word
words_at i [] = []
words_at i (x ∷ s) = pick (blank x) (words_at (suc i) s) (pick (opens s) (grown i x (words_at (suc i) s)) (word i (x ∷ []) ∷ words_at (suc i) s))

-- the words of a line, unless it is too long
abbrev pub opened : List ℕ → Option (List Word)
opened s = if leb (length s) line_most then Some (words_at 0 s) else None

-- "A word that begins with `#` (35) begins a comment"
unfoldable pub is_note : Word → Bool
is_note w = eqb (get_or w.bytes 0 0) 35

-- whether the first of the words begins a comment
unfoldable pub noted : List Word → Bool
noted [] = false
noted (w ∷ ws) = is_note w

-- ".. which goes to the end of the line"
unfoldable pub uncommented : List Word → List Word
uncommented [] = []
uncommented (w ∷ ws) = pick (is_note w) [] (w ∷ uncommented ws)

-- how many bytes stand before the first x, all of them where there is none
abbrev pub place_of : ℕ → List ℕ → ℕ
place_of x s = position_or_len (λ y. y == x) s
