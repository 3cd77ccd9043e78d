-- A sheet as lines (document 01: "The sheet is key=value lines in a fixed order, each ended by one line feed").
use Rattle.std.specs.Prelude.{ℕ, List, [], ◌∷◌, map, eqb, Option, None}
use Rattle.facts.specs.Pick.{pick}
use Rattle.facts.specs.Pieces.{join}
use Rattle.views.specs.declared.Side.{Side}
use Rattle.text.specs.Text.{line_of}

-- a price level, known by its symbol, side and price
pub record About : Type 0 where
  pub symbol : ℕ
  pub side : Side
  pub price : ℕ

abbrev pub level : ℕ → Side → ℕ → About
level id side price = record { symbol = id; side = side; price = price }

-- "key=value lines": a key with its equals sign, and its value; and the level that a line tells of, where it is a level's
pub record Line : Type 0 where
  pub key : List ℕ
  pub value : List ℕ
  pub about : Option About

-- a line that is no level's
unfoldable pub plain : List ℕ → List ℕ → Line
plain k v = record { key = k; value = v; about = None }

-- "each ended by one line feed"
unfoldable pub line_text : Line → List ℕ
line_text l = line_of l.key l.value

-- lines, one behind the other
unfoldable pub text_of : List Line → List ℕ
text_of ls = join (map line_text ls)

-- a byte in front of the first of some pieces of text
unfoldable pub push_first : ℕ → List (List ℕ) → List (List ℕ)
push_first x [] = (x ∷ []) ∷ []
push_first x (t ∷ ts) = (x ∷ t) ∷ ts

-- a text cut behind each line feed: what a reader of the text takes for its lines
unfoldable pub cut_feeds : List ℕ → List (List ℕ)
cut_feeds [] = []
cut_feeds (x ∷ t) = pick (eqb x 10) ((10 ∷ []) ∷ cut_feeds t) (push_first x (cut_feeds t))
