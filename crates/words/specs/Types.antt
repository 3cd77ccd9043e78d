-- What the word behind `--type` asks for (docs/CONVERT.md, "The command").
use Rattle.std.specs.Prelude.{ℕ, ◌+◌, ◌-◌, ◌*◌, Bool, true, List, [], ◌∷◌, ◌++◌, length, take, get_or, replicate, eqb, leb, Option, Some, None}
use Rattle.facts.specs.Pick.{pick, both}
use Rattle.wire.specs.Le.{to_le}
use Rattle.words.specs.declared.TypeWord.{TypeWord}

-- "bytes from 33 to 126", and "digits alone", from 48 to 57: each byte is one from lo to hi
unfoldable pub all_from : ℕ → ℕ → List ℕ → Bool
all_from lo hi [] = true
all_from lo hi (x ∷ s) = both (both (leb lo x) (leb x hi)) (all_from lo hi s)

-- "A name of digits alone is a symbol ID": the number that digits say in decimal, behind those that say n; 48 is `0`
unfoldable pub decimal_from : ℕ → List ℕ → ℕ
decimal_from n [] = n
decimal_from n (x ∷ s) = decimal_from (10 * n + (x - 48)) s

-- "a symbol ID, from 0 to 4294967295"
abbrev pub most_id : ℕ
most_id = 4294967295

-- "A name of digits alone is a symbol ID", as crates/retype/specs/Types.antt has the 13 bytes: 0, the ID in four bytes, seven zeros, and the type
unfoldable pub by_id : ℕ → ℕ → List ℕ
by_id n t = 0 ∷ (to_le 4 n ++ (replicate 7 0 ++ (t ∷ [])))

-- "any other is a ticker .., with spaces behind it in the recording": 1, the name with spaces (32) up to eleven bytes, and the type
unfoldable pub by_ticker : List ℕ → ℕ → List ℕ
by_ticker name t = 1 ∷ (name ++ (replicate (11 - length name) 32 ++ (t ∷ [])))

-- "a symbol ID, from 0 to 4294967295": a larger number is a wrong word, of however many digits
unfoldable pub id_asked : ℕ → ℕ → Option TypeWord
id_asked n t = pick (leb n most_id) (Some (TypeWord.Exception (by_id n t))) None

-- "A name has 1 to 11 bytes from 33 to 126. A name of digits alone is a symbol ID ..; any other is a ticker"; a name has a byte or more, by `type_asked`
unfoldable pub exception_asked : List ℕ → ℕ → Option TypeWord
exception_asked name t =
    pick (all_from 48 57 name) (id_asked (decimal_from 0 name) t)
    (pick (both (leb (length name) 11) (all_from 33 126 name)) (Some (TypeWord.Exception (by_ticker name t))) None)

-- "`--type` with a letter is the type of all symbols ..; `--type` with a name, `=` and a letter is an exception", and "A name has 1 to 11 bytes" (61 is `=`); whether the letter is one of the edition's, others judge
unfoldable pub type_asked : List ℕ → Option TypeWord
type_asked w =
    pick (eqb (length w) 1) (Some (TypeWord.All (get_or w 0 0)))
    (pick (both (both (leb 3 (length w)) (leb (length w) 13)) (eqb (get_or w (length w - 2) 0) 61))
    (exception_asked (take (length w - 2) w) (get_or w (length w - 1) 0))
    None)
