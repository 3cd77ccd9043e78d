-- How an edition is named (document 02, No. 10: "version 1.3", "from 1.3.a"; document 01: "DoM 1.3.b"), and the words that ask for one: `--edition 1.3`.
use Rattle.std.specs.Prelude.{ℕ, List, [], ◌∷◌, eqb, leb, Option, Some, None}
use Rattle.facts.specs.Pick.{pick, both, either}
use Rattle.facts.specs.Same.{same_bytes}
use Rattle.editions.specs.declared.Edition.{Edition}

-- "1.3"
abbrev pub name13 : List ℕ
name13 = 49 ∷ 46 ∷ 51 ∷ []

-- "1.3.a"
abbrev pub name13a : List ℕ
name13a = 49 ∷ 46 ∷ 51 ∷ 46 ∷ 97 ∷ []

-- "1.3.b"
abbrev pub name13b : List ℕ
name13b = 49 ∷ 46 ∷ 51 ∷ 46 ∷ 98 ∷ []

-- "--edition"
abbrev pub edition_word : List ℕ
edition_word = 45 ∷ 45 ∷ 101 ∷ 100 ∷ 105 ∷ 116 ∷ 105 ∷ 111 ∷ 110 ∷ []

unfoldable pub edition_named : List ℕ → Option Edition
edition_named w = pick (same_bytes w name13) (Some Edition.V13) (pick (either (same_bytes w name13a) (same_bytes w name13b)) (Some Edition.V13b) None)

-- no word at all is the default's; any others than these two are unknown
unfoldable pub edition_asked : ℕ → List ℕ → List ℕ → Option Edition
edition_asked count first second =
    pick (leb count 1) (Some Edition.V13b) (pick (both (eqb count 3) (same_bytes first edition_word)) (edition_named second) None)
