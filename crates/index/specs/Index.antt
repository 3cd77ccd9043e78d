-- The index of the order table (request 9: "finds orders through an index in further lent memory"; docs/INDEX.md says it in words): 32,768 slots, how many of
-- them were used, and the free rows of each block of 64 rows. Behind them stand the hints of symbols (last section).
-- Every definition is over any memory and any rows. A number that the memory lacks counts as 0 and is never stored.
use Rattle.std.specs.Prelude.{ℕ, zero, suc, ◌+◌, ◌-◌, ◌*◌, ◌/◌, ◌%◌, ◌≡◌, ◌⊎◌, List, [], ◌∷◌, Bool, true, false, get_or, set, drop, ltb, leb, eqb, Option, Some, None}
use Rattle.facts.specs.Pick.{pick, both}
use Rattle.facts.specs.Search.{first}
use Rattle.rows.specs.declared.Row.{Row}
use Rattle.rows.specs.Rows.{zero_row, free, live}
use Rattle.rows.specs.Find.{is_order}

-- ---- where the numbers lie: slots from 0 on, then how many were used, then the blocks' counts
-- how long an index is; behind the counts stand 16,384 hints
abbrev pub index_size : ℕ
index_size = 49403

unfoldable pub slots : ℕ
slots = 32768

unfoldable pub blocks : ℕ
blocks = 250

abbrev pub used_of : List ℕ → ℕ
used_of ix = get_or ix 32768 0

abbrev pub count_of : List ℕ → ℕ → ℕ
count_of ix b = get_or ix (32769 + b) 0

-- ---- a slot: 0, or a part of the order ID and the row
-- the low 47 bits, and never 0
unfoldable pub tag_of : ℕ → ℕ
tag_of id = id % 140737488355328 + 1

unfoldable pub packed : ℕ → ℕ → ℕ
packed id i = tag_of id * 65536 + i % 65536

-- the slot's row is live and has this ID
unfoldable pub fits : ℕ → List Row → ℕ → Bool
fits id rs s = both (eqb (s / 65536) (tag_of id)) (is_order id (get_or rs (s % 65536) zero_row))

-- ---- the slots of an order ID: from its own on, the first after the last
unfoldable pub hash : ℕ → ℕ
hash id = (id % 4294967296 + id / 4294967296) % 4294967296 * 2654435769 / 131072 % 32768

unfoldable pub next : ℕ → ℕ
next p = (p + 1) % 32768

-- an empty slot ends the search, one that fits answers it, any other is passed
unfoldable pub probe : ℕ → List ℕ → List Row → ℕ → ℕ → Option ℕ
probe zero ix rs id p = None
probe (suc n) ix rs id p =
    pick (eqb (get_or ix p 0) 0) None
    (pick (fits id rs (get_or ix p 0)) (Some (get_or ix p 0 % 65536)) (probe n ix rs id (next p)))

unfoldable pub looked : List ℕ → List Row → ℕ → Option ℕ
looked ix rs id = probe slots ix rs id (hash id)

-- a walk that a test decides, from slot p on over n of them: it ends at the first that passes
unfoldable pub WalkEnds : (ℕ → Bool → Type 0) → ℕ → List ℕ → ℕ → Option ℕ → Type 0
WalkEnds says zero ix p found = found ≡ None
WalkEnds says (suc n) ix p found =
    (says (get_or ix p 0) true × (found ≡ Some p)) ⊎ (says (get_or ix p 0) false × WalkEnds says n ix (next p) found)

-- the first empty slot from p on
unfoldable pub vacant : ℕ → List ℕ → ℕ → Option ℕ
vacant zero ix p = None
vacant (suc n) ix p = pick (eqb (get_or ix p 0) 0) (Some p) (vacant n ix (next p))

-- row i into the slot found
unfoldable pub filled_at : Option ℕ → List ℕ → ℕ → ℕ → List ℕ
filled_at None ix id i = ix
filled_at (Some p) ix id i = set (set ix p (packed id i)) 32768 (used_of ix + 1)

unfoldable pub placed : List ℕ → ℕ → ℕ → List ℕ
placed ix id i = pick (leb 32768 (used_of ix)) ix (filled_at (vacant slots ix (hash id)) ix id i)

-- ---- free rows, counted for each block of 64
unfoldable pub taken : List ℕ → ℕ → List ℕ
taken ix i = pick (ltb 0 (count_of ix (i / 64))) (set ix (32769 + i / 64) (count_of ix (i / 64) - 1)) ix

unfoldable pub freed : List ℕ → ℕ → List ℕ
freed ix i = pick (ltb (count_of ix (i / 64)) 64) (set ix (32769 + i / 64) (count_of ix (i / 64) + 1)) ix

-- the first block from b on whose count is not 0
unfoldable pub block_from : ℕ → List ℕ → ℕ → Option ℕ
block_from zero ix b = None
block_from (suc n) ix b = pick (eqb (count_of ix b) 0) (block_from n ix (suc b)) (Some b)

-- the lowest free row from that block on
unfoldable pub free_in : Option ℕ → List Row → Option ℕ
free_in None rs = None
free_in (Some b) rs = first free (64 * b) (drop (64 * b) rs)

unfoldable pub lowest_free : List ℕ → List Row → Option ℕ
lowest_free ix rs = free_in (block_from blocks ix 0) rs

-- ---- the index of a table, from nothing: each live row in a slot, each free one in its block's count
-- all that is not a hint becomes 0
unfoldable pub front : ℕ
front = 33019

unfoldable pub zeroed : ℕ → List ℕ → List ℕ
zeroed n [] = []
zeroed zero (x ∷ ix) = x ∷ ix
zeroed (suc n) (x ∷ ix) = 0 ∷ zeroed n ix

unfoldable pub entered : List ℕ → Row → ℕ → List ℕ
entered ix r i = pick (live r) (placed ix r.order i) (pick (free r) (freed ix i) ix)

-- a step for each row in its turn, counted from i
unfoldable pub each_row : (List ℕ → Row → ℕ → List ℕ) → ℕ → List Row → List ℕ → List ℕ
each_row f i [] ix = ix
each_row f i (r ∷ rs) ix = each_row f (suc i) rs (f ix r i)

unfoldable pub built : List ℕ → List Row → List ℕ
built ix rs = each_row entered 0 rs (zeroed front ix)

-- ---- an order comes to row i, which is free: where three quarters of the slots were used, the index of the rows so far is built anew first
unfoldable pub roomy : List ℕ → List Row → List ℕ
roomy ix rs = pick (leb 24576 (used_of ix)) (built ix rs) ix

unfoldable pub came : List ℕ → List Row → ℕ → ℕ → List ℕ
came ix rs id i = placed (taken (roomy ix rs) i) id i

-- ---- behind all this, the hints of symbols: the entry in which a symbol was put last, among those that share its place
abbrev pub hint_at : ℕ → ℕ
hint_at symbol = 33019 + symbol % 16384

abbrev pub hint_of : List ℕ → ℕ → ℕ
hint_of ix symbol = get_or ix (hint_at symbol) 0
