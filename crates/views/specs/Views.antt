-- The views of a receiver's tables, with their refusals (document 01: "Views: 6, then 30").
use Rattle.std.specs.Prelude.{ℕ, List, Bool, length, eqb, Option, Some, None, Result, Ok, Err}
use Rattle.facts.specs.Pick.{pick, both}
use Rattle.fields.specs.Fields.{refusal}
use Rattle.rows.specs.Rows.{rows, good_rows}
use Rattle.rows.specs.Find.{count_live}
use Rattle.symbols.specs.Entries.{entries, good_entries}
use Rattle.symbols.specs.Find.{known_symbol, count_used}
use Rattle.views.specs.declared.Side.{Side}
use Rattle.fields.specs.declared.Refusal.{Refusal}
use Rattle.views.specs.declared.Sizes.{Sizes}
use Rattle.std.specs.Prelude.{ℤ}
use Rattle.views.specs.Ladder.{key_of, ladder, written}
use Rattle.views.specs.Spread.{spread_of}

-- no refusal 6: "a table size outside these limits or not in whole rows"
unfoldable pub good_tables : List ℕ → List ℕ → Bool
good_tables orders symbols = both (good_rows (length orders)) (good_entries (length symbols))

-- "Views: 6, then 30", which is "a view asks for an unknown symbol"; 0 for neither
unfoldable pub view_fault : ℕ → List ℕ → List ℕ → ℕ
view_fault s orders symbols = pick (good_tables orders symbols) (pick (known_symbol s (entries symbols)) 0 30) 6

-- so a symbol can be shown, or a view of it is refused
unfoldable pub viewable : ℕ → List ℕ → List ℕ → Result Unit Refusal
viewable s orders symbols = pick (eqb (view_fault s orders symbols) 0) (Ok tt) (Err (refusal (view_fault s orders symbols)))

-- an answer, and the lent run behind it
pub record LadderOut : Type 0 where
  pub answer : Result ℕ Refusal
  pub run : List ℕ

abbrev pub ladder_out : Result ℕ Refusal → List ℕ → LadderOut
ladder_out a o = record { answer = a; run = o }

-- "written into a lent run while a whole level fits .. The answer is the number of all levels, written or not"; "Each refusal returns its number alone; tables, output and state keep every byte"
unfoldable pub ladder_view : Side → ℕ → List ℕ → List ℕ → List ℕ → LadderOut
ladder_view side s orders symbols out =
    pick (eqb (view_fault s orders symbols) 0)
    (ladder_out (Ok (length (ladder (key_of side s) (rows orders)))) (written (ladder (key_of side s) (rows orders)) out))
    (ladder_out (Err (refusal (view_fault s orders symbols))) out)

-- "best offer less best bid in millionths, signed .. with a side empty the answer is none"
unfoldable pub spread_view : ℕ → List ℕ → List ℕ → Result (Option ℤ) Refusal
spread_view s orders symbols = pick (eqb (view_fault s orders symbols) 0) (Ok (spread_of s (rows orders))) (Err (refusal (view_fault s orders symbols)))

-- "counts .. take every live row", and every used entry
unfoldable pub counts_view : List ℕ → List ℕ → Result Sizes Refusal
counts_view orders symbols =
    pick (good_tables orders symbols)
    (Ok (record { orders = count_live (rows orders); symbols = count_used (entries symbols) }))
    (Err (refusal 6))

-- document 01's number of each answer, 0 where nothing is refused
unfoldable pub ladder_number : Result ℕ Refusal → ℕ
ladder_number (Ok n) = 0
ladder_number (Err r) = r.number

unfoldable pub spread_number : Result (Option ℤ) Refusal → ℕ
spread_number (Ok (Some z)) = 0
spread_number (Ok None) = 0
spread_number (Err r) = r.number

unfoldable pub counts_number : Result Sizes Refusal → ℕ
counts_number (Ok n) = 0
counts_number (Err r) = r.number
