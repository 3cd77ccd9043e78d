-- The counts are told where both sizes are good; then the next number decides between the sheet and the refusal.
-- Assumes nothing.
use Prim.Native.Nat.{ℕ}
use mathlib.Core.Path.{◌≡◌, refl, ap}
use mathlib.Core.Bool.{Bool, true, false}
use mathlib.Core.List.{List}
use native.Mathlib.Omega.{arith}
use lib.ListN.{length}
use Rattle.facts.specs.Pick.{pick, both}
use Rattle.fields.specs.Fields.{refusal}
use Rattle.fields.specs.declared.Refusal.{Refusal}
use Rattle.rows.specs.Rows.{rows}
use Rattle.rows.specs.Find.{count_live}
use Rattle.symbols.specs.Entries.{entries}
use Rattle.symbols.specs.Find.{count_used}
use Rattle.views.specs.Views.{good_tables, counts_view}
use Rattle.views.specs.declared.Sizes.{Sizes}
use Rattle.std.specs.Prelude.{Ok, Err}
use Rattle.receiver.specs.Receiver.{next_ok}
use Rattle.receiver.specs.declared.State.{State}
use Rattle.text.specs.Text.{Wrote}
use Rattle.text.proofs.Laws.{wrote_front}
use Rattle.answer_sheet.specs.declared.Recording.{Recording}
use Rattle.answer_sheet.specs.Lines.{text_of}
use Rattle.answer_sheet.specs.Sheet.{table_lines, sheet_of, sheet_ok, sheet_and, stored, sheet_view, AreSizes}
use Rattle.answer_sheet.proofs.Bound.{Machine, sheet_le}

-- ---- the counts
module _ (orders symbols : List ℕ) where
  -- what a view of good tables tells
  abbrev table_sizes : Sizes
  table_sizes = record { orders = count_live (rows orders); symbols = count_used (entries symbols) }

  sizes_is : (z : Sizes) → AreSizes z orders symbols → (good_tables orders symbols ≡ true) × (z ≡ table_sizes)
  unfolding counts_view pick
  sizes_is z e = go (good_tables orders symbols) e
    where
      go : (g : Bool) → Ok z ≡ pick g (Ok table_sizes) (Err (refusal 6)) → (g ≡ true) × (z ≡ table_sizes)
      go true e = (refl, cc)
      go false e = cc

  pub sizes_good : (z : Sizes) → AreSizes z orders symbols → good_tables orders symbols ≡ true
  sizes_good z e = (sizes_is z e).0

  pub sizes_lines : (second : ℕ) (z : Sizes) → AreSizes z orders symbols → text_of (table_lines second z.symbols z.orders) ≡ text_of (table_lines second (count_used (entries symbols)) (count_live (rows orders)))
  sizes_lines second z e = ap (λ (x : Sizes). text_of (table_lines second x.symbols x.orders)) (sizes_is z e).1

-- ---- the three exits
module _ (word : Recording) (bad : ℕ) (s : State) (orders symbols b : List ℕ) where
  pub sizes_refused : (r : Refusal) → Err r ≡ counts_view orders symbols → sheet_and (Err r) b ≡ sheet_view word bad s orders symbols b
  unfolding sheet_view sheet_ok counts_view both pick
  sizes_refused r e = go (good_tables orders symbols) e
    where
      go : (g : Bool) → Err r ≡ pick g (Ok (table_sizes orders symbols)) (Err (refusal 6))
          → sheet_and (Err r) b ≡ pick (both g (next_ok s.next)) (stored (sheet_of word bad s orders symbols) b) (sheet_and (Err (refusal 6)) b)
      go true e = cc
      go false e = let k : r ≡ refusal 6 = cc in ap (λ (x : Refusal). sheet_and (Err x) b) k

  pub next_refused : good_tables orders symbols ≡ true → next_ok s.next ≡ false → sheet_and (Err (refusal 6)) b ≡ sheet_view word bad s orders symbols b
  unfolding sheet_view sheet_ok both pick
  next_refused g n = rw (g, n)

  -- no sheet is so long that a machine's number does not tell it
  pub sheet_stored : good_tables orders symbols ≡ true → next_ok s.next ≡ true → Machine bad s symbols → (b' : List ℕ) (r : ℕ) → Wrote b 0 (sheet_of word bad s orders symbols) b' r
      → sheet_and (Ok r) b' ≡ sheet_view word bad s orders symbols b
  unfolding sheet_view sheet_ok stored both pick
  sheet_stored g n m b' r w =
      let ok : both (good_tables orders symbols) (next_ok s.next) ≡ true = rw (g, n) in
      let e : r ≡ length (sheet_of word bad s orders symbols) = omega (arith, w.end, sheet_le word bad s orders symbols ok m) in
      rw (g, n, e, wrote_front w)
