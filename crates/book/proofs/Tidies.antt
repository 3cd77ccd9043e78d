-- Zeroed tables are tidy, and each part of tidy is kept by what a message does to its table; so is the order of first use.
-- Assumes nothing.
use mathlib.Core.Path.{◌≡◌, refl, ap, ◌∙◌}
use mathlib.Core.List.{List, []}
use Prim.Native.Nat.{ℕ, ◌≤◌}
use lib.ListN.{replicate}
use Rattle.editions.specs.declared.Edition.{Edition}
use Rattle.wire.specs.Le.{Bytes}
use Rattle.body.specs.Read.{read_body}
use Rattle.rows.specs.Rows.{spoiled}
use Rattle.rows.proofs.Tables.{wiped_row}
use Rattle.rows.proofs.Judged.{zero_unspoiled}
use Rattle.symbols.specs.Entries.{entries, id_of}
use Rattle.symbols.specs.Tidy.{Distinct, Packed, ids_in}
use Rattle.symbols.proofs.EntryLaws.{entries_put}
use Rattle.symbols.proofs.StartLaws.{wiped_distinct, distinct_kept, wiped_packed, packed_kept}
use Rattle.symbols.proofs.OrderLaws.{ids_wiped, ids_kept}
use Rattle.orders.proofs.Unique.{zero_unique}
use Rattle.book.specs.declared.Clock.{Clock}
use Rattle.book.specs.Parts.{Part, the_second, the_symbols, the_orders, no_part, part_of}
use Rattle.book.specs.Book.{Book, book, applied}
use Rattle.book.specs.Tidy.{Tidy, used_ids, first_use_by, first_use}
use Rattle.book.proofs.Steps.{group_of, part_update, symbols_kept}
use Rattle.book.proofs.Theorems.{update_used, update_done, entries_kept, unique_kept}
use Rattle.book.proofs.Spoils.{unspoiled_kept}

-- ---- a start zeroes both tables, whatever their sizes
module _ (n m : ℕ) (c : Clock) where
  pub tidy_zero : Tidy (book (replicate n 0) (replicate m 0) c)
  tidy_zero =
      record {
        unspoiled = λ i. ap spoiled (wiped_row n i) ∙ zero_unspoiled;
        unique = zero_unique n;
        distinct = wiped_distinct m;
        packed = wiped_packed m;
      }

  pub ids_zero : used_ids (book (replicate n 0) (replicate m 0) c) ≡ []
  ids_zero = ids_wiped m

-- ---- a message that applied
module _ (ed : Edition) (n : ℕ) (b : List ℕ) (k : Book) (ranked : 1 ≤ n) (bytes : Bytes b) (z : (applied ed n b k).rule ≡ 0) (t : Tidy k) where
  pub tidy_kept : Tidy (applied ed n b k).after
  tidy_kept =
      record {
        unspoiled = unspoiled_kept ed n b k ranked bytes t.unspoiled;
        unique = unique_kept ed n b k t.unique;
        distinct = entries_kept ed n b k Distinct (λ i e u d. distinct_kept b (entries k.symbols) i e u d) t.distinct;
        packed = entries_kept ed n b k Packed (λ i e u p. packed_kept b (entries k.symbols) i e u p) t.packed;
      }

  -- "in order of first use"
  pub first_use_kept : used_ids (applied ed n b k).after ≡ first_use ed b (used_ids k)
  unfolding first_use first_use_by
  first_use_kept = go (part_of (read_body ed b)) refl
    where
      same : (part_of (read_body ed b) ≡ the_symbols → ⊥) → used_ids (applied ed n b k).after ≡ used_ids k
      same h = ap (λ s. ids_in (entries s)) (symbols_kept ed n b k h)

      go : (p : Part) → part_of (read_body ed b) ≡ p → used_ids (applied ed n b k).after ≡ first_use_by p (id_of b) (used_ids k)
      go the_symbols q =
          let e = part_update (group_of (read_body ed b)) q in
          let w = update_done ed e.0 n b k e.1 z in
          ap ids_in (ap entries w.table_is ∙ entries_put k.symbols w.place b) ∙ ids_kept b (entries k.symbols) w.place w.found (update_used ed e.0 b e.1) t.packed
      go the_orders q = same (λ e. cc)
      go the_second q = same (λ e. cc)
      go no_part q = same (λ e. cc)
