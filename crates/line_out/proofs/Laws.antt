-- The text of a code's row is that of the definition's field at its place.
-- Assumes nothing.
use Rattle.std.proofs.Common.{◌≡◌, ap, ◌∙◌, List, map, ℕ, ◌<◌, length, get_or}
use Rattle.editions.specs.declared.Edition.{Edition}
use Rattle.kinds.specs.declared.Kind.{Kind}
use Rattle.keys.specs.Keys.{Entry, entries_of, no_entry, blank_body}
use Rattle.keys.specs.Rows.{entry_of}
use Rattle.keys.specs.declared.Row.{Row}
use Rattle.keys.proofs.RowLaws.{row_is}
use Rattle.line_out.specs.Lines.{field_by, field_text}

pub text_is :
    (ed : Edition) (k : Kind) (rows : List Row) → map entry_of rows ≡ entries_of ed k → (d : Row) (i : ℕ) → i < length rows →
    (b blank : List ℕ) → blank ≡ blank_body ed k → field_by (entry_of (get_or rows i d)) b blank ≡ field_text ed k b i
text_is ed k rows e d i h b blank n =
    ap (λ (f : Entry). field_by f b blank) (row_is ed k rows e d i h) ∙ ap (field_by (get_or (entries_of ed k) i no_entry) b) n
