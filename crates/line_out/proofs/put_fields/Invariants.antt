-- The texts of the first fields are written; each turn writes one more.
-- Assumes nothing.
use Rattle.text.specs.Text.{Wrote, first_texts}
use Rattle.line_out.specs.Lines.{field_text}
use Rattle.line_out.proofs.put_fields.Given as goal

abbrev pub invariant-loop-row : goal.invariant-loop-row
invariant-loop-row l = Wrote l.initial.buf l.at (first_texts (field_text l.fn.e l.fn.k l.b) l.row-index) l.buf l.o
