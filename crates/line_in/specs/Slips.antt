-- Where a line is wrong (docs/TEXT.md, "What a line says").
use Rattle.std.specs.Prelude.{ℕ, suc}
use Rattle.line_in.specs.declared.Expected.{Expected}
use Rattle.line_in.specs.declared.Slip.{Slip}

-- "by the column, from 1 and counted in bytes, and by what was expected there": at the byte at place i
abbrev pub slip_at : ℕ → Expected → Slip
slip_at i what = record { column = suc i; expected = what }
