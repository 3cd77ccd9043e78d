-- The digits of the first bytes are written; each turn writes one byte's.
-- Assumes nothing.
use Rattle.std.proofs.Common.{take}
use Rattle.text.specs.Text.{Wrote}
use Rattle.letters.specs.Letters.{hex_of}
use Rattle.letters.proofs.put_hex.Given as goal

abbrev pub invariant-loop-x : goal.invariant-loop-x
invariant-loop-x l = Wrote l.initial.buf l.at (hex_of (take l.x-index l.v)) l.buf l.o
