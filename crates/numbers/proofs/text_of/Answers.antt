-- Two kinds have a text of their own; the others are told by the numbers of their cases.
-- Assumes nothing.
use Rattle.numbers.proofs.Texts.{rest_text}
use borrow.Enum.Refused.{opened}
use Rattle.numbers.proofs.text_of.Goals as goal

pub returns-in_default : goal.returns-in_default
returns-in_default c = rest_text _ c.args.k _ (opened c.in_default.in_default-own.keys3)
