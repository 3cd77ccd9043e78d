-- The number, the name, the fields, each by its own reader; a comment behind the number leaves no name.
-- Assumes nothing.
use Rattle.std.proofs.Common.{sym, ap, Err, ◌∙◌}
use Rattle.spans.specs.Left.{words_left}
use Rattle.line_in.specs.Lines.{read_record, of_number, of_kind, ended}
use Rattle.line_in.proofs.Laws.{next_is, second_noted}
use Rattle.line_in.proofs.read_record.Goals as goal

pub returns-then-at_note : goal.returns-then-at_note
unfolding read_record of_number of_kind
returns-then-at_note c =
    rw (sym c.in_ok-number.ensures, second_noted (words_left c.args.rest) c.args.end (sym c.at_note.ensures.note ∙ c.if-at_note.true)) (ap Err c.slip_at.ensures)

pub returns : goal.returns
unfolding read_record of_number of_kind ended
returns c =
    let second = next_is c.next.result (words_left c.at_note.new.self) (words_left c.next.new.self) c.next.ensures.steps in
    rw (← c.at_note.ensures.left, sym c.in_ok-number.ensures, ← second.0, sym c.in_ok-kind.ensures, ← second.1, ← c.blank_draft.ensures, sym c.in_ok-draft.ensures) c.finish.ensures
