-- Each word is its own case of the definition, and its line is a constant.
-- Assumes nothing.
use Rattle.answer_sheet.specs.Keys.{recording_key, whole_word, cut_word}
use Rattle.answer_sheet.specs.Sheet.{recording_word}
use Rattle.text.specs.Text.{line_of}
use Rattle.answer_sheet.proofs.Page.recording_line.Goals as goal

pub returns-in-Whole : goal.returns-in-Whole
unfolding line_of recording_word recording_key whole_word
returns-in-Whole c = rw c.in-Whole.is c.bytes.ensures

pub returns-in-Cut : goal.returns-in-Cut
unfolding line_of recording_word recording_key cut_word
returns-in-Cut c = rw c.in-Cut.is c.bytes-in-Cut.ensures
