-- What the code tells of a word, and the words that are left of a line.
use Rattle.std.specs.Prelude.{List}
use Rattle.spans.specs.declared.Word.{Word as Told}
use Rattle.spans.specs.declared.Words.{Words}
use Rattle.spans.specs.Spans.{Word, word, words_at}

abbrev pub told : Told → Word
told w = word w.at w.bytes.now

abbrev pub words_left : Words → List Word
words_left s = words_at s.at s.rest.now
