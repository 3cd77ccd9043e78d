-- Request 10 on a sheet: "Only the 1.3 sheet shows it, as `type=` after `ticker=`". The words for saying that nothing else differs.
use Rattle.std.specs.Prelude.{Bool, List, [], ◌∷◌}
use Rattle.facts.specs.Pick.{pick}
use Rattle.facts.specs.Same.{same_bytes}
use Rattle.editions.specs.declared.Edition.{Edition}
use Rattle.receiver.specs.declared.State.{State}
use Rattle.answer_sheet.specs.Keys.{type_key}
use Rattle.answer_sheet.specs.Lines.{Line}

-- a line `type=`
unfoldable pub is_type : Line → Bool
is_type l = same_bytes l.key type_key

-- lines without those
unfoldable pub untyped : List Line → List Line
untyped [] = []
untyped (l ∷ ls) = pick (is_type l) (untyped ls) (l ∷ untyped ls)

-- a state with the edition ed, and all else as it is
abbrev pub in_edition : Edition → State → State
in_edition ed s = record { next = s.next; clock = s.clock; stop = s.stop; edition = ed }
