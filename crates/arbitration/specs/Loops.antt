-- What one turn of the drain and one record of a packet leave, in the form that the loops of a receiver's code keep. No public contract speaks of these.
use Rattle.std.specs.Prelude.{ℕ, ◌+◌, ◌≡◌, Bool, true, false, List, [], ◌∷◌}
use Rattle.wire.specs.Records.{Rec}
use Rattle.arbitration.specs.Engine.{Engine, Store}
use Rattle.arbitration.specs.Receive.{Answer, taken, old, too_far, repeated, differing, nothing, stuck, goes, State, try, turned, judged, after}
use Rattle.arbitration.specs.declared.Counts.{Counts}

-- the five counts with one answer more
abbrev pub counted : Answer → Counts → Counts
counted taken t = record { taken = t.taken + 1; old = t.old; far = t.far; repeated = t.repeated; differing = t.differing }
counted old t = record { taken = t.taken; old = t.old + 1; far = t.far; repeated = t.repeated; differing = t.differing }
counted too_far t = record { taken = t.taken; old = t.old; far = t.far + 1; repeated = t.repeated; differing = t.differing }
counted repeated t = record { taken = t.taken; old = t.old; far = t.far; repeated = t.repeated + 1; differing = t.differing }
counted differing t = record { taken = t.taken; old = t.old; far = t.far; repeated = t.repeated; differing = t.differing + 1 }

-- how many answers they count
abbrev pub total : Counts → ℕ
total t = t.taken + t.old + t.far + t.repeated + t.differing

module _ (S : Store) (E : Engine) where
  -- where one turn leads, and whether it applied a message
  unfoldable pub turn_to : State S E → State S E
  turn_to r = elim (try S E r) [ nothing ↦ r | stuck q ↦ r | goes b ↦ turned S E r b ]

  unfoldable pub goes_on : State S E → Bool
  goes_on r = elim (try S E r) [ nothing ↦ false | stuck q ↦ false | goes b ↦ true ]

  -- one turn, from r to r'; on: whether it applied a message
  pub record Turned (r r' : State S E) (on : Bool) : Type 0 where
    pub to : r' ≡ turn_to r
    pub on_is : on ≡ goes_on r

  -- the state and the counts in one value, so that a loop over records has one equation: `work (what is left) now ≡ end`
  pub record Working : Type 0 where
    pub rx : State S E
    pub counts : Counts

  abbrev pub working : Rec → Working → Working
  working c w = record { rx = after S E c w.rx; counts = counted (judged S E c w.rx) w.counts }

  unfoldable pub work : List Rec → Working → Working
  work [] w = w
  work (c ∷ cs) w = work cs (working c w)
