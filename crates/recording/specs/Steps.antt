-- What the private steps of `feed` keep and make, in the words of Stream: no public contract speaks of these.
use Rattle.std.specs.Prelude.{ℕ, ◌-◌, ◌≤◌, ◌≡◌, List, length, eqb}
use Rattle.facts.specs.Pick.{pick}
use Rattle.facts.specs.Limits.{hold_least}
use Rattle.fields.specs.Fields.{bad_at}
use Rattle.fields.specs.declared.Fault.{Fault}
use Rattle.recording.specs.Stream.{Standing, Hearing, standing_of, hearing_of, more}
use Rattle.recording.specs.declared.Stream.{Stream}
use Rattle.recording.specs.declared.listen.Listener.{Listener}

-- what every step leaves as it is: which slices are lent
pub record Kept (l l' : Listener) : Type 0 where
  pub orders : l'.orders.ghost_name ≡ l.orders.ghost_name
  pub symbols : l'.symbols.ghost_name ≡ l.symbols.ghost_name
  pub shelf : l'.shelf.ghost_name ≡ l.shelf.ghost_name
  pub index : l'.index.ghost_name ≡ l.index.ghost_name

-- a buffer with room for what is held, and for any unfinished packet
pub record Room (l : Listener) (w : List ℕ) : Type 0 where
  pub held : l.stream.held ≤ length w
  pub least : hold_least ≤ length w

-- where it stands, and with the bytes that are held in a buffer
abbrev pub standing_at : Listener → Standing
standing_at l = standing_of l.stream l.orders.now l.symbols.now l.shelf.now l.index.now

abbrev pub hearing_at : Listener → List ℕ → Hearing
hearing_at l w = hearing_of l.stream l.orders.now l.symbols.now l.shelf.now l.index.now w

-- one refused packet more, and why
abbrev pub missed : Fault → Stream → Stream
missed f k = record { receiver = k.receiver; held = k.held; skip = k.skip; bad = more k.bad 1; last = f; totals = k.totals }

-- n bytes of an over-long packet passed over; with the last of them it is refused
abbrev pub passed_on : ℕ → Stream → Stream
passed_on n k = record { receiver = k.receiver; held = k.held; skip = k.skip - n; bad = k.bad; last = k.last; totals = k.totals }

abbrev pub passed_over : ℕ → Stream → Stream
passed_over n k = pick (eqb n k.skip) (missed (bad_at 1 0) (passed_on n k)) (passed_on n k)
