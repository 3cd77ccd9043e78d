-- Calls from C, one after another, are `feed` after `feed`: the fourteen numbers that a call leaves give the next one the same stream back.
-- Assumes nothing.
use Prim.Native.Nat.{ℕ, ◌%◌, ◌^◌, ◌<◌}
use mathlib.Core.Path.{◌≡◌, ap, ◌∙◌}
use mathlib.Core.List.{List}
use native.Mathlib.Omega.{arith}
use Rattle.fields.specs.Fields.{bad_at}
use Rattle.receiver.specs.declared.State.{State}
use Rattle.receiver.specs.Lent.{state_numbers}
use Rattle.recording.specs.declared.Stream.{Stream}
use Rattle.std.specs.Prelude.{Ok}
use Rattle.recording.specs.Stream.{opened, cut, Feeding, feeding, fed, fed_number}
use Rattle.recording.specs.Whole.{fed_on}
use Rattle.api.specs.Calls.{state_in, call}
use Rattle.api.specs.Streams.{stream_numbers, stream_from, open_answer, feed_call, feed_answer}
use Rattle.api.proofs.Chain.{Held, state_back}

-- ---- one call after another
-- a stream that a machine holds: its receiver's state, and the last bad packet's number in 8 bits
pub record HeldStream (k : Stream) : Type 0 where
  pub state_fits : Held k.receiver
  pub last_fits : k.last.number < 2 ^ 8

-- its numbers give it back
pub stream_back : (k : Stream) → HeldStream k → stream_from (stream_numbers k) ≡ k
stream_back k h =
    let a : k.last.number % 256 ≡ k.last.number = omega (arith, h.last_fits) in
    λ i. record { receiver = state_back k.receiver h.state_fits i; held = k.held; skip = k.skip; bad = k.bad; last = bad_at (a i) k.last.at; totals = k.totals }

-- an open, lent the state that a start or a packet left, opens a stream over that receiver
pub next_open : (q : State) → Held q → open_answer (opened (state_in (state_numbers q))) ≡ call 0 (stream_numbers (opened q))
unfolding open_answer
next_open q h = ap (λ (x : State). open_answer (opened x)) (state_back q h)

-- lent what a chunk left, the call for the next chunk c leaves what `fed_on` makes of it: so an open and any number of calls from C are `fed_all`, of which recording/FromStart
-- speaks, where none is refused
module _ (k : Stream) (held : HeldStream k) (o s h ix w : List ℕ) where
  abbrev left : Feeding
  left = feeding (Ok k) o s h ix w

  pub next_feed : (c : List ℕ) → feed_answer (fed (stream_from (stream_numbers k)) o s h ix w c) (stream_numbers k) ≡ feed_answer (fed_on c left) (stream_numbers k)
  unfolding fed_on
  next_feed c = ap (λ (x : Stream). feed_answer (fed x o s h ix w c) (stream_numbers k)) (stream_back k held)

  pub next_took : (c : List ℕ) (k' : Stream) (o' s' h' ix' w' : List ℕ) → fed_on c left ≡ feeding (Ok k') o' s' h' ix' w'
      → feed_answer (fed (stream_from (stream_numbers k)) o s h ix w c) (stream_numbers k) ≡ feed_call 0 (stream_numbers k') o' s' h' ix' w'
  unfolding feed_answer fed_number
  next_took c k' o' s' h' ix' w' e = next_feed c ∙ ap (λ (x : Feeding). feed_answer x (stream_numbers k)) e

-- and the recording is cut where that stream is
pub next_cut : (k : Stream) → HeldStream k → cut (stream_from (stream_numbers k)) ≡ cut k
next_cut k h = ap cut (stream_back k h)
