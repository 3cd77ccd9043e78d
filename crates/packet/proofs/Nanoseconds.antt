-- Nanoseconds of a second, in a packet (request 6): the body is refused with 4, so its record is, so a packet is that has it behind good ones, whatever stands behind it.
-- Assumes nothing.
use Prim.Native.Nat.{ℕ, ◌+◌, ◌≤◌}
use mathlib.Core.Path.{◌≡◌, sym, ap, ◌∙◌}
use mathlib.Core.Bool.{true, true≢false}
use mathlib.Core.List.{List}
use native.Mathlib.Omega.{arith}
use lib.ListN.{length, drop, length-drop}
use Rattle.editions.specs.declared.Edition.{Edition}
use Rattle.wire.specs.Records.{Rec, bad}
use Rattle.fields.specs.Fields.{bad_at}
use Rattle.std.specs.Prelude.{Result, Err}
use Rattle.packet.specs.declared.Why.{Why}
use Rattle.fields.specs.declared.Fault.{Fault}
use Rattle.kinds.specs.declared.Kind.{Kind}
use Rattle.body.specs.Nanoseconds.{PastSecond}
use Rattle.body.proofs.Nanoseconds.{past_judged, past_bad}
use Rattle.packet.specs.Record.{number_ok, head_of, body_of, body_judged, read_record}
use Rattle.packet.specs.Packet.{framing}
use Rattle.packet.specs.Nanoseconds.{PastIn}
use Rattle.packet.proofs.Laws.{GoodRec, whole_record, first_bad}

-- a record with nothing wrong before such a body
past_record : (ed : Edition) (t : List ℕ) → 10 + (head_of t).len ≤ length t → number_ok (head_of t).number ≡ true → PastSecond (body_of t) → read_record ed t ≡ Err (bad_at 4 11)
unfolding body_judged
past_record ed t w o p = whole_record ed t w o ∙ ap (λ (j : Result Kind Fault). body_judged j (head_of t)) (past_judged ed (body_of t) p)

-- "Larger is refused with 4 and its offset": the packet whole, at the Timestamp
pub past_packet : (ed : Edition) (p : List ℕ) (x : PastIn ed p) → framing ed p ≡ bad (Why.Placed (bad_at 4 (x.at + 11)))
past_packet ed p x =
    let t : List ℕ = drop x.at p in
    first_bad ed p x.at (bad_at 4 11) x.size (omega (arith, x.inside)) x.reached
    (past_record ed t (rw length-drop (omega (arith, x.inside))) x.number_good x.past)

-- and no record of an accepted one is such
pub past_none : (ed : Edition) (c : Rec) → GoodRec ed c → PastSecond c.body → ⊥
past_none ed c g p = true≢false (sym g.body_good ∙ past_bad ed c.body p)
