-- Which byte of a packet is bad, as the receiver tells it (request 5): just what the reader of packets tells, where nothing is refused by 6.
-- Assumes nothing.
use Prim.Native.Nat.{ℕ}
use mathlib.Core.Path.{◌≡◌, refl, sym, ap, ◌∙◌}
use mathlib.Core.Bool.{true}
use mathlib.Core.List.{List}
use native.Mathlib.Omega.{arith}
use Rattle.facts.specs.Pick.{pick}
use Rattle.facts.proofs.Picks.{pick_ind}
use Rattle.wire.specs.Records.{bad, records}
use Rattle.fields.specs.Fields.{refusal}
use Rattle.fields.specs.declared.Fault.{Fault}
use Rattle.packet.specs.Packet.{Framing, framing, told, read_packet}
use Rattle.packet.specs.Places.{BadPlace}
use Rattle.std.specs.Prelude.{Ok, Err}
use Rattle.packet.specs.declared.Why.{Why}
use Rattle.packet.proofs.Good.{bad_framing}
use Rattle.packet.proofs.Places.{bad_place}
use Rattle.receiver.specs.Receiver.{fit, receives, handled_by}
use Rattle.receiver.specs.Lent.{real, Lent, Handled, handled, received}
use Rattle.receiver.specs.declared.Account.{Account}
use Rattle.receiver.proofs.Accounts.{refused_same}

-- what the reader calls bad the receiver does, by the same number at the same byte, and keeps all that it is lent
pub bad_received : (k : Lent) (p : List ℕ) (f : Fault) → fit (real k.edition) k ≡ true → read_packet k.edition p ≡ Err (Why.Placed f) → received k p ≡ handled (Err (Why.Placed f)) k
unfolding receives handled_by pick
bad_received k p f h e = rw (h, bad_framing k.edition p f e) refl

-- and the other way
pub bad_read : (k : Lent) (p : List ℕ) (f : Fault) → (received k p).answer ≡ Err (Why.Placed f) → read_packet k.edition p ≡ Err (Why.Placed f)
unfolding receives handled_by read_packet told
bad_read k p f = pick_ind Reads (fit (real k.edition) k) (handled_by (real k.edition) (framing k.edition p) k) (handled (Err (Why.Alone (refusal 6))) k) (λ _. by_framing (framing k.edition p) refl) (λ _ e. let z : ◌≡◌ {A = ℕ} 0 1 = cc in absurd (omega arith))
  where
    Reads : Handled → Type 0
    Reads x = x.answer ≡ Err (Why.Placed f) → read_packet k.edition p ≡ Err (Why.Placed f)

    by_framing : (x : Framing) → framing k.edition p ≡ x → Reads (handled_by (real k.edition) x k)
    by_framing (bad (Why.Alone r)) g e = let z : ◌≡◌ {A = ℕ} 0 1 = cc in absurd (omega arith)
    by_framing (bad (Why.Placed w)) g e = let same : w ≡ f = cc in ap told g ∙ ap (λ q. Err (Why.Placed q)) same
    by_framing (records cs) g e = let z : ◌≡◌ {A = ℕ} 0 1 = cc in absurd (omega arith)

-- "Demand 1 reads "number and offset" for these four": the place is where the packet is bad, and nothing has changed
pub bad_told : (k : Lent) (p : List ℕ) (f : Fault) → (received k p).answer ≡ Err (Why.Placed f) → BadPlace k.edition p f × ((received k p).after ≡ k)
bad_told k p f e = (bad_place k.edition p f (bad_read k p f e), refused_same (real k.edition) k p (λ (a : Account) q. let n : Err (Why.Placed f) ≡ Ok a = sym e ∙ q in let z : ◌≡◌ {A = ℕ} 0 1 = cc in absurd (omega arith)))
