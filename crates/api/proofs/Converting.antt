-- An offset in what a conversion answers is one of reading, and small.
-- Assumes nothing.
use Prim.Native.Nat.{ℕ, ◌≤◌}
use mathlib.Core.Path.{◌≡◌, refl, ap, ◌∙◌}
use mathlib.Core.List.{List}
use lib.ListN.{length}
use Rattle.facts.specs.Limits.{packet_most}
use Rattle.facts.proofs.Picks.{pick_ind}
use Rattle.editions.specs.declared.Edition.{Edition}
use Rattle.wire.specs.Records.{bad, records}
use Rattle.fields.specs.Fields.{refusal}
use Rattle.fields.specs.declared.Fault.{Fault}
use Rattle.packet.specs.Packet.{Framing, framing, told, read_packet}
use Rattle.std.specs.Prelude.{Err}
use Rattle.packet.specs.declared.Why.{Why}
use Rattle.packet.proofs.Places.{packet_small}
use Rattle.retype.specs.Types.{whole_exceptions, types_ok}
use Rattle.retype.specs.Retyped.{Asked}
use Rattle.conversion.specs.Packet.{Conversion, conversion, converted_by, judged_first, converted}

Small : Conversion → Type 0
Small x = (f : Fault) → x.answer ≡ Err (Why.Placed f) → f.at ≤ packet_most

refused_small : (n : ℕ) (p : List ℕ) → Small (conversion (Err (Why.Alone (refusal n))) p)
unfolding Small
refused_small n p f e = cc

by_small : (from : Edition) (a : Asked) (p : List ℕ) (x : Framing) → framing from p ≡ x → Small (converted_by a x p)
unfolding Small converted_by read_packet told
by_small from a p (bad (Why.Alone r)) h f e = cc
by_small from a p (bad (Why.Placed g)) h f e =
    let same : g ≡ f = cc in
    packet_small from p f (ap told h ∙ ap (λ q. Err (Why.Placed q)) same)
by_small from a p (records cs) h f e = cc

pub convert_small : (from : Edition) (a : Asked) (p : List ℕ) (f : Fault) → (converted from a p).answer ≡ Err (Why.Placed f) → f.at ≤ packet_most
unfolding converted judged_first Small
convert_small from a p =
    pick_ind Small (whole_exceptions (length a.others)) _ _
    (λ _. pick_ind Small (types_ok a.to a.all a.others) _ _ (λ _. by_small from a p (framing from p) refl) (λ _. refused_small 4 p))
    (λ _. refused_small 6 p)
