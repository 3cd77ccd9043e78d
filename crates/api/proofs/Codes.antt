-- Number and offset of an answer, taken apart as the header's macros do: a refusal's number is below 256, so the low 8 bits are the number and those above them the offset.
-- Assumes nothing.
use Prim.Native.Nat.{ℕ, ◌/◌, ◌%◌, ◌<◌}
use mathlib.Core.Path.{◌≡◌, ap, ◌∙◌}
use mathlib.Core.List.{List}
use native.Mathlib.Omega.{arith}
use Rattle.editions.specs.declared.Edition.{Edition}
use Rattle.fields.specs.declared.Fault.{Fault}
use Rattle.packet.specs.Packet.{read_packet}
use Rattle.std.specs.Prelude.{Result, Err}
use Rattle.packet.specs.declared.Why.{Why}
use Rattle.packet.proofs.Laws.{record_within}
use Rattle.packet.proofs.Places.{bad_place}
use Rattle.body.specs.Read.{with_offset}
use Rattle.api.specs.Told.{why_code, code_of}

pub number_back : (f : Fault) → f.number < 256 → with_offset f % 256 ≡ f.number
number_back f h = omega (arith, h)

pub offset_back : (f : Fault) → f.number < 256 → with_offset f / 256 ≡ f.at
offset_back f h = omega (arith, h)

-- what a caller in C takes out of the answer to a bad packet is its number and its offset
pub codes_apart : (ed : Edition) (p : List ℕ) (f : Fault) → read_packet ed p ≡ Err (Why.Placed f) → (code_of why_code (read_packet ed p) % 256 ≡ f.number) × (code_of why_code (read_packet ed p) / 256 ≡ f.at)
codes_apart ed p f e =
    let b = bad_place ed p f e in
    let w = record_within ed _ b.fault b.record_bad in
    let small : f.number < 256 = omega (arith, ap (λ (x : Fault). x.number) b.place_is, w.2) in
    (ap (λ (a : Result ℕ Why). code_of why_code a % 256) e ∙ number_back f small, ap (λ (a : Result ℕ Why). code_of why_code a / 256) e ∙ offset_back f small)
