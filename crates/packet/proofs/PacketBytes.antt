-- The records of a packet that is made of bytes have bodies made of bytes: each is a part of the packet. By recursion on the records.
-- Assumes nothing.
use Prim.Native.Nat.{ℕ, zero, suc, ◌+◌}
use mathlib.Core.List.{List, [], ◌∷◌}
use lib.ListN.{length, drop}
use lib.Dec.{ltb, leb}
use Rattle.facts.specs.Pick.{both}
use Rattle.facts.specs.Limits.{packet_most}
use Rattle.facts.proofs.Picks.{pick_ind}
use Rattle.editions.specs.declared.Edition.{Edition}
use Rattle.wire.specs.Le.{Bytes, field}
use Rattle.wire.specs.Records.{Rec, bad, records}
use Rattle.wire.proofs.Bytewise.{bytes_take, bytes_drop}
use Rattle.fields.specs.Fields.{refusal}
use Rattle.packet.specs.Record.{body_of, rec_of, read_record}
use Rattle.packet.specs.Packet.{Framing, before, behind, frames_from, framing}
use Rattle.std.specs.Prelude.{Result, Ok, Err}
use Rattle.packet.specs.declared.Why.{Why}
use Rattle.fields.specs.declared.Fault.{Fault}
use Rattle.packet.specs.declared.Head.{Head}

-- every record of a list has a body made of bytes
abbrev pub AllBytes : List Rec → Type 0
AllBytes [] = Unit
AllBytes (c ∷ cs) = Bytes c.body × AllBytes cs

abbrev pub Bytewise : Framing → Type 0
Bytewise (bad w) = Unit
Bytewise (records cs) = AllBytes cs

body_bytes : (t : List ℕ) → Bytes t → Bytes (body_of t)
unfolding body_of
body_bytes t h = bytes_take (field t 8 2) (drop 10 t) (bytes_drop 10 t h)

before_bytes : (n : ℕ) (c : Rec) (x : Framing) → Bytes c.body → Bytewise x → Bytewise (before n c x)
unfolding before
before_bytes n c (bad w) g f = tt
before_bytes n c (records cs) g f = (g, f)

behind_bytes : (rest : List ℕ → Framing) (t : List ℕ) (r : Result Head Fault) → Bytes t → ((s : List ℕ) → Bytes s → Bytewise (rest s)) → Bytewise (behind rest t r)
unfolding behind
behind_bytes rest t (Ok x) h f = before_bytes (10 + x.len) (rec_of t) (rest (drop (10 + x.len) t)) (body_bytes t h) (f (drop (10 + x.len) t) (bytes_drop (10 + x.len) t h))
behind_bytes rest t (Err w) h f = tt

frames_bytes : (ed : Edition) (f : ℕ) (t : List ℕ) → Bytes t → Bytewise (frames_from ed f t)
unfolding frames_from
frames_bytes ed zero t h = tt
frames_bytes ed (suc f) t h =
    pick_ind Bytewise (ltb 0 (length t)) (behind (frames_from ed f) t (read_record ed t)) (records [])
    (λ _. behind_bytes (frames_from ed f) t (read_record ed t) h (frames_bytes ed f))
    (λ _. tt)

pub framing_bytes : (ed : Edition) (p : List ℕ) → Bytes p → Bytewise (framing ed p)
unfolding framing
framing_bytes ed p h = pick_ind Bytewise (both (leb 1 (length p)) (leb (length p) packet_most)) (frames_from ed (length p) p) (bad (Why.Alone (refusal 1))) (λ _. frames_bytes ed (length p) p h) (λ _. tt)
