-- The records that lie in bytes, back to back, whoever judges them: those of a good packet (`lying_framed`, proofs/Lying.antt).
use Rattle.std.specs.Prelude.{ℕ, zero, suc, ◌+◌, List, [], ◌∷◌, length, drop, ltb}
use Rattle.facts.specs.Pick.{pick}
use Rattle.wire.specs.Records.{Rec, rec}
use Rattle.packet.specs.Record.{head_of, rec_of}
use Rattle.receiver.specs.declared.walk.Record.{Record}

-- at most so many, from the front; the last one may be cut short
unfoldable pub lie_from : ℕ → List ℕ → List Rec
lie_from zero t = []
lie_from (suc f) t = pick (ltb 0 (length t)) (rec_of t ∷ lie_from f (drop (10 + (head_of t).len) t)) []

-- all of them: no bytes have more records than bytes
abbrev pub lying : List ℕ → List Rec
lying t = lie_from (length t) t

-- a record of the code
abbrev pub seen : Record → Rec
seen r = rec r.number r.body.now
