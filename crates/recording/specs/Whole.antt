-- A whole recording: its packets, what lies behind the last one, and chunk after chunk from a start (document 01, "The sheet").
use Rattle.std.specs.Prelude.{ℕ, ◌+◌, ◌-◌, ◌≤◌, ◌<◌, ◌≡◌, ◌⊎◌, false, List, [], ◌∷◌, ◌++◌, length, take, drop, replicate, leb, ltb, Result, Ok, Err}
use Rattle.facts.specs.Pick.{pick, both}
use Rattle.facts.specs.Limits.{packet_most}
use Rattle.editions.specs.declared.Edition.{Edition}
use Rattle.wire.specs.Le.{field}
use Rattle.fields.specs.Fields.{bad_at}
use Rattle.receiver.specs.Lent.{fresh, fresh_state, start_index}
use Rattle.arbitration.specs.Receive.{no_counts}
use Rattle.arbitration.specs.Stream.{each}
use Rattle.recording.specs.Carve.{Hearer, Carved, carved, carve}
use Rattle.recording.specs.Stream.{Standing, standing, Hearing, hearing, opened, Feeding, feeding, fed}
use Rattle.fields.specs.declared.Refusal.{Refusal}
use Rattle.recording.specs.declared.Stream.{Stream}

-- ---- its packets
-- all of them as they are, over-long ones too, one after another
abbrev pub collects : Hearer (List (List ℕ))
collects = record { over = λ n. false; give = λ p ps. ps ++ (p ∷ []); long = λ ps. ps }

abbrev pub carved_all : List ℕ → Carved (List (List ℕ))
carved_all t = each (carve collects) t (carved [] 0 [])

abbrev pub packets_of : List ℕ → List (List ℕ)
packets_of t = (carved_all t).kept

-- what is left behind the last whole packet; "that last piece is dropped"
abbrev pub rest_of : List ℕ → List ℕ
rest_of t = (carved_all t).unfinished

-- ---- what they are (`packets_laid`, proofs/Packets.antt)
-- a packet in front, behind its length
pub record InFront (p t : List ℕ) : Type 0 where
  pub length_there : 2 ≤ length t
  pub length_is : field t 0 2 ≡ length p
  pub bytes_are : take (length p) (drop 2 t) ≡ p

-- t is "packets each behind a 2-byte length", and then u
abbrev pub Laid : List (List ℕ) → List ℕ → List ℕ → Type 0
Laid [] t u = t ≡ u
Laid (p ∷ ps) t u = InFront p t × Laid ps (drop (2 + length p) t) u

-- bytes that end "inside a length or packet", or where one would begin
abbrev pub Inside : List ℕ → Type 0
Inside u = (length u < 2) ⊎ (length u - 2 < field u 0 2)

-- no packet of at most 1,500 bytes lies whole in front
abbrev pub NoneInFront : List ℕ → Type 0
NoneInFront t = (packet_most < field t 0 2) ⊎ Inside t

-- ---- its end
-- what such bytes come to where no more follow: of an over-long packet the rest is still to be passed over, any other piece is held
unfoldable pub waiting : List ℕ → Standing → Hearing
waiting u k = pick (both (leb 2 (length u)) (ltb packet_most (field u 0 2))) (hearing [] (field u 0 2 - (length u - 2)) k) (hearing u 0 k)

-- ---- chunk after chunk
-- over what the chunk before left; a refused one stays refused, and nothing is fed after it
unfoldable pub fed_on : List ℕ → Feeding → Feeding
fed_on c x = go x.answer
  where
    go : Result Stream Refusal → Feeding
    go (Ok k) = fed k x.orders x.symbols x.shelf x.index x.hold c
    go (Err r) = x

unfoldable pub fed_all : List (List ℕ) → Feeding → Feeding
fed_all [] x = x
fed_all (c ∷ cs) x = fed_all cs (fed_on c x)

-- ---- from a start
-- nothing counted
abbrev pub began : Edition → ℕ → ℕ → ℕ → ℕ → Standing
began ed o s h i = standing 0 (bad_at 0 0) no_counts (fresh ed o s h i)

-- a stream that was opened over the tables of a start; w: the lent buffer, with any bytes
abbrev pub opened_over : Edition → ℕ → ℕ → ℕ → ℕ → List ℕ → Feeding
opened_over ed o s h i w = feeding (Ok (opened (fresh_state ed))) (replicate o 0) (replicate s 0) (replicate h 0) (start_index i o) w

-- ---- both engines: "Both give the same answers and the same tables on every run from a start that leaves tables and index to them" (request 9)
-- two streams after the same chunks: the answer (counts, why the last refused packet was, what is held, the receiver's state), the tables, the shelf and the buffer; all but the index
pub record SameFeeds (x x' : Feeding) : Type 0 where
  pub answer : x.answer ≡ x'.answer
  pub orders : x.orders ≡ x'.orders
  pub symbols : x.symbols ≡ x'.symbols
  pub shelf : x.shelf ≡ x'.shelf
  pub hold : x.hold ≡ x'.hold
