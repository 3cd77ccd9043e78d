-- Packets laid one behind the other stay so with one more behind them, and no other packets lie there (laid_once); a packet with its length is what was written of it.
-- Assumes nothing.
use Prim.Native.Nat.{ℕ, ◌+◌, ◌≤◌}
use mathlib.Core.Path.{◌≡◌, refl, sym, ap, subst, ◌∙◌}
use mathlib.Core.Logic.{inl, inr}
use mathlib.Core.List.{List, [], ◌∷◌, ◌++◌, append_assoc, append-nil}
use native.Mathlib.Omega.{arith}
use lib.ListN.{length, take, drop, length-append, length-drop, length-take, take-append-drop}
use lib.Seq.{sets, length-sets, sets-eq, take_at, drop_at, take-add, take-append-le, drop-append-le, length-take-le}
use borrow.Author.Tests.{le-leb, leb-true}
use native.Mathlib.Nat.{add-zero, zero-add, add_assoc}
use Rattle.facts.specs.Limits.{packet_most}
use Rattle.facts.specs.Pick.{pick}
use Rattle.facts.proofs.Picks.{pick_cases}
use Rattle.facts.proofs.Stores.{sets_append}
use Rattle.editions.specs.declared.Edition.{Edition}
use Rattle.wire.specs.Le.{le, to_le, field, Bytes}
use Rattle.wire.proofs.Bytewise.{bytes_drop}
use Rattle.wire.proofs.Laws.{le_to_le}
use Rattle.layout.specs.Shape.{number, cut, joined}
use Rattle.layout.proofs.Laws.{joined_cut}
use Rattle.packet.specs.Packet.{read_packet}
use Rattle.std.specs.Prelude.{Ok}
use Rattle.packet.proofs.Good.{good_framing, framing_size}
use Rattle.trips.specs.Records.{length_first}
use Rattle.writer.specs.Append.{writing, room_number, packet_appended}
use Rattle.writer.specs.Behind.{next_to}
use Rattle.writer.proofs.Laws.{length_first_lem, put_stored, good_here}
use Rattle.writer.proofs.Behind.{stored_is}
use Rattle.recording.specs.Whole.{packets_of, rest_of, InFront, Laid}
use Rattle.recording.proofs.Packets.{packets_laid, laid_once}
use Rattle.composed.specs.Recordings.{recording_bytes, packets_appended, AllTaken, OneMore}

-- ---- a packet behind its length
-- with anything behind it, it is in front
front_of : (p q : List ℕ) → length p ≤ packet_most → InFront p (length_first p ++ q)
unfolding length_first field to_le
front_of p q l =
    let n : le (to_le 2 (length p)) ≡ length p = le_to_le 2 (length p) (omega arith) in
    record { length_there = omega arith; length_is = n; bytes_are = take_at p q (length p) refl }

-- a length that is there stays with more behind it
field_front : (a b : List ℕ) → 2 ≤ length a → field (a ++ b) 0 2 ≡ field a 0 2
unfolding field
field_front a b h = ap le (take-append-le 2 a b h)

-- more bytes behind what is laid
laid_behind : (ps : List (List ℕ)) (t u s : List ℕ) → Laid ps t u → Laid ps (t ++ s) (u ++ s)
laid_behind [] t u s e = ap (λ (l : List ℕ). l ++ s) e
laid_behind (p ∷ ps) t u s (f, r) =
    let there : length p ≤ length (drop 2 t) = omega (arith, ap length f.bytes_are, length-take (length p) (drop 2 t)) in
    let all : 2 + length p ≤ length t = omega (arith, f.length_there, length-drop 2 t) in
    let same : field (t ++ s) 0 2 ≡ field t 0 2 = field_front t s f.length_there in (
      record {
        length_there = rw length-append (omega (arith, f.length_there));
        length_is = same ∙ f.length_is;
        bytes_are = ap (take (length p)) (drop-append-le 2 t s f.length_there) ∙ (take-append-le (length p) (drop 2 t) s there ∙ f.bytes_are);
      },
      subst (λ (l : List ℕ). Laid ps l (u ++ s)) (sym (drop-append-le (2 + length p) t s all)) (laid_behind ps (drop (2 + length p) t) u s r),
    )

laid_more : (ps : List (List ℕ)) (t s p : List ℕ) → InFront p s → length s ≡ 2 + length p → Laid ps t s → Laid (ps ++ (p ∷ [])) t []
laid_more [] t s p f l e = subst (λ (z : List ℕ). InFront p z × (drop (2 + length p) z ≡ [])) (sym e) (f, none s (2 + length p) l)
  where
    none : (z : List ℕ) (n : ℕ) → length z ≡ n → drop n z ≡ []
    none z n h = sym (ap (drop n) (append-nil z)) ∙ drop_at z [] n h
laid_more (q ∷ ps) t s p f l (g, r) = (g, laid_more ps (drop (2 + length q) t) s p f l r)

-- ---- a packet that was written is the next packet
room_there : (room new : ℕ) → room_number room new ≡ 0 → new ≤ room
unfolding room_number
room_there room new e = elim (pick_cases e) [ inl h ↦ leb-true new room h.0 | inr h ↦ absurd (omega (arith, h.1)) ]

pub recording_grows : (ed : Edition) (m : List ℕ) (at : ℕ) (p : List ℕ) (l : ℕ) (w : List ℕ) → packet_appended ed m at p ≡ writing (Ok l) w → rest_of (take at m) ≡ [] → OneMore m at p l w
unfolding packet_appended
recording_grows ed m at p l w e r =
    let s : List ℕ = length_first p in
    let x = stored_is (read_packet ed p) (room_number (length m) (at + length s)) m at s l w e in
    let f = good_framing ed p x.records_so_far x.read_good in
    let short : length p ≤ packet_most = (framing_size ed p f.0 f.1).1 in
    let room : at + length s ≤ length m = room_there (length m) (at + length s) x.none in
    let a : length (take at m) ≡ at = length-take-le at m x.within in
    let put_is : w ≡ take at m ++ s ++ drop (at + length s) m = x.memory_is ∙ sets-eq s m at room in
    let long : length (take at m ++ s) ≡ l = rw length-append (omega (arith, x.length_is)) in
    let whole : take l w ≡ take at m ++ s = rw put_is (take_at (take at m ++ s) (drop (at + length s) m) l long) in
    let ps : List (List ℕ) = packets_of (take at m) in
    let before : Laid ps (take at m) [] = subst (Laid ps (take at m)) r (packets_laid (take at m)).0 in
    let here : InFront p s = subst (InFront p) (append-nil s) (front_of p [] short) in
    let now_laid : Laid (ps ++ (p ∷ [])) (take l w) [] = subst (λ (t : List ℕ). Laid (ps ++ (p ∷ [])) t []) (sym whole) (laid_more ps (take at m ++ s) s p here (length_first_lem p) (laid_behind ps (take at m) [] s before)) in
    let found = packets_laid (take l w) in
    let same = laid_once (packets_of (take l w)) (ps ++ (p ∷ [])) (take l w) (rest_of (take l w)) [] found.0 found.1 now_laid (inl (omega arith)) in
    record {
      packets_are = same.0;
      none_left = same.1;
      length_is = x.length_is ∙ ap (λ (j : ℕ). at + j) (length_first_lem p);
      front_stays = rw (put_is, append_assoc (take at m) s (drop (at + length s) m)) (take_at (take at m) (s ++ drop (at + length s) m) at a);
      rest_stays = rw put_is (drop_at (take at m ++ s) (drop (at + length s) m) l long) ∙ ap (λ (j : ℕ). drop j m) (sym x.length_is);
      size_stays = ap length x.memory_is ∙ length-sets m at s;
    }

-- ---- a whole recording: read, it has the packets that were written, and written, the bytes that were read
-- no packet is longer than one can be
abbrev pub AllShort : List (List ℕ) → Type 0
AllShort [] = Unit {0}
AllShort (p ∷ ps) = (length p ≤ packet_most) × AllShort ps

laid_down : (ps : List (List ℕ)) → AllShort ps → Laid ps (recording_bytes ps) []
unfolding recording_bytes
laid_down [] h = refl
laid_down (p ∷ ps) h = (front_of p (recording_bytes ps) h.0, subst (λ (t : List ℕ). Laid ps t []) (sym (drop_at (length_first p) (recording_bytes ps) (2 + length p) (length_first_lem p))) (laid_down ps h.1))

pub recording_read : (ps : List (List ℕ)) → AllShort ps → (packets_of (recording_bytes ps) ≡ ps) × (rest_of (recording_bytes ps) ≡ [])
recording_read ps h = let f = packets_laid (recording_bytes ps) in laid_once (packets_of (recording_bytes ps)) ps (recording_bytes ps) (rest_of (recording_bytes ps)) [] f.0 f.1 (laid_down ps h) (inl (omega arith))

written_front : (p t : List ℕ) → Bytes t → InFront p t → length_first p ≡ take (2 + length p) t
unfolding length_first joined
written_front p t h f =
    let two : joined (number 2 ∷ []) (cut (number 2 ∷ []) t 0) ≡ take 2 t = joined_cut (number 2 ∷ []) t 0 h (omega (arith, f.length_there)) in
    let head : to_le 2 (length p) ≡ take 2 t = ap (to_le 2) (sym f.length_is) ∙ (sym (append-nil (to_le 2 (field t 0 2))) ∙ two) in
    rw (head, take-add 2 (length p) t, f.bytes_are) refl

laid_bytes : (ps : List (List ℕ)) (t : List ℕ) → Bytes t → Laid ps t [] → recording_bytes ps ≡ t
unfolding recording_bytes
laid_bytes [] t h e = sym e
laid_bytes (p ∷ ps) t h (f, r) = rw (written_front p t h f, laid_bytes ps (drop (2 + length p) t) (bytes_drop (2 + length p) t h) r) (take-append-drop (2 + length p) t)

pub recording_written : (t : List ℕ) → Bytes t → rest_of t ≡ [] → recording_bytes (packets_of t) ≡ t
recording_written t h e = laid_bytes (packets_of t) t h (subst (Laid (packets_of t) t) e (packets_laid t).0)

-- ---- packet by packet
one_written : (ed : Edition) (m : List ℕ) (at : ℕ) (p : List ℕ) (n : ℕ) → read_packet ed p ≡ Ok n → at + length (length_first p) ≤ length m → packet_appended ed m at p ≡ writing (Ok (at + length (length_first p))) (sets m at (length_first p))
unfolding packet_appended room_number pick
one_written ed m at p n e room =
    let s : List ℕ = length_first p in
    let k : ℕ = room_number (length m) (at + length s) in
    let z : k ≡ 0 = rw (le-leb (at + length s) (length m) room) refl in
    sym (good_here (read_packet ed p) k m at s n (omega arith) e) ∙ sym (put_stored k m at s z)

packets_written : (ed : Edition) (ps : List (List ℕ)) (m : List ℕ) (at : ℕ) → AllTaken ed ps → at + length (recording_bytes ps) ≤ length m → packets_appended ed ps m at ≡ writing (Ok (at + length (recording_bytes ps))) (sets m at (recording_bytes ps))
unfolding packets_appended next_to recording_bytes
packets_written ed [] m at h room = rw (add-zero at) refl
packets_written ed (p ∷ ps) m at h room =
    let s : List ℕ = length_first p in
    let q : List ℕ = recording_bytes ps in
    let long : length (s ++ q) ≡ length s + length q = length-append s q in
    let one = one_written ed m at p h.0.0 h.0.1 (omega arith) in
    let size : length (sets m at s) ≡ length m = length-sets m at s in
    let rest = packets_written ed ps (sets m at s) (at + length s) h.1 (omega arith) in
    ap (next_to (packets_appended ed ps)) one ∙ (rest ∙ rw (← sets_append s q m at, add_assoc at (length s) (length q), long) refl)

-- a whole recording of packets that a reader takes, written packet by packet from nothing, is that recording
pub packet_by_packet : (ed : Edition) (t m : List ℕ) → Bytes t → rest_of t ≡ [] → AllTaken ed (packets_of t) → length t ≤ length m → packets_appended ed (packets_of t) m 0 ≡ writing (Ok (length t)) (t ++ drop (length t) m)
packet_by_packet ed t m h e a l =
    let is : recording_bytes (packets_of t) ≡ t = recording_written t h e in
    let room : 0 + length (recording_bytes (packets_of t)) ≤ length m = rw is (omega arith) in
    packets_written ed (packets_of t) m 0 a room
    ∙ rw (is, zero-add (length t)) (ap (writing (Ok (length t))) (sets-eq t m 0 (omega arith) ∙ rw (zero-add (length t)) refl))
