-- A recording that is heard: its packets are given to the receiver one after another, and what is left waits. Byte by byte, what the receiver's carving has is what the
-- collected packets make of it; an over-long one is refused, so passing it over makes no difference.
-- Assumes nothing.
use Prim.Native.Nat.{ℕ, ◌+◌, ◌-◌, ◌≤◌, ◌<◌}
use mathlib.Core.Path.{◌≡◌, refl, sym, ap, ◌∙◌}
use mathlib.Core.Logic.{inl, inr}
use mathlib.Core.Bool.{false}
use mathlib.Core.List.{List, [], ◌∷◌, ◌++◌}
use native.Mathlib.Omega.{arith}
use native.Mathlib.Decide.{dec_lt}
use lib.ListN.{length, take, drop, length-drop}
use lib.Seq.{length-take-le}
use lib.Dec.{leb, ltb, eqb}
use borrow.Author.Tests.{leb-true, ltb-true, le-leb, lt-leb, lt-ltb, le-ltb, ne_eqb}
use Rattle.facts.specs.Pick.{pick, both, either}
use Rattle.facts.specs.Limits.{packet_most}
use Rattle.facts.proofs.Picks.{pick_ind, both_true, either_none}
use Rattle.editions.specs.declared.Edition.{Edition}
use Rattle.wire.specs.Le.{field}
use Rattle.wire.specs.Records.{bad}
use Rattle.fields.specs.Fields.{refusal}
use Rattle.packet.specs.Packet.{framing}
use Rattle.arbitration.specs.Stream.{each}
use Rattle.receiver.specs.Lent.{real, Lent, Handled, received, received_all}
use Rattle.receiver.proofs.Accounts.{bad_keeps}
use Rattle.std.specs.Prelude.{Result, Ok, Err}
use Rattle.packet.specs.declared.Why.{Why}
use Rattle.receiver.specs.declared.Account.{Account}
use Rattle.recording.specs.Carve.{Carved, carved, passed, grown, carve}
use Rattle.recording.specs.Stream.{Standing, too_long, noted, heard, hears, hearer, Hearing, hearing, byte, cut, stream_in}
use Rattle.recording.specs.Whole.{collects, packets_of, rest_of, Inside, waiting}
use Rattle.recording.proofs.Bytes.{byte_grows, byte_passes, keeps_one, over_long, keeps, gives}
use Rattle.recording.proofs.Packets.{longer, announced, completed, size, same_length, exact, one_byte, Tiled, tiled_byte, none_tiled, packets_laid}

-- a packet of more than 1,500 bytes is refused, as any bad one is
framing_long : (ed : Edition) (p : List ℕ) → packet_most < length p → framing ed p ≡ bad (Why.Alone (refusal 1))
unfolding framing both pick
framing_long ed p h = simp (le-leb 1 (length p) (omega arith), lt-leb (length p) packet_most h)

pub heard_long : (p : List ℕ) (k : Standing) → packet_most < length p → heard p k ≡ too_long k
unfolding heard pick
heard_long p k h = simp (lt-ltb packet_most (length p) h)

-- ---- what the bytes that are left come to
waiting_over : (u : List ℕ) (k : Standing) → 2 ≤ length u → packet_most < field u 0 2 → waiting u k ≡ hearing [] (field u 0 2 - (length u - 2)) k
unfolding waiting both pick
waiting_over u k two long = simp (le-leb 2 (length u) two, lt-ltb packet_most (field u 0 2) long)

waiting_held : (u : List ℕ) (k : Standing) → (2 ≤ length u → field u 0 2 ≤ packet_most) → waiting u k ≡ hearing u 0 k
unfolding waiting both pick
waiting_held u k small = go (dec_lt (length u) 2)
  where
    go : Dec (length u < 2) → waiting u k ≡ hearing u 0 k
    go (yes a) = simp (lt-leb 2 (length u) a)
    go (no a) = simp (le-leb 2 (length u) (omega arith), le-ltb packet_most (field u 0 2) (small (omega arith)))

-- ---- one byte more, behind bytes that wait
module _ (u : List ℕ) (b : ℕ) (k : Standing) where
  abbrev v : List ℕ
  v = longer u b

  abbrev n : ℕ
  n = announced u b

  held_on : (2 ≤ length u → n ≤ packet_most) → byte b (waiting u k) ≡ grown hearer v k
  held_on small = ap (byte b) (waiting_held u k (λ two. omega (arith, small two, same_length u b two))) ∙ byte_grows hearer b u k

  -- of an over-long packet, m bytes are left
  passed_on : (m : ℕ) → 2 ≤ length u → packet_most < n → m ≡ n - (length u - 2) → 0 < m → byte b (waiting u k) ≡ hearing [] (m - 1) (pick (eqb 1 m) (hearer.long k) k)
  unfolding passed
  passed_on m two long e some =
      let f : n ≡ field u 0 2 = same_length u b two in
      let g : field u 0 2 - (length u - 2) ≡ m = omega arith in
      ap (byte b) (waiting_over u k two (omega arith) ∙ ap (λ j. hearing [] j k) g)
      ∙ byte_passes hearer b (hearing [] m k) some

  -- the packet is not all there yet
  stays : Inside v → byte b (waiting u k) ≡ waiting v k
  unfolding pick
  stays i = go (dec_lt (length v) 2) (dec_lt packet_most n) (dec_lt (length u) 2) i
    where
      go : Dec (length v < 2) → Dec (packet_most < n) → Dec (length u < 2) → Inside v → byte b (waiting u k) ≡ waiting v k
      go (yes a) c d i = held_on (λ two. absurd (omega (arith, size u b))) ∙ keeps_one hearer v k a ∙ sym (waiting_held v k (λ two. absurd (omega arith)))
      go (no a) c d (inl l) = absurd (omega arith)
      go (no a) (no c) d (inr l) = held_on (λ _. omega arith) ∙ keeps hearer v k (omega arith) (le-ltb packet_most n (omega arith)) (omega arith) ∙ sym (waiting_held v k (λ _. omega arith))
      go (no a) (yes c) (yes d) (inr l) =
          let all : n ≡ n - (length v - 2) = omega (arith, size u b) in
          held_on (λ two. absurd (omega arith)) ∙ over_long hearer v k (omega arith) (lt-ltb packet_most n c) ∙ ap (λ j. hearing [] j k) all ∙ sym (waiting_over v k (omega arith) c)
      go (no a) (yes c) (no d) (inr l) =
          let m : ℕ = n - (length u - 2) in
          let less : m - 1 ≡ n - (length v - 2) = omega (arith, size u b) in
          let more_left : eqb 1 m ≡ false = ne_eqb 1 m (λ e. omega (arith, size u b)) in
          passed_on m (omega arith) c refl (omega (arith, size u b))
          ∙ (λ j. hearing [] (less j) (pick (more_left j) (hearer.long k) k))
          ∙ sym (waiting_over v k (omega arith) c)

  -- its last byte
  ends : Inside u → 2 ≤ length v → n ≤ length v - 2 → byte b (waiting u k) ≡ hearing [] 0 (heard (take n (drop 2 v)) k)
  unfolding pick
  ends inside two packets_heard = go (dec_lt packet_most n)
    where
      all : length v ≡ 2 + n
      all = exact u b inside two packets_heard

      go : Dec (packet_most < n) → byte b (waiting u k) ≡ hearing [] 0 (heard (take n (drop 2 v)) k)
      go (no c) = held_on (λ _. omega arith) ∙ gives hearer v k two (le-ltb packet_most n (omega arith)) (omega arith)
      go (yes c) =
          let m : 1 ≡ n - (length u - 2) = omega (arith, size u b, all) in
          let p : length (take n (drop 2 v)) ≡ n = length-take-le n (drop 2 v) (rw length-drop packets_heard) in
          passed_on 1 (omega (arith, size u b, all)) c m (omega arith)
          ∙ ap (hearing [] 0) (sym (heard_long (take n (drop 2 v)) k (omega arith)))

-- ---- all bytes
hears_more : (ps : List (List ℕ)) (p : List ℕ) (k : Standing) → hears (ps ++ (p ∷ [])) k ≡ heard p (hears ps k)
unfolding hears
hears_more [] p k = refl
hears_more (q ∷ ps) p k = hears_more ps p (heard q k)

module _ (k : Standing) where
  -- what collected packets and a rest come to for the receiver
  abbrev came_to : Carved (List (List ℕ)) → Hearing
  came_to y = waiting y.unfinished (hears y.kept k)

  came_byte : (s : List ℕ) (b : ℕ) (y : Carved (List (List ℕ))) → Tiled s y → byte b (came_to y) ≡ came_to (carve collects b y)
  came_byte s b y a =
      let u = y.unfinished in
      one_byte (λ z. byte b (came_to y) ≡ came_to z) b y a.none_passed
      (λ i. stays u b (hears y.kept k) i)
      (λ two packets_heard.
      ends u b (hears y.kept k) a.inside two packets_heard
      ∙ ap (hearing [] 0) (sym (hears_more y.kept (completed u b) k))
      ∙ sym (waiting_held [] (hears (y.kept ++ (completed u b ∷ [])) k) (λ two. absurd (omega arith))))

  came_from : (t s : List ℕ) (y : Carved (List (List ℕ))) → Tiled s y → each byte t (came_to y) ≡ came_to (each (carve collects) t y)
  unfolding each
  came_from [] s y a = refl
  came_from (b ∷ t) s y a = ap (each byte t) (came_byte s b y a) ∙ came_from t (longer s b) (carve collects b y) (tiled_byte s b y a)

-- "packets each behind a 2-byte length": all of them and nothing else are given to the receiver and counted, and what is left of the recording waits
pub all_heard : (t : List ℕ) (k : Standing) → each byte t (hearing [] 0 k) ≡ waiting (rest_of t) (hears (packets_of t) k)
unfolding hears
all_heard t k = ap (each byte t) (sym (waiting_held [] k (λ two. absurd (omega arith)))) ∙ came_from k t [] (carved [] 0 []) none_tiled

waiting_kept : (u : List ℕ) (k : Standing) → (waiting u k).kept ≡ k
unfolding waiting
waiting_kept u k = pick_ind (λ (x : Hearing). x.kept ≡ k) (both (leb 2 (length u)) (ltb packet_most (field u 0 2))) (hearing [] (field u 0 2 - (length u - 2)) k) (hearing u 0 k) (λ _. refl) (λ _. refl)

pub packets_heard : (t : List ℕ) (k : Standing) → (each byte t (hearing [] 0 k)).kept ≡ hears (packets_of t) k
packets_heard t k = ap (λ (x : Hearing). x.kept) (all_heard t k) ∙ waiting_kept (rest_of t) (hears (packets_of t) k)

-- ---- "a recording that ends inside a length or packet gives `recording=cut`": where anything is left of it, and only there
cut_waiting : (u : List ℕ) (k : Standing) → Inside u → cut (stream_in (waiting u k)) ≡ ltb 0 (length u)
unfolding waiting cut either
cut_waiting u k i =
    pick_ind (λ (x : Hearing). cut (stream_in x) ≡ ltb 0 (length u)) (both (leb 2 (length u)) (ltb packet_most (field u 0 2))) (hearing [] (field u 0 2 - (length u - 2)) k) (hearing u 0 k)
    (λ t. over (leb-true 2 (length u) (both_true t).0) i)
    (λ _. either_none (ltb 0 (length u)))
  where
    over : 2 ≤ length u → Inside u → ltb 0 (field u 0 2 - (length u - 2)) ≡ ltb 0 (length u)
    over two (inl a) = absurd (omega arith)
    over two (inr b) = lt-ltb 0 (field u 0 2 - (length u - 2)) (omega arith) ∙ sym (lt-ltb 0 (length u) (omega arith))

pub cut_rest : (t : List ℕ) (k : Standing) → cut (stream_in (each byte t (hearing [] 0 k))) ≡ ltb 0 (length (rest_of t))
cut_rest t k = ap (λ (x : Hearing). cut (stream_in x)) (all_heard t k) ∙ cut_waiting (rest_of t) (hears (packets_of t) k) (packets_laid t).1

-- the receiver and its tables are those of as many calls of `receive`: over-long packets, which it would refuse, make no difference
counted_after : (a : Result Account Why) (after : Lent) (k : Standing) → (noted a after k).lent ≡ after
unfolding noted
counted_after (Ok t) after k = refl
counted_after (Err (Why.Alone r)) after k = refl
counted_after (Err (Why.Placed f)) after k = refl

heard_after : (p : List ℕ) (k : Standing) → (heard p k).lent ≡ (received k.lent p).after
unfolding heard
heard_after p k =
    let x : Handled = received k.lent p in
    pick_ind (λ (y : Standing). y.lent ≡ x.after) (ltb packet_most (length p)) (too_long k) (noted x.answer x.after k)
    (λ e. sym (bad_keeps (real k.lent.edition) k.lent p (Why.Alone (refusal 1)) (framing_long k.lent.edition p (ltb-true packet_most (length p) e))))
    (λ _. counted_after x.answer x.after k)

pub hears_receives : (ps : List (List ℕ)) (k : Standing) → (hears ps k).lent ≡ received_all ps k.lent
unfolding hears received_all
hears_receives [] k = refl
hears_receives (p ∷ ps) k = hears_receives ps (heard p k) ∙ ap (received_all ps) (heard_after p k)
