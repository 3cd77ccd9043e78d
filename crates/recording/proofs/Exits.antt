-- One law for each exit of the functions, over plain values.
-- Assumes nothing.
use Prim.Native.Nat.{ℕ, ◌+◌, ◌-◌, ◌≤◌, ◌<◌}
use mathlib.Core.Path.{◌≡◌, refl, sym, ap, ◌∙◌}
use mathlib.Core.Bool.{Bool, true, false}
use mathlib.Core.List.{List, [], ◌∷◌, ◌++◌, append-nil}
use native.Mathlib.Nat.{add-sub_cancel_left}
use native.Mathlib.Numerals.{add-one}
use native.Mathlib.Omega.{arith}
use lib.ListN.{length, take, drop, get_or, set, replicate, drop_of_length-le, length-take, length-drop, length-set}
use lib.Seq.{take-suc-set, length-take-le}
use borrow.Rule.Slice.PartMut.{put_mid}
use lib.Dec.{leb, eqb}
use borrow.Author.Tests.{leb-true, lt-ltb, le-ltb, eq-eqb, ne_eqb}
use Rattle.facts.specs.Pick.{pick, both}
use Rattle.facts.specs.Limits.{packet_most, hold_least}
use Rattle.facts.proofs.Picks.{both_true, pick_ind}
use Rattle.wire.specs.Le.{field}
use Rattle.arbitration.specs.Stream.{each}
use Rattle.fields.specs.Fields.{refusal, bad_at}
use Rattle.receiver.specs.Receiver.{next_ok}
use Rattle.receiver.specs.Lent.{Handled, received, sizes_ok}
use Rattle.receiver.specs.declared.Account.{Account}
use Rattle.std.specs.Prelude.{Result, Ok, Err}
use Rattle.packet.specs.declared.Why.{Why}
use Rattle.recording.specs.Stream.{added, Standing, standing, refused_for, placed, noted, heard, hearer, Hearing, hearing, byte, standing_of, hearing_of, feedable, feeding, took, fed}
use Rattle.recording.specs.Carve.{passed, grown}
use Rattle.recording.specs.Steps.{missed, passed_on, passed_over}
use Rattle.recording.specs.Whole.{InFront}
use Rattle.arbitration.specs.declared.Counts.{Counts}
use Rattle.recording.specs.declared.Stream.{Stream}
use Rattle.recording.proofs.Bytes.{byte_grows, at_byte, passes, keeps_one, over_long, keeps, gives, at_once, length_grew, same_length_field, same_bytes}

-- ---- `hear`: a packet, by its answer
module _ (k : Standing) (p : List ℕ) (short : length p ≤ packet_most) (x : Handled) (x_is : x ≡ received k.lent p) where
  heard_as : (a : Result Account Why) → x.answer ≡ a → noted a x.after k ≡ heard p k
  unfolding heard pick
  heard_as a e = simp (le-ltb packet_most (length p) short) (ap (λ (b : Result Account Why). noted b x.after k) (sym e) ∙ ap (λ (y : Handled). noted y.answer y.after k) x_is)

  pub heard_accepted : (a : Account) → x.answer ≡ Ok a → (n : Counts) → n ≡ added a.counts k.totals → standing k.bad k.last n x.after ≡ heard p k
  unfolding noted
  heard_accepted a e n q = ap (λ m. standing k.bad k.last m x.after) q ∙ heard_as (Ok a) e

  pub heard_refused : (w : Why) → x.answer ≡ Err w → refused_for (placed w) x.after k ≡ heard p k
  unfolding noted
  heard_refused w e = heard_as (Err w) e

-- ---- `passed`: n bytes of an over-long packet, with or without its last one
pub passed_last : (n : ℕ) (k v : Stream) → n ≤ k.skip → k.skip - n ≡ 0 → v ≡ missed (bad_at 1 0) (passed_on n k) → v ≡ passed_over n k
unfolding pick
passed_last n k v l z e = e ∙ (λ i. pick (sym (eq-eqb n k.skip (omega arith)) i) (missed (bad_at 1 0) (passed_on n k)) (passed_on n k))

pub passed_more : (n : ℕ) (k : Stream) → (k.skip - n ≡ 0 → ⊥) → passed_on n k ≡ passed_over n k
unfolding pick
passed_more n k z = λ i. pick (sym (ne_eqb n k.skip (λ e. z (omega arith))) i) (missed (bad_at 1 0) (passed_on n k)) (passed_on n k)

-- ---- `clear`
pub clear_zeros : (w : List ℕ) (h : ℕ) (z : List ℕ) → h ≤ length w → z ≡ replicate (length (take (length w - h) (drop h w))) 0 → put_mid h (length w - h) w z ≡ take h w ++ replicate (length w - h) 0
clear_zeros w h z l e =
    let n : length (take (length w - h) (drop h w)) ≡ length w - h = length-take-le (length w - h) (drop h w) (rw length-drop (omega arith)) in
    let behind : drop (length w - h) (drop h w) ≡ [] = drop_of_length-le (drop h w) {i = length w - h} (rw length-drop (omega arith)) in
    ap (λ v. take h w ++ (z ++ v)) behind ∙ ap (λ v. take h w ++ v) (append-nil z ∙ e ∙ ap (λ m. replicate m 0) n)

-- ---- `push`: w' is the buffer w with the byte stored
module _ (k : Stream) (o s h ix w : List ℕ) (b : ℕ) (no_skip : k.skip ≡ 0) (fits : k.held ≤ length w) (big : hold_least ≤ length w) (w' : List ℕ) (stored : w' ≡ set w k.held b) where
  abbrev u : List ℕ
  u = take k.held w ++ (b ∷ [])

  abbrev K : Standing
  K = standing_of k o s h ix

  abbrev x : Hearing
  x = hearing_of k o s h ix w

  is_grown : byte b x ≡ grown hearer u K
  is_grown = ap (λ n. byte b (hearing (take k.held w) n K)) no_skip ∙ byte_grows hearer b (take k.held w) K

  same_size : length w' ≡ length w
  same_size = ap length stored ∙ length-set w k.held b

  u_size : length u ≡ k.held + 1
  u_size = length_grew w k.held b fits

  one_kept : grown hearer u K ≡ hearing u 0 K → k.held < length w → (m : ℕ) → m ≡ k.held + 1 → hearing (take m w') k.skip K ≡ byte b x
  one_kept g l m e =
      let front : take m w' ≡ u = ap (λ v. take m v) stored ∙ ap (λ j. take j (set w k.held b)) (e ∙ add-one k.held) ∙ take-suc-set w k.held b l in
      (λ i. hearing (front i) (no_skip i) K) ∙ sym g ∙ sym is_grown

  pub push_first : k.held ≡ 0 → hearing (take 1 w') k.skip K ≡ byte b x
  push_first z = one_kept (keeps_one hearer u K (omega (arith, u_size))) (omega arith) 1 (omega arith)

  module _ (some : k.held ≡ 0 → ⊥) (n : ℕ) (n_is : n ≡ field w' 0 2) where
    u_field : n ≡ field u 0 2
    u_field = n_is ∙ ap (λ v. field v 0 2) stored ∙ same_length_field w k.held b fits (omega arith) (omega arith)

    u_two : 2 ≤ length u
    u_two = omega (arith, u_size)

    pub push_over : packet_most < n → hearing [] n K ≡ byte b x
    push_over l =
        let g = over_long hearer u K u_two (lt-ltb packet_most (field u 0 2) (omega (arith, u_field))) in
        (λ i. hearing [] (u_field i) K) ∙ sym g ∙ sym is_grown

    pub push_keeps : n ≤ packet_most → k.held ≤ n → hearing (take (k.held + 1) w') k.skip K ≡ byte b x
    push_keeps a c = one_kept (keeps hearer u K u_two (le-ltb packet_most (field u 0 2) (omega (arith, u_field))) (omega (arith, u_field, u_size))) (omega arith) (k.held + 1) refl

    -- z: where the whole packet led, with nothing held
    pub push_gives : n ≤ packet_most → n < k.held → (z : Standing) → z ≡ heard (take (2 + n - 2) (drop 2 w')) K → hearing [] 0 z ≡ byte b x
    push_gives a c z e =
        let g = gives hearer u K u_two (le-ltb packet_most (field u 0 2) (omega (arith, u_field))) (omega (arith, u_field, u_size)) in
        let p : take (2 + n - 2) (drop 2 w') ≡ take (field u 0 2) (drop 2 u) = rw (add-sub_cancel_left 2 n, stored, ← u_field) (same_bytes w k.held b fits n (omega arith) (omega arith)) in
        ap (hearing [] 0) e ∙ ap (λ q. hearing [] 0 (heard q K)) p ∙ sym g ∙ sym is_grown

-- ---- `step`
-- a stream that passes bytes over is the carving that does
as_passed : (t : Bool) (n : ℕ) (k : Stream) (o s h ix w : List ℕ) → hearing_of (pick t (missed (bad_at 1 0) (passed_on n k)) (passed_on n k)) o s h ix w ≡ hearing (take k.held w) (k.skip - n) (pick t (hearer.long (standing_of k o s h ix)) (standing_of k o s h ix))
unfolding pick
as_passed true n k o s h ix w = refl
as_passed false n k o s h ix w = refl

-- ch: what is left of a chunk
pub step_passes : (k : Stream) (o s h ix w ch : List ℕ) (n : ℕ) (v : Stream) → 0 < n → n ≤ k.skip → n ≤ length ch → v ≡ passed_over n k → each byte (drop n ch) (hearing_of v o s h ix w) ≡ each byte ch (hearing_of k o s h ix w)
unfolding passed
step_passes k o s h ix w ch n v p a l e =
    ap (λ x. each byte (drop n ch) (hearing_of x o s h ix w)) e
    ∙ ap (each byte (drop n ch)) (as_passed (eqb n k.skip) n k o s h ix w)
    ∙ passes hearer n ch (hearing_of k o s h ix w) p a l

-- bytes passed over leave the bytes that are held
pub passed_holds : (n : ℕ) (k v : Stream) → v ≡ passed_over n k → v.held ≡ k.held
passed_holds n k v e = ap (λ (x : Stream). x.held) e ∙ pick_ind (λ (x : Stream). x.held ≡ k.held) (eqb n k.skip) (missed (bad_at 1 0) (passed_on n k)) (passed_on n k) (λ _. refl) (λ _. refl)

-- a packet in front lies inside
pub in_front : {p t : List ℕ} → InFront p t → 2 + length p ≤ length t
in_front {p = p} {t = t} q = omega (arith, q.length_there, simp (length-take, length-drop) at (ap length q.bytes_are))

-- z: where the whole packet in front led, with nothing held
pub step_gives : (k : Stream) (o s h ix w ch p : List ℕ) → k.skip ≡ 0 → k.held ≡ 0 → InFront p ch → length p ≤ packet_most → 2 + length p ≤ length ch → (z : Standing) → z ≡ heard p (standing_of k o s h ix)
    → each byte (drop (2 + length p) ch) (hearing [] 0 z) ≡ each byte ch (hearing_of k o s h ix w)
step_gives k o s h ix w ch p no_skip none q short there z e =
    let K : Standing = standing_of k o s h ix in
    let m : length p ≡ field ch 0 2 = sym q.length_is in
    let bytes : p ≡ take (field ch 0 2) (drop 2 ch) = sym q.bytes_are ∙ ap (λ n. take n (drop 2 ch)) m in
    ap (λ x. each byte (drop (2 + length p) ch) (hearing [] 0 x)) e
    ∙ (λ i. each byte (drop (2 + m i) ch) (hearing [] 0 (heard (bytes i) K)))
    ∙ at_once hearer ch K (le-ltb packet_most (field ch 0 2) (omega (arith, q.length_is))) (omega (arith, q.length_is))
    ∙ (λ i. each byte ch (hearing (take (sym none i) w) (sym no_skip i) K))

pub step_pushes : (ch : List ℕ) (x y : Hearing) → 0 < length ch → y ≡ byte (get_or ch 0 0) x → each byte (drop 1 ch) y ≡ each byte ch x
step_pushes ch x y l e = ap (each byte (drop 1 ch)) e ∙ at_byte hearer ch 0 x l

-- ---- the loop's end
pub ran : (ch : List ℕ) → length ch ≡ 0 → (y z : Hearing) → each byte ch y ≡ z → y ≡ z
unfolding each
ran [] l y z e = e
ran (c ∷ cs) l y z e = absurd (omega arith)

-- ---- `feed`
module _ (k : Stream) (o s h ix w chunk : List ℕ) where
  pub fed_refused : feedable k (length o) (length s) (length h) (length ix) (length w) ≡ false → feeding (Err (refusal 6)) o s h ix w ≡ fed k o s h ix w chunk
  unfolding fed pick
  fed_refused e = simp e

  -- r and o' to ix' after all bytes, as they came back; w' the buffer then, and z it with the rest zeroed
  pub fed_took : feedable k (length o) (length s) (length h) (length ix) (length w) ≡ true → (r : Stream) (o' s' h' ix' w' z o₁ s₁ h₁ ix₁ : List ℕ) → o' ≡ o₁ → s' ≡ s₁ → h' ≡ h₁ → ix' ≡ ix₁ → length w' ≡ length w → r.held ≤ length w' → hearing_of r o₁ s₁ h₁ ix₁ w' ≡ each byte chunk (hearing_of k o s h ix w) → z ≡ take r.held w' ++ replicate (length w' - r.held) 0 → feeding (Ok r) o' s' h' ix' z ≡ fed k o s h ix w chunk
  unfolding fed took pick
  fed_took e r o' s' h' ix' w' z o₁ s₁ h₁ ix₁ os ss hs is n fits q c =
      let len : r.held ≡ length (take r.held w') = sym (length-take-le r.held w' fits) in
      let buffer : z ≡ take r.held w' ++ replicate (length w - length (take r.held w')) 0 = c ∙ (λ i. take r.held w' ++ replicate (n i - len i) 0) in
      (λ i. feeding (Ok (record { receiver = r.receiver; held = len i; skip = r.skip; bad = r.bad; last = r.last; totals = r.totals })) (os i) (ss i) (hs i) (is i) (buffer i))
      ∙ ap (took (length w)) q
      ∙ simp e

-- the buffer of a stream that is not refused
pub buffer_fits : (k : Stream) (o s h ix w : ℕ) → feedable k o s h ix w ≡ true → (k.held ≤ w) × (hold_least ≤ w)
unfolding feedable
buffer_fits k o s h ix w e =
    let b = (both_true {a = both (sizes_ok o s h ix) (next_ok k.receiver.next)} {b = both (leb hold_least w) (leb k.held w)} e).1 in
    let p = both_true {a = leb hold_least w} {b = leb k.held w} b in
    (leb-true k.held w p.1, leb-true hold_least w p.0)
