-- A piece is its whole packets, one by one from the front, and the rest: the code's loop, and the laws of pieces, go by that.
-- Assumes nothing.
use Prim.Native.Nat.{ℕ, zero, suc, ◌+◌, ◌^◌, ◌≤◌, ◌<◌}
use mathlib.Core.Path.{◌≡◌, refl, sym, ap, subst, ◌∙◌}
use mathlib.Core.Bool.{Bool, true, false}
use mathlib.Core.List.{List, ◌++◌, append_assoc}
use native.Mathlib.Nat.{add_assoc, add-zero, zero-add}
use native.Mathlib.Omega.{arith}
use lib.ListN.{length, take, drop, length-drop, length-set, take-append-drop}
use lib.Seq.{take-add, drop-drop, length-take-le}
use lib.Dec.{leb}
use borrow.Author.Tests.{le-leb, leb-true}
use Rattle.facts.specs.Pick.{pick, both}
use Rattle.facts.proofs.Picks.{both_true, refuted}
use Rattle.facts.proofs.SumLaws.{count_bound}
use Rattle.editions.specs.declared.Edition.{Edition}
use Rattle.wire.specs.Le.{field}
use Rattle.wire.specs.Records.{Rec, bad, records}
use Rattle.packet.specs.Packet.{Framing, framing}
use Rattle.retype.specs.Retyped.{Asked, is_update}
use Rattle.conversion.specs.Packet.{updates_in}
use Rattle.conversion.specs.Piece.{barred, Passing, passing, passed_by, passed, tally, tally_of, plus, Piece, piece, whole_front, packet_in_front, ahead, piece_from, piece_of, turned, pieced, Countable}
use Rattle.conversion.specs.Kept.{after}
use Rattle.conversion.specs.declared.Passed.{Passed}
use Rattle.conversion.specs.declared.Tally.{Tally}
use Rattle.std.specs.Prelude.{Ok}
use Rattle.packet.specs.declared.Why.{Why}
use Rattle.conversion.proofs.Chains.{Chain, none, one, packet_chain}
use Rattle.conversion.proofs.Turns.{rewritten_length, pasted_front, pasted_rest, pasted_size}

-- ---- a whole packet in front
pub whole_is : (t : List ℕ) → whole_front t ≡ true → (2 ≤ length t) × (2 + field t 0 2 ≤ length t)
unfolding whole_front
whole_is t e = let b = both_true {a = leb 2 (length t)} {b = leb (2 + field t 0 2) (length t)} e in (leb-true 2 (length t) b.0, leb-true (2 + field t 0 2) (length t) b.1)

pub is_whole : (t : List ℕ) → 2 + field t 0 2 ≤ length t → whole_front t ≡ true
unfolding whole_front both
is_whole t h = let two : 2 ≤ length t = omega arith in rw (le-leb 2 (length t) two, le-leb (2 + field t 0 2) (length t) h) refl

pub not_whole : (t : List ℕ) → length t < 2 + field t 0 2 → whole_front t ≡ false
not_whole t h = sym (refuted (whole_front t) (λ e. let w = whole_is t e in omega (arith, w.1)))

-- ---- sums of what was counted
plus_none : (t : Tally) → plus t (tally 0 0 0) ≡ t
plus_none t = λ i. tally (add-zero t.updates i) (add-zero t.unread i) (add-zero t.barred i)

pub none_plus : (t : Tally) → t ≡ plus (tally 0 0 0) t
none_plus t = λ i. tally (sym (zero-add t.updates) i) (sym (zero-add t.unread) i) (sym (zero-add t.barred) i)

pub plus_plus : (t u v : Tally) → plus t (plus u v) ≡ plus (plus t u) v
plus_plus t u v = λ i. tally (sym (add_assoc t.updates u.updates v.updates) i) (sym (add_assoc t.unread u.unread v.unread) i) (sym (add_assoc t.barred u.barred v.barred) i)

-- no count is above n
abbrev pub Few : Tally → ℕ → Type 0
Few t n = (t.updates ≤ n) × (t.unread ≤ n) × (t.barred ≤ n)

pub few_plus : (t u : Tally) (m n k : ℕ) → Few t m → Few u n → m + n ≤ k → Few (plus t u) k
few_plus t u m n k f g l = (omega (arith, f.0, g.0), omega (arith, f.1, g.1), omega (arith, f.2, g.2))

pub few_countable : (t : Tally) (n : ℕ) → Few t n → n < 2 ^ 64 → Countable t
few_countable t n f l = (omega (arith, f.0), omega (arith, f.1), omega (arith, f.2))

-- a packet has no more records than bytes
chain_count : (ed : Edition) (t : List ℕ) (cs : List Rec) → Chain ed t cs → length cs ≤ length t
chain_count ed _ _ none = omega arith
chain_count ed t _ (one _ cs w g k) = omega (arith, chain_count ed (drop (10 + field t 8 2) t) cs k, length-drop (10 + field t 8 2) t)

module _ (from : Edition) (a : Asked) where
  by_framing : (p : List ℕ) (x y : Framing) → framing from p ≡ x → (length (passed_by a x y p).packet ≡ length p) × Few (tally_of (passed_by a x y p).outcome) (2 + length p)
  unfolding passed_by barred updates_in
  by_framing p (records cs) y e =
      let most : updates_in cs ≤ length cs = count_bound (λ (c : Rec). is_update c.body) cs in
      (rewritten_length a p, (omega (arith, most, chain_count from p cs (packet_chain from p cs e)), omega arith, omega arith))
  by_framing p (bad w) (bad v) e = (refl, (omega arith, omega arith, omega arith))
  by_framing p (bad (Why.Alone r)) (records cs) e = (refl, (omega arith, omega arith, omega arith))
  by_framing p (bad (Why.Placed f)) (records cs) e = (length-set p (f.at + 1) 0, (omega arith, omega arith, omega arith))

  -- a packet of a recording keeps its length
  pub passed_length : (p : List ℕ) → length (passed from a p).packet ≡ length p
  unfolding passed
  passed_length p = (by_framing p (framing from p) (framing a.to p) refl).0

  pub passed_few : (p : List ℕ) → Few (tally_of (passed from a p).outcome) (2 + length p)
  unfolding passed
  passed_few p = (by_framing p (framing from p) (framing a.to p) refl).1

  -- ---- one packet, then the rest; more turns than there are bytes change nothing
  abbrev none_done : List ℕ → Piece
  none_done t = piece 0 (tally 0 0 0) t

  turn_none : (f : ℕ) (t : List ℕ) → whole_front t ≡ false → piece_from from a f t ≡ none_done t
  unfolding piece_from pick
  turn_none zero t h = refl
  turn_none (suc f) t h = rw h refl

  enough : (f g : ℕ) (t : List ℕ) → length t ≤ f → length t ≤ g → piece_from from a f t ≡ piece_from from a g t
  unfolding piece_from
  enough zero g t l m = let h = not_whole t (omega arith) in turn_none zero t h ∙ sym (turn_none g t h)
  enough (suc f) zero t l m = let h = not_whole t (omega arith) in turn_none (suc f) t h ∙ sym (turn_none zero t h)
  enough (suc f) (suc g) t l m = ap (λ (x : Piece). pick (whole_front t) (ahead t (passed from a (packet_in_front t)) x) (none_done t)) (enough f g (drop (2 + field t 0 2) t) (rw length-drop (omega arith)) (rw length-drop (omega arith)))

  pub piece_none : (t : List ℕ) → whole_front t ≡ false → piece_of from a t ≡ none_done t
  unfolding piece_of
  piece_none t h = turn_none (length t) t h

  turn_more : (f : ℕ) (t : List ℕ) → whole_front t ≡ true → length t ≤ f → piece_from from a f t ≡ ahead t (passed from a (packet_in_front t)) (piece_of from a (drop (2 + field t 0 2) t))
  unfolding piece_from piece_of pick
  turn_more zero t h l = let w = whole_is t h in absurd (omega (arith, w.0))
  turn_more (suc f) t h l =
      let u : List ℕ = drop (2 + field t 0 2) t in
      rw h (ap (ahead t (passed from a (packet_in_front t))) (enough f (length u) u (rw length-drop (omega arith)) (omega arith)))

  pub piece_more : (t : List ℕ) → whole_front t ≡ true → piece_of from a t ≡ ahead t (passed from a (packet_in_front t)) (piece_of from a (drop (2 + field t 0 2) t))
  unfolding piece_of
  piece_more t h = turn_more (length t) t h (omega arith)

  -- what holds where no whole packet is in front, and of a piece where it holds of what follows its first packet, holds of any piece
  module _ (P : List ℕ → Type 0) (stop : (t : List ℕ) → whole_front t ≡ false → P t) (on : (t : List ℕ) → whole_front t ≡ true → P (drop (2 + field t 0 2) t) → P t) where
    by_turns : (n : ℕ) (t : List ℕ) → length t ≤ n → P t
    by_turns zero t l = stop t (not_whole t (omega arith))
    by_turns (suc n) t l = go (λ u m. by_turns n u m) (whole_front t) refl
      where
        go : ((u : List ℕ) → length u ≤ n → P u) → (b : Bool) → whole_front t ≡ b → P t
        go again true e = on t e (again (drop (2 + field t 0 2) t) (rw length-drop (omega arith)))
        go again false e = stop t e

    pub piece_ind : (t : List ℕ) → P t
    piece_ind t = by_turns (length t) t (omega arith)

  -- ---- the loop: the piece b₀ at its entry, b now; t was counted
  pub record Went (b₀ b : List ℕ) (at : ℕ) (t : Tally) : Type 0 where
    pub as_it_was : drop at b ≡ drop at b₀
    pub comes_to : piece_of from a b₀ ≡ after (take at b) at t (piece_of from a (drop at b₀))

  pub went_none : (b : List ℕ) → Went b b 0 (tally 0 0 0)
  went_none b = record { as_it_was = refl; comes_to = λ i. piece (sym (zero-add (piece_of from a b).done) i) (none_plus (piece_of from a b).counts i) (piece_of from a b).bytes }

  pub went_end : (b₀ b : List ℕ) (at : ℕ) (t : Tally) → Went b₀ b at t → length (drop at b) < 2 + field b at 2 → turned (Ok (at, t)) b ≡ pieced (piece_of from a b₀)
  unfolding field
  went_end b₀ b at t w l =
      let u : List ℕ = drop at b₀ in
      let left : piece_of from a u ≡ none_done u = piece_none u (not_whole u (subst (λ (x : List ℕ). length x < 2 + field x 0 2) w.as_it_was l)) in
      let whole : take at b ++ u ≡ b = ap (λ (x : List ℕ). take at b ++ x) (sym w.as_it_was) ∙ take-append-drop at b in
      sym (ap pieced (w.comes_to ∙ ap (after (take at b) at t) left ∙ (λ i. piece (add-zero at i) (plus_none t i) (whole i))))

  -- a turn: the packet at `at` has n bytes, which a call has made s
  module _ (b₀ b s : List ℕ) (at n m : ℕ) (t v : Tally) (o : Passed) (w : Went b₀ b at t) (n_is : n ≡ field b at 2) (m_is : m ≡ n) (fits : at + 2 + n ≤ length b) (made : passing o s ≡ passed from a (take m (drop (at + 2) b))) (sum : v ≡ plus t (tally_of o)) where
    abbrev u : List ℕ
    u = drop at b₀

    abbrev q : List ℕ
    q = take (at + 2) b ++ (s ++ drop m (drop (at + 2) b))

    len_is : n ≡ field u 0 2
    unfolding field
    len_is = n_is ∙ ap (λ (x : List ℕ). field x 0 2) w.as_it_was

    packet_is : take m (drop (at + 2) b) ≡ packet_in_front u
    packet_is = (λ i. take ((m_is ∙ len_is) i) (drop (at + 2) b)) ∙ ap (take (field u 0 2)) (sym (drop-drop 2 at b) ∙ ap (drop 2) w.as_it_was)

    is : passing o s ≡ passed from a (packet_in_front u)
    is = made ∙ ap (passed from a) packet_is

    part_size : length (take m (drop (at + 2) b)) ≡ m
    part_size = length-take-le m (drop (at + 2) b) (rw length-drop (omega arith))

    s_size : length s ≡ m
    s_size = ap (λ (x : Passing). length x.packet) made ∙ passed_length (take m (drop (at + 2) b)) ∙ part_size

    pub went_few : Few (tally_of o) (2 + n)
    went_few = subst (Few (tally_of o)) (ap (λ (k : ℕ). 2 + k) (part_size ∙ m_is)) (subst (λ (x : Passed). Few (tally_of x) (2 + length (take m (drop (at + 2) b)))) (sym (ap (λ (x : Passing). x.outcome) made)) (passed_few (take m (drop (at + 2) b))))

    is_here : whole_front u ≡ true
    is_here = is_whole u (omega (arith, len_is, ap length w.as_it_was, length-drop at b, fits))

    abbrev r : Piece
    r = piece_of from a (drop (2 + field u 0 2) u)

    step_on : at + 2 + m ≡ at + (2 + n)
    step_on = omega arith

    front : take (at + (2 + n)) q ≡ take at b ++ (take 2 u ++ s)
    front =
        ap (λ (k : ℕ). take k q) (sym step_on)
        ∙ pasted_front b s (at + 2) m (omega arith) s_size
        ∙ ap (λ (x : List ℕ). x ++ s) (take-add at 2 b)
        ∙ append_assoc (take at b) (take 2 (drop at b)) s
        ∙ ap (λ (x : List ℕ). take at b ++ (take 2 x ++ s)) w.as_it_was

    behind : drop (at + (2 + n)) q ≡ drop (at + (2 + n)) b
    behind = ap (λ (k : ℕ). drop k q) (sym step_on) ∙ pasted_rest b s (at + 2) m (omega arith) s_size ∙ ap (λ (k : ℕ). drop k b) step_on

    left : (x : List ℕ) → drop at x ≡ u → drop (at + (2 + n)) x ≡ drop (2 + field u 0 2) u
    left x e = sym (drop-drop (2 + n) at x) ∙ (λ i. drop (2 + len_is i) (e i))

    sizes : at + (2 + (field u 0 2 + r.done)) ≡ at + (2 + n) + r.done
    sizes = omega (arith, len_is)

    all_bytes : take at b ++ (take 2 u ++ (s ++ r.bytes)) ≡ take (at + (2 + n)) q ++ r.bytes
    all_bytes = ap (λ (x : List ℕ). take at b ++ x) (sym (append_assoc (take 2 u) s r.bytes)) ∙ sym (append_assoc (take at b) (take 2 u ++ s) r.bytes) ∙ ap (λ (x : List ℕ). x ++ r.bytes) (sym front)

    pub went_more : Went b₀ q (at + (2 + n)) v
    went_more =
        record {
          as_it_was = behind ∙ left b w.as_it_was ∙ sym (left b₀ refl);
          comes_to =
              w.comes_to
              ∙ ap (after (take at b) at t) (piece_more u is_here ∙ ap (λ (x : Passing). ahead u x r) (sym is))
              ∙ (λ i. piece (sizes i) ((plus_plus t (tally_of o) r.counts ∙ ap (λ (x : Tally). plus x r.counts) (sym sum)) i) (all_bytes i))
              ∙ ap (λ (x : List ℕ). after (take (at + (2 + n)) q) (at + (2 + n)) v (piece_of from a x)) (sym (left b₀ refl));
        }

    pub went_size : length q ≡ length b
    went_size = pasted_size b s (at + 2) m (omega arith) s_size
