-- Where a slot's parts lie in the lent bytes: a slot is a piece of 74 bytes, its number, length and body are parts of that.
-- Assumes nothing.
use Prim.Native.Nat.{ℕ, zero, suc, ◌+◌, ◌*◌, ◌/◌, ◌-◌, ◌≤◌, ◌<◌, min, max}
use mathlib.Core.Path.{◌≡◌, refl, sym, ap, ◌∙◌}
use mathlib.Core.Logic.{◌≢◌}
use mathlib.Core.List.{List, [], ◌∷◌, ◌++◌, append_assoc, append-nil}
use mathlib.Core.Bool.{Bool, true, false, ◌&&◌}
use lib.Dec.{eqb}
use lib.Pointwise.{pointwise}
use lib.ListN.{length, get_or, take, drop, replicate, length-append, length-drop, drop_of_length-le}
use lib.Seq.{sets, take_at, drop_at, take-take, length-take-le, drop-drop, sets-eq, ext_get_or}
use native.Mathlib.Nat.{add-sub_cancel_left}
use native.Mathlib.Omega.{arith}
use borrow.Author.Tests.{eqb-true, eq-eqb, ne_eqb}
use Rattle.facts.specs.Limits.{shelf_size}
use Rattle.facts.specs.Pick.{both}
use Rattle.std.proofs.Common.{add-one, zero-add}
use Rattle.std.specs.Simd.{first_chunks}
use Rattle.std.proofs.lemmas.List.{take_min}
use Rattle.facts.specs.Pieces.{cut, pieces}
use Rattle.facts.proofs.PieceLaws.{length_piece, piece_fits, put_in, put_out, pieces_replicate}
use Rattle.wire.specs.Le.{le, to_le, field, padded}
use Rattle.wire.proofs.Laws.{length_padded, get_or_padded, padded_part, length_to_le, stored_behind}
use Rattle.facts.specs.Same.{same_bytes}
use Rattle.facts.proofs.SameLaws.{same_bytes_refl, bytes_differ}
use Rattle.arbitration.specs.Receive.{highest}
use Rattle.arbitration.specs.Slots.{Slot, empty_slot, slot_for, slot_body, same_slot}
use Rattle.shelf.specs.Shelf.{slot_size, good_shelf, slot_from, bytes_of, slot_at, put_slot}
use Rattle.shelf.specs.Store.{shelf_store}
use Rattle.shelf.proofs.StoreLaws.{length_bytes}

-- ---- the slots, as the code cuts them out
chunks_cut : (w n : ℕ) (t : List ℕ) → first_chunks w n t ≡ cut w n t
unfolding cut
chunks_cut w zero t = refl
chunks_cut w (suc n) t = ap (λ (l : List (List ℕ)). take w t ∷ l) (chunks_cut w n (drop w t))

pub chunks_pieces : (t : List ℕ) → first_chunks slot_size (length t / slot_size) t ≡ pieces slot_size t
unfolding pieces
chunks_pieces t = chunks_cut slot_size (length t / slot_size) t

-- ---- what is read of them
module _ (t : List ℕ) (i : ℕ) (x : List ℕ) (is : x ≡ get_or (pieces slot_size t) i []) where
  slot_is : slot_from x ≡ slot_at t i
  unfolding slot_at
  slot_is = ap slot_from is

  pub number_is : field x 0 8 ≡ (slot_at t i).number
  unfolding slot_from
  number_is = ap (λ (s : Slot). s.number) slot_is

  pub len_is : field x 8 2 ≡ (slot_at t i).len
  unfolding slot_from
  len_is = ap (λ (s : Slot). s.len) slot_is

  body_is : (n : ℕ) → n ≡ field x 8 2 → take n (padded x 10 64) ≡ slot_body (slot_at t i)
  unfolding slot_from
  body_is n e = ap (λ (k : ℕ). take k (padded x 10 64)) e ∙ ap slot_body slot_is

  -- the body as the code cuts it out, of a slot that is there and of none
  pub body_in : (n : ℕ) → n ≡ field x 8 2 → length x ≡ 74 → take (10 + min n 64 - 10) (drop 10 x) ≡ slot_body (slot_at t i)
  body_in n e l =
      let part : padded x 10 64 ≡ take 64 (drop 10 x) = padded_part x 10 64 (omega arith) in
      let front : take (min n 64) (padded x 10 64) ≡ take n (padded x 10 64) = rw length_padded at (take_min n (padded x 10 64)) in
      rw (add-sub_cancel_left 10 (min n 64)) (sym (ap (take (min n 64)) part ∙ take-take (min n 64) 64 (drop 10 x) (omega arith)) ∙ front ∙ body_is n e)

  pub number_none : x ≡ [] → 0 ≡ (slot_at t i).number
  unfolding field le
  number_none e = ap (λ (y : List ℕ). field y 0 8) (sym e) ∙ number_is

  pub body_none : x ≡ [] → [] ≡ slot_body (slot_at t i)
  unfolding field le
  body_none e = let n : 0 ≡ field x 8 2 = ap (λ (y : List ℕ). field y 8 2) (sym e) in body_is 0 n

  -- the three tests of `holds`
  module _ (n : ℕ) (b : List ℕ) where
    pub other_number : field x 0 8 ≢ n → false ≡ same_slot (slot_at t i) (slot_for n b)
    unfolding same_slot both slot_from
    other_number d = rw (← slot_is, ne_eqb (field x 0 8) n d)

    pub other_length : field x 0 8 ≡ n → field x 8 2 ≢ length b → false ≡ same_slot (slot_at t i) (slot_for n b)
    unfolding same_slot both slot_from
    other_length e d = rw (← slot_is, eq-eqb (field x 0 8) n e, ne_eqb (field x 8 2) (length b) d)

    pub bytes_decide : field x 0 8 ≡ n → field x 8 2 ≡ length b → same_bytes (padded x 10 64) (padded b 0 64) ≡ same_slot (slot_at t i) (slot_for n b)
    unfolding same_slot both slot_from
    bytes_decide e d = rw (← slot_is, eq-eqb (field x 0 8) n e, eq-eqb (field x 8 2) (length b) d)

-- ---- `==` of two arrays is same_bytes
and_same : (b : Bool) {s t : Bool} → s ≡ t → (b && s) ≡ both b t
unfolding both
and_same true e = e
and_same false e = refl

pub pointwise_same : (xs ys : List ℕ) → pointwise eqb xs ys ≡ same_bytes xs ys
unfolding same_bytes both
pointwise_same [] [] = refl
pointwise_same [] (y ∷ ys) = refl
pointwise_same (x ∷ xs) [] = refl
pointwise_same (x ∷ xs) (y ∷ ys) = and_same (eqb x y) (pointwise_same xs ys)

-- ---- comparing 64 bytes behind ten with a body and the zeros behind it
module _ (x b : List ℕ) where
  body_at : (k : ℕ) → k < 64 → get_or (padded b 0 64) k 0 ≡ get_or b k 0
  body_at k h = get_or_padded b 0 64 k h ∙ ap (λ (j : ℕ). get_or b j 0) (zero-add k)

  pub one_differs : (k : ℕ) → k < 64 → get_or x (10 + k) 0 ≢ get_or b k 0 → false ≡ same_bytes (padded x 10 64) (padded b 0 64)
  one_differs k h n =
      sym (bytes_differ (padded x 10 64) (padded b 0 64) k (rw length_padded h) (rw length_padded h)
      (λ e. n (sym (get_or_padded x 10 64 k h) ∙ e ∙ body_at k h)))

  pub all_same : ((k : ℕ) → k < 64 → get_or x (10 + k) 0 ≡ get_or b k 0) → true ≡ same_bytes (padded x 10 64) (padded b 0 64)
  all_same h =
      let e : padded x 10 64 ≡ padded b 0 64 =
      ext_get_or 0 (padded x 10 64) (padded b 0 64) (length_padded x 10 64 ∙ sym (length_padded b 0 64))
      (λ k l. go k (rw length_padded at l))
      in
      rw e (sym (same_bytes_refl (padded b 0 64)))
    where
      go : (k : ℕ) → k < 64 → get_or (padded x 10 64) k 0 ≡ get_or (padded b 0 64) k 0
      go k l = get_or_padded x 10 64 k l ∙ h k l ∙ sym (body_at k l)

-- ---- writing a slot: a part that comes back as other 74 bytes is that slot put
pub part_put : (t : List ℕ) (i : ℕ) (s : Slot) (x : List ℕ) → i < length t / 74 → x ≡ bytes_of s → length s.bytes ≡ 64
    → take (74 * i) t ++ (x ++ drop (74 * i + 74 - 74 * i) (drop (74 * i) t)) ≡ put_slot t i s
unfolding put_slot
part_put t i s x h e b =
    let l : length (bytes_of s) ≡ 74 = length_bytes s b in
    let f : 74 * i + length (bytes_of s) ≤ length t = omega (arith, piece_fits slot_size t i h) in
    rw e
    (sym (put_in slot_size t i (bytes_of s) h ∙ sets-eq (bytes_of s) t (74 * i) f
    ∙ rw (l, add-sub_cancel_left (74 * i) 74, drop-drop 74 (74 * i) t) (append_assoc (take (74 * i) t) (bytes_of s) (drop (74 * i + 74) t))))

pub put_past : (t : List ℕ) (i : ℕ) (s : Slot) → length t / 74 ≤ i → t ≡ put_slot t i s
unfolding put_slot
put_past t i s h = sym (put_out slot_size t i (bytes_of s) h)

-- a part of 74 bytes that was zeroed is an empty slot
pub empty_part : (t : List ℕ) (i : ℕ) (x : List ℕ) → i < length t / 74 → x ≡ replicate (length (take (74 * i + 74 - 74 * i) (drop (74 * i) t))) 0 → x ≡ bytes_of empty_slot
unfolding bytes_of to_le
empty_part t i x h e = rw (add-sub_cancel_left (74 * i) 74, length_piece slot_size t i h) at e

-- number and length stored in front, and the body's part behind them, are the slot
module _ (x : List ℕ) (n : ℕ) (b one two y : List ℕ) (l : length x ≡ 74) where
  pub filled : one ≡ sets x 0 (to_le 8 n) → two ≡ sets one 8 (to_le 2 (length b)) → y ≡ padded b 0 (length (take 64 (drop 10 two)))
      → take 10 two ++ (y ++ drop 64 (drop 10 two)) ≡ bytes_of (slot_for n b)
  unfolding bytes_of
  filled e1 e2 e3 =
      let p : List ℕ = to_le 8 n in
      let q : List ℕ = to_le 2 (length b) in
      let r : List ℕ = drop 2 (drop 8 x) in
      let lp : length p ≡ 8 = length_to_le 8 n in
      let lq : length q ≡ 2 = length_to_le 2 (length b) in
      let first : one ≡ p ++ drop 8 x = e1 ∙ stored_behind [] x p 0 refl (omega arith) ∙ rw lp in
      let second : two ≡ (p ++ q) ++ r = e2 ∙ rw first (stored_behind p (drop 8 x) q 8 lp (rw length-drop (omega arith)) ∙ rw lq) in
      let lh : length (p ++ q) ≡ 10 = rw length-append (omega arith) in
      let lr : length r ≡ 64 = rw (length-drop, length-drop) (omega arith) in
      let front : take 10 two ≡ p ++ q = rw second (take_at (p ++ q) r 10 lh) in
      let behind : drop 10 two ≡ r = rw second (drop_at (p ++ q) r 10 lh) in
      let slots_64 : y ≡ padded b 0 64 = rw (behind, length-take-le 64 r (omega arith)) at e3 in
      rw (front, behind, slots_64, drop_of_length-le r {i = 64} (omega arith), append-nil) (append_assoc p q (padded b 0 64))

-- ---- sizes and starts
pub good_size : (n : ℕ) → good_shelf n ≡ true → n ≡ shelf_size
unfolding good_shelf
good_size n e = eqb-true n shelf_size e

-- every slot of zeros is empty, there or not
pub zeros_empty : (n i : ℕ) → slot_at (replicate n 0) i ≡ empty_slot
unfolding slot_at slot_from field padded le
zeros_empty n i = ap (λ (l : List (List ℕ)). slot_from (get_or l i [])) (pieces_replicate slot_size n 0) ∙ go (n / slot_size) i
  where
    go : (m j : ℕ) → slot_from (get_or (replicate m (replicate slot_size 0)) j []) ≡ empty_slot
    go zero j = refl
    go (suc m) zero = refl
    go (suc m) (suc j) = go m j

-- ---- the highest number: one slot more
pub highest_next : (s : List ℕ) (i : ℕ) → highest shelf_store (i + 1) s ≡ max (highest shelf_store i s) (slot_at s i).number
unfolding highest
highest_next s i = ap (λ n. highest shelf_store n s) (add-one i)
