-- A recording in pieces: each keeps its length and what lies behind its last whole packet, pieces one after another are the whole, and 65,537 bytes have a whole packet.
-- Assumes nothing.
use Prim.Native.Nat.{ℕ, ◌+◌, ◌^◌, ◌≤◌, ◌<◌}
use mathlib.Core.Path.{◌≡◌, sym, ap, ◌∙◌}
use mathlib.Core.Bool.{true, false}
use mathlib.Core.List.{List, ◌++◌, append_assoc}
use mathlib.Core.Logic.{◌≢◌}
use native.Mathlib.Nat.{add_assoc, zero-add}
use native.Mathlib.Omega.{arith}
use lib.ListN.{length, take, drop, length-append, length-drop}
use lib.Seq.{take-append-le, drop-append-le, take-append-add, drop-append-add, drop-drop, length-take-le}
use Rattle.editions.specs.declared.Edition.{Edition}
use Rattle.wire.specs.Le.{le, field, Bytes}
use Rattle.wire.proofs.Laws.{field_below}
use Rattle.retype.specs.Retyped.{Asked}
use Rattle.conversion.specs.Piece.{Passing, passed, tally_of, plus, Piece, piece, whole_front, packet_in_front, piece_of}
use Rattle.conversion.specs.Kept.{after}
use Rattle.conversion.specs.declared.Tally.{Tally}
use Rattle.conversion.proofs.Pieces.{whole_is, is_whole, none_plus, plus_plus, passed_length, piece_none, piece_more, piece_ind}

module _ (from : Edition) (a : Asked) where
  abbrev of : List ℕ → Piece
  of t = piece_of from a t

  -- ---- a piece with a whole packet in front
  module _ (t : List ℕ) (w : whole_front t ≡ true) where
    abbrev n : ℕ
    n = field t 0 2

    abbrev rest : List ℕ
    rest = drop (2 + n) t

    abbrev x : Passing
    x = passed from a (packet_in_front t)

    abbrev front : List ℕ
    front = take 2 t ++ x.packet

    packet_size : length x.packet ≡ n
    packet_size = passed_length from a (packet_in_front t) ∙ length-take-le n (drop 2 t) (rw length-drop (omega (arith, (whole_is t w).1)))

    front_size : length front ≡ 2 + n
    front_size = length-append (take 2 t) x.packet ∙ (λ i. length-take-le 2 t (whole_is t w).0 i + packet_size i)

    bytes_are : (of t).bytes ≡ front ++ (of rest).bytes
    bytes_are = ap (λ (y : Piece). y.bytes) (piece_more from a t w) ∙ sym (append_assoc (take 2 t) x.packet (of rest).bytes)

    done_is : (of t).done ≡ 2 + n + (of rest).done
    done_is = ap (λ (y : Piece). y.done) (piece_more from a t w) ∙ sym (add_assoc 2 n (of rest).done)

    counts_are : (of t).counts ≡ plus (tally_of x.outcome) (of rest).counts
    counts_are = ap (λ (y : Piece). y.counts) (piece_more from a t w)

    at_front : 2 + n + (of rest).done ≡ length front + (of rest).done
    at_front = omega (arith, front_size)

  -- ---- its length is kept
  pub piece_length : (t : List ℕ) → length (of t).bytes ≡ length t
  piece_length t =
      piece_ind from a (λ (t : List ℕ). length (of t).bytes ≡ length t)
      (λ t h. ap (λ (y : Piece). length y.bytes) (piece_none from a t h))
      (λ t h e. ap length (bytes_are t h) ∙ length-append (front t h) (of (rest t h)).bytes ∙ omega (arith, front_size t h, e, length-drop (2 + field t 0 2) t, (whole_is t h).1))
      t

  pub done_most : (t : List ℕ) → (of t).done ≤ length t
  done_most t =
      piece_ind from a (λ (t : List ℕ). (of t).done ≤ length t)
      (λ t h. omega (arith, ap (λ (y : Piece). y.done) (piece_none from a t h)))
      (λ t h e. omega (arith, done_is t h, e, length-drop (2 + field t 0 2) t, (whole_is t h).1))
      t

  -- ---- what is no whole packet stays as it is
  pub rest_kept : (t : List ℕ) → drop (of t).done (of t).bytes ≡ drop (of t).done t
  rest_kept t =
      piece_ind from a (λ (t : List ℕ). drop (of t).done (of t).bytes ≡ drop (of t).done t)
      (λ t h. (λ i. drop (ap (λ (y : Piece). y.done) (piece_none from a t h) i) (ap (λ (y : Piece). y.bytes) (piece_none from a t h) i)) ∙ ap (λ (k : ℕ). drop k t) (sym (ap (λ (y : Piece). y.done) (piece_none from a t h))))
      (λ t h e.
      (λ i. drop ((done_is t h ∙ at_front t h) i) (bytes_are t h i))
      ∙ drop-append-add (front t h) (of (rest t h)).bytes (of (rest t h)).done
      ∙ e
      ∙ drop-drop (of (rest t h)).done (2 + field t 0 2) t
      ∙ ap (λ (k : ℕ). drop k t) (sym (done_is t h)))
      t

  -- ---- more bytes behind a whole packet
  module _ (t y : List ℕ) (w : whole_front t ≡ true) where
    field_on : field (t ++ y) 0 2 ≡ field t 0 2
    unfolding field
    field_on = ap le (take-append-le 2 t y (whole_is t w).0)

    whole_on : whole_front (t ++ y) ≡ true
    whole_on = is_whole (t ++ y) (omega (arith, field_on, (whole_is t w).1, length-append t y))

    packet_on : packet_in_front (t ++ y) ≡ packet_in_front t
    packet_on =
        (λ i. take (field_on i) (drop-append-le 2 t y (whole_is t w).0 i))
        ∙ take-append-le (field t 0 2) (drop 2 t) y (rw length-drop (omega (arith, (whole_is t w).1)))

    rest_on : drop (2 + field (t ++ y) 0 2) (t ++ y) ≡ drop (2 + field t 0 2) t ++ y
    rest_on = ap (λ (k : ℕ). drop (2 + k) (t ++ y)) field_on ∙ drop-append-le (2 + field t 0 2) t y (whole_is t w).1

    more_on : of (t ++ y) ≡ after (front t w) (2 + field t 0 2) (tally_of (x t w).outcome) (of (drop (2 + field t 0 2) t ++ y))
    more_on =
        piece_more from a (t ++ y) whole_on
        ∙ (λ i. piece (2 + (field_on i + (of (rest_on i)).done)) (plus (tally_of (passed from a (packet_on i)).outcome) (of (rest_on i)).counts) (take-append-le 2 t y (whole_is t w).0 i ++ ((passed from a (packet_on i)).packet ++ (of (rest_on i)).bytes)))
        ∙ (λ i. piece (sym (add_assoc 2 (field t 0 2) (of (rest t w ++ y)).done) i) (plus (tally_of (x t w).outcome) (of (rest t w ++ y)).counts) (sym (append_assoc (take 2 t) (x t w).packet (of (rest t w ++ y)).bytes) i))

  -- ---- pieces one after another are the whole: the first one's whole packets, then what becomes of its rest with what follows
  abbrev Joined : List ℕ → List ℕ → Type 0
  Joined y t = of (t ++ y) ≡ after (take (of t).done (of t).bytes) (of t).done (of t).counts (of (drop (of t).done t ++ y))

  none_joined : (y t : List ℕ) → whole_front t ≡ false → Joined y t
  none_joined y t h =
      let e = piece_none from a t h in
      let z : Piece = of (t ++ y) in
      (λ i. piece (sym (zero-add z.done) i) (none_plus z.counts i) z.bytes)
      ∙ (λ i. after (take (sym e i).done (sym e i).bytes) (sym e i).done (sym e i).counts (of (drop (sym e i).done t ++ y)))

  more_joined : (y t : List ℕ) → (h : whole_front t ≡ true) → Joined y (drop (2 + field t 0 2) t) → Joined y t
  more_joined y t h e =
      let r : Piece = of (rest t h) in
      let d : ℕ = r.done in
      let z : Piece = of (drop d (rest t h) ++ y) in
      let k : Tally = tally_of (x t h).outcome in
      let taken : front t h ++ take d r.bytes ≡ take (of t).done (of t).bytes = sym (take-append-add (front t h) r.bytes d) ∙ (λ i. take (sym (done_is t h ∙ at_front t h) i) (sym (bytes_are t h) i)) in
      let left : drop d (rest t h) ≡ drop (of t).done t = drop-drop d (2 + field t 0 2) t ∙ ap (λ (m : ℕ). drop m t) (sym (done_is t h)) in
      more_on t y h
      ∙ ap (after (front t h) (2 + field t 0 2) k) e
      ∙ (λ i. piece (sym (add_assoc (2 + field t 0 2) d z.done) i) (plus_plus k r.counts z.counts i) (sym (append_assoc (front t h) (take d r.bytes) z.bytes) i))
      ∙ (λ i. after (taken i) (sym (done_is t h) i) (sym (counts_are t h) i) (of (left i ++ y)))

  pub pieces_joined : (x y : List ℕ) → of (x ++ y) ≡ after (take (of x).done (of x).bytes) (of x).done (of x).counts (of (drop (of x).done x ++ y))
  pieces_joined x y = piece_ind from a (Joined y) (none_joined y) (more_joined y) x

  -- ---- "In memory of 65,537 bytes there is always a whole packet"
  pub always_moves : (t : List ℕ) → Bytes t → 65537 ≤ length t → (of t).done ≢ 0
  always_moves t b l e =
      let f : field t 0 2 < 256 ^ 2 = field_below t b 0 2 in
      let w : whole_front t ≡ true = is_whole t (omega (arith, f, l)) in
      omega (arith, done_is t w, e)
