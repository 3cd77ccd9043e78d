-- The lent bytes keep 64 slots as the theory asks: a slot is a piece of 74 bytes that reads back as it was written, so the laws are those of pieces.
-- Assumes nothing.
use Prim.Native.Nat.{ℕ, ◌*◌, ◌/◌, ◌<◌}
use mathlib.Core.Path.{◌≡◌, refl, sym, ap, ◌∙◌}
use mathlib.Core.Logic.{◌≢◌}
use mathlib.Core.List.{List, [], ◌++◌}
use lib.ListN.{length, set, drop, replicate, length-append}
use lib.Seq.{take_at, get_or-set_same, get_or-set_other, set-set}
use native.Mathlib.Omega.{arith}
use Rattle.facts.specs.Limits.{shelf_size}
use Rattle.facts.specs.Pieces.{pieces, join}
use Rattle.facts.proofs.PieceLaws.{length_pieces, length_put, pieces_put, join_rest, rest_put}
use Rattle.wire.specs.Le.{to_le, field, padded}
use Rattle.wire.proofs.Laws.{length_to_le, le_to_le}
use Rattle.arbitration.specs.Slots.{Slot, Fits}
use Rattle.arbitration.specs.Engine.{StoreLaws}
use Rattle.shelf.specs.Shelf.{slot_size, slot_from, bytes_of, slot_at, put_slot}
use Rattle.shelf.specs.Store.{shelf_store}

-- ---- a slot and its bytes
pub length_bytes : (s : Slot) → length s.bytes ≡ 64 → length (bytes_of s) ≡ slot_size
unfolding bytes_of
length_bytes s h = simp (length-append, length_to_le) (omega arith)

pub slot_back : (s : Slot) → Fits s → slot_from (bytes_of s) ≡ s
unfolding slot_from bytes_of field padded to_le
slot_back s f = λ i. record {
  number = le_to_le 8 s.number f.number_fits i;
  len = le_to_le 2 s.len f.len_fits i;
  bytes = take_at s.bytes (replicate 64 0) 64 f.bytes_64 i;
}

-- ---- the store
module _ (t : List ℕ) (i : ℕ) (s : Slot) (f : Fits s) where
  slots_put : pieces slot_size (put_slot t i s) ≡ set (pieces slot_size t) i (bytes_of s)
  unfolding put_slot
  slots_put = pieces_put slot_size t i (bytes_of s) (length_bytes s f.bytes_64)

  pub slot_same : i < length t / slot_size → slot_at (put_slot t i s) i ≡ s
  unfolding slot_at
  slot_same h = rw slots_put (ap slot_from (get_or-set_same (pieces slot_size t) i (bytes_of s) [] (rw length_pieces h)) ∙ slot_back s f)

  pub slot_other : (j : ℕ) → j ≢ i → slot_at (put_slot t i s) j ≡ slot_at t j
  unfolding slot_at
  slot_other j n = rw slots_put (ap slot_from (get_or-set_other (pieces slot_size t) i j (bytes_of s) [] n))

pub length_put_slot : (t : List ℕ) (i : ℕ) (s : Slot) → length (put_slot t i s) ≡ length t
unfolding put_slot
length_put_slot t i s = length_put slot_size t i (bytes_of s)

-- a run is its slots and the rest behind them, so of two slots put in one place the last one stays, and nothing is left of the first
module _ (t : List ℕ) (i : ℕ) (s x : Slot) (f : Fits s) (g : Fits x) where
  abbrev once : List ℕ
  once = put_slot t i s

  abbrev twice : List ℕ
  twice = put_slot once i x

  slots_again : pieces slot_size twice ≡ pieces slot_size (put_slot t i x)
  slots_again = rw (slots_put once i x g, slots_put t i s f, slots_put t i x g) (set-set (pieces slot_size t) i (bytes_of s) (bytes_of x))

  -- what lies behind the last slot
  abbrev rest : List ℕ → List ℕ
  rest u = drop (slot_size * (length t / slot_size)) u

  rest_kept : (u : List ℕ) (y : Slot) → Fits y → length u ≡ length t → rest (put_slot u i y) ≡ rest u
  unfolding put_slot
  rest_kept u y h l = rw (← l) (rest_put slot_size u i (bytes_of y) (length_bytes y h.bytes_64))

  whole : (u : List ℕ) → length u ≡ length t → join (pieces slot_size u) ++ rest u ≡ u
  whole u l = rw (← l) (join_rest slot_size u)

  pub put_again : put_slot (put_slot t i s) i x ≡ put_slot t i x
  put_again =
      let l : length once ≡ length t = length_put_slot t i s in
      let behind : rest twice ≡ rest (put_slot t i x) = rest_kept once x g l ∙ rest_kept t s f refl ∙ sym (rest_kept t x g refl) in
      sym (whole twice (length_put_slot once i x ∙ l))
      ∙ (rw (slots_again, behind) refl)
      ∙ whole (put_slot t i x) (length_put_slot t i x)

-- a shelf of the right size has 64 slots
pub slots_64 : (t : List ℕ) → length t ≡ shelf_size → length t / slot_size ≡ 64
slots_64 t h = omega arith

pub shelf_laws : StoreLaws shelf_store
shelf_laws = record {
  ok_put = λ t i s o h f. length_put_slot t i s ∙ o;
  get_same = λ t i s o h f. slot_same t i s f (omega (arith, slots_64 t o));
  get_other = λ t i j s o h l n f. slot_other t i s f j n;
}
