-- Levels put one by one, each in its place, are the levels that fit whole, written at the front, and the rest of the run behind them.
-- Assumes nothing.
use mathlib.Core.Path.{◌≡◌, refl, sym, ◌∙◌, ap}
use mathlib.Core.List.{List, [], ◌∷◌, ◌++◌, append_assoc, map}
use mathlib.Core.Bool.{Bool, true, false}
use Prim.Native.Nat.{ℕ, suc, ◌+◌, ◌*◌, ◌/◌, ◌≤◌, ◌<◌, min}
use native.Mathlib.Numerals.{add-one}
use native.Mathlib.Omega.{arith}
use lib.ListN.{length, take, drop, length-append, length-take, length-drop, take-append-drop, get_or, length-map, get_or-map}
use lib.Seq.{take-nil, take_at, drop_at, drop-drop, sets-eq, get_or-take}
use lib.Dec.{ltb}
use borrow.Author.Tests.{ltb-true, ltb-false}
use Rattle.facts.specs.Pick.{pick}
use Rattle.facts.specs.Pieces.{join, pieces}
use Rattle.facts.proofs.PieceLaws.{put_in, put_out, piece_fits, length_join, wide_map, pieces_join, get_or_pieces, get_or_piece}
use Rattle.rows.specs.Rows.{rows, good_rows}
use Rattle.views.specs.declared.Level.{Level}
use Rattle.views.specs.Ladder.{ladder, three_of, fitting, written, put_level, laid_out, ladder_run}

-- ---- one level
pub level_past : (o : List ℕ) (j : ℕ) (l : Level) → length o / 3 ≤ j → put_level o j l ≡ o
unfolding put_level
level_past o j l h = put_out 3 o j (three_of l) h

-- ---- levels one by one, from place j on
unfoldable pub laid : ℕ → List Level → List ℕ → List ℕ
laid j [] o = o
laid j (l ∷ ls) o = laid (suc j) ls (put_level o j l)

length_three : (l : Level) → length (three_of l) ≡ 3
unfolding three_of
length_three l = refl

written_none : (ls : List Level) (o : List ℕ) → length o < 3 → written ls o ≡ o
unfolding written fitting join
written_none ls o h = let z : length o / 3 ≡ 0 = omega arith in rw z

written_nil : (o : List ℕ) → written [] o ≡ o
unfolding written fitting join
written_nil o = rw (take-nil {A = Level} (length o / 3))

written_cons : (l : Level) (ls : List Level) (o : List ℕ) → 3 ≤ length o → written (l ∷ ls) o ≡ three_of l ++ written ls (drop 3 o)
unfolding written fitting join
written_cons l ls o h =
    let q : length o / 3 ≡ suc (length (drop 3 o) / 3) = rw length-drop (omega arith) in
    rw (q, length-append, length_three, ← drop-drop, append_assoc)

laid_from : (ls : List Level) (j : ℕ) (o : List ℕ) → laid j ls o ≡ take (3 * j) o ++ written ls (drop (3 * j) o)
unfolding laid put_level
laid_from [] j o = sym (rw written_nil (take-append-drop (3 * j) o))
laid_from (l ∷ ls) j o = laid_from ls (suc j) (put_level o j l) ∙ go (ltb j (length o / 3)) refl
  where
    go : (b : Bool) → ltb j (length o / 3) ≡ b → take (3 * suc j) (put_level o j l) ++ written ls (drop (3 * suc j) (put_level o j l)) ≡ take (3 * j) o ++ written (l ∷ ls) (drop (3 * j) o)
    go true e =
        let h : j < length o / 3 = ltb-true j (length o / 3) e in
        let f : 3 * j + 3 ≤ length o = piece_fits 3 o j h in
        let n : length (take (3 * j) o ++ three_of l) ≡ 3 * suc j = rw (length-append, length_three, length-take) (omega arith) in
        let v : put_level o j l ≡ take (3 * j) o ++ three_of l ++ drop (3 * j + length (three_of l)) o = put_in 3 o j (three_of l) h ∙ sets-eq (three_of l) o (3 * j) (rw length_three f) in
        let w : put_level o j l ≡ (take (3 * j) o ++ three_of l) ++ drop (3 * j + 3) o = v ∙ rw (length_three, append_assoc) in
        rw (
          w,
          take_at (take (3 * j) o ++ three_of l) (drop (3 * j + 3) o) (3 * suc j) n,
          drop_at (take (3 * j) o ++ three_of l) (drop (3 * j + 3) o) (3 * suc j) n,
          written_cons l ls (drop (3 * j) o) (rw length-drop (omega arith)),
          drop-drop 3 (3 * j) o,
          append_assoc,
        )
    go false e =
        let h : length o / 3 ≤ j = ltb-false j (length o / 3) e in
        rw (level_past o j l h) (whole ls (3 * suc j) (omega arith) ∙ sym (whole (l ∷ ls) (3 * j) (omega arith)))
      where
        whole : (ls : List Level) (n : ℕ) → length o < n + 3 → take n o ++ written ls (drop n o) ≡ o
        whole ls n h = rw (written_none ls (drop n o) (rw length-drop (omega arith))) (take-append-drop n o)

pub laid_written : (ls : List Level) (o : List ℕ) → laid 0 ls o ≡ written ls o
laid_written ls o = laid_from ls 0 o

-- ---- a step and the end of a loop
pub laid_step : (j : ℕ) (l : Level) (ls : List Level) (o : List ℕ) → laid j (l ∷ ls) o ≡ laid (j + 1) ls (put_level o j l)
unfolding laid
laid_step j l ls o = rw (add-one j)

pub laid_end : (j : ℕ) (ls : List Level) (o : List ℕ) → ls ≡ [] → laid j ls o ≡ o
unfolding laid
laid_end j ls o e = rw e

-- ---- the two answers
module _ (k : ℕ) (t o : List ℕ) where
  pub run_none : good_rows (length t) ≡ false → laid_out 0 o ≡ ladder_run k t o
  unfolding ladder_run pick
  run_none g = rw g

  pub run_all : (j : ℕ) (u : List ℕ) → good_rows (length t) ≡ true → length (ladder k (rows t)) ≡ j → laid 0 (ladder k (rows t)) o ≡ u → laid_out j u ≡ ladder_run k t o
  unfolding ladder_run pick
  run_all j u g e f = rw (g, e, ← laid_written (ladder k (rows t)) o, f)

-- ---- by index
map_length : (ls : List Level) (n : ℕ) → length (map three_of (take n ls)) ≡ min n (length ls)
map_length ls n = rw (length-map, length-take)

-- the level that three numbers are
unfoldable level_from : List ℕ → Level
level_from x = record { price = get_or x 0 0; shares = get_or x 1 0; orders = get_or x 2 0 }

pub fitting_length : (ls : List Level) (n : ℕ) → length (fitting ls n) ≡ 3 * min (n / 3) (length ls)
unfolding fitting
fitting_length ls n = length_join 3 (map three_of (take (n / 3) ls)) (wide_map 3 level_from three_of length_three (take (n / 3) ls)) ∙ ap (λ (m : ℕ). 3 * m) (map_length ls (n / 3))

pub fitting_at : (ls : List Level) (n i c : ℕ) (d : Level) → i < n / 3 → i < length ls → c < 3 → get_or (fitting ls n) (3 * i + c) 0 ≡ get_or (three_of (get_or ls i d)) c 0
unfolding fitting
fitting_at ls n i c d h l k =
    let w : pieces 3 (fitting ls n) ≡ map three_of (take (n / 3) ls) = pieces_join 3 (map three_of (take (n / 3) ls)) (omega arith) (wide_map 3 level_from three_of length_three (take (n / 3) ls)) in
    let q : get_or (pieces 3 (fitting ls n)) i (three_of d) ≡ three_of (get_or ls i d) = rw w (get_or-map three_of (take (n / 3) ls) i d ∙ ap three_of (get_or-take (n / 3) ls i d h)) in
    sym (get_or_piece 3 (fitting ls n) i c 0 k)
    ∙ ap (λ x. get_or x c 0) (sym (get_or_pieces 3 (fitting ls n) i (three_of d) (omega (arith, fitting_length ls n))) ∙ q)
