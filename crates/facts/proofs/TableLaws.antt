-- A table is its pieces and what lies behind the last whole one, and its size is good by three tests of numbers.
-- Assumes nothing.
use mathlib.Core.Path.{◌≡◌, sym, ◌∙◌}
use mathlib.Core.Bool.{true}
use mathlib.Core.List.{List, [], ◌∷◌, ◌++◌, append_assoc}
use Prim.Native.Nat.{ℕ, zero, suc, ◌+◌, ◌*◌, ◌/◌, ◌%◌, ◌≤◌, ◌<◌}
use lib.ListN.{length, set, take, drop}
use lib.Seq.{sets-eq, drop-drop}
use lib.Dec.{leb, eqb}
use borrow.Author.Tests.{le-leb, eq-eqb, leb-true, eqb-true}
use Rattle.facts.specs.Pick.{both}
use Rattle.facts.specs.Pieces.{pieces, join, put_piece}
use Rattle.facts.proofs.Picks.{both_true}
use Rattle.facts.proofs.PieceLaws.{Wide, piece_fits, length_put, put_in, pieces_put, join_rest, rest_put}

module _ {A : Type 0} where
  -- a piece put into any list
  pub put_join_rest : (w : ℕ) (t : List A) (i : ℕ) (s : List A) → length s ≡ w → put_piece w t i s ≡ join (set (pieces w t) i s) ++ drop (w * (length t / w)) t
  put_join_rest w t i s l = sym (rw (length_put w t i s, pieces_put w t i s l, rest_put w t i s l) at (join_rest w (put_piece w t i s)))

  -- what a call that fills the part of piece i leaves of the whole list
  pub part_put : (w : ℕ) (t : List A) (i : ℕ) (s : List A) → i < length t / w → length s ≡ w → take (w * i) t ++ (s ++ drop w (drop (w * i) t)) ≡ put_piece w t i s
  part_put w t i s h l =
      let d : drop w (drop (w * i) t) ≡ drop (w * i + length s) t = rw l (drop-drop w (w * i) t) in
      rw d (sym (put_in w t i s h ∙ sets-eq s t (w * i) (rw l (piece_fits w t i h)) ∙ append_assoc (take (w * i) t) s (drop (w * i + length s) t)))

  -- pieces stay as wide as they are
  pub wide_set : (w : ℕ) (xs : List (List A)) (i : ℕ) (s : List A) → length s ≡ w → Wide w xs → Wide w (set xs i s)
  wide_set w [] i s l h = tt
  wide_set w (x ∷ xs) zero s l h = (l, h.1)
  wide_set w (x ∷ xs) (suc i) s l h = (h.0, wide_set w xs i s l h.1)

-- ---- a size of 1 to m whole pieces
abbrev pub Fits : ℕ → ℕ → ℕ → Type 0
Fits w m n = (1 ≤ n / w) × (n / w ≤ m) × (n % w ≡ 0)

module _ (w m n : ℕ) where
  pub good_fits : both (eqb (n % w) 0) (both (leb 1 (n / w)) (leb (n / w) m)) ≡ true → Fits w m n
  good_fits e =
      let a = both_true e in
      let b = both_true a.1 in
      (leb-true _ _ b.0, leb-true _ _ b.1, eqb-true _ _ a.0)

  pub fits_good : Fits w m n → both (eqb (n % w) 0) (both (leb 1 (n / w)) (leb (n / w) m)) ≡ true
  unfolding both
  fits_good h = simp (eq-eqb _ _ h.2, le-leb _ _ h.0, le-leb _ _ h.1)
