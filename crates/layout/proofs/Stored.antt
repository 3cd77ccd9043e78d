-- Fields that are stored one behind the other, as code does it, are the fields joined: one field at a time.
-- Assumes nothing.
use mathlib.Core.Path.{◌≡◌, sym, ◌∙◌}
use mathlib.Core.List.{List, [], ◌∷◌, ◌++◌, append_assoc, append-nil}
use Prim.Native.Nat.{ℕ, ◌+◌}
use native.Mathlib.Omega.{arith}
use lib.ListN.{length, take, drop, length-append}
use lib.Seq.{sets, sets-eq, length-sets, take_at, take_all, length-take-le}
use Rattle.kinds.specs.Table.{type_of}
use Rattle.kinds.specs.declared.Kind.{Kind}
use Rattle.layout.specs.Shape.{Shape, width, total, Values, AllFit, bytes_of, joined}
use Rattle.layout.specs.Layout.{shapes, Fields, FieldsFit, body_for}
use Rattle.layout.specs.Message.{Message, written, Fit}
use Rattle.layout.proofs.Laws.{length_bytes}

-- each field stored behind the one before
abbrev pub stored : (ss : List Shape) → Values ss → List ℕ → ℕ → List ℕ
stored [] vs t at = t
stored (s ∷ ss) vs t at = stored ss vs.1 (sets t at (bytes_of s vs.0)) (at + width s)

pub stored_joined : (ss : List Shape) (vs : Values ss) (t : List ℕ) (at : ℕ) → AllFit ss vs → at + total ss ≡ length t → stored ss vs t at ≡ take at t ++ joined ss vs
unfolding joined
stored_joined [] vs t at f l = sym (append-nil (take at t) ∙ take_all at t (omega arith))
stored_joined (s ∷ ss) vs t at f l =
    let x : List ℕ = bytes_of s vs.0 in
    let n : length x ≡ width s = length_bytes s vs.0 f.0 in
    let e : sets t at x ≡ take at t ++ x ++ drop (at + length x) t = sets-eq x t at (omega arith) in
    let a : length (take at t) ≡ at = length-take-le at t (omega arith) in
    let m : length (take at t ++ x) ≡ at + width s = rw length-append (omega arith) in
    let front : take (at + width s) (sets t at x) ≡ take at t ++ x = rw e (take_at (take at t ++ x) (drop (at + length x) t) (at + width s) m) in
    stored_joined ss vs.1 (sets t at x) (at + width s) f.1 (rw length-sets (omega arith)) ∙ rw (front, append_assoc (take at t) x (joined ss vs.1))

-- the type byte, and the fields behind it
stored_body : (k : Kind) (vs : Fields k) (t : List ℕ) → FieldsFit k vs → length t ≡ 1 + total (shapes k) → stored (shapes k) vs (sets t 0 (type_of k ∷ [])) 1 ≡ body_for k vs
unfolding body_for
stored_body k vs [] f l = absurd (omega arith)
stored_body k vs (x ∷ t) f l = stored_joined (shapes k) vs (type_of k ∷ t) 1 f (sym l)

pub stored_written : {M : Type 0} (s : Message M) (m : M) (t : List ℕ) → Fit s m → length t ≡ 1 + total (shapes s.kind) → stored (shapes s.kind) (s.to m) (sets t 0 (type_of s.kind ∷ [])) 1 ≡ written s m
unfolding written
stored_written s m t f l = stored_body s.kind (s.to m) t f l
