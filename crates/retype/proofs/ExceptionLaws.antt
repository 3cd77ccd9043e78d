-- An exception is a piece of what is lent, so its laws are those of pieces.
-- Assumes nothing.
use mathlib.Core.Path.{◌≡◌, refl, sym, ap, ◌∙◌, subst}
use mathlib.Core.Bool.{Bool, true, false, not}
use mathlib.Core.List.{List, [], ◌∷◌, ◌++◌, append_assoc}
use Prim.Native.Nat.{ℕ, zero, suc, ◌/◌}
use native.Mathlib.Omega.{arith}
use lib.ListN.{length, get_or, take, drop, length-append}
use lib.Seq.{take_at, drop_at}
use lib.Pointwise.{pointwise, bytes_decides}
use Rattle.std.proofs.Common.{nat_eq}
use denote.Ref.{Bor}
use Rattle.std.specs.Option.{MatchOption, option_map}
use Rattle.std.specs.List.{find, list_all}
use Rattle.std.specs.Iterator.{AlwaysYields}
use Rattle.std.specs.declared.slice.ChunksExact.{ChunksExact}
use Rattle.std.specs.Slice.Iter.{chunks_exact_rest, chunks_exact_size, chunks_exact_steps}
use Rattle.std.proofs.lemmas.Iterator.{YieldsList}
use Rattle.facts.specs.Pick.{pick}
use Rattle.facts.specs.Same.{same_bytes}
use Rattle.facts.specs.Pieces.{cut, pieces}
use Rattle.facts.proofs.SameLaws.{same_told}
use Rattle.facts.specs.Search.{first, is_found}
use Rattle.std.specs.Prelude.{Option, Some, None}
use Rattle.editions.specs.declared.Edition.{Edition}
use Rattle.body.specs.Ranges.{security_ok}
use Rattle.retype.specs.Types.{exception_size, exceptions, names, type_of, type_at, type_for, bad_type}

-- ---- the exceptions one by one, as `chunks_exact` gives them
chunks_from : (n : ℕ) (s : ChunksExact ℕ) → chunks_exact_size s ≡ exception_size → length (chunks_exact_rest s) / exception_size ≡ n
    → AlwaysYields chunks_exact_steps (λ y. y.now) s (cut exception_size n (chunks_exact_rest s))
unfolding cut
chunks_from zero s w e = λ x j h.
    let l = ap length h.1.0 ∙ length-append x.now (chunks_exact_rest j) in
    omega (arith, l, h.1.1, w, e)
chunks_from (suc n) s w e = (
  (λ j h. omega (arith, h.1.0, w, e)),
  λ x j h.
      let l = ap length h.1.0 ∙ length-append x.now (chunks_exact_rest j) in
      let wide : length x.now ≡ exception_size = h.1.1 ∙ w in
      let rest : chunks_exact_rest j ≡ drop exception_size (chunks_exact_rest s) = sym (ap (drop exception_size) h.1.0 ∙ drop_at x.now (chunks_exact_rest j) exception_size wide) in (
        sym (ap (take exception_size) h.1.0 ∙ take_at x.now (chunks_exact_rest j) exception_size wide),
        subst (λ (t : List ℕ). AlwaysYields chunks_exact_steps (λ y. y.now) j (cut exception_size n t)) rest (chunks_from n j (h.0 ∙ w) (omega (arith, l, wide, e))),
      ),
)

pub one_by_one : {s : ChunksExact ℕ} (t : List ℕ) → chunks_exact_size s ≡ exception_size → chunks_exact_rest s ≡ t → YieldsList chunks_exact_steps (λ y. y.now) s (exceptions t)
unfolding exceptions pieces
one_by_one {s} t w e = subst (λ (l : List ℕ). YieldsList chunks_exact_steps (λ y. y.now) s (cut exception_size (length l / exception_size) l)) e (record { runs = chunks_from (length (chunks_exact_rest s) / exception_size) s w refl })

-- `==` of two names
pub same_eq : (xs ys : List ℕ) → same_bytes xs ys ≡ pointwise nat_eq xs ys
same_eq xs ys = same_told (pointwise nat_eq xs ys) xs ys (bytes_decides xs ys).0 (bytes_decides xs ys).1

-- ---- the type that a symbol gets: that of the first that passes
abbrev pub type_or : Option (List ℕ) → ℕ → ℕ
type_or (Some x) all = type_of x
type_or None all = all

pub type_mapped : (o : Option (Bor (List ℕ))) (all r : ℕ) → MatchOption o (r ≡ all) (λ x. r ≡ type_of x.now) → r ≡ type_or (option_map (λ x. x.now) o) all
type_mapped (Some x) all r h = h
type_mapped None all r h = h

get_or_behind : (front xs : List (List ℕ)) → get_or (front ++ xs) (length front) [] ≡ get_or xs 0 []
get_or_behind [] xs = refl
get_or_behind (x ∷ front) xs = get_or_behind front xs

append_one : (front : List (List ℕ)) (x : List ℕ) → length (front ++ (x ∷ [])) ≡ suc (length front)
append_one front x = length-append front (x ∷ []) ∙ omega arith

type_first : (p : List ℕ → Bool) (front xs : List (List ℕ)) (all : ℕ) → type_at (first p (length front) xs) (front ++ xs) all ≡ type_or (find p xs) all
unfolding first pick
type_first p front [] all = refl
type_first p front (x ∷ xs) all = go (p x) refl (type_first p (front ++ (x ∷ [])) xs all)
  where
    go : (b : Bool) → p x ≡ b → type_at (first p (length (front ++ (x ∷ []))) xs) ((front ++ (x ∷ [])) ++ xs) all ≡ type_or (find p xs) all
        → type_at (first p (length front) (x ∷ xs)) (front ++ (x ∷ xs)) all ≡ type_or (find p (x ∷ xs)) all
    go true e ih = rw (e, get_or_behind front (x ∷ xs)) refl
    go false e ih = rw (e, ← append_one front x) (rw append_assoc at ih)

pub type_found : (all : ℕ) (others b : List ℕ) → type_or (find (λ x. names x b) (exceptions others)) all ≡ type_for all others b
unfolding type_for
type_found all others b = sym (type_first (λ x. names x b) [] (exceptions others) all)

-- ---- whether all types are good
none_first : (p q : List ℕ → Bool) (k : ℕ) (xs : List (List ℕ)) → ((x : List ℕ) → p x ≡ not (q x)) → list_all q xs ≡ not (is_found (first p k xs))
unfolding first pick
none_first p q k [] h = refl
none_first p q k (x ∷ xs) h = go (q x) refl (none_first p q (suc k) xs h)
  where
    go : (b : Bool) → q x ≡ b → list_all q xs ≡ not (is_found (first p (suc k) xs)) → list_all q (x ∷ xs) ≡ not (is_found (first p k (x ∷ xs)))
    go true e ih = rw (h x, e) ih
    go false e ih = rw (h x, e) refl

pub all_good : (ed : Edition) (others : List ℕ) → list_all (λ x. security_ok ed (type_of x)) (exceptions others) ≡ not (is_found (first (bad_type ed) 0 (exceptions others)))
unfolding bad_type
all_good ed others = none_first (bad_type ed) (λ x. security_ok ed (type_of x)) 0 (exceptions others) (λ x. refl)

-- without exceptions every symbol has the one type
pub type_none : (all : ℕ) (others b : List ℕ) → length others ≡ 0 → all ≡ type_for all others b
unfolding type_for exceptions pieces cut first
type_none all [] b h = refl
type_none all (x ∷ others) b h = absurd (omega (arith, h))
