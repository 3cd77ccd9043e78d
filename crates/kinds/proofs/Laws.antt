-- The table's rule, from one test that the checker computes over its pairs, and what it says of every type byte.
-- Assumes nothing.
use mathlib.Core.Path.{◌≡◌, refl, sym, ap, ◌∙◌}
use mathlib.Core.List.{List, [], ◌∷◌}
use mathlib.Core.Bool.{Bool, true, false}
use mathlib.Core.Logic.{◌⊎◌, inl, inr}
use Prim.Native.Nat.{ℕ, ◌+◌, ◌≤◌, ◌<◌}
use native.Mathlib.Numerals.{add-one}
use native.Mathlib.Omega.{arith}
use lib.ListN.{length, get_or, drop, drop_of_length-le}
use lib.Seq.{drop-cons}
use lib.Dec.{eqb, leb}
use borrow.Author.Tests.{eq-eqb, ne_eqb, eqb-true, leb-true}
use Rattle.facts.specs.Limits.{entry_size}
use Rattle.facts.specs.Pick.{pick, both}
use Rattle.facts.proofs.Picks.{pick_ind, both_true}
use Rattle.kinds.specs.Table.{table, lookup, length_of, kind_of, type_of, kind_length, refusal_of}
use Rattle.kinds.specs.declared.Kind.{Kind}
use Rattle.kinds.specs.declared.Pair.{Pair}

-- a walk of all pairs, which keeps the length of the last that has the type
unfoldable pub walked : ℕ → ℕ → List Pair → ℕ
walked t n [] = n
walked t n (m ∷ rest) = walked t (pick (eqb t m.code) m.len n) rest

-- what it keeps of one pair: its length, or what it had
pub kept_new : (t a b n k : ℕ) → a ≡ t → k ≡ b → k ≡ pick (eqb t a) b n
unfolding pick
kept_new t a b n k h e = e ∙ simp (eq-eqb t a (sym h))

pub kept_old : (t a b n k : ℕ) → (a ≡ t → ⊥) → k ≡ n → k ≡ pick (eqb t a) b n
unfolding pick
kept_old t a b n k h e = e ∙ simp (ne_eqb t a (λ q. h (sym q)))

-- one pair of it
pub walked_at : (t n k : ℕ) (l : List Pair) (i : ℕ) (d : Pair) → i < length l → k ≡ pick (eqb t (get_or l i d).code) (get_or l i d).len n → walked t k (drop (i + 1) l) ≡ walked t n (drop i l)
unfolding walked
walked_at t n k l i d h e = rw (e, drop-cons l i d, add-one) refl

pub walked_end : (t n : ℕ) (l : List Pair) (i : ℕ) → length l ≤ i → walked t n (drop i l) ≡ n
unfolding walked
walked_end t n l i h = rw (drop_of_length-le l {i = i} h) refl

-- a type is in no pair, and no pair's type is in a later one
unfoldable pub lacks : ℕ → List Pair → Bool
lacks t [] = true
lacks t (m ∷ rest) = pick (eqb t m.code) false (lacks t rest)

unfoldable pub apart : List Pair → Bool
apart [] = true
apart (m ∷ rest) = both (lacks m.code rest) (apart rest)

table_apart : apart table ≡ true
unfolding apart lacks table pick both
table_apart = refl

past : (t n : ℕ) (l : List Pair) → lacks t l ≡ true → walked t n l ≡ n
unfolding walked lacks pick
past t n [] h = refl
past t n (m ∷ rest) h = go (eqb t m.code) h (past t n rest)
  where
    go : (x : Bool) → pick x false (lacks t rest) ≡ true → (lacks t rest ≡ true → walked t n rest ≡ n) → walked t (pick x m.len n) rest ≡ n
    go true k ih = cc
    go false k ih = ih k

-- so the last pair that has the type is the first
walked_lookup : (t : ℕ) (l : List Pair) → apart l ≡ true → walked t 0 l ≡ lookup t l
unfolding walked apart lookup pick
walked_lookup t [] h = refl
walked_lookup t (m ∷ rest) h =
    let s = both_true {a = lacks m.code rest} {b = apart rest} h in
    go (eqb t m.code) refl s.0 (walked_lookup t rest s.1)
  where
    go : (x : Bool) → eqb t m.code ≡ x → lacks m.code rest ≡ true → walked t 0 rest ≡ lookup t rest → walked t (pick x m.len 0) rest ≡ pick x m.len (lookup t rest)
    go true e k ih = let q : t ≡ m.code = eqb-true t m.code e in past t m.len rest (rw q k)
    go false e k ih = ih

pub walked_table : (t : ℕ) → walked t 0 table ≡ length_of t
unfolding length_of
walked_table t = walked_lookup t table table_apart

-- a test of every pair of a table
unfoldable pub pairs : (ℕ → ℕ → Bool) → List Pair → Bool
pairs f [] = true
pairs f (m ∷ rest) = both (f m.code m.len) (pairs f rest)

-- what the test finds of every pair holds of what a search finds
pub lookup_rule : (f : ℕ → ℕ → Bool) (l : List Pair) → pairs f l ≡ true → (t : ℕ) → (lookup t l ≡ 0) ⊎ (f t (lookup t l) ≡ true)
unfolding pairs lookup pick
lookup_rule f [] h t = inl refl
lookup_rule f (m ∷ rest) h t =
    let s = both_true {a = f m.code m.len} {b = pairs f rest} h in
    go (eqb t m.code) refl s.0 (lookup_rule f rest s.1 t)
  where
    go : (x : Bool) → eqb t m.code ≡ x → f m.code m.len ≡ true → (lookup t rest ≡ 0) ⊎ (f t (lookup t rest) ≡ true) → (pick x m.len (lookup t rest) ≡ 0) ⊎ (f t (pick x m.len (lookup t rest)) ≡ true)
    go true e a b = inr (let q : t ≡ m.code = eqb-true t m.code e in rw q a)
    go false e a b = b

-- the rule: a message has 1 byte or more and at most as many as an entry, its length is that of the kind that its type decides, and its type is that kind's
unfoldable rule : ℕ → ℕ → Bool
rule t n = both (both (leb 1 n) (leb n entry_size)) (both (eqb n (kind_length (kind_of t))) (eqb t (type_of (kind_of t))))

table_rule : pairs rule table ≡ true
unfolding table pairs rule kind_length length_of lookup kind_of pick both
table_rule = refl

-- what the table says of a type that it has
pub record Lengths (t : ℕ) : Type 0 where
  pub some : 1 ≤ length_of t
  pub most : length_of t ≤ entry_size
  pub of_kind : length_of t ≡ kind_length (kind_of t)
  pub of_type : t ≡ type_of (kind_of t)

ruled : (t n : ℕ) → rule t n ≡ true → (1 ≤ n) × (n ≤ entry_size) × (n ≡ kind_length (kind_of t)) × (t ≡ type_of (kind_of t))
unfolding rule
ruled t n h =
    let s = both_true {a = both (leb 1 n) (leb n entry_size)} {b = both (eqb n (kind_length (kind_of t))) (eqb t (type_of (kind_of t)))} h in
    let l = both_true {a = leb 1 n} {b = leb n entry_size} s.0 in
    let k = both_true {a = eqb n (kind_length (kind_of t))} {b = eqb t (type_of (kind_of t))} s.1 in
    (leb-true 1 n l.0, leb-true n entry_size l.1, eqb-true n (kind_length (kind_of t)) k.0, eqb-true t (type_of (kind_of t)) k.1)

-- no such type, or the rule
pub lengths : (t : ℕ) → (length_of t ≡ 0) ⊎ Lengths t
unfolding length_of
lengths t = go (lookup_rule rule table table_rule t)
  where
    go : (lookup t table ≡ 0) ⊎ (rule t (lookup t table) ≡ true) → (length_of t ≡ 0) ⊎ Lengths t
    go (inl e) = inl e
    go (inr e) = let r = ruled t (lookup t table) e in inr (record { some = r.0; most = r.1; of_kind = r.2; of_type = r.3 })

-- a kind's own type byte decides it
pub type_kind : (k : Kind) → kind_of (type_of k) ≡ k
unfolding kind_of pick
type_kind Kind.SystemTime = refl
type_kind Kind.SymbolUpdate = refl
type_kind Kind.SystemState = refl
type_kind Kind.TradingStatus = refl
type_kind Kind.SymbolClear = refl
type_kind Kind.Add = refl
type_kind Kind.Modify = refl
type_kind Kind.Delete = refl
type_kind Kind.Execution = refl
type_kind Kind.Trade = refl
type_kind Kind.TradeCancel = refl
type_kind Kind.Unknown = refl

-- "giving the message kind or refusal 3": a kind is a message's, or no type of the table gives it
pub kind_or_3 : (k : Kind) → (refusal_of k ≡ 0) ⊎ ((refusal_of k ≡ 3) × (type_of k ≡ 0))
kind_or_3 k =
    pick_ind (λ r. (r ≡ 0) ⊎ ((r ≡ 3) × (type_of k ≡ 0))) (eqb (type_of k) 0) 3 0
    (λ e. inr (refl, eqb-true (type_of k) 0 e))
    (λ e. inl refl)

zero_none : length_of 0 ≡ 0
unfolding length_of lookup table pick
zero_none = refl

pub no_length : (t : ℕ) → refusal_of (kind_of t) ≡ 3 → length_of t ≡ 0
no_length t h = elim (lengths t) [ inl e ↦ e | inr r ↦ elim (kind_or_3 (kind_of t)) [ inl e ↦ absurd (omega arith) | inr e ↦ ap length_of (r.of_type ∙ e.1) ∙ zero_none ] ]
