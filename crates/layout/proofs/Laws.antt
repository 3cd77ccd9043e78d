-- Reading and writing undo each other, for any run of fields: one field at a time, by the run's own recursion.
-- Assumes nothing.
use mathlib.Core.Path.{◌≡◌, refl, sym, ap, ◌∙◌}
use mathlib.Core.List.{List, [], ◌∷◌, ◌++◌, append_assoc, append-nil}
use Prim.Native.Nat.{ℕ, suc, ◌+◌, ◌≤◌}
use mathlib.Core.Bool.{Bool, true}
use mathlib.Core.Logic.{◌⊎◌, inl, inr}
use native.Mathlib.Nat.{add-zero}
use native.Mathlib.Omega.{arith}
use lib.Dec.{eqb}
use borrow.Author.Tests.{eqb-true}
use Rattle.facts.specs.Pick.{pick, both}
use lib.ListN.{length, get_or, take, drop, replicate, length-append, length-drop}
use lib.Seq.{take_at, drop_at, get_or_at, get_or-drop, take-add, take_all, drop-drop, drop-cons, length-take-le}
use Rattle.wire.specs.Le.{le, to_le, field, padded, Bytes}
use Rattle.wire.proofs.Bytewise.{bytes_take, bytes_drop}
use Rattle.wire.proofs.Laws.{padded_part, length_to_le, le_to_le, to_le_le}
use Rattle.kinds.specs.Table.{type_of, kind_of, kind_length, length_of, lookup, table}
use Rattle.kinds.proofs.Laws.{pairs, lookup_rule, type_kind}
use Rattle.kinds.specs.declared.Kind.{Kind}
use Rattle.layout.specs.Shape.{Shape, byte, number, text, width, total, Value, Values, Fits, AllFit, value_at, cut, bytes_of, joined}
use Rattle.layout.specs.Layout.{shapes, Fields, FieldsFit, fields_in, body_for}
use Rattle.layout.specs.Message.{Message, written, read_as, Fit}

-- ---- one field
pub length_bytes : (s : Shape) (v : Value s) → Fits s v → length (bytes_of s v) ≡ width s
length_bytes byte v f = refl
length_bytes (number w) v f = length_to_le w v
length_bytes (text w) v f = f

-- written behind p, it is read back
value_back : (s : Shape) (v : Value s) (p q : List ℕ) (at : ℕ) → length p ≡ at → Fits s v → value_at s (p ++ (bytes_of s v ++ q)) at ≡ v
unfolding field padded
value_back byte v p q at l f = get_or_at p v q 0 at l
value_back (number w) v p q at l f = rw (drop_at p (to_le w v ++ q) at l, take_at (to_le w v) q w (length_to_le w v)) (le_to_le w v f)
value_back (text w) v p q at l f = rw (drop_at p (v ++ q) at l, append_assoc v q (replicate w 0), take_at v (q ++ replicate w 0) w f)

-- read from bytes that are there, it is written back
bytes_back : (s : Shape) (b : List ℕ) (at : ℕ) → Bytes b → at + width s ≤ length b → bytes_of s (value_at s b at) ≡ take (width s) (drop at b)
unfolding field
bytes_back byte b at h l = rw (drop-cons b at 0 (omega arith))
bytes_back (number w) b at h l =
    let x : List ℕ = take w (drop at b) in
    let n : length x ≡ w = length-take-le w (drop at b) (rw length-drop (omega arith)) in
    ap (λ (k : ℕ). to_le k (le x)) (sym n) ∙ to_le_le x (bytes_take w (drop at b) (bytes_drop at b h))
bytes_back (text w) b at h l = padded_part b at w l

-- what is read from a place on is decided by the bytes from there on
value_behind : (s : Shape) (b c : List ℕ) (at : ℕ) → drop at b ≡ drop at c → value_at s b at ≡ value_at s c at
unfolding field padded
value_behind byte b c at e = first b ∙ (ap (λ (l : List ℕ). get_or l 0 0) e ∙ sym (first c))
  where
    first : (l : List ℕ) → get_or l at 0 ≡ get_or (drop at l) 0 0
    first l = sym (get_or-drop at l 0 0 ∙ ap (λ (k : ℕ). get_or l k 0) (add-zero at))
value_behind (number w) b c at e = ap (λ (l : List ℕ). le (take w l)) e
value_behind (text w) b c at e = ap (λ (l : List ℕ). take w (l ++ replicate w 0)) e

-- ---- all fields
pub cut_behind : (ss : List Shape) (b c : List ℕ) (at : ℕ) → drop at b ≡ drop at c → cut ss b at ≡ cut ss c at
cut_behind [] b c at e = refl
cut_behind (s ∷ ss) b c at e =
    let f : drop (at + width s) b ≡ drop (at + width s) c = sym (drop-drop (width s) at b) ∙ (ap (drop (width s)) e ∙ drop-drop (width s) at c) in
    λ i. (value_behind s b c at e i, cut_behind ss b c (at + width s) f i)

pub length_joined : (ss : List Shape) (vs : Values ss) → AllFit ss vs → length (joined ss vs) ≡ total ss
unfolding joined
length_joined [] vs f = refl
length_joined (s ∷ ss) vs f = rw length-append (omega (arith, length_bytes s vs.0 f.0, length_joined ss vs.1 f.1))

pub cut_between : (ss : List Shape) (vs : Values ss) (p q : List ℕ) (at : ℕ) → length p ≡ at → AllFit ss vs → cut ss (p ++ (joined ss vs ++ q)) at ≡ vs
unfolding joined
cut_between [] vs p q at l f = refl
cut_between (s ∷ ss) vs p q at l f =
    let x : List ℕ = bytes_of s vs.0 in
    let y : List ℕ = joined ss vs.1 in
    let front : value_at s (p ++ (x ++ (y ++ q))) at ≡ vs.0 = value_back s vs.0 p (y ++ q) at l f.0 in
    let n : length (p ++ x) ≡ at + width s = rw length-append (omega (arith, length_bytes s vs.0 f.0)) in
    let rest : cut ss (p ++ (x ++ (y ++ q))) (at + width s) ≡ vs.1 = rw (← append_assoc p x (y ++ q)) (cut_between ss vs.1 (p ++ x) q (at + width s) n f.1) in
    rw (append_assoc x y q) (λ i. (front i, rest i))

pub cut_joined : (ss : List Shape) (vs : Values ss) (p : List ℕ) (at : ℕ) → length p ≡ at → AllFit ss vs → cut ss (p ++ joined ss vs) at ≡ vs
cut_joined ss vs p at l f = rw (append-nil (joined ss vs)) at (cut_between ss vs p [] at l f)

pub joined_cut : (ss : List Shape) (b : List ℕ) (at : ℕ) → Bytes b → at + total ss ≤ length b → joined ss (cut ss b at) ≡ take (total ss) (drop at b)
unfolding joined
joined_cut [] b at h l = refl
joined_cut (s ∷ ss) b at h l =
    rw (bytes_back s b at h (omega arith), joined_cut ss b (at + width s) h (omega arith), take-add (width s) (total ss) (drop at b), drop-drop (width s) at b)

-- ---- the messages: their fields fill their bodies, by one test over the table
tile_test : ℕ → ℕ → Bool
tile_test t n = eqb n (1 + total (shapes (kind_of t)))

table_tiles : pairs tile_test table ≡ true
unfolding table pairs kind_of pick both tile_test
table_tiles = refl

pub tiles : (k : Kind) → 1 ≤ kind_length k → kind_length k ≡ 1 + total (shapes k)
unfolding kind_length length_of tile_test
tiles k l = go (lookup_rule tile_test table table_tiles (type_of k))
  where
    go : (lookup (type_of k) table ≡ 0) ⊎ (tile_test (type_of k) (lookup (type_of k) table) ≡ true) → kind_length k ≡ 1 + total (shapes k)
    go (inl e) = absurd (omega arith)
    go (inr e) = rw (type_kind k) at (eqb-true (lookup (type_of k) table) (1 + total (shapes (kind_of (type_of k)))) e)

-- every message has a length in the table
pub sized : (k : Kind) → 1 ≤ type_of k → 1 ≤ kind_length k
unfolding kind_length length_of lookup table pick
sized Kind.SystemTime l = omega arith
sized Kind.SymbolUpdate l = omega arith
sized Kind.SystemState l = omega arith
sized Kind.TradingStatus l = omega arith
sized Kind.SymbolClear l = omega arith
sized Kind.Add l = omega arith
sized Kind.Modify l = omega arith
sized Kind.Delete l = omega arith
sized Kind.Execution l = omega arith
sized Kind.Trade l = omega arith
sized Kind.TradeCancel l = omega arith
sized Kind.Unknown l = absurd (omega arith)

-- ---- reading what was written, and writing what was read
module _ (k : Kind) where
  -- a body that is written has its type's length: that of the table
  pub length_body : (vs : Fields k) → FieldsFit k vs → 1 ≤ kind_length k → length (body_for k vs) ≡ kind_length k
  unfolding body_for
  length_body vs f l = omega (arith, length_joined (shapes k) vs f, tiles k l)

  pub fields_back : (vs : Fields k) → FieldsFit k vs → fields_in k (body_for k vs) ≡ vs
  unfolding body_for
  fields_back vs f = cut_joined (shapes k) vs (type_of k ∷ []) 1 refl f

  pub body_back : (b : List ℕ) → Bytes b → get_or b 0 0 ≡ type_of k → length b ≡ kind_length k → 1 ≤ length b → body_for k (fields_in k b) ≡ b
  unfolding body_for
  body_back [] h t n l = absurd (omega arith)
  body_back (x ∷ b) h t n l =
      let e = tiles k (omega arith) in
      let m : suc (length b) ≡ kind_length k = n in
      rw (← t, joined_cut (shapes k) (x ∷ b) 1 h (omega arith), take_all (total (shapes k)) b (omega arith))

-- ---- the same for a struct: the two round trips of every message
module _ {M : Type 0} (s : Message M) where
  pub read_back : (m : M) → Fit s m → read_as s (written s m) ≡ m
  unfolding written
  read_back m f = ap s.from (fields_back s.kind (s.to m) f) ∙ s.there m

  pub written_back : (b : List ℕ) → Bytes b → get_or b 0 0 ≡ type_of s.kind → length b ≡ kind_length s.kind → 1 ≤ length b → written s (read_as s b) ≡ b
  unfolding written
  written_back b h t n l = rw (s.again (fields_in s.kind b)) (body_back s.kind b h t n l)
