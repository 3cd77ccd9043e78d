-- An entry is a piece of the table, so the laws of tables are those of pieces; its type byte alone says whether it is used.
-- Assumes nothing.
use mathlib.Core.Path.{◌≡◌, refl, ◌∙◌}
use mathlib.Core.List.{List, [], ◌++◌}
use mathlib.Core.Bool.{Bool, true, false}
use Prim.Native.Nat.{ℕ, zero, suc, ◌+◌, ◌-◌, ◌*◌, ◌/◌, ◌≤◌, ◌<◌}
use native.Mathlib.Omega.{arith}
use lib.ListN.{length, get_or, set, take, drop, replicate, length-replicate, get_or-replicate, get_or-eq_default}
use lib.Dec.{ltb}
use borrow.Author.Tests.{eq-eqb, ne_eqb, eqb-true, ltb-true, ltb-false}
use Rattle.facts.specs.Limits.{entry_size, most_entries}
use Rattle.facts.specs.Pick.{pick, either}
use Rattle.std.specs.Simd.{first_chunks}
use Rattle.facts.specs.Pieces.{cut, pieces, join}
use Rattle.facts.proofs.PieceLaws.{Wide, length_pieces, piece_fits, length_piece, length_put, put_out, pieces_put, wide_pieces, pieces_replicate, join_rest}
use Rattle.facts.proofs.TableLaws.{put_join_rest, part_put, Fits, good_fits, fits_good}
use Rattle.wire.specs.Le.{padded}
use Rattle.wire.proofs.Laws.{length_padded, get_or_padded, field_padded, padded_whole}
use Rattle.kinds.specs.Table.{table, lookup, length_of, type_of, kind_length}
use Rattle.kinds.specs.declared.Kind.{Kind}
use Rattle.symbols.specs.Entries.{good_entries, entries, entries_rest, entry_of, put_entry, used, free_entry, spoiled_entry, id_of}

-- ---- the two numbers: what the laws need of them
pub size_some : 0 < entry_size
size_some = omega arith

id_inside : 5 + 4 ≤ entry_size
id_inside = omega arith

-- "each the last Symbol Update body"
pub size_is : kind_length Kind.SymbolUpdate ≡ entry_size
unfolding kind_length length_of lookup table pick
size_is = refl

-- ---- sizes of tables
abbrev pub EntriesFit : ℕ → Type 0
EntriesFit = Fits entry_size most_entries

pub good_entries_lem : (n : ℕ) → good_entries n ≡ true → EntriesFit n
unfolding good_entries
good_entries_lem n e = good_fits entry_size most_entries n e

pub entries_good : (n : ℕ) → EntriesFit n → good_entries n ≡ true
unfolding good_entries
entries_good n h = fits_good entry_size most_entries n h

-- ---- tables and their entries
pub length_entries : (t : List ℕ) → length (entries t) ≡ length t / entry_size
unfolding entries
length_entries t = length_pieces entry_size t

-- as std cuts a slice
chunks_cut : (w n : ℕ) (t : List ℕ) → first_chunks w n t ≡ cut w n t
unfolding cut
chunks_cut w zero t = refl
chunks_cut w (suc n) t = rw (chunks_cut w n (drop w t))

pub entries_chunks : (t : List ℕ) → first_chunks entry_size (length t / entry_size) t ≡ entries t
unfolding entries pieces
entries_chunks t = chunks_cut entry_size (length t / entry_size) t

-- the part from its start to its end, as code cuts it out
part_width : (i : ℕ) → entry_size * i + entry_size - entry_size * i ≡ entry_size
part_width i = omega arith

pub entry_fits : (t : List ℕ) (i : ℕ) → i < length (entries t) → entry_size * i + entry_size ≤ length t
unfolding entries
entry_fits t i h = piece_fits entry_size t i (rw length_pieces at h)

pub wide_entries : (t : List ℕ) → Wide entry_size (entries t)
unfolding entries
wide_entries t = wide_pieces entry_size t

-- bytes behind the last whole entry belong to the table as well
pub entries_rest_lem : (t : List ℕ) → join (entries t) ++ entries_rest t ≡ t
unfolding entries entries_rest
entries_rest_lem t = join_rest entry_size t

-- ---- a body as an entry
pub length_entry_of : (b : List ℕ) → length (entry_of b) ≡ entry_size
unfolding entry_of
length_entry_of b = length_padded b 0 entry_size

type_entry_of : (b : List ℕ) → get_or (entry_of b) 0 0 ≡ get_or b 0 0
unfolding entry_of
type_entry_of b = get_or_padded b 0 entry_size 0 size_some

pub id_entry_of : (b : List ℕ) → id_of (entry_of b) ≡ id_of b
unfolding entry_of
id_entry_of b = field_padded b entry_size 5 4 id_inside

pub used_entry_of : (b : List ℕ) → used (entry_of b) ≡ used b
unfolding used
used_entry_of b = rw (type_entry_of b)

-- what is known of a good Symbol Update body: it is its own entry, and a used one
pub whole_body : (b : List ℕ) → length b ≡ kind_length Kind.SymbolUpdate → entry_of b ≡ b
unfolding entry_of
whole_body b h = padded_whole b entry_size (h ∙ size_is)

pub used_body : (b : List ℕ) → get_or b 0 0 ≡ type_of Kind.SymbolUpdate → used b ≡ true
unfolding used
used_body b h = eq-eqb _ _ h

-- ---- one entry put
pub length_put_entry : (t : List ℕ) (i : ℕ) (b : List ℕ) → length (put_entry t i b) ≡ length t
unfolding put_entry
length_put_entry t i b = length_put entry_size t i (entry_of b)

pub entries_put : (t : List ℕ) (i : ℕ) (b : List ℕ) → entries (put_entry t i b) ≡ set (entries t) i (entry_of b)
unfolding entries put_entry
entries_put t i b = pieces_put entry_size t i (entry_of b) (length_entry_of b)

pub put_entry_past : (t : List ℕ) (i : ℕ) (b : List ℕ) → length (entries t) ≤ i → put_entry t i b ≡ t
unfolding entries put_entry
put_entry_past t i b h = put_out entry_size t i (entry_of b) (rw length_pieces at h)

-- what a copy of the body into the part of an entry leaves
pub entry_written : (t : List ℕ) (i : ℕ) (b y : List ℕ) → i < length (entries t)
    → y ≡ padded b 0 (length (take (entry_size * i + entry_size - entry_size * i) (drop (entry_size * i) t)))
    → take (entry_size * i) t ++ (y ++ drop (entry_size * i + entry_size - entry_size * i) (drop (entry_size * i) t)) ≡ put_entry t i b
unfolding entries put_entry entry_of
entry_written t i b y h e =
    let k = part_width i in
    let g : i < length t / entry_size = rw length_pieces at h in
    let f : y ≡ padded b 0 entry_size = rw (k, length_piece entry_size t i g) at e in
    rw (k, f) (part_put entry_size t i (padded b 0 entry_size) g (length_padded b 0 entry_size))

-- every byte of it
pub put_bytes : (t : List ℕ) (i : ℕ) (b : List ℕ) → put_entry t i b ≡ join (set (entries t) i (entry_of b)) ++ entries_rest t
unfolding entries put_entry entries_rest
put_bytes t i b = put_join_rest entry_size t i (entry_of b) (length_entry_of b)

-- ---- exactly one of used, free and spoiled
pub type_used : (e : List ℕ) → used e ≡ true → get_or e 0 0 ≡ 1
unfolding used
type_used e h = eqb-true _ _ h

pub type_free : (e : List ℕ) → free_entry e ≡ true → get_or e 0 0 ≡ 0
unfolding free_entry
type_free e h = eqb-true _ _ h

pub used_not_free : (e : List ℕ) → used e ≡ true → free_entry e ≡ false
unfolding free_entry
used_not_free e h = ne_eqb (get_or e 0 0) 0 (λ z. omega (arith, type_used e h))

pub free_not_used : (e : List ℕ) → free_entry e ≡ true → used e ≡ false
unfolding used
free_not_used e h = ne_eqb (get_or e 0 0) 1 (λ z. omega (arith, type_free e h))

pub data EntryState (e : List ℕ) : Type 0 where
  entry_is_used : used e ≡ true → free_entry e ≡ false → spoiled_entry e ≡ false → EntryState e
  entry_is_free : used e ≡ false → free_entry e ≡ true → spoiled_entry e ≡ false → EntryState e
  entry_is_spoiled : used e ≡ false → free_entry e ≡ false → spoiled_entry e ≡ true → EntryState e

pub entry_state : (e : List ℕ) → EntryState e
unfolding spoiled_entry either
entry_state e = go (used e) refl (free_entry e) refl
  where
    go : (u : Bool) → used e ≡ u → (f : Bool) → free_entry e ≡ f → EntryState e
    go true p f q = entry_is_used p (used_not_free e p) (rw p)
    go false p true q = entry_is_free p q (rw (p, q))
    go false p false q = entry_is_spoiled p q (rw (p, q))

-- ---- a wiped table
wiped_entries : (n : ℕ) → entries (replicate n 0) ≡ replicate (n / entry_size) (replicate entry_size 0)
unfolding entries
wiped_entries n = pieces_replicate entry_size n 0

-- of all its entries, and of none past the end, the type byte is 0
wiped_type : (n i : ℕ) → get_or (get_or (entries (replicate n 0)) i []) 0 0 ≡ 0
wiped_type n i = rw (wiped_entries n) (go (ltb i (n / entry_size)) refl)
  where
    zeros : List ℕ
    zeros = replicate entry_size 0

    go : (b : Bool) → ltb i (n / entry_size) ≡ b → ◌≡◌ {A = ℕ} (get_or (get_or (replicate (n / entry_size) zeros) i []) 0 0) 0
    go true e = rw (get_or-replicate (n / entry_size) i zeros [] (ltb-true _ _ e)) (get_or-replicate entry_size 0 0 0 size_some)
    go false e =
        let l : length (replicate (n / entry_size) zeros) ≤ i = rw length-replicate (ltb-false _ _ e) in
        rw (get_or-eq_default (replicate (n / entry_size) zeros) [] {n = i} l)

pub wiped_free : (n i : ℕ) → free_entry (get_or (entries (replicate n 0)) i []) ≡ true
unfolding free_entry
wiped_free n i = eq-eqb _ _ (wiped_type n i)

pub wiped_unused : (n i : ℕ) → used (get_or (entries (replicate n 0)) i []) ≡ false
wiped_unused n i = free_not_used _ (wiped_free n i)
