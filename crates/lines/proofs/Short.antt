-- A record's line is short: a number of 64 bits has at most 20 digits, a name 12 bytes, and each of at most ten fields a space, a key of 12 bytes, `=` and a value of 24.
-- Assumes nothing.
use Prim.Native.Nat.{ℕ, ◌*◌, ◌^◌, ◌≤◌, ◌<◌}
use mathlib.Core.List.{List, [], ◌∷◌, ◌++◌}
use native.Mathlib.Omega.{arith}
use lib.ListN.{length, drop, get_or, length-append, length-take}
use Rattle.facts.proofs.Picks.{pick_ind}
use Rattle.editions.specs.declared.Edition.{Edition}
use Rattle.wire.specs.Le.{padded, Bytes}
use Rattle.wire.proofs.Bytewise.{bytes_take, bytes_drop, bytes_padded}
use Rattle.kinds.specs.Table.{kind_of}
use Rattle.kinds.specs.declared.Kind.{Kind}
use Rattle.text.specs.Text.{decimal_of, first_texts}
use Rattle.text.proofs.DecimalLaws.{decimal_le}
use Rattle.values.specs.Values.{value_text}
use Rattle.keys.specs.Keys.{entries_of, key_at, form_at, name_of, blank_body}
use Rattle.line_out.specs.Lines.{part, is_shown, field_by, field_text, line_by, record_line}
use Rattle.values.proofs.Laws.{value_short}
use Rattle.keys.proofs.Laws.{key_short, name_short, most_fields_lem, field_short}
use Rattle.lines.proofs.Texts.{texts_short}

field_length : (ed : Edition) (k : Kind) (c : List ℕ) → Bytes c → (i : ℕ) → length (field_text ed k c i) ≤ 38
unfolding field_by
field_length ed k c bytes i =
    let v : List ℕ = part (form_at ed k i) c in
    let b : Bytes v = bytes_take (form_at ed k i).width (drop (form_at ed k i).at c) (bytes_drop (form_at ed k i).at c bytes) in
    let short : length v ≤ 11 = omega (arith, length-take (form_at ed k i).width (drop (form_at ed k i).at c), field_short ed k i) in
    pick_ind (λ (s : List ℕ). length s ≤ 38) (is_shown (form_at ed k i) c (blank_body ed k)) (32 ∷ (key_at ed k i ++ (61 ∷ value_text (form_at ed k i).style v))) []
    (λ e. omega (arith, length-append (key_at ed k i) (61 ∷ value_text (form_at ed k i).style v), key_short ed k i, value_short (form_at ed k i).style v b short))
    (λ e. omega arith)

-- of a message with any bytes
pub by_short : (ed : Edition) (k : Kind) (n : ℕ) (c : List ℕ) → Bytes c → n < 2 ^ 64 → length (line_by ed k n c) ≤ 500
unfolding line_by
by_short ed k n c bytes h =
    let texts : List ℕ = first_texts (field_text ed k c) (length (entries_of ed k)) in
    let fields : length texts ≤ 38 * length (entries_of ed k) = texts_short (field_text ed k c) 38 (field_length ed k c bytes) (length (entries_of ed k)) in
    omega (arith, length-append (decimal_of n) (32 ∷ (name_of k ++ texts)), length-append (name_of k) texts, decimal_le n h, name_short k, most_fields_lem ed k)

pub line_short : (ed : Edition) (n : ℕ) (b : List ℕ) → Bytes b → n < 2 ^ 64 → length (record_line ed n b) ≤ 500
unfolding record_line
line_short ed n b bytes h = by_short ed (kind_of (get_or b 0 0)) n (padded b 0 42) (bytes_padded b 0 42 bytes) h
