-- A record's line is of bytes from 32 to 126, so that no line feed is in it: a space before each field, and its number, name, keys and values are without blanks.
-- Assumes nothing.
use Prim.Native.Nat.{ℕ, zero, suc, ◌<◌}
use mathlib.Core.Path.{◌≡◌, refl, sym, ap, ◌∙◌}
use mathlib.Core.Bool.{true}
use mathlib.Core.List.{List, [], ◌∷◌, ◌++◌}
use native.Mathlib.Decide.{ℕ_discrete}
use native.Mathlib.Omega.{arith}
use lib.ListN.{length, get_or}
use lib.Dec.{leb}
use borrow.Author.Tests.{leb-true, le-leb}
use Rattle.facts.specs.Pick.{pick, both}
use Rattle.facts.proofs.Picks.{pick_ind, both_true}
use Rattle.editions.specs.declared.Edition.{Edition}
use Rattle.wire.specs.Le.{padded, Bytes}
use Rattle.wire.proofs.Bytewise.{bytes_padded}
use Rattle.kinds.specs.Table.{kind_of, type_of}
use Rattle.kinds.specs.declared.Kind.{Kind}
use Rattle.kinds.proofs.Laws.{type_kind}
use Rattle.words.specs.Types.{all_from}
use Rattle.text.specs.Text.{decimal_of, first_texts}
use Rattle.figures.proofs.Laws.{decimal_solid}
use Rattle.keys.specs.Keys.{entries_of, form_at, name_of, blank_body}
use Rattle.keys.proofs.Laws.{name_solid}
use Rattle.line_out.specs.Lines.{is_shown, field_by, field_text, line_by, record_line}
use Rattle.figures.proofs.PlaceLaws.{all_join}
use Rattle.lines.proofs.Walk.{field_word, word_solid}

-- what is without blanks
solid_plain : (s : List ℕ) → all_from 33 126 s ≡ true → all_from 32 126 s ≡ true
unfolding all_from both
solid_plain [] h = refl
solid_plain (x ∷ s) h =
    let t = both_true {a = both (leb 33 x) (leb x 126)} {b = all_from 33 126 s} h in
    let r = both_true {a = leb 33 x} {b = leb x 126} t.0 in
    rw (le-leb 32 x (omega (arith, leb-true 33 x r.0)), r.1) (solid_plain s t.1)

texts_plain : (f : ℕ → List ℕ) (n : ℕ) → ((i : ℕ) → i < n → all_from 32 126 (f i) ≡ true) → all_from 32 126 (first_texts f n) ≡ true
unfolding first_texts all_from
texts_plain f zero h = refl
texts_plain f (suc n) h = all_join 32 126 (first_texts f n) (f n) (texts_plain f n (λ i l. h i (omega arith))) (h n (omega arith))

field_plain : (ed : Edition) (k : Kind) (c : List ℕ) → Bytes c → (i : ℕ) → i < length (entries_of ed k) → all_from 32 126 (field_text ed k c i) ≡ true
unfolding field_by all_from both
field_plain ed k c bytes i h =
    pick_ind (λ (s : List ℕ). all_from 32 126 s ≡ true) (is_shown (form_at ed k i) c (blank_body ed k)) (32 ∷ field_word ed k c i) []
    (λ e. solid_plain (field_word ed k c i) (word_solid ed k c bytes i h))
    (λ e. refl)

-- no message has no name, and then nothing stands there
name_plain : (k : Kind) → all_from 32 126 (name_of k) ≡ true
unfolding kind_of pick all_from
name_plain k = go (ℕ_discrete (type_of k) 0)
  where
    go : Dec (type_of k ≡ 0) → all_from 32 126 (name_of k) ≡ true
    go (yes e) = let none : k ≡ Kind.Unknown = sym (type_kind k) ∙ ap kind_of e in rw none
    go (no e) = solid_plain (name_of k) (name_solid k e).1

by_plain : (ed : Edition) (k : Kind) (n : ℕ) (c : List ℕ) → Bytes c → all_from 32 126 (line_by ed k n c) ≡ true
unfolding line_by all_from both
by_plain ed k n c bytes =
    let texts : List ℕ = first_texts (field_text ed k c) (length (entries_of ed k)) in
    all_join 32 126 (decimal_of n) (32 ∷ (name_of k ++ texts)) (solid_plain (decimal_of n) (decimal_solid n).1)
    (all_join 32 126 (name_of k) texts (name_plain k) (texts_plain (field_text ed k c) (length (entries_of ed k)) (field_plain ed k c bytes)))

pub line_plain : (ed : Edition) (n : ℕ) (b : List ℕ) → Bytes b → all_from 32 126 (record_line ed n b) ≡ true
unfolding record_line
line_plain ed n b bytes = by_plain ed (kind_of (get_or b 0 0)) n (padded b 0 42) (bytes_padded b 0 42 bytes)
