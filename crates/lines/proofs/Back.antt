-- Reading the line of a record gives the record back: its number, its name and its fields are read as they were written, one behind the other, and what was left out has its default.
-- Assumes nothing.
use Prim.Native.Nat.{ℕ, zero, suc, ◌+◌, ◌-◌, ◌≤◌}
use mathlib.Core.Path.{◌≡◌, refl, sym, ap, subst, ◌∙◌}
use mathlib.Core.Bool.{true, false}
use mathlib.Core.Logic.{inl, inr}
use mathlib.Core.List.{List, [], ◌∷◌, ◌++◌}
use native.Mathlib.Nat.{zero-add, not-suc-le-zero}
use native.Mathlib.Omega.{arith}
use lib.ListN.{length, take, drop, get_or, replicate, take-append-drop}
use lib.Seq.{take_at, drop_at, take-length}
use lib.Dec.{eqb, leb}
use borrow.Author.Tests.{leb-true, le-leb, ne_eqb, eqb-true}
use Rattle.std.specs.Prelude.{Option, Some, None, Result, Ok, Err, slice_get}
use Rattle.facts.specs.Limits.{last_number}
use Rattle.facts.specs.Pick.{pick}
use Rattle.facts.proofs.Picks.{both_true}
use Rattle.editions.specs.declared.Edition.{Edition}
use Rattle.wire.specs.Le.{padded, Bytes}
use Rattle.wire.proofs.Bytewise.{bytes_padded}
use Rattle.wire.proofs.Laws.{length_padded, get_or_padded, front_and_zeros}
use Rattle.kinds.specs.Table.{table, lookup, length_of, kind_of, type_of, kind_length}
use Rattle.kinds.specs.declared.Kind.{Kind}
use Rattle.layout.specs.Layout.{shapes, fields_in}
use Rattle.body.specs.Faults.{tests}
use Rattle.body.specs.Read.{judge_body, judged_number, good_body}
use Rattle.fields.specs.declared.Fault.{Fault}
use Rattle.body.proofs.Laws.{AllHold, Framed, JudgedAs, judge_sound}
use Rattle.packet.specs.Record.{number_ok}
use Rattle.text.specs.Text.{decimal_of, first_texts}
use Rattle.text.proofs.DecimalLaws.{decimal_digits}
use Rattle.spans.specs.Spans.{Word, word, words_at, opens, is_note, uncommented, blank, line_most}
use Rattle.keys.specs.Keys.{entries_of, name_of, blank_body}
use Rattle.line_out.specs.Lines.{field_text, line_by, record_line}
use Rattle.line_in.specs.Lines.{take_all, judged_as, judged, ended, most_fields, blank_draft, kind_of as kind_said, named, number_of, numbered, of_number, of_kind, read_record, of_words, of_line, read_line}
use Rattle.line_in.specs.declared.Line.{Line}
use Rattle.line_in.specs.declared.Slip.{Slip}
use Rattle.lines.proofs.Drafts.{draft}
use Rattle.spans.proofs.Laws.{words_front, words_space}
use Rattle.figures.proofs.Laws.{number_back, decimal_solid}
use Rattle.keys.proofs.Laws.{name_back, name_solid, most_fields_lem, laid, blank_length, blank_type, blank_behind}
use Rattle.lines.proofs.Texts.{texts_from, texts_front}
use Rattle.facts.proofs.PieceLaws.{same_left}
use Rattle.lines.proofs.Entries.{name_unmarked, field_suits}
use Rattle.lines.proofs.Short.{by_short}
use Rattle.lines.proofs.Walk.{Told, texts_apart, walk}

-- ---- a body and zeros behind it, up to 42 bytes
padded_is : (b : List ℕ) → length b ≤ 42 → padded b 0 42 ≡ b ++ replicate (42 - length b) 0
padded_is b h =
    let z : length b - 0 ≡ length b = omega arith in
    sym (front_and_zeros b 0 42 (replicate 42 0) b (omega arith) (omega arith) refl (sym (ap (λ (m : ℕ). take m b) z ∙ take-length b)))
    ∙ rw (z, same_left {A = ℕ} 42 (length b) 0)

-- the body is what is in front
pub front_back : (b : List ℕ) → length b ≤ 42 → take (length b) (padded b 0 42) ≡ b
front_back b h = rw (padded_is b h) (take_at b (replicate (42 - length b) 0) (length b) refl)

behind_zeros : (b : List ℕ) → length b ≤ 42 → drop (length b) (padded b 0 42) ≡ replicate (42 - length b) 0
behind_zeros b h = rw (padded_is b h) (drop_at b (replicate (42 - length b) 0) (length b) refl)

-- ---- a good body is judged as such, and its fields are in range
record Good (ed : Edition) (k : Kind) (b : List ℕ) : Type 0 where
  framed : Framed k b
  holds : AllHold (shapes k) (tests ed k) (fields_in k b)
  judged_well : judge_body ed b ≡ Ok k

good_is : (ed : Edition) (b : List ℕ) → good_body ed b ≡ true → Good ed (kind_of (get_or b 0 0)) b
unfolding good_body
good_is ed b h = go (judge_body ed b) refl (judge_sound ed b)
  where
    none : judged_number (judge_body ed b) ≡ 0
    none = eqb-true (judged_number (judge_body ed b)) 0 h

    go : (r : Result Kind Fault) → judge_body ed b ≡ r → JudgedAs ed r b → Good ed (kind_of (get_or b 0 0)) b
    go (Ok k) e s = subst (λ (x : Kind). Good ed x b) s.0 (record { framed = s.1; holds = s.2; judged_well = e })
    go (Err f) e (inl s) = let z : f.number ≡ 0 = rw e at none in absurd (omega (arith, s.0))
    go (Err f) e (inr s) = let z : f.number ≡ 0 = rw e at none in absurd (omega (arith, s.0))

-- a body of a kind has a message's type
framed_known : (k : Kind) (b : List ℕ) → Framed k b → type_of k ≡ 0 → ⊥
unfolding kind_length length_of lookup table pick
framed_known k b w e = let z : length b ≡ 0 = w.length_is ∙ ap length_of e in omega (arith, w.some)

-- ---- nothing is written so far
all_none : (n j : ℕ) → get_or (replicate {A = Option ℕ} n None) j None ≡ None
all_none zero j = refl
all_none (suc n) zero = refl
all_none (suc n) (suc j) = all_none n j

first_byte : (c z : List ℕ) → 1 ≤ length c → 1 ≤ length z → get_or c 0 0 ≡ get_or z 0 0 → z ≡ take 1 c ++ drop 1 z
first_byte [] z h l e = absurd (not-suc-le-zero h)
first_byte (x ∷ c) [] h l e = absurd (not-suc-le-zero l)
first_byte (x ∷ c) (y ∷ z) h l e = rw e

-- ---- the line of a body of a kind
module _ (ed : Edition) (k : Kind) (n : ℕ) (b : List ℕ) (bytes : Bytes b) (from : 1 ≤ n) (to : n ≤ last_number) (good : Good ed k b) where
  w : Framed k b
  w = good.framed

  abbrev c : List ℕ
  c = padded b 0 42

  abbrev record_is : Result Line Slip
  record_is = Ok (Line.Record n c (length b))

  known : type_of k ≡ 0 → ⊥
  known = framed_known k b w

  -- all fields are stored: the body stands there, and zeros behind it
  whole_body : take (kind_length k) c ++ drop (kind_length k) (blank_body ed k) ≡ c
  whole_body =
      let behind : drop (kind_length k) (blank_body ed k) ≡ drop (kind_length k) c = blank_behind ed k known ∙ sym (rw w.length_is at (behind_zeros b w.most)) in
      rw behind (take-append-drop (kind_length k) c)

  all_stored : (end : ℕ) (g : List (Option ℕ)) → judged n end (draft ed k (take (kind_length k) c ++ drop (kind_length k) (blank_body ed k)) g) ≡ record_is
  unfolding judged judged_as
  all_stored end g =
      let front : take (kind_length k) c ≡ b = rw (← w.length_is) (front_back b w.most) in
      rw (whole_body, front, good.judged_well, w.length_is)

  none_told : Told (entries_of ed k) 0 (replicate most_fields None)
  none_told = record {
    room = most_fields_lem ed k;
    untold = λ j h. all_none most_fields j;
    given = λ j h m. absurd (not-suc-le-zero h);
  }

  type_there : blank_body ed k ≡ take 1 c ++ drop 1 (blank_body ed k)
  type_there =
      first_byte c (blank_body ed k) (omega (arith, length_padded b 0 42)) (omega (arith, blank_length ed k))
      (get_or_padded b 0 42 0 (omega arith) ∙ (w.type_is ∙ sym (blank_type ed k)))

  fields_back : (end p : ℕ) → ended n end (take_all (uncommented (words_at p (first_texts (field_text ed k c) (length (entries_of ed k))))) (Ok (blank_draft ed k))) ≡ record_is
  fields_back end p =
      ap (λ (s : List ℕ). ended n end (take_all (uncommented (words_at p s)) (Ok (blank_draft ed k)))) (texts_front (field_text ed k c) (length (entries_of ed k)))
      ∙ (ap (λ (z : List ℕ). ended n end (take_all (uncommented (words_at p (texts_from (field_text ed k c) 0 (length (entries_of ed k))))) (Ok (draft ed k z (replicate most_fields None))))) type_there
      ∙ walk ed k c n end record_is (bytes_padded b 0 42 bytes) (length_padded b 0 42)
      (field_suits ed k b good.holds)
      (all_stored end)
      (length (entries_of ed k)) 0 p 1 (replicate most_fields None) (zero-add (length (entries_of ed k))) (laid ed k known) none_told)

  -- the name, then the fields
  named_back : (end p : ℕ) (s : List ℕ) → s ≡ first_texts (field_text ed k c) (length (entries_of ed k)) → (ws : List Word) → ws ≡ words_at p (name_of k ++ s) → of_kind ed n (kind_said (slice_get ws 0) end) (drop 1 ws) end ≡ record_is
  unfolding kind_said named of_kind is_note pick
  named_back end p s e ws f =
      let apart : opens s ≡ false = rw (e, texts_front (field_text ed k c) (length (entries_of ed k))) (texts_apart ed k c 0 (length (entries_of ed k))) in
      let words : ws ≡ word p (name_of k) ∷ words_at (p + length (name_of k)) s = f ∙ words_front p (name_of k) s (name_solid k known).0 (name_solid k known).1 apart in
      let said : kind_said (Some (word p (name_of k))) end ≡ Ok k = rw (name_unmarked k) (ap (λ o. named o p) (name_back k known)) in
      rw (words, said, e) (fields_back end (p + length (name_of k)))

  -- the number, then the name
  by_back : read_line ed (line_by ed k n c) ≡ record_is
  unfolding read_line of_line of_words read_record number_of of_number numbered is_note line_by opens blank pick
  by_back =
      let texts : List ℕ = first_texts (field_text ed k c) (length (entries_of ed k)) in
      let line : List ℕ = decimal_of n ++ (32 ∷ (name_of k ++ texts)) in
      let short : length line ≤ 500 = by_short ed k n c (bytes_padded b 0 42 bytes) (omega arith) in
      let solid = decimal_solid n in
      let unmarked : eqb (get_or (decimal_of n) 0 0) 35 ≡ false = ne_eqb (get_or (decimal_of n) 0 0) 35 (λ e. omega (arith, (decimal_digits n 0 solid.0).0)) in
      rw (le-leb (length line) line_most (omega arith), words_front 0 (decimal_of n) (32 ∷ (name_of k ++ texts)) solid.0 solid.1 refl, unmarked, number_back last_number n to, ne_eqb n 0 (λ e. omega arith), words_space (0 + length (decimal_of n)) (name_of k ++ texts))
      (named_back (length line) (suc (0 + length (decimal_of n))) texts refl (words_at (suc (0 + length (decimal_of n))) (name_of k ++ texts)) refl)

-- ---- of a good record
number_in : (n : ℕ) → number_ok n ≡ true → (1 ≤ n) × (n ≤ last_number)
unfolding number_ok
number_in n h = let t = both_true {a = leb 1 n} {b = leb n last_number} h in (leb-true 1 n t.0, leb-true n last_number t.1)

-- "reading the line gives the record back": its number, its bytes with zeros behind them, and its length
pub line_back : (ed : Edition) (n : ℕ) (b : List ℕ) → Bytes b → number_ok n ≡ true → good_body ed b ≡ true → read_line ed (record_line ed n b) ≡ Ok (Line.Record n (padded b 0 42) (length b))
unfolding record_line
line_back ed n b bytes num good =
    let t = number_in n num in
    by_back ed (kind_of (get_or b 0 0)) n b bytes t.0 t.1 (good_is ed b good)

-- and they are the body
pub body_back : (ed : Edition) (b : List ℕ) → good_body ed b ≡ true → take (length b) (padded b 0 42) ≡ b
body_back ed b good = front_back b (good_is ed b good).framed.most

-- so two records with one line are one
pub line_once : (ed : Edition) (n m : ℕ) (b c : List ℕ) → Bytes b → Bytes c → number_ok n ≡ true → number_ok m ≡ true → good_body ed b ≡ true → good_body ed c ≡ true → record_line ed n b ≡ record_line ed m c → (n ≡ m) × (b ≡ c)
line_once ed n m b c bytes_b bytes_c num_n num_m good_b good_c e =
    let same : Ok (Line.Record n (padded b 0 42) (length b)) ≡ Ok (Line.Record m (padded c 0 42) (length c)) =
    sym (line_back ed n b bytes_b num_n good_b) ∙ (ap (read_line ed) e ∙ line_back ed m c bytes_c num_m good_c) in
    let numbers : n ≡ m = cc in
    let lengths : length b ≡ length c = cc in
    let bodies : padded b 0 42 ≡ padded c 0 42 = cc in
    (numbers, sym (body_back ed b good_b) ∙ (ap (λ (j : ℕ). take j (padded b 0 42)) lengths ∙ (ap (take (length c)) bodies ∙ body_back ed c good_c)))
