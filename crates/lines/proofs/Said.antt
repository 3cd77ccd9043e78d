-- A line that is read as a record says that record: each of its words stored the part of its own field, so a field has what its one word says, or its default where no word names it.
-- Assumes nothing.
use Prim.Native.Nat.{ℕ, zero, suc, ◌≤◌, ◌<◌}
use mathlib.Core.Path.{◌≡◌, refl, sym, ap, subst, ◌∙◌}
use mathlib.Core.Bool.{Bool, true, false}
use mathlib.Core.Logic.{◌≢◌}
use mathlib.Core.List.{List, [], ◌∷◌}
use native.Mathlib.Decide.{ℕ_discrete}
use native.Mathlib.Omega.{arith}
use lib.ListN.{length, take, drop, get_or, replicate, get_or-replicate}
use lib.Dec.{eqb, leb}
use borrow.Author.Tests.{le-leb, eqb-false}
use Rattle.facts.specs.Limits.{last_number}
use Rattle.facts.specs.Pick.{pick, both}
use Rattle.facts.specs.Sums.{sum_by, count_by}
use Rattle.std.proofs.Common.{Option, Some, None, is_some, Result, Ok, Err, slice_get, true≢false, if◌then◌else◌}
use Rattle.facts.proofs.Picks.{pick_ind}
use Rattle.editions.specs.declared.Edition.{Edition}
use Rattle.kinds.specs.Table.{kind_length}
use Rattle.kinds.specs.declared.Kind.{Kind}
use Rattle.fields.specs.declared.Fault.{Fault}
use Rattle.body.specs.Read.{judge_body, good_body}
use Rattle.packet.specs.Record.{number_ok}
use Rattle.spans.specs.Spans.{Word, words_at, is_note, uncommented}
use Rattle.figures.specs.Figures.{number_in}
use Rattle.figures.proofs.NumberLaws.{number_most}
use Rattle.values.specs.Values.{value_in}
use Rattle.keys.specs.Keys.{kind_named, entries_of, form_at, blank_body}
use Rattle.keys.proofs.Laws.{named_known, most_fields_lem, blank_length, blank_type, blank_behind}
use Rattle.line_out.specs.Lines.{part}
use Rattle.spans.specs.Spans.{line_most}
use Rattle.line_in.specs.Lines.{take_all, missing, judged_as, judged, whole, finished, ended, most_fields, blank_draft, kind_of, named, number_of, numbered, of_number, of_kind, read_record, of_words, of_line, read_line}
use Rattle.line_in.specs.declared.Draft.{Draft}
use Rattle.line_in.specs.declared.Line.{Line}
use Rattle.line_in.specs.declared.Slip.{Slip}
use Rattle.line_in.specs.declared.Expected.{Expected}
use Rattle.line_in.specs.Slips.{slip_at}
use Rattle.lines.proofs.Drafts.{draft}
use Rattle.lines.proofs.Missing.{all_there}
use Rattle.lines.specs.Said.{behind_key, names, value_for, AllNamed, bytes_by, said_of, Says}
use Rattle.lines.proofs.SaidLaws.{drop_stored, first_stored, field_within, part_own, part_other, inside, names_own, names_other, value_fits, step_long, step_room, given_own, given_other, Run, done, more, run, count_more, count_same}

-- ---- words that are taken, from any draft on
-- what its value was stored for is not named again
named_no_more : (ed : Edition) (k : Kind) (i : ℕ) → i < length (entries_of ed k) → {ws : List Word} {d e : Draft} → Run ed k ws d e → is_some (get_or d.columns i None) ≡ true → count_by (names ed k i) ws ≡ 0
unfolding count_by sum_by
named_no_more ed k i h done g = refl
named_no_more ed k i h (more {w = w} {ws = ws} {d = d} {e = x} s r) g =
    let n : i ≢ s.field = λ q. true≢false (sym g ∙ (ap (λ (j : ℕ). is_some (get_or d.columns j None)) q ∙ s.fresh)) in
    count_same (names ed k i) w ws (names_other ed k w d x s i h n) ∙ named_no_more ed k i h r (rw (given_other ed k w d x s i n) g)

-- "Each key is written at most once"
named_once : (ed : Edition) (k : Kind) (i : ℕ) → i < length (entries_of ed k) → {ws : List Word} {d e : Draft} → Run ed k ws d e → length (entries_of ed k) ≤ length d.columns → count_by (names ed k i) ws ≤ 1
unfolding count_by sum_by
named_once ed k i h done g = omega arith
named_once ed k i h (more {w = w} {ws = ws} {d = d} {e = x} s r) g = go (ℕ_discrete i s.field) (named_once ed k i h r (step_room ed k w d x s (length (entries_of ed k)) g))
  where
    go : Dec (i ≡ s.field) → count_by (names ed k i) ws ≤ 1 → count_by (names ed k i) (w ∷ ws) ≤ 1
    go (yes q) rec =
        let own : names ed k i w ≡ true = rw q (names_own ed k w d x s) in
        let told : is_some (get_or x.columns i None) ≡ true = rw q (given_own ed k w d x s g) in
        rw (count_more (names ed k i) w ws own, named_no_more ed k i h r told) (omega arith)
    go (no n) rec = rw (count_same (names ed k i) w ws (names_other ed k w d x s i h n)) rec

-- what no word names is left out
unnamed : (ed : Edition) (k : Kind) (i : ℕ) (ws : List Word) → count_by (names ed k i) ws ≡ 0 → value_for ed k i ws ≡ None
unfolding value_for
unnamed ed k i [] e = refl
unnamed ed k i (w ∷ ws) e =
    pick_ind (λ (g : Option (List ℕ)). g ≡ None) (names ed k i w) (Some (behind_key w.bytes)) (value_for ed k i ws)
    (λ t. absurd (omega (arith, count_more (names ed k i) w ws t)))
    (λ t. unnamed ed k i ws (sym (count_same (names ed k i) w ws t) ∙ e))

value_own : (ed : Edition) (k : Kind) (i : ℕ) (w : Word) (ws : List Word) → names ed k i w ≡ true → value_for ed k i (w ∷ ws) ≡ Some (behind_key w.bytes)
unfolding value_for pick
value_own ed k i w ws t = rw t

value_behind : (ed : Edition) (k : Kind) (i : ℕ) (w : Word) (ws : List Word) → names ed k i w ≡ false → value_for ed k i (w ∷ ws) ≡ value_for ed k i ws
unfolding value_for pick
value_behind ed k i w ws t = rw t

-- a field that no word names has the bytes of the body before; one that a word names has what its value says
kept : (ed : Edition) (k : Kind) (i : ℕ) → i < length (entries_of ed k) → {ws : List Word} {d e : Draft} → Run ed k ws d e → length d.body ≡ 42 → length (entries_of ed k) ≤ length d.columns → bytes_by (form_at ed k i) (part (form_at ed k i) d.body) (value_for ed k i ws) ≡ Some (part (form_at ed k i) e.body)
unfolding bytes_by value_for
kept ed k i h done l g = refl
kept ed k i h (more {w = w} {ws = ws} {d = d} {e = x} {f = e} s r) l g =
    go (ℕ_discrete i s.field) (kept ed k i h r (step_long ed k w d x s l) (step_room ed k w d x s (length (entries_of ed k)) g))
  where
    go : Dec (i ≡ s.field) → bytes_by (form_at ed k i) (part (form_at ed k i) x.body) (value_for ed k i ws) ≡ Some (part (form_at ed k i) e.body) → bytes_by (form_at ed k i) (part (form_at ed k i) d.body) (value_for ed k i (w ∷ ws)) ≡ Some (part (form_at ed k i) e.body)
    go (yes q) rec =
        let own : names ed k i w ≡ true = rw q (names_own ed k w d x s) in
        let told : is_some (get_or x.columns i None) ≡ true = rw q (given_own ed k w d x s g) in
        let left : value_for ed k i ws ≡ None = unnamed ed k i ws (named_no_more ed k i h r told) in
        let stays : Some (part (form_at ed k i) x.body) ≡ Some (part (form_at ed k i) e.body) = rw left at rec in
        let stored : part (form_at ed k i) x.body ≡ s.value = rw (q, s.taken) (part_own ed k s.field (inside ed k w d x s) d.body s.value l (value_fits ed k w d x s)) in
        let says : value_in (form_at ed k i).style (form_at ed k i).width (behind_key w.bytes) ≡ Some s.value = rw q s.says in
        rw (value_own ed k i w ws own) (says ∙ (ap Some (sym stored) ∙ stays))
    go (no n) rec =
        let stays : part (form_at ed k i) x.body ≡ part (form_at ed k i) d.body = rw s.taken (part_other ed k s.field (inside ed k w d x s) d.body s.value l (value_fits ed k w d x s) i h n) in
        rw (value_behind ed k i w ws (names_other ed k w d x s i h n)) (ap (λ (v : List ℕ). bytes_by (form_at ed k i) v (value_for ed k i ws)) (sym stays) ∙ rec)

-- every word is a field's
all_named : (ed : Edition) (k : Kind) {ws : List Word} {d e : Draft} → Run ed k ws d e → AllNamed ed k ws
all_named ed k done = tt
all_named ed k (more {w = w} {d = d} {e = x} s r) = ((s.field, (inside ed k w d x s), names_own ed k w d x s), all_named ed k r)

-- a field whose column is told was written
told_written : (ed : Edition) (k : Kind) (i : ℕ) → i < length (entries_of ed k) → {ws : List Word} {d e : Draft} → Run ed k ws d e → get_or d.columns i None ≡ None → is_some (get_or e.columns i None) ≡ true → is_some (value_for ed k i ws) ≡ true
told_written ed k i h done z t = absurd (true≢false (sym t ∙ ap is_some z))
told_written ed k i h (more {w = w} {ws = ws} {d = d} {e = x} s r) z t = go (ℕ_discrete i s.field) (λ q. told_written ed k i h r q t)
  where
    go : Dec (i ≡ s.field) → (get_or x.columns i None ≡ None → is_some (value_for ed k i ws) ≡ true) → is_some (value_for ed k i (w ∷ ws)) ≡ true
    go (yes q) rec = let own : names ed k i w ≡ true = rw q (names_own ed k w d x s) in rw (value_own ed k i w ws own)
    go (no n) rec = rw (value_behind ed k i w ws (names_other ed k w d x s i h n)) (rec (given_other ed k w d x s i n ∙ z))

-- the type byte, and what lies behind the last field, stay
type_kept : (ed : Edition) (k : Kind) {ws : List Word} {d e : Draft} → Run ed k ws d e → get_or e.body 0 0 ≡ get_or d.body 0 0
type_kept ed k done = refl
type_kept ed k (more {w = w} {d = d} {e = x} s r) = type_kept ed k r ∙ rw s.taken (first_stored d.body (form_at ed k s.field).at s.value (field_within ed k s.field (inside ed k w d x s)).0)

behind_kept : (ed : Edition) (k : Kind) {ws : List Word} {d e : Draft} → Run ed k ws d e → drop (kind_length k) e.body ≡ drop (kind_length k) d.body
behind_kept ed k done = refl
behind_kept ed k (more {w = w} {d = d} {e = x} s r) =
    behind_kept ed k r
    ∙ rw s.taken (drop_stored (kind_length k) d.body (form_at ed k s.field).at s.value (omega (arith, (field_within ed k s.field (inside ed k w d x s)).1, value_fits ed k w d x s)))

-- it stays a record of that message, with a column for each field
run_same : (ed : Edition) (k : Kind) {ws : List Word} {d e : Draft} → Run ed k ws d e → d ≡ draft ed k d.body d.columns → e ≡ draft ed k e.body e.columns
run_same ed k done q = q
run_same ed k (more s r) q = run_same ed k r (rw s.taken refl)

run_room : (ed : Edition) (k : Kind) {ws : List Word} {d e : Draft} → Run ed k ws d e → length (entries_of ed k) ≤ length d.columns → length (entries_of ed k) ≤ length e.columns
run_room ed k done h = h
run_room ed k (more {w = w} {d = d} {e = x} s r) h = run_room ed k r (step_room ed k w d x s (length (entries_of ed k)) h)

-- ---- from the blank body on
module _ (ed : Edition) (k : Kind) (ws : List Word) (d : Draft) (all : take_all ws (Ok (blank_draft ed k)) ≡ Ok d) where
  ran : Run ed k ws (blank_draft ed k) d
  ran = run ed k ws (blank_body ed k) (replicate most_fields None) d all

  -- "Fields that were left out have stated defaults; fields that are written are never lost"
  pub fields_kept : (i : ℕ) → i < length (entries_of ed k) → said_of ed k ws i ≡ Some (part (form_at ed k i) d.body)
  unfolding said_of
  fields_kept i h = kept ed k i h ran (blank_length ed k) (most_fields_lem ed k)

  pub written_once : (i : ℕ) → i < length (entries_of ed k) → count_by (names ed k i) ws ≤ 1
  written_once i h = named_once ed k i h ran (most_fields_lem ed k)

  -- what it comes to where nothing was written of a field, and where a word was
  pub default_kept : (i : ℕ) → i < length (entries_of ed k) → value_for ed k i ws ≡ None → part (form_at ed k i) d.body ≡ part (form_at ed k i) (blank_body ed k)
  unfolding said_of bytes_by
  default_kept i h n =
      let q : Some (part (form_at ed k i) (blank_body ed k)) ≡ Some (part (form_at ed k i) d.body) = rw n at (fields_kept i h) in
      cc

  pub value_kept : (i : ℕ) → i < length (entries_of ed k) → (s : List ℕ) → value_for ed k i ws ≡ Some s → value_in (form_at ed k i).style (form_at ed k i).width s ≡ Some (part (form_at ed k i) d.body)
  unfolding said_of bytes_by
  value_kept i h s n = rw n at (fields_kept i h)

-- ---- a line
-- a number from 1 on, up to the last
number_ok_lem : (n : ℕ) → (n ≡ 0 → ⊥) → n ≤ last_number → number_ok n ≡ true
unfolding number_ok both
number_ok_lem zero z h = absurd (z refl)
number_ok_lem (suc n) z h = rw (le-leb 1 (suc n) (omega arith)) (le-leb (suc n) last_number h)

-- what is meant by a record: it is said
abbrev Meant : Edition → List ℕ → Result Line Slip → Type 0
Meant ed s (Ok Line.Blank) = Unit {0}
Meant ed s (Ok Line.Comment) = Unit {0}
Meant ed s (Ok (Line.Record n b m)) = Says ed s n m b
Meant ed s (Err x) = Unit {0}

module _ (ed : Edition) (s : List ℕ) where
  -- the words: a number, a name, and fields
  record Front (n : ℕ) (k : Kind) (ws : List Word) : Type 0 where
    first : Word
    second : Word
    line : uncommented (words_at 0 s) ≡ first ∷ (second ∷ ws)
    digits : number_in last_number first.bytes ≡ Some n
    some_number : n ≡ 0 → ⊥
    name : kind_named second.bytes ≡ Some k

  module _ (n end : ℕ) (k : Kind) (ws : List Word) (f : Front n k ws) where
    says_it : (b : List ℕ) (g : List (Option ℕ)) → take_all ws (Ok (blank_draft ed k)) ≡ Ok (draft ed k b g) → missing (draft ed k b g) ≡ None → (j : Kind) → judge_body ed (take (kind_length k) b) ≡ Ok j → Says ed s n (kind_length k) b
    unfolding good_body missing
    says_it b g t m j c =
        let d = draft ed k b g in
        let r = ran ed k ws d t in
        let message = (named_known f.second.bytes k f.name).0 in
        record {
          first = f.first;
          second = f.second;
          words = ws;
          line = f.line;
          digits = f.digits;
          number = number_ok_lem n f.some_number (number_most last_number f.first.bytes n f.digits);
          kind = k;
          message = message;
          name = sym (named_known f.second.bytes k f.name).1;
          long = refl;
          type = type_kept ed k r ∙ blank_type ed k;
          known = all_named ed k r;
          once = written_once ed k ws d t;
          needed = λ i h n. told_written ed k i h r (get_or-replicate most_fields i None None (omega (arith, most_fields_lem ed k))) (all_there (entries_of ed k) g (run_room ed k r (most_fields_lem ed k)) m i h n);
          fields = fields_kept ed k ws d t;
          behind = behind_kept ed k r ∙ blank_behind ed k message;
          good = rw c refl;
        }

    finished_meant : (b : List ℕ) (g : List (Option ℕ)) → take_all ws (Ok (blank_draft ed k)) ≡ Ok (draft ed k b g) → Meant ed s (finished n end (draft ed k b g))
    unfolding finished whole judged judged_as
    finished_meant b g e = go (missing (draft ed k b g)) refl
      where
        sound : (j : Result Kind Fault) → judge_body ed (take (kind_length k) b) ≡ j → missing (draft ed k b g) ≡ None → Meant ed s (judged_as j n end (draft ed k b g))
        sound (Ok j) c m = says_it b g e m j c
        sound (Err x) c m = tt

        go : (m : Option ℕ) → missing (draft ed k b g) ≡ m → Meant ed s (whole m n end (draft ed k b g))
        go (Some i) m = tt
        go None m = sound (judge_body ed (take (kind_length k) b)) refl m

    ended_meant : (t : Result Draft Slip) → take_all ws (Ok (blank_draft ed k)) ≡ t → Meant ed s (ended n end t)
    unfolding ended
    ended_meant (Err x) e = tt
    ended_meant (Ok d) e =
        let same : d ≡ draft ed k d.body d.columns = run_same ed k (ran ed k ws d e) refl in
        subst (λ (x : Draft). Meant ed s (finished n end x)) (sym same) (finished_meant d.body d.columns (e ∙ ap Ok same))

  named_meant : (n end : ℕ) (w : Word) (ws : List Word) → uncommented (words_at 0 s) ≡ w ∷ uncommented ws → number_in last_number w.bytes ≡ Some n → (n ≡ 0 → ⊥) → Meant ed s (of_kind ed n (kind_of (slice_get ws 0) end) (drop 1 ws) end)
  unfolding of_kind kind_of named uncommented pick
  named_meant n end w [] l e z = tt
  named_meant n end w (v ∷ ws) l e z = go (is_note v) refl
    where
      called : (k : Option Kind) → kind_named v.bytes ≡ k → is_note v ≡ false → Meant ed s (of_kind ed n (named k v.at) ws end)
      called None q o = tt
      called (Some k) q o =
          ended_meant n end k (uncommented ws) (record { first = w; second = v; line = rw o at l; digits = e; some_number = z; name = q })
          (take_all (uncommented ws) (Ok (blank_draft ed k))) refl

      go : (t : Bool) → is_note v ≡ t → Meant ed s (of_kind ed n (pick t (Err (slip_at end Expected.Name)) (named (kind_named v.bytes) v.at)) ws end)
      go true o = tt
      go false o = called (kind_named v.bytes) refl o

  numbered_meant : (end : ℕ) (w : Word) (ws : List Word) → uncommented (words_at 0 s) ≡ w ∷ uncommented ws → Meant ed s (read_record ed w ws end)
  unfolding read_record number_of numbered of_number pick
  numbered_meant end w ws l = go (number_in last_number w.bytes) refl
    where
      go : (f : Option ℕ) → number_in last_number w.bytes ≡ f → Meant ed s (of_number ed (numbered f w.at) ws end)
      go None e = tt
      go (Some n) e = by (eqb n 0) refl
        where
          by : (t : Bool) → eqb n 0 ≡ t → Meant ed s (of_number ed (pick t (Err (slip_at w.at Expected.Number)) (Ok n)) ws end)
          by true z = tt
          by false z = named_meant n end w ws l e (eqb-false n 0 z)

  words_meant : (end : ℕ) (ws : List Word) → words_at 0 s ≡ ws → Meant ed s (of_words ed ws end)
  unfolding of_words uncommented pick
  words_meant end [] e = tt
  words_meant end (w ∷ ws) e = go (is_note w) refl
    where
      go : (t : Bool) → is_note w ≡ t → Meant ed s (pick t (Ok Line.Comment) (read_record ed w ws end))
      go true q = tt
      go false q = numbered_meant end w ws (rw (e, q) refl)

  line_meant : Meant ed s (read_line ed s)
  unfolding read_line of_line
  line_meant = go (leb (length s) line_most)
    where
      go : (t : Bool) → Meant ed s (of_line ed (if t then Some (words_at 0 s) else None) (length s))
      go true = words_meant (length s) (words_at 0 s) refl
      go false = tt

  -- a line that is read as a record says its number, its message and each of its fields
  pub record_says : (n m : ℕ) (b : List ℕ) → read_line ed s ≡ Ok (Line.Record n b m) → Says ed s n m b
  record_says n m b e = subst (Meant ed s) e line_meant
