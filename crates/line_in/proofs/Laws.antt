-- Where fields lie, and what a field that was read leaves of the body.
-- Assumes nothing.
use Rattle.std.proofs.Common.{◌≡◌, refl, sym, ap, ◌∙◌, ◌==◌, ℕ, suc, ◌+◌, ◌-◌, ◌≤◌, ◌<◌, true, false, true≢false, List, [], ◌∷◌, ◌++◌, length, take, drop, get_or, set, Option, Some, None, MatchOption, option_map, slice_get, is_some, is_err, unwrap_or, Result, Ok, Err, arith, add-one, length-take-le, length-drop, drop-drop, append_assoc}
use lib.Seq.{sets, sets-eq}
use Rattle.std.proofs.lemmas.List.Quantifiers.{position-Some}
use Rattle.facts.specs.Pick.{pick}
use Rattle.editions.specs.declared.Edition.{Edition}
use Rattle.kinds.specs.declared.Kind.{Kind}
use Rattle.letters.specs.Answer.{answer}
use Rattle.letters.specs.declared.Malformed.{Malformed}
use Rattle.values.specs.Values.{value_in}
use Rattle.values.proofs.Laws.{value_length}
use Rattle.keys.specs.Keys.{entries_of, no_entry, form_at}
use Rattle.keys.specs.declared.Form.{Form}
use Rattle.keys.proofs.Laws.{most_fields_lem}
use Rattle.line_in.specs.Lines.{field_at, take_field, take_value, take_all, kind_of}
use Rattle.line_in.specs.Slips.{slip_at}
use Rattle.line_in.specs.declared.Expected.{Expected}
use Rattle.line_in.specs.declared.Draft.{Draft}
use Rattle.line_in.specs.declared.Slip.{Slip}
use Rattle.spans.specs.Spans.{Word, noted}
use Rattle.spans.specs.Left.{told}
use Rattle.spans.specs.declared.Word.{Word as Told}

-- a field that is found is one of the message's, which are ten at most
pub field_inside : (ed : Edition) (k : Kind) (place i : ℕ) → field_at ed k place ≡ Some i → (i < length (entries_of ed k)) × (i < 10)
field_inside ed k place i e =
    let there = (position-Some (λ f. f.form.at == place) (entries_of ed k) i no_entry e).0 in
    (there, omega (arith, there, most_fields_lem ed k))

-- ---- a field that was lent by itself
abbrev lent : List ℕ → ℕ → ℕ → List ℕ
lent b at w = take (at + w - at) (drop at b)

module _ (b : List ℕ) (at w : ℕ) (fits : at + w ≤ length b) where
  lent_long : length (lent b at w) ≡ w
  lent_long =
      let n : at + w - at ≡ w = omega arith in
      rw n (length-take-le w (drop at b) (rw length-drop (omega arith)))

  stored : (v : List ℕ) → length v ≡ w → take at b ++ (v ++ drop (at + w - at) (drop at b)) ≡ sets b at v
  stored v n =
      let z : at + w - at ≡ length v = omega arith in
      let m : at + length v ≤ length b = omega arith in
      rw (z, drop-drop (length v) at b) (sym (sets-eq v b at m ∙ append_assoc (take at b) v (drop (at + length v) b)))

-- what a value said stands in the field's place, and the column of the value beside it
pub field_taken :
    (d : Draft) (i at place : ℕ) (f : Form) (s new : List ℕ) (r : Result (Unit {0}) Malformed) →
    f ≡ form_at d.edition d.kind i →
    f.at + f.width ≤ length d.body →
    is_some (get_or d.columns i None) ≡ false →
    r ≡ answer (value_in f.style (length (lent d.body f.at f.width)) s) →
    new ≡ unwrap_or (value_in f.style (length (lent d.body f.at f.width)) s) (lent d.body f.at f.width) →
    is_err r ≡ false →
    Ok (record d { body = take f.at d.body ++ (new ++ drop (f.at + f.width - f.at) (drop f.at d.body)); columns = set d.columns i (Some (place + 1)) }) ≡ take_field d i at place s
unfolding take_field take_value pick
field_taken d i at place f s new r form fits free told kept well =
    rw (free, add-one, ← form) (go (value_in f.style f.width s) refl)
  where
    long : length (lent d.body f.at f.width) ≡ f.width
    long = lent_long d.body f.at f.width fits

    go : (g : Option (List ℕ)) → value_in f.style f.width s ≡ g → Ok (record d { body = take f.at d.body ++ (new ++ drop (f.at + f.width - f.at) (drop f.at d.body)); columns = set d.columns i (Some (suc place)) }) ≡ take_value g i f.at place d
    go None e =
        let bad : is_err r ≡ true = ap is_err ((rw long at told) ∙ ap answer e) in
        absurd (true≢false (sym bad ∙ well))
    go (Some v) e =
        let said : new ≡ v = (rw long at kept) ∙ ap (λ (g : Option (List ℕ)). unwrap_or g (lent d.body f.at f.width)) e in
        let there = ap (λ (l : List ℕ). take f.at d.body ++ (l ++ drop (f.at + f.width - f.at) (drop f.at d.body))) said ∙ stored d.body f.at f.width fits v (value_length f.style f.width s v e) in
        ap (λ (b : List ℕ). Ok (record d { body = b; columns = set d.columns i (Some (suc place)) })) there

-- ---- words, one after another
pub taken_err : (ws : List Word) (x : Slip) → take_all ws (Err x) ≡ Err x
unfolding take_all
taken_err [] x = refl
taken_err (w ∷ ws) x = refl

-- the word that the iterator gives is the first of those that are left, and it leaves the others
pub next_is : (o : Option Told) (ws rest : List Word) → MatchOption o ((ws ≡ []) × (rest ≡ [])) (λ w. ws ≡ told w ∷ rest) → (option_map told o ≡ slice_get ws 0) × (rest ≡ drop 1 ws)
next_is None ws rest m = (rw m.0 refl, rw (m.0, m.1) refl)
next_is (Some w) ws rest m = (rw m refl, rw m refl)

-- where a comment begins behind the number, no message is named
pub second_noted : (ws : List Word) (end : ℕ) → noted ws ≡ true → kind_of (slice_get ws 0) end ≡ Err (slip_at end Expected.Name)
unfolding noted kind_of pick
second_noted [] end h = absurd (true≢false (sym h))
second_noted (w ∷ ws) end h = rw h refl
