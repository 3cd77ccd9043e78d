-- The rules of names, keys and forms, each from a test that the checker computes over the tables of all messages.
-- Assumes nothing.
use Rattle.std.proofs.Common.{ℕ, zero, suc, ◌+◌, ◌-◌, ◌≤◌, ◌<◌, ◌≡◌, refl, sym, ap, ◌∙◌, Bool, true, false, not, ◌||◌, ◌⊎◌, inl, inr, true≢false, List, [], ◌∷◌, length, get_or, drop, replicate, eqb, leb, eqb-true, eq-eqb, ne_eqb, leb-true, arith, Option, Some, None, bytes_eq, find}
use native.Mathlib.Decide.{ℕ_discrete}
use Rattle.std.specs.List.{list_all}
use Rattle.std.proofs.lemmas.Bool.{cases_lt}
use Rattle.std.proofs.lemmas.List.{get_or_past}
use Rattle.std.proofs.lemmas.List.Quantifiers.{position-Some}
use Rattle.std.proofs.lemmas.Slice.Eq.{bytes_eq-Decides}
use Rattle.facts.specs.Pick.{pick, both}
use Rattle.facts.proofs.Picks.{both_true}
use Rattle.editions.specs.declared.Edition.{Edition}
use Rattle.wire.specs.Le.{Bytes}
use Rattle.kinds.specs.Table.{type_of, kind_length, length_of, lookup, table}
use Rattle.kinds.specs.declared.Kind.{Kind}
use Rattle.words.specs.Types.{all_from}
use Rattle.spans.specs.Spans.{place_of}
use Rattle.styles.specs.Widths.{suited, wide}
use Rattle.keys.specs.Keys.{Entry, name_of, kinds, kind_named, entries_of, no_entry, key_at, form_at, key_named, blank_body}
use Rattle.keys.specs.Laid.{Laid}
use Rattle.keys.proofs.Every.{of_any}

-- ---- a test of each number below n
unfoldable below : (ℕ → Bool) → ℕ → Bool
below f zero = true
below f (suc n) = both (f n) (below f n)

below_at : (f : ℕ → Bool) (n : ℕ) → below f n ≡ true → (i : ℕ) → i < n → f i ≡ true
unfolding below
below_at f zero e i h = absurd (omega arith)
below_at f (suc n) e i h =
    let s = both_true {a = f n} {b = below f n} e in
    go (ℕ_discrete i n) s.0 (below_at f n s.1)
  where
    go : Dec (i ≡ n) → f n ≡ true → ((j : ℕ) → j < n → f j ≡ true) → f i ≡ true
    go (yes q) a r = rw q a
    go (no q) a r = r i (omega arith)

-- a search that ended at i
abbrev is_at : ℕ → Option ℕ → Bool
is_at i (Some j) = eqb i j
is_at i None = false

at_told : (i : ℕ) (f : Option ℕ) → is_at i f ≡ true → f ≡ Some i
at_told i (Some j) e = ap Some (sym (eqb-true i j e))
at_told i None e = absurd (true≢false (sym e))

-- ---- fields
-- the rule of a key: it is found at its own place, has a byte or more and at most twelve, each of them visible and none an equals sign
unfoldable key_rule : Edition → Kind → ℕ → Bool
key_rule ed k i =
    both (is_at i (key_named ed k (key_at ed k i))) (both (both (leb 1 (length (key_at ed k i))) (leb (length (key_at ed k i)) 12)) (both (all_from 33 126 (key_at ed k i)) (eqb (place_of 61 (key_at ed k i)) (length (key_at ed k i)))))

-- the rule of a form: the field lies in the longest body, is no longer than a ticker, and its width goes with its style
unfoldable form_rule : Edition → Kind → ℕ → Bool
form_rule ed k i =
    both (leb ((form_at ed k i).at + (form_at ed k i).width) 42) (both (leb (form_at ed k i).width 11) (wide (form_at ed k i).style (form_at ed k i).width))

keys_rule : (ed : Edition) (k : Kind) → below (key_rule ed k) (length (entries_of ed k)) ≡ true
unfolding below key_rule all_from both
keys_rule = of_any (λ ed k. below (key_rule ed k) (length (entries_of ed k))) refl

forms_rule : (ed : Edition) (k : Kind) → below (form_rule ed k) (length (entries_of ed k)) ≡ true
unfolding below form_rule wide suited both
forms_rule = of_any (λ ed k. below (form_rule ed k) (length (entries_of ed k))) refl

record KeyRuled (ed : Edition) (k : Kind) (i : ℕ) : Type 0 where
  back : key_named ed k (key_at ed k i) ≡ Some i
  some : 1 ≤ length (key_at ed k i)
  most : length (key_at ed k i) ≤ 12
  visible : all_from 33 126 (key_at ed k i) ≡ true
  unequal : place_of 61 (key_at ed k i) ≡ length (key_at ed k i)

key_ruled : (ed : Edition) (k : Kind) (i : ℕ) → i < length (entries_of ed k) → KeyRuled ed k i
unfolding key_rule
key_ruled ed k i h =
    let s = key_at ed k i in
    let n = length s in
    let r = both_true {a = is_at i (key_named ed k s)} {b = both (both (leb 1 n) (leb n 12)) (both (all_from 33 126 s) (eqb (place_of 61 s) n))} (below_at (key_rule ed k) (length (entries_of ed k)) (keys_rule ed k) i h) in
    let q = both_true {a = both (leb 1 n) (leb n 12)} {b = both (all_from 33 126 s) (eqb (place_of 61 s) n)} r.1 in
    let l = both_true {a = leb 1 n} {b = leb n 12} q.0 in
    let v = both_true {a = all_from 33 126 s} {b = eqb (place_of 61 s) n} q.1 in
    record {
      back = at_told i (key_named ed k s) r.0;
      some = leb-true 1 n l.0;
      most = leb-true n 12 l.1;
      visible = v.0;
      unequal = eqb-true (place_of 61 s) n v.1;
    }

record FormRuled (ed : Edition) (k : Kind) (i : ℕ) : Type 0 where
  inside : (form_at ed k i).at + (form_at ed k i).width ≤ 42
  short : (form_at ed k i).width ≤ 11
  suits : wide (form_at ed k i).style (form_at ed k i).width ≡ true

form_ruled : (ed : Edition) (k : Kind) (i : ℕ) → i < length (entries_of ed k) → FormRuled ed k i
unfolding form_rule
form_ruled ed k i h =
    let f = form_at ed k i in
    let r = both_true {a = leb (f.at + f.width) 42} {b = both (leb f.width 11) (wide f.style f.width)} (below_at (form_rule ed k) (length (entries_of ed k)) (forms_rule ed k) i h) in
    let q = both_true {a = leb f.width 11} {b = wide f.style f.width} r.1 in
    record { inside = leb-true (f.at + f.width) 42 r.0; short = leb-true f.width 11 q.0; suits = q.1 }

-- a place behind the last field
past : (P : Entry → Type 0) (ed : Edition) (k : Kind) (i : ℕ) → P no_entry → (i < length (entries_of ed k) → P (get_or (entries_of ed k) i no_entry)) → P (get_or (entries_of ed k) i no_entry)
past P ed k i p f = go (cases_lt i (length (entries_of ed k)))
  where
    go : (i < length (entries_of ed k)) ⊎ (length (entries_of ed k) ≤ i) → P (get_or (entries_of ed k) i no_entry)
    go (inl h) = f h
    go (inr h) = rw (get_or_past (entries_of ed k) i no_entry h) p

-- a key names its own field
pub key_back : (ed : Edition) (k : Kind) (i : ℕ) → i < length (entries_of ed k) → key_named ed k (key_at ed k i) ≡ Some i
key_back ed k i h = (key_ruled ed k i h).back

-- a key has bytes, all visible and none an equals sign: a word that begins with it and `=` is read as that key
pub key_solid : (ed : Edition) (k : Kind) (i : ℕ) → i < length (entries_of ed k) → (1 ≤ length (key_at ed k i)) × (all_from 33 126 (key_at ed k i) ≡ true) × (place_of 61 (key_at ed k i) ≡ length (key_at ed k i))
key_solid ed k i h = let r = key_ruled ed k i h in (r.some, r.visible, r.unequal)

pub key_short : (ed : Edition) (k : Kind) (i : ℕ) → length (key_at ed k i) ≤ 12
key_short ed k i = past (λ f. length f.key ≤ 12) ed k i (omega arith) (λ h. (key_ruled ed k i h).most)

-- what a key names is a field of the message, the one with that key
pub named_inside : (ed : Edition) (k : Kind) (s : List ℕ) (i : ℕ) → key_named ed k s ≡ Some i → i < length (entries_of ed k)
named_inside ed k s i e = (position-Some (λ f. bytes_eq f.key s) (entries_of ed k) i no_entry e).0

pub named_key : (ed : Edition) (k : Kind) (s : List ℕ) (i : ℕ) → key_named ed k s ≡ Some i → key_at ed k i ≡ s
named_key ed k s i e = (bytes_eq-Decides (key_at ed k i) s).0 (position-Some (λ f. bytes_eq f.key s) (entries_of ed k) i no_entry e).1

pub most_fields_lem : (ed : Edition) (k : Kind) → length (entries_of ed k) ≤ 10
most_fields_lem ed k = leb-true (length (entries_of ed k)) 10 (of_any (λ ed k. leb (length (entries_of ed k)) 10) refl ed k)

pub fields_inside : (ed : Edition) (k : Kind) (i : ℕ) → (form_at ed k i).at + (form_at ed k i).width ≤ 42
fields_inside ed k i = past (λ f. f.form.at + f.form.width ≤ 42) ed k i (omega arith) (λ h. (form_ruled ed k i h).inside)

pub field_short : (ed : Edition) (k : Kind) (i : ℕ) → (form_at ed k i).width ≤ 11
field_short ed k i = past (λ f. f.form.width ≤ 11) ed k i (omega arith) (λ h. (form_ruled ed k i h).short)

pub suits_width : (ed : Edition) (k : Kind) (i : ℕ) → i < length (entries_of ed k) → wide (form_at ed k i).style (form_at ed k i).width ≡ true
suits_width ed k i h = (form_ruled ed k i h).suits

-- the fields lie back to back behind the type byte and fill the body
abbrev laid_test : ℕ → List Entry → ℕ → Bool
laid_test at [] end = eqb at end
laid_test at (f ∷ fs) end = both (eqb f.form.at at) (laid_test (at + f.form.width) fs end)

laid_told : (at : ℕ) (fs : List Entry) (end : ℕ) → laid_test at fs end ≡ true → Laid at fs end
laid_told at [] end e = eqb-true at end e
laid_told at (f ∷ fs) end e =
    let s = both_true {a = eqb f.form.at at} {b = laid_test (at + f.form.width) fs end} e in
    (eqb-true f.form.at at s.0, laid_told (at + f.form.width) fs end s.1)

-- a rule of the messages alone, which Unknown is none of
abbrev known : Kind → Bool → Bool
known k t = eqb (type_of k) 0 || t

known_told : (k : Kind) (t : Bool) → known k t ≡ true → (type_of k ≡ 0 → ⊥) → t ≡ true
known_told k t e h = rw (ne_eqb (type_of k) 0 h) at e

pub laid : (ed : Edition) (k : Kind) → (type_of k ≡ 0 → ⊥) → Laid 1 (entries_of ed k) (kind_length k)
unfolding kind_length length_of lookup table pick both
laid ed k h =
    let test = λ (e : Edition) (l : Kind). laid_test 1 (entries_of e l) (kind_length l) in
    laid_told 1 (entries_of ed k) (kind_length k) (known_told k (test ed k) (of_any (λ e l. known l (test e l)) refl ed k) h)

-- ---- names
-- a message's name names it
pub name_back : (k : Kind) → (type_of k ≡ 0 → ⊥) → kind_named (name_of k) ≡ Some k
name_back Kind.SystemTime h = refl
name_back Kind.SymbolUpdate h = refl
name_back Kind.SystemState h = refl
name_back Kind.TradingStatus h = refl
name_back Kind.SymbolClear h = refl
name_back Kind.Add h = refl
name_back Kind.Modify h = refl
name_back Kind.Delete h = refl
name_back Kind.Execution h = refl
name_back Kind.Trade h = refl
name_back Kind.TradeCancel h = refl
name_back Kind.Unknown h = absurd (h refl)

-- what is named is a message, with that name
named_among : (s : List ℕ) (ks : List Kind) (k : Kind) → list_all (λ k. not (eqb (type_of k) 0)) ks ≡ true → find (λ k. bytes_eq (name_of k) s) ks ≡ Some k → (type_of k ≡ 0 → ⊥) × (name_of k ≡ s)
named_among s [] k all e = absurd (cc e)
named_among s (x ∷ ks) k all e = go (bytes_eq (name_of x) s) (eqb (type_of x) 0) refl refl (named_among s ks k)
  where
    go :
        (t u : Bool) → bytes_eq (name_of x) s ≡ t → eqb (type_of x) 0 ≡ u →
        (list_all (λ k. not (eqb (type_of k) 0)) ks ≡ true → find (λ k. bytes_eq (name_of k) s) ks ≡ Some k → (type_of k ≡ 0 → ⊥) × (name_of k ≡ s)) →
        (type_of k ≡ 0 → ⊥) × (name_of k ≡ s)
    go t true p q rest = absurd (true≢false (sym (rw q at all)))
    go true false p q rest =
        let same : x ≡ k = cc (rw p at e) in
        rw (← same) ((λ z. absurd (true≢false (sym (eq-eqb (type_of x) 0 z) ∙ q))), (bytes_eq-Decides (name_of x) s).0 p)
    go false false p q rest = rest (rw q at all) (rw p at e)

pub named_known : (s : List ℕ) (k : Kind) → kind_named s ≡ Some k → (type_of k ≡ 0 → ⊥) × (name_of k ≡ s)
named_known s k e = named_among s kinds k refl e

pub name_solid : (k : Kind) → (type_of k ≡ 0 → ⊥) → (1 ≤ length (name_of k)) × (all_from 33 126 (name_of k) ≡ true)
unfolding all_from both
name_solid k h =
    let r = both_true {a = leb 1 (length (name_of k))} {b = all_from 33 126 (name_of k)} (known_told k (both (leb 1 (length (name_of k))) (all_from 33 126 (name_of k))) (of_any (λ ed k. known k (both (leb 1 (length (name_of k))) (all_from 33 126 (name_of k)))) refl Edition.V13 k) h) in
    (leb-true 1 (length (name_of k)) r.0, r.1)

pub name_short : (k : Kind) → length (name_of k) ≤ 12
name_short k = leb-true (length (name_of k)) 12 (of_any (λ ed k. leb (length (name_of k)) 12) refl Edition.V13 k)

-- ---- what fields that are left out have
pub blank_length : (ed : Edition) (k : Kind) → length (blank_body ed k) ≡ 42
unfolding blank_body
blank_length ed k = eqb-true (length (blank_body ed k)) 42 (of_any (λ ed k. eqb (length (blank_body ed k)) 42) refl ed k)

pub blank_type : (ed : Edition) (k : Kind) → get_or (blank_body ed k) 0 0 ≡ type_of k
unfolding blank_body
blank_type ed k = eqb-true (get_or (blank_body ed k) 0 0) (type_of k) (of_any (λ ed k. eqb (get_or (blank_body ed k) 0 0) (type_of k)) refl ed k)

pub blank_behind : (ed : Edition) (k : Kind) → (type_of k ≡ 0 → ⊥) → drop (kind_length k) (blank_body ed k) ≡ replicate (42 - kind_length k) 0
unfolding blank_body kind_length length_of lookup table pick
blank_behind ed k h =
    let test = λ (e : Edition) (l : Kind). bytes_eq (drop (kind_length l) (blank_body e l)) (replicate (42 - kind_length l) 0) in
    (bytes_eq-Decides (drop (kind_length k) (blank_body ed k)) (replicate (42 - kind_length k) 0)).0 (known_told k (test ed k) (of_any (λ e l. known l (test e l)) refl ed k) h)

bytes_told : (b : List ℕ) → all_from 0 255 b ≡ true → Bytes b
unfolding all_from
bytes_told [] e i = omega arith
bytes_told (x ∷ b) e zero =
    let s = both_true {a = both (leb 0 x) (leb x 255)} {b = all_from 0 255 b} e in
    let l = both_true {a = leb 0 x} {b = leb x 255} s.0 in
    omega (arith, leb-true x 255 l.1)
bytes_told (x ∷ b) e (suc i) = bytes_told b (both_true {a = both (leb 0 x) (leb x 255)} {b = all_from 0 255 b} e).1 i

pub blank_bytes : (ed : Edition) (k : Kind) → Bytes (blank_body ed k)
unfolding blank_body all_from both
blank_bytes ed k = bytes_told (blank_body ed k) (of_any (λ ed k. all_from 0 255 (blank_body ed k)) refl ed k)
