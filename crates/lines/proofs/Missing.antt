-- The search for a field that has to be written and was not: it finds none just where each of them has a column.
-- Assumes nothing.
use Rattle.std.proofs.Common.{ℕ, ◌≤◌, ◌<◌, ◌≡◌, refl, sym, ◌∙◌, Bool, true, false, not, ◌&&◌, ◌⊎◌, inl, inr, true≢false, List, length, get_or, Option, Some, None, is_some, is_none, position, zip, arith, lt-ltb, le-ltb}
use Rattle.std.proofs.lemmas.Bool.{cases_lt}
use Rattle.std.proofs.lemmas.List.Sums.{prefix_len_is, prefix_len_passes}
use Rattle.std.proofs.lemmas.Slice.Zip.{length-zip, get_or-zip}
use Rattle.std.specs.List.{prefix_len, position_or_len}
use Rattle.keys.specs.Keys.{Entry, no_entry}

abbrev miss : Entry × Option ℕ → Bool
miss p = p.0.form.needed && is_none p.1

abbrev nowhere : Entry × Option ℕ
nowhere = (no_entry, None)

-- a field that is not missing has a column where it has to be written
not_miss : (t : Bool) (o : Option ℕ) → not (t && not (is_some o)) ≡ true → t ≡ true → is_some o ≡ true
not_miss true None h n = absurd (true≢false (sym h))
not_miss true (Some x) h n = refl
not_miss false o h n = absurd (true≢false (sym n))

is_there : (t : Bool) (o : Option ℕ) → (t ≡ true → is_some o ≡ true) → not (t && not (is_some o)) ≡ true
is_there true None h = absurd (true≢false (sym (h refl)))
is_there true (Some x) h = refl
is_there false o h = refl

module _ (es : List Entry) (g : List (Option ℕ)) (room : length es ≤ length g) where
  many : length (zip es g) ≡ length es
  many = length-zip es g ∙ omega arith

  pub none_missing : ((j : ℕ) → j < length es → (get_or es j no_entry).form.needed ≡ true → is_some (get_or g j None) ≡ true) → position miss (zip es g) ≡ None
  none_missing h =
      let all : prefix_len (λ p. not (miss p)) (zip es g) ≡ length (zip es g) =
      prefix_len_is (λ p. not (miss p)) (zip es g) (length (zip es g)) nowhere (omega arith)
      (λ j l. rw (get_or-zip es g j nowhere (omega (arith, many)) (omega (arith, many))) (is_there (get_or es j no_entry).form.needed (get_or g j None) (h j (omega (arith, many)))))
      (λ l. absurd (omega arith)) in
      rw (all, le-ltb (length (zip es g)) (length (zip es g)) (omega arith))

  pub all_there : position miss (zip es g) ≡ None → (j : ℕ) → j < length es → (get_or es j no_entry).form.needed ≡ true → is_some (get_or g j None) ≡ true
  all_there e j h n = go (cases_lt (position_or_len miss (zip es g)) (length (zip es g)))
    where
      go : (position_or_len miss (zip es g) < length (zip es g)) ⊎ (length (zip es g) ≤ position_or_len miss (zip es g)) → is_some (get_or g j None) ≡ true
      go (inl l) = let z : Some (position_or_len miss (zip es g)) ≡ None = rw (lt-ltb (position_or_len miss (zip es g)) (length (zip es g)) l) at e in absurd (cc z)
      go (inr l) =
          not_miss (get_or es j no_entry).form.needed (get_or g j None)
          (rw (get_or-zip es g j nowhere h (omega arith)) at (prefix_len_passes (λ p. not (miss p)) (zip es g) j nowhere (omega (arith, many)))) n
