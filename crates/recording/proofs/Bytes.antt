-- What bytes do one by one, done at once, whatever is done with the packets: bytes of an over-long packet, a whole packet; and bytes into the buffer.
-- Assumes nothing.
use Prim.Native.Nat.{ℕ, zero, suc, ◌+◌, ◌-◌, ◌≤◌, ◌<◌}
use mathlib.Core.Path.{◌≡◌, refl, sym, ap, ◌∙◌}
use mathlib.Core.Bool.{true, false}
use mathlib.Core.List.{List, [], ◌∷◌, ◌++◌}
use native.Mathlib.Numerals.{add-one}
use native.Mathlib.Omega.{arith}
use native.Mathlib.Decide.{dec_lt}
use lib.ListN.{length, take, drop, get_or, set, length-append, length-set}
use lib.Seq.{drop-cons, take-suc, take-suc-set, take-take, take-add, take_all, take-append-le, drop_at, length-take-le, set_out}
use lib.Dec.{eqb, eqb-suc-suc}
use borrow.Author.Tests.{ne_eqb, lt-ltb, le-ltb}
use Rattle.facts.specs.Pick.{pick}
use Rattle.wire.specs.Le.{le, field}
use Rattle.arbitration.specs.Stream.{each}
use Rattle.recording.specs.Carve.{Hearer, Carved, carved, passed, grown, carve}

-- a packet's length stands in the first two of its bytes
front_length : (l : List ℕ) (j : ℕ) → 2 ≤ j → field (take j l) 0 2 ≡ field l 0 2
unfolding field
front_length l j h = ap le (take-take 2 j l h)

-- its bytes stand behind them
front_bytes : (l : List ℕ) (n : ℕ) → 2 ≤ length l → take n (drop 2 l) ≡ drop 2 (take (2 + n) l)
front_bytes l n h = sym (ap (drop 2) (take-add 2 n l) ∙ drop_at (take 2 l) (take n (drop 2 l)) 2 (length-take-le 2 l h))

module _ {K : Type 0} (H : Hearer K) where
  -- ---- one byte, by what there is to pass over
  pub byte_grows : (b : ℕ) (u : List ℕ) (k : K) → carve H b (carved u 0 k) ≡ grown H (u ++ (b ∷ [])) k
  unfolding carve pick
  byte_grows b u k = refl

  pub byte_passes : (b : ℕ) (x : Carved K) → 0 < x.skip → carve H b x ≡ passed H 1 x
  unfolding carve pick
  byte_passes b x h = simp (ne_eqb x.skip 0 (λ e. omega arith))

  -- the byte at a place of a chunk
  pub at_byte : (chunk : List ℕ) (at : ℕ) (x : Carved K) → at < length chunk → each (carve H) (drop (at + 1) chunk) (carve H (get_or chunk at 0) x) ≡ each (carve H) (drop at chunk) x
  unfolding each
  at_byte chunk at x h = rw (add-one, drop-cons chunk at 0)

  -- ---- bytes of an over-long packet
  passed_more : (m : ℕ) (x : Carved K) → suc (suc m) ≤ x.skip → passed H (suc m) (passed H 1 x) ≡ passed H (suc (suc m)) x
  unfolding passed pick
  passed_more m x h =
      let a : eqb 1 x.skip ≡ false = ne_eqb 1 x.skip (λ e. omega arith) in
      let b : x.skip - 1 - suc m ≡ x.skip - suc (suc m) = omega arith in
      let s : x.skip ≡ suc (x.skip - 1) = omega arith in
      let t : eqb (suc m) (x.skip - 1) ≡ eqb (suc (suc m)) x.skip = sym (ap (eqb (suc (suc m))) s ∙ eqb-suc-suc (suc m) (x.skip - 1)) in
      λ i. let k : K = pick (a i) (H.long x.kept) x.kept in carved x.unfinished (b i) (pick (t i) (H.long k) k)

  left_over : (x : Carved K) (n : ℕ) → suc (suc n) ≤ x.skip → suc n ≤ (passed H 1 x).skip
  unfolding passed
  left_over x n h = omega arith

  pub passes : (n : ℕ) (cs : List ℕ) (x : Carved K) → 0 < n → n ≤ x.skip → n ≤ length cs → each (carve H) (drop n cs) (passed H n x) ≡ each (carve H) cs x
  unfolding each
  passes zero cs x p a l = absurd (omega arith)
  passes (suc n) [] x p a l = absurd (omega arith)
  passes (suc zero) (c ∷ cs) x p a l = ap (each (carve H) cs) (sym (byte_passes c x a))
  passes (suc (suc n)) (c ∷ cs) x p a l =
      let left : suc n ≤ (passed H 1 x).skip = left_over x n a in
      ap (each (carve H) (drop (suc n) cs)) (sym (passed_more n x a))
      ∙ passes (suc n) cs (passed H 1 x) (omega arith) left (omega arith)
      ∙ ap (each (carve H) cs) (sym (byte_passes c x (omega arith)))

  -- ---- a length and its packet
  pub keeps_one : (u : List ℕ) (k : K) → length u < 2 → grown H u k ≡ carved u 0 k
  unfolding grown pick
  keeps_one u k h = simp (lt-ltb (length u) 2 h)

  module _ (u : List ℕ) (k : K) (two : 2 ≤ length u) where
    pub over_long : H.over (field u 0 2) ≡ true → grown H u k ≡ carved [] (field u 0 2) k
    unfolding grown pick
    over_long h = simp (le-ltb (length u) 2 two, h)

    pub keeps : H.over (field u 0 2) ≡ false → length u < 2 + field u 0 2 → grown H u k ≡ carved u 0 k
    unfolding grown pick
    keeps s h = simp (le-ltb (length u) 2 two, s, lt-ltb (length u) (2 + field u 0 2) h)

    pub gives : H.over (field u 0 2) ≡ false → 2 + field u 0 2 ≤ length u → grown H u k ≡ carved [] 0 (H.give (take (field u 0 2) (drop 2 u)) k)
    unfolding grown pick
    gives s h = simp (le-ltb (length u) 2 two, s, le-ltb (length u) (2 + field u 0 2) h)

  -- l begins with a length that is not over-long
  module _ (l : List ℕ) (k : K) (good : H.over (field l 0 2) ≡ false) where
    -- one byte more of it
    one_more : (j : ℕ) → j < length l → each (carve H) (drop j l) (carved (take j l) 0 k) ≡ each (carve H) (drop (suc j) l) (grown H (take (suc j) l) k)
    unfolding each
    one_more j h =
        ap (λ d. each (carve H) d (carved (take j l) 0 k)) (drop-cons l j 0 h)
        ∙ ap (each (carve H) (drop (suc j) l)) (byte_grows (get_or l j 0) (take j l) k ∙ ap (λ u. grown H u k) (sym (take-suc l j 0 h)))

    good_front : (j : ℕ) → 2 ≤ j → H.over (field (take j l) 0 2) ≡ false
    good_front j h = ap H.over (front_length l j h) ∙ good

    kept_so_far : (j : ℕ) → j ≤ length l → j < 2 + field l 0 2 → grown H (take j l) k ≡ carved (take j l) 0 k
    kept_so_far j m h = go (dec_lt j 2) (length-take-le j l m)
      where
        go : Dec (j < 2) → length (take j l) ≡ j → grown H (take j l) k ≡ carved (take j l) 0 k
        go (yes a) e = keeps_one (take j l) k (omega arith)
        go (no a) e =
            let f : field (take j l) 0 2 ≡ field l 0 2 = front_length l j (omega arith) in
            keeps (take j l) k (omega arith) (good_front j (omega arith)) (omega arith)

    so_far : (j : ℕ) → j ≤ length l → j < 2 + field l 0 2 → each (carve H) (drop j l) (carved (take j l) 0 k) ≡ each (carve H) l (carved [] 0 k)
    so_far zero m h = refl
    so_far (suc j) m h = ap (each (carve H) (drop (suc j) l)) (sym (kept_so_far (suc j) m h)) ∙ sym (one_more j m) ∙ so_far j (omega arith) (omega arith)

    -- the packet as it lies there
    pub at_once : 2 + field l 0 2 ≤ length l → each (carve H) (drop (2 + field l 0 2) l) (carved [] 0 (H.give (take (field l 0 2) (drop 2 l)) k)) ≡ each (carve H) l (carved [] 0 k)
    at_once there =
        let n = field l 0 2 in
        let m : suc (1 + n) ≡ 2 + n = omega arith in
        let u : List ℕ = take (2 + n) l in
        let len : length u ≡ 2 + n = length-take-le (2 + n) l there in
        let f : field u 0 2 ≡ n = front_length l (2 + n) (omega arith) in
        let g : grown H u k ≡ carved [] 0 (H.give (take (field u 0 2) (drop 2 u)) k) = gives u k (omega arith) (good_front (2 + n) (omega arith)) (omega arith) in
        let p : take (field u 0 2) (drop 2 u) ≡ take n (drop 2 l) = rw f (front_bytes u n (omega arith) ∙ ap (drop 2) (take-take (2 + n) (2 + n) l (omega arith)) ∙ sym (front_bytes l n (omega arith))) in
        ap (λ q. each (carve H) (drop (2 + n) l) (carved [] 0 (H.give q k))) (sym p)
        ∙ ap (each (carve H) (drop (2 + n) l)) (sym g)
        ∙ ap (λ j. each (carve H) (drop j l) (grown H (take j l) k)) (sym m)
        ∙ sym (one_more (1 + n) (omega arith))
        ∙ so_far (1 + n) (omega arith) (omega arith)

-- ---- a byte into the buffer, behind the h bytes held
module _ (w : List ℕ) (h b : ℕ) (fits : h ≤ length w) where
  abbrev grew : List ℕ
  grew = take h w ++ (b ∷ [])

  pub length_grew : length grew ≡ h + 1
  length_grew = rw length-append (omega (arith, length-take-le h w fits))

  -- the buffer has the same bytes in front, as far as it reaches
  pub same_front : (m : ℕ) → m ≤ length w → m ≤ h + 1 → take m (set w h b) ≡ take m grew
  same_front m a c = go (dec_lt h (length w))
    where
      go : Dec (h < length w) → take m (set w h b) ≡ take m grew
      go (yes i) = sym (ap (take m) (sym (take-suc-set w h b i)) ∙ take-take m (suc h) (set w h b) (omega arith))
      go (no i) =
          ap (take m) (set_out w h b (omega arith))
          ∙ sym (take-append-le m w (b ∷ []) a)
          ∙ ap (λ v. take m (v ++ (b ∷ []))) (sym (take_all h w (omega arith)))

  pub same_length_field : 2 ≤ length w → 1 ≤ h → field (set w h b) 0 2 ≡ field grew 0 2
  unfolding field
  same_length_field a c = ap le (same_front 2 a (omega arith))

  pub same_bytes : (n : ℕ) → 2 + n ≤ length w → 2 + n ≤ h + 1 → take n (drop 2 (set w h b)) ≡ take n (drop 2 grew)
  same_bytes n a c =
      front_bytes (set w h b) n (rw length-set (omega arith))
      ∙ ap (drop 2) (same_front (2 + n) a c)
      ∙ sym (front_bytes grew n (rw length_grew (omega arith)))
