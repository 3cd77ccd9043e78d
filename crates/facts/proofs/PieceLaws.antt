-- Pieces of one width, by recursion on their number: `cut` takes one piece off the front, and so does each proof.
-- Assumes nothing.
use mathlib.Core.Path.{◌≡◌, refl, sym, ap, ◌∙◌}
use mathlib.Core.List.{List, [], ◌∷◌, ◌++◌, map, append_assoc}
use Prim.Native.Nat.{ℕ, zero, suc, ◌+◌, ◌*◌, ◌/◌, ◌%◌, ◌-◌, ◌≤◌, ◌<◌}
use native.Mathlib.Nat.{mul-zero, mul-suc, zero-add, add-zero, mul-div_right, mul-div-le, mul-add-div, div-eq_of_lt, div-add-mod, mul-le-mul_left, le_of_suc-le-suc, not-suc-le-zero, le_trans}
use native.Mathlib.Omega.{arith}
use lib.ListN.{length, get_or, set, take, drop, replicate, length-append, length-take, length-drop, length-replicate, take-append-drop, get_or-replicate, replicate-append-replicate}
use lib.Seq.{sets, take_all, take_at, drop_at, take-add, drop-drop, take-set-le, drop-set-lt, drop-set-add, get_or-take, get_or-drop, set_out, length-sets, sets-eq, ext_get_or}
use lib.Dec.{ltb}
use borrow.Author.Tests.{lt-ltb, le-ltb, ltb-true, ltb-false}
use Rattle.facts.specs.Pick.{pick}
use Rattle.facts.proofs.Picks.{pick_ind}
use Rattle.facts.specs.Pieces.{cut, pieces, join, put_piece}

module _ {A : Type 0} where
  -- ---- the first n pieces
  length_cut : (w n : ℕ) (t : List A) → length (cut w n t) ≡ n
  unfolding cut
  length_cut w zero t = refl
  length_cut w (suc n) t = ap suc (length_cut w n (drop w t))

  get_or_cut : (w n : ℕ) (t : List A) (i : ℕ) (d : List A) → i < n → get_or (cut w n t) i d ≡ take w (drop (w * i) t)
  unfolding cut
  get_or_cut w zero t i d h = absurd (not-suc-le-zero h)
  get_or_cut w (suc n) t zero d h = rw (mul-zero w)
  get_or_cut w (suc n) t (suc i) d h =
      let e : w * suc i ≡ w + w * i = mul-suc w i ∙ omega arith in
      rw (get_or_cut w n (drop w t) i d (le_of_suc-le-suc h), drop-drop, e)

  pub join_cut : (w n : ℕ) (t : List A) → join (cut w n t) ≡ take (w * n) t
  unfolding cut join
  join_cut w zero t = rw (mul-zero w)
  join_cut w (suc n) t =
      let e : w * suc n ≡ w + w * n = mul-suc w n ∙ omega arith in
      rw (join_cut w n (drop w t), e, take-add)

  take_sets : (n : ℕ) (t : List A) (i : ℕ) (s : List A) → n ≤ i → take n (sets t i s) ≡ take n t
  take_sets n t i [] h = refl
  take_sets n t i (x ∷ s) h = take_sets n (set t i x) (suc i) s (omega arith) ∙ take-set-le n t i x h

  drop_sets : (n : ℕ) (t : List A) (i : ℕ) (s : List A) → drop n (sets t (n + i) s) ≡ sets (drop n t) i s
  drop_sets n t i [] = refl
  drop_sets n t i (x ∷ s) =
      let e : suc (n + i) ≡ n + suc i = omega arith in
      rw (e, drop_sets n (set t (n + i) x) (suc i) s, drop-set-add)

  cut_sets : (w n : ℕ) (t : List A) (i : ℕ) (s : List A) → length s ≡ w → w * n ≤ length t → i < n → cut w n (sets t (w * i) s) ≡ set (cut w n t) i s
  unfolding cut
  cut_sets w zero t i s l f h = absurd (not-suc-le-zero h)
  cut_sets w (suc n) t zero s l f h =
      let m = mul-suc w n in
      let e : sets t (w * 0) s ≡ s ++ drop w t = rw (mul-zero w, sets-eq s t 0 (omega arith), zero-add, l) in
      rw (e, take_at s (drop w t) w l, drop_at s (drop w t) w l)
  cut_sets w (suc n) t (suc i) s l f h =
      let m = mul-suc w n in
      let e : w * suc i ≡ w + w * i = mul-suc w i ∙ omega arith in
      rw (e, take_sets w t (w + w * i) s (omega arith), drop_sets, cut_sets w n (drop w t) i s l (rw length-drop (omega arith)) (le_of_suc-le-suc h))

  -- ---- all pieces
  pub length_pieces : (w : ℕ) (t : List A) → length (pieces w t) ≡ length t / w
  unfolding pieces
  length_pieces w t = length_cut w (length t / w) t

  pub get_or_pieces : (w : ℕ) (t : List A) (i : ℕ) (d : List A) → i < length t / w → get_or (pieces w t) i d ≡ take w (drop (w * i) t)
  unfolding pieces
  get_or_pieces w t i d h = get_or_cut w (length t / w) t i d h

  -- a whole piece lies inside
  pub piece_fits : (w : ℕ) (t : List A) (i : ℕ) → i < length t / w → w * i + w ≤ length t
  piece_fits w t i h = rw (← mul-suc w i) (le_trans (mul-le-mul_left w h) (mul-div-le (length t) w))

  pub length_piece : (w : ℕ) (t : List A) (i : ℕ) → i < length t / w → length (take w (drop (w * i) t)) ≡ w
  length_piece w t i h = rw (length-take, length-drop) (omega (arith, piece_fits w t i h))

  -- element k of piece i
  pub get_or_piece : (w : ℕ) (t : List A) (i k : ℕ) (d : A) → k < w → get_or (take w (drop (w * i) t)) k d ≡ get_or t (w * i + k) d
  get_or_piece w t i k d h = rw (get_or-take, get_or-drop)

  -- ---- one piece put
  pub put_in : (w : ℕ) (t : List A) (i : ℕ) (s : List A) → i < length t / w → put_piece w t i s ≡ sets t (w * i) s
  unfolding put_piece pick
  put_in w t i s h = rw (lt-ltb i (length t / w) h)

  pub put_out : (w : ℕ) (t : List A) (i : ℕ) (s : List A) → length t / w ≤ i → put_piece w t i s ≡ t
  unfolding put_piece pick
  put_out w t i s h = rw (le-ltb i (length t / w) h)

  pub length_put : (w : ℕ) (t : List A) (i : ℕ) (s : List A) → length (put_piece w t i s) ≡ length t
  unfolding put_piece
  length_put w t i s = pick_ind (λ (l : List A). length l ≡ length t) (ltb i (length t / w)) _ _ (λ e. length-sets t (w * i) s) (λ e. refl)

  pub pieces_put : (w : ℕ) (t : List A) (i : ℕ) (s : List A) → length s ≡ w → pieces w (put_piece w t i s) ≡ set (pieces w t) i s
  unfolding put_piece pieces
  pieces_put w t i s l =
      pick_ind (λ u. pieces w u ≡ set (pieces w t) i s) (ltb i (length t / w)) _ _
      (λ e. rw length-sets (cut_sets w (length t / w) t i s l (mul-div-le (length t) w) (ltb-true i (length t / w) e)))
      (λ e. sym (set_out (pieces w t) i s (rw length_pieces (ltb-false i (length t / w) e))))

  -- a piece put where it lies already
  pub put_self : (w : ℕ) (t : List A) (i : ℕ) → put_piece w t i (take w (drop (w * i) t)) ≡ t
  unfolding put_piece
  put_self w t i =
      pick_ind (λ u. u ≡ t) (ltb i (length t / w)) _ _
      (λ e.
      let h : i < length t / w = ltb-true i (length t / w) e in
      let l : length (take w (drop (w * i) t)) ≡ w = length_piece w t i h in
      sets-eq (take w (drop (w * i) t)) t (w * i) (rw l (piece_fits w t i h)) ∙ rw (l, ← take-add (w * i) w t) (take-append-drop (w * i + w) t))
      (λ e. refl)

  -- ---- back to back
  pub join_pieces : (w : ℕ) (t : List A) → length t % w ≡ 0 → join (pieces w t) ≡ t
  unfolding pieces
  join_pieces w t h = join_cut w (length t / w) t ∙ take_all (w * (length t / w)) t (omega (arith, div-add-mod (length t) w))

  -- each piece is w wide
  abbrev pub Wide : ℕ → List (List A) → Type 0
  Wide w [] = Unit {0}
  Wide w (x ∷ xs) = (length x ≡ w) × Wide w xs

  pub length_join : (w : ℕ) (xs : List (List A)) → Wide w xs → length (join xs) ≡ w * length xs
  unfolding join
  length_join w [] h = sym (mul-zero w)
  length_join w (x ∷ xs) h = rw (length-append, mul-suc, length_join w xs h.1, h.0) (omega arith)

  wide_cut : (w n : ℕ) (t : List A) → w * n ≤ length t → Wide w (cut w n t)
  unfolding cut
  wide_cut w zero t h = tt
  wide_cut w (suc n) t h =
      let m = mul-suc w n in
      (rw length-take (omega arith), wide_cut w n (drop w t) (rw length-drop (omega arith)))

  pub wide_pieces : (w : ℕ) (t : List A) → Wide w (pieces w t)
  unfolding pieces
  wide_pieces w t = wide_cut w (length t / w) t (mul-div-le (length t) w)

  cut_join : (w : ℕ) (xs : List (List A)) → Wide w xs → cut w (length xs) (join xs) ≡ xs
  unfolding cut join
  cut_join w [] h = refl
  cut_join w (x ∷ xs) h = rw (take_at x (join xs) w h.0, drop_at x (join xs) w h.0, cut_join w xs h.1)

  pub pieces_join : (w : ℕ) (xs : List (List A)) → 0 < w → Wide w xs → pieces w (join xs) ≡ xs
  unfolding pieces
  pieces_join w xs p h = rw (length_join w xs h, mul-div_right (length xs) p) (cut_join w xs h)

  -- ---- what lies behind the last whole piece
  pub join_rest : (w : ℕ) (t : List A) → join (pieces w t) ++ drop (w * (length t / w)) t ≡ t
  unfolding pieces
  join_rest w t = rw (join_cut w (length t / w) t) (take-append-drop (w * (length t / w)) t)

  cut_rest : (w : ℕ) (xs : List (List A)) (y : List A) → Wide w xs → cut w (length xs) (join xs ++ y) ≡ xs
  unfolding cut join
  cut_rest w [] y h = refl
  cut_rest w (x ∷ xs) y h =
      rw (append_assoc x (join xs) y, take_at x (join xs ++ y) w h.0, drop_at x (join xs ++ y) w h.0, cut_rest w xs y h.1)

  pub pieces_rest : (w : ℕ) (xs : List (List A)) (y : List A) → length y < w → Wide w xs → pieces w (join xs ++ y) ≡ xs
  unfolding pieces
  pieces_rest w xs y l h =
      let n : length (join xs ++ y) / w ≡ length xs = rw (length-append, length_join w xs h, mul-add-div {m = w} (omega arith) (length xs) (length y), div-eq_of_lt l, add-zero) in
      rw n (cut_rest w xs y h)

  drop_behind : (n : ℕ) (t : List A) (i : ℕ) (s : List A) → i + length s ≤ n → drop n (sets t i s) ≡ drop n t
  drop_behind n t i [] h = refl
  drop_behind n t i (x ∷ s) h = drop_behind n (set t i x) (suc i) s (omega arith) ∙ drop-set-lt n t i x (omega arith)

  pub rest_put : (w : ℕ) (t : List A) (i : ℕ) (s : List A) → length s ≡ w → drop (w * (length t / w)) (put_piece w t i s) ≡ drop (w * (length t / w)) t
  unfolding put_piece
  rest_put w t i s l =
      pick_ind (λ u. drop (w * (length t / w)) u ≡ drop (w * (length t / w)) t) (ltb i (length t / w)) _ _
      (λ e.
      let m = mul-le-mul_left w (ltb-true i (length t / w) e) in
      drop_behind (w * (length t / w)) t (w * i) s (omega (arith, m, mul-suc w i)))
      (λ e. refl)

  -- ---- one element over and over
  cut_replicate : (w n m : ℕ) (a : A) → w * n ≤ m → cut w n (replicate m a) ≡ replicate n (replicate w a)
  unfolding cut
  cut_replicate w zero m a h = refl
  cut_replicate w (suc n) m a h =
      let k : m ≡ w + (m - w) = omega (arith, mul-suc w n) in
      let e : replicate m a ≡ replicate w a ++ replicate (m - w) a = ap (λ (x : ℕ). replicate x a) k ∙ sym (replicate-append-replicate w (m - w) a) in
      rw (
        e,
        take_at (replicate w a) (replicate (m - w) a) w (length-replicate w a),
        drop_at (replicate w a) (replicate (m - w) a) w (length-replicate w a),
        cut_replicate w n (m - w) a (omega (arith, mul-suc w n)),
      )

  pub pieces_replicate : (w n : ℕ) (a : A) → pieces w (replicate n a) ≡ replicate (n / w) (replicate w a)
  unfolding pieces
  pieces_replicate w n a = rw length-replicate (cut_replicate w (n / w) n a (mul-div-le n w))

  -- a list that holds it at each place
  pub is_replicate : (a d : A) (l : List A) → ((k : ℕ) → k < length l → get_or l k d ≡ a) → l ≡ replicate (length l) a
  is_replicate a d l h =
      ext_get_or d l (replicate (length l) a) (sym (length-replicate (length l) a))
      (λ k lt. h k lt ∙ sym (get_or-replicate (length l) k a d lt))

  -- what is left of equal elements behind the first k
  pub same_left : (n k : ℕ) (a : A) → drop k (replicate n a) ≡ replicate (n - k) a
  same_left n zero a = let e : n - 0 ≡ n = omega arith in rw e
  same_left zero (suc k) a = let e : 0 - suc k ≡ 0 = omega arith in rw e
  same_left (suc n) (suc k) a = let e : suc n - suc k ≡ n - k = omega arith in rw e (same_left n k a)

pub map_set : {A B : Type 0} (f : A → B) (l : List A) (i : ℕ) (x : A) → map f (set l i x) ≡ set (map f l) i (f x)
map_set f [] i x = refl
map_set f (y ∷ l) zero x = refl
map_set f (y ∷ l) (suc i) x = rw (map_set f l i x)

pub map_replicate : {A B : Type 0} (f : A → B) (n : ℕ) (x : A) → map f (replicate n x) ≡ replicate n (f x)
map_replicate f zero x = refl
map_replicate f (suc n) x = rw (map_replicate f n x)

-- ---- pieces read as values, and values written as pieces
module _ {A B : Type 0} (w : ℕ) (of : List A → B) (to : B → List A) where
  pub values_put : ((b : B) → length (to b) ≡ w) → ((b : B) → of (to b) ≡ b)
      → (t : List A) (i : ℕ) (b : B) → map of (pieces w (put_piece w t i (to b))) ≡ set (map of (pieces w t)) i b
  values_put wide back t i b = rw (pieces_put w t i (to b) (wide b), map_set, back)

  pub wide_map : ((b : B) → length (to b) ≡ w) → (bs : List B) → Wide w (map to bs)
  wide_map wide [] = tt
  wide_map wide (b ∷ bs) = (wide b, wide_map wide bs)

  map_back : ((b : B) → of (to b) ≡ b) → (bs : List B) → map of (map to bs) ≡ bs
  map_back back [] = refl
  map_back back (b ∷ bs) = rw (back b, map_back back bs)

  pub values_join : 0 < w → ((b : B) → length (to b) ≡ w) → ((b : B) → of (to b) ≡ b) → (bs : List B) → map of (pieces w (join (map to bs))) ≡ bs
  values_join p wide back bs = rw (pieces_join w (map to bs) p (wide_map wide bs)) (map_back back bs)

  map_forth : ((x : List A) → length x ≡ w → to (of x) ≡ x) → (xs : List (List A)) → Wide w xs → map to (map of xs) ≡ xs
  map_forth forth [] h = refl
  map_forth forth (x ∷ xs) h = rw (forth x h.0, map_forth forth xs h.1)

  -- the same with a rest behind the last whole piece
  pub rest_values : ((b : B) → length (to b) ≡ w) → ((b : B) → of (to b) ≡ b) → (bs : List B) (y : List A) → length y < w → map of (pieces w (join (map to bs) ++ y)) ≡ bs
  rest_values wide back bs y l = rw (pieces_rest w (map to bs) y l (wide_map wide bs)) (map_back back bs)

  pub values_rest : ((x : List A) → length x ≡ w → to (of x) ≡ x) → (t : List A) → join (map to (map of (pieces w t))) ++ drop (w * (length t / w)) t ≡ t
  values_rest forth t = rw (map_forth forth (pieces w t) (wide_pieces w t)) (join_rest w t)
