-- A recording is its packets, each behind its length, and a rest that is no whole packet: byte by byte, a byte is one more of the rest or makes it the next packet.
-- Assumes nothing.
use Prim.Native.Nat.{ℕ, ◌+◌, ◌-◌, ◌≤◌, ◌<◌}
use mathlib.Core.Path.{◌≡◌, refl, sym, ap, subst, ◌∙◌}
use mathlib.Core.Logic.{inl, inr}
use mathlib.Core.List.{List, [], ◌∷◌, ◌++◌, append-nil}
use native.Mathlib.Omega.{arith}
use native.Mathlib.Decide.{dec_lt}
use lib.ListN.{length, take, drop, length-take, length-drop, length-append, drop_of_length-le}
use lib.Seq.{append_snoc, take-append-le, drop-append-le, length-take-le}
use Rattle.wire.specs.Le.{le, field}
use Rattle.arbitration.specs.Stream.{each}
use Rattle.recording.specs.Carve.{Carved, carved, grown, carve}
use Rattle.recording.specs.Whole.{collects, packets_of, rest_of, InFront, Laid, Inside}
use Rattle.recording.proofs.Bytes.{byte_grows, keeps_one, keeps, gives}

-- ---- one byte more, behind the bytes u
module _ (u : List ℕ) (b : ℕ) where
  abbrev pub longer : List ℕ
  longer = u ++ (b ∷ [])

  -- its length, as soon as it is there
  abbrev pub announced : ℕ
  announced = field longer 0 2

  pub size : length longer ≡ length u + 1
  size = length-append u (b ∷ [])

  -- a length that was there stays
  pub same_length : 2 ≤ length u → announced ≡ field u 0 2
  unfolding field
  same_length two = ap le (take-append-le 2 u (b ∷ []) two)

  -- where a packet is all there, no byte is behind it
  pub exact : Inside u → 2 ≤ length longer → announced ≤ length longer - 2 → length longer ≡ 2 + announced
  exact i two whole = go (dec_lt (length u) 2) i
    where
      go : Dec (length u < 2) → Inside u → length longer ≡ 2 + announced
      go (yes a) i = omega (arith, size)
      go (no a) (inl l) = absurd (a l)
      go (no a) (inr l) = omega (arith, size, same_length (omega arith))

  abbrev pub completed : List ℕ
  completed = take announced (drop 2 longer)

-- it is not all of a packet, or the packet's last
module _ (P : Carved (List (List ℕ)) → Type 0) (b : ℕ) where
  collected : (u : List ℕ) (ps : List (List ℕ)) → (Inside (longer u b) → P (carved (longer u b) 0 ps)) → (2 ≤ length (longer u b) → announced u b ≤ length (longer u b) - 2 → P (carved [] 0 (ps ++ (completed u b ∷ [])))) → P (carve collects b (carved u 0 ps))
  collected u ps on end = subst P (sym (byte_grows collects b u ps)) (go (dec_lt (length (longer u b)) 2) (dec_lt (length (longer u b) - 2) (announced u b)))
    where
      go : Dec (length (longer u b) < 2) → Dec (length (longer u b) - 2 < announced u b) → P (grown collects (longer u b) ps)
      go (yes a) c = subst P (sym (keeps_one collects (longer u b) ps a)) (on (inl a))
      go (no a) (yes c) = subst P (sym (keeps collects (longer u b) ps (omega arith) refl (omega arith))) (on (inr c))
      go (no a) (no c) = subst P (sym (gives collects (longer u b) ps (omega arith) refl (omega arith))) (end (omega arith) (omega arith))

  pub one_byte : (y : Carved (List (List ℕ))) → y.skip ≡ 0 → let u = y.unfinished in (Inside (longer u b) → P (carved (longer u b) 0 y.kept)) → (2 ≤ length (longer u b) → announced u b ≤ length (longer u b) - 2 → P (carved [] 0 (y.kept ++ (completed u b ∷ [])))) → P (carve collects b y)
  one_byte y e on end = subst (λ (m : ℕ). P (carve collects b (carved y.unfinished m y.kept))) (sym e) (collected y.unfinished y.kept on end)

-- ---- a packet in front stays there, and one that is all of the rest is one packet more
front_stays : (p t : List ℕ) (b : ℕ) → InFront p t → InFront p (longer t b) × (drop (2 + length p) (longer t b) ≡ longer (drop (2 + length p) t) b)
front_stays p t b f =
    let there : length p ≤ length (drop 2 t) = omega (arith, ap length f.bytes_are, length-take (length p) (drop 2 t)) in
    let all : 2 + length p ≤ length t = omega (arith, f.length_there, length-drop 2 t) in (
      record {
        length_there = omega (arith, size t b, f.length_there);
        length_is = same_length t b f.length_there ∙ f.length_is;
        bytes_are = ap (take (length p)) (drop-append-le 2 t (b ∷ []) f.length_there) ∙ take-append-le (length p) (drop 2 t) (b ∷ []) there ∙ f.bytes_are;
      },
      drop-append-le (2 + length p) t (b ∷ []) all,
    )

laid_on : (ps : List (List ℕ)) (t u : List ℕ) (b : ℕ) → Laid ps t u → Laid ps (longer t b) (longer u b)
laid_on [] t u b e = ap (λ l. longer l b) e
laid_on (p ∷ ps) t u b (f, r) =
    let g = front_stays p t b f in
    (g.0, subst (λ l. Laid ps l (longer u b)) (sym g.1) (laid_on ps (drop (2 + length p) t) u b r))

laid_end : (ps : List (List ℕ)) (t v p : List ℕ) → InFront p v → length v ≡ 2 + length p → Laid ps t v → Laid (ps ++ (p ∷ [])) t []
laid_end [] t v p f l e = subst (λ z. InFront p z × (drop (2 + length p) z ≡ [])) (sym e) (f, drop_of_length-le v {i = 2 + length p} (omega arith))
laid_end (q ∷ ps) t v p f l (g, r) = (g, laid_end ps (drop (2 + length q) t) v p f l r)

-- ---- all bytes
-- the bytes t, carved
pub record Tiled (t : List ℕ) (y : Carved (List (List ℕ))) : Type 0 where
  pub none_passed : y.skip ≡ 0
  pub inside : Inside y.unfinished
  pub laid : Laid y.kept t y.unfinished

pub tiled_byte : (t : List ℕ) (b : ℕ) (y : Carved (List (List ℕ))) → Tiled t y → Tiled (longer t b) (carve collects b y)
tiled_byte t b y a =
    let u = y.unfinished in
    let on : Laid y.kept (longer t b) (longer u b) = laid_on y.kept t u b a.laid in
    one_byte (Tiled (longer t b)) b y a.none_passed
    (λ i. record { none_passed = refl; inside = i; laid = on })
    (λ two whole.
    let l : length (completed u b) ≡ announced u b = length-take-le (announced u b) (drop 2 (longer u b)) (rw length-drop whole) in
    let f : InFront (completed u b) (longer u b) = record { length_there = two; length_is = sym l; bytes_are = ap (λ j. take j (drop 2 (longer u b))) l } in
    record { none_passed = refl; inside = inl (omega arith); laid = laid_end y.kept (longer t b) (longer u b) (completed u b) f (omega (arith, exact u b a.inside two whole, l)) on })

tiled_from : (t s : List ℕ) (y : Carved (List (List ℕ))) → Tiled s y → Tiled (s ++ t) (each (carve collects) t y)
unfolding each
tiled_from [] s y a = subst (λ l. Tiled l y) (sym (append-nil s)) a
tiled_from (b ∷ t) s y a = subst (λ l. Tiled l (each (carve collects) t (carve collects b y))) (append_snoc s b t) (tiled_from t (longer s b) (carve collects b y) (tiled_byte s b y a))

pub none_tiled : Tiled [] (carved [] 0 [])
none_tiled = record { none_passed = refl; inside = inl (omega arith); laid = refl }

-- a recording is its packets, "each behind a 2-byte length", and the rest, which is no whole packet
pub packets_laid : (t : List ℕ) → Laid (packets_of t) t (rest_of t) × Inside (rest_of t)
packets_laid t = let a = tiled_from t [] (carved [] 0 []) none_tiled in (a.laid, a.inside)

-- ---- and no other packets and rest are: so what the packets of a recording are does not rest on how it is carved
not_whole : (p t : List ℕ) → InFront p t → Inside t → ⊥
not_whole p t f (inl a) = omega (arith, f.length_there)
not_whole p t f (inr a) = omega (arith, f.length_there, f.length_is, ap length f.bytes_are, length-take (length p) (drop 2 t), length-drop 2 t)

pub laid_once : (ps qs : List (List ℕ)) (t u v : List ℕ) → Laid ps t u → Inside u → Laid qs t v → Inside v → (ps ≡ qs) × (u ≡ v)
laid_once [] [] t u v e i g j = (refl, sym e ∙ g)
laid_once [] (q ∷ qs) t u v e i (g, s) j = absurd (not_whole q t g (subst Inside (sym e) i))
laid_once (p ∷ ps) [] t u v (f, r) i e j = absurd (not_whole p t f (subst Inside (sym e) j))
laid_once (p ∷ ps) (q ∷ qs) t u v (f, r) i (g, s) j =
    let n : length p ≡ length q = sym f.length_is ∙ g.length_is in
    let e : p ≡ q = sym f.bytes_are ∙ ap (λ m. take m (drop 2 t)) n ∙ g.bytes_are in
    let rest = laid_once ps qs (drop (2 + length p) t) u v r i (subst (λ m. Laid qs (drop (2 + m) t) v) (sym n) s) j in
    ((λ k. e k ∷ rest.0 k), rest.1)
