-- A recording, byte by byte (document 01, "The sheet": "packets each behind a 2-byte length"; request 13: "chunks cut anywhere, even inside the 2-byte length"),
-- whatever is done with its packets.
use Rattle.std.specs.Prelude.{ℕ, ◌+◌, ◌-◌, Bool, List, [], ◌∷◌, ◌++◌, length, take, drop, ltb, eqb}
use Rattle.facts.specs.Pick.{pick}
use Rattle.wire.specs.Le.{field}

-- what is done with packets, K being what those so far have made: the lengths of packets that are passed over, a whole packet, and one that was passed over
pub record Hearer (K : Type 0) : Type 0 where
  pub over : ℕ → Bool
  pub give : List ℕ → K → K
  pub long : K → K

-- between two bytes: the bytes of an unfinished length and packet, and how many bytes of an over-long packet are still to come
pub record Carved (K : Type 0) : Type 0 where
  pub unfinished : List ℕ
  pub skip : ℕ
  pub kept : K

abbrev pub carved : {K : Type 0} → List ℕ → ℕ → K → Carved K
carved u n k = record { unfinished = u; skip = n; kept = k }

module _ {K : Type 0} (H : Hearer K) where
  -- an over-long packet is passed over, n bytes of it at once, and is told when its last byte has come
  unfoldable pub passed : ℕ → Carved K → Carved K
  passed n x = carved x.unfinished (x.skip - n) (pick (eqb n x.skip) (H.long x.kept) x.kept)

  -- the bytes of a length and its packet, one more than before: kept until they are all there
  unfoldable pub grown : List ℕ → K → Carved K
  grown u k =
      pick (ltb (length u) 2) (carved u 0 k)
      (pick (H.over (field u 0 2)) (carved [] (field u 0 2) k)
      (pick (ltb (length u) (2 + field u 0 2)) (carved u 0 k)
      (carved [] 0 (H.give (take (field u 0 2) (drop 2 u)) k))))

  -- what one byte does
  unfoldable pub carve : ℕ → Carved K → Carved K
  carve b x = pick (eqb x.skip 0) (grown (x.unfinished ++ (b ∷ [])) x.kept) (passed 1 x)
