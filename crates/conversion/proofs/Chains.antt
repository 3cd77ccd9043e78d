-- A good packet as a chain of good records, each whole in front of the rest: laws of a packet's records go by recursion on it.
-- Assumes nothing.
use Prim.Native.Nat.{ℕ, ◌+◌, ◌≤◌, ◌<◌}
use mathlib.Core.Path.{◌≡◌, refl, sym, ap, subst, ◌∙◌}
use mathlib.Core.Bool.{true, true≢false}
use mathlib.Core.List.{List, [], ◌∷◌, ◌++◌, append_assoc}
use native.Mathlib.Decide.{dec_lt}
use native.Mathlib.Nat.{zero-add, not-suc-le-zero}
use native.Mathlib.Omega.{arith}
use lib.ListN.{length, take, drop, length-append, length-drop, take-append-drop}
use lib.Seq.{take_at, drop_at, take-append-le, drop-append-le, take-add, length-take-le, get_or-take}
use borrow.Author.Tests.{le-leb}
use Rattle.facts.specs.Limits.{packet_most, last_number}
use Rattle.facts.specs.Pick.{pick, both}
use Rattle.editions.specs.declared.Edition.{Edition}
use Rattle.wire.specs.Le.{le, field}
use Rattle.wire.proofs.Laws.{field_same}
use Rattle.wire.specs.Records.{Rec, rec, records}
use Rattle.std.specs.Prelude.{Result, Ok}
use Rattle.fields.specs.declared.Fault.{Fault}
use Rattle.kinds.specs.declared.Kind.{Kind}
use Rattle.body.proofs.Laws.{Judgement, good, bad, judgement}
use Rattle.packet.specs.Record.{number_ok, head_of, body_of, rec_of, body_judged, read_record}
use Rattle.packet.specs.Packet.{before, behind, frames_from, framing}
use Rattle.packet.proofs.Laws.{GoodRec, whole_record, enough, frames_step}
use Rattle.packet.proofs.Good.{Step, step, step_end, framing_size}

pub data Chain (ed : Edition) : List ℕ → List Rec → Type 0 where
  none : Chain ed [] []
  one : (t : List ℕ) (cs : List Rec) → 10 + field t 8 2 ≤ length t → GoodRec ed (rec_of t) → Chain ed (drop (10 + field t 8 2) t) cs → Chain ed t (rec_of t ∷ cs)

nothing : (t : List ℕ) → length t ≤ 0 → [] ≡ t
nothing [] h = refl
nothing (x ∷ t) h = absurd (not-suc-le-zero h)

-- ---- what framing makes of bytes is a chain
module _ (ed : Edition) where
  chain_end : (t : List ℕ) → frames_from ed (length t) t ≡ records [] → Chain ed t []
  chain_end t e = go (dec_lt 0 (length t))
    where
      go : Dec (0 < length t) → Chain ed t []
      go (yes l) = let s = step ed t 0 [] l e in let q = s.first_is in let z : ◌≡◌ {A = ℕ} 0 1 = cc in absurd (omega arith)
      go (no l) = subst (λ (u : List ℕ). Chain ed u []) (nothing t (omega arith)) none

  chain_more : (c : Rec) (cs : List Rec) → ((u : List ℕ) → frames_from ed (length u) u ≡ records cs → Chain ed u cs) → (t : List ℕ) → frames_from ed (length t) t ≡ records (c ∷ cs) → Chain ed t (c ∷ cs)
  chain_more c cs again t e = go (dec_lt 0 (length t))
    where
      go : Dec (0 < length t) → Chain ed t (c ∷ cs)
      go (no l) = let q = step_end ed t 0 (c ∷ cs) (omega (arith, l)) e in let z : ◌≡◌ {A = ℕ} 0 1 = cc in absurd (omega arith)
      go (yes l) =
          let s : Step ed t 0 (c ∷ cs) = step ed t 0 (c ∷ cs) l e in
          let n : ℕ = 10 + field t 8 2 in
          let q = s.first_is in
          let first : rec_of t ≡ c = cc in
          let rest : s.others ≡ cs = cc in
          let left : frames_from ed (length t) (drop n t) ≡ records cs = ap (λ (k : ℕ). frames_from ed (length t) (drop k t)) (sym (zero-add n)) ∙ s.next ∙ ap records rest in
          subst (λ (x : Rec). Chain ed t (x ∷ cs)) first
          (one t cs (omega (arith, s.inside)) s.good (again (drop n t) (enough ed (length (drop n t)) (length t) (drop n t) (omega arith) (rw length-drop (omega arith)) ∙ left)))

  pub frames_chain : (cs : List Rec) (t : List ℕ) → frames_from ed (length t) t ≡ records cs → Chain ed t cs
  frames_chain [] t e = chain_end t e
  frames_chain (c ∷ cs) t e = chain_more c cs (frames_chain cs) t e

  pub packet_chain : (p : List ℕ) (cs : List Rec) → framing ed p ≡ records cs → Chain ed p cs
  packet_chain p cs e = frames_chain cs p (framing_size ed p cs e).2

  -- ---- and the other way round
  pub number_good : (c : Rec) → GoodRec ed c → number_ok c.number ≡ true
  unfolding number_ok both
  number_good c g = rw (le-leb 1 _ g.number_from, le-leb _ last_number g.number_to) refl

  pub good_read : (t : List ℕ) → 10 + field t 8 2 ≤ length t → GoodRec ed (rec_of t) → read_record ed t ≡ Ok (head_of t)
  unfolding body_judged
  good_read t w g = by_judge (judgement ed (body_of t))
    where
      by_judge : Judgement ed (body_of t) → read_record ed t ≡ Ok (head_of t)
      by_judge (good k e q z) = whole_record ed t w (number_good (rec_of t) g) ∙ ap (λ (j : Result Kind Fault). body_judged j (head_of t)) e
      by_judge (bad f e q h) = absurd (true≢false (sym g.body_good ∙ q))

  pub chain_frames : (t : List ℕ) (cs : List Rec) → Chain ed t cs → frames_from ed (length t) t ≡ records cs
  unfolding frames_from behind before
  chain_frames _ _ none = refl
  chain_frames t _ (one _ cs w g k) =
      let n : ℕ = 10 + field t 8 2 in
      let left : frames_from ed (length t) (drop n t) ≡ records cs = enough ed (length t) (length (drop n t)) (drop n t) (rw length-drop (omega arith)) (omega arith) ∙ chain_frames (drop n t) cs k in
      frames_step ed (length t) t (omega arith) (omega arith)
      ∙ ap (behind (frames_from ed (length t)) t) (good_read t w g)
      ∙ ap (before n (rec_of t)) left

  pub chain_packet : (p : List ℕ) (cs : List Rec) → 1 ≤ length p → length p ≤ packet_most → Chain ed p cs → framing ed p ≡ records cs
  unfolding framing pick both
  chain_packet p cs a b k = rw (le-leb 1 (length p) a, le-leb (length p) packet_most b) (chain_frames p cs k)

-- ---- a record that is put together: ten bytes of number and length, a body of that length, and what follows
module _ (h b r : List ℕ) (ten : length h ≡ 10) (long : length b ≡ field h 8 2) where
  abbrev pub laid : List ℕ
  laid = h ++ b ++ r

  at_head : (at w : ℕ) → at + w ≤ 10 → field laid at w ≡ field h at w
  unfolding field
  at_head at w l =
      let in_h : at ≤ length h = omega arith in
      let in_rest : w ≤ length (drop at h) = rw length-drop (omega arith) in
      ap le (ap (λ (x : List ℕ). take w (drop at x)) (append_assoc h b r) ∙ ap (take w) (drop-append-le at h (b ++ r) in_h) ∙ take-append-le w (drop at h) (b ++ r) in_rest)

  pub laid_number : field laid 0 8 ≡ field h 0 8
  laid_number = at_head 0 8 (omega arith)

  pub laid_len : field laid 8 2 ≡ length b
  laid_len = at_head 8 2 (omega arith) ∙ sym long

  pub laid_head : take 10 laid ≡ h
  laid_head = ap (take 10) (append_assoc h b r) ∙ take_at h (b ++ r) 10 ten

  pub laid_body : body_of laid ≡ b
  unfolding body_of
  laid_body = ap (λ (x : List ℕ). take (field laid 8 2) (drop 10 x)) (append_assoc h b r) ∙ ap (take (field laid 8 2)) (drop_at h (b ++ r) 10 ten) ∙ take_at b r (field laid 8 2) (sym laid_len)

  laid_size : length laid ≡ 10 + length b + length r
  laid_size = length-append (h ++ b) r ∙ rw (length-append h b, ten)

  pub laid_rest : drop (10 + field laid 8 2) laid ≡ r
  laid_rest = drop_at (h ++ b) r (10 + field laid 8 2) (rw (length-append h b, ten, laid_len))

  pub laid_whole : 10 + field laid 8 2 ≤ length laid
  laid_whole = omega (arith, laid_len, laid_size)

  pub laid_rec : rec_of laid ≡ rec (field h 0 8) b
  laid_rec = λ i. rec (laid_number i) (laid_body i)

  pub laid_chain : (ed : Edition) (cs : List Rec) → GoodRec ed (rec (field h 0 8) b) → Chain ed r cs → Chain ed laid (rec (field h 0 8) b ∷ cs)
  laid_chain ed cs g k =
      subst (λ (c : Rec). Chain ed laid (c ∷ cs)) laid_rec
      (one laid cs laid_whole (subst (GoodRec ed) (sym laid_rec) g) (subst (λ (x : List ℕ). Chain ed x cs) (sym laid_rest) k))

-- a record that is whole is put together of its parts
pub taken_apart : (t : List ℕ) → 10 + field t 8 2 ≤ length t → take 10 t ++ body_of t ++ drop (10 + field t 8 2) t ≡ t
unfolding body_of
taken_apart t w = ap (λ (x : List ℕ). x ++ drop (10 + field t 8 2) t) (sym (take-add 10 (field t 8 2) t)) ∙ take-append-drop (10 + field t 8 2) t

pub head_size : (t : List ℕ) → 10 + field t 8 2 ≤ length t → length (take 10 t) ≡ 10
head_size t w = length-take-le 10 t (omega arith)

-- the header's numbers stand in its ten bytes
pub head_field : (t : List ℕ) (at w : ℕ) → at + w ≤ 10 → 10 ≤ length t → field (take 10 t) at w ≡ field t at w
head_field t at w l m = field_same (take 10 t) t at w (λ k a b. get_or-take 10 t k 0 (omega arith))
