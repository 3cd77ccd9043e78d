-- A packet with a record put behind it reads as its old records and the new one, and a packet that was read is its records, back to back: record by record from the front, each whole one being read the same
-- with more behind it.
-- Assumes nothing.
use mathlib.Core.Path.{◌≡◌, refl, sym, ap, ◌∙◌}
use mathlib.Core.List.{List, [], ◌∷◌, ◌++◌, append_assoc, append-nil}
use mathlib.Core.Bool.{true, false}
use Prim.Native.Nat.{ℕ, zero, suc, ◌+◌, ◌≤◌}
use native.Mathlib.Nat.{zero-add}
use native.Mathlib.Omega.{arith}
use lib.ListN.{length, take, drop, length-append, length-drop, take-append-drop}
use lib.Seq.{take-add, take_all, take-append-le, drop-append-le}
use borrow.Author.Tests.{le-leb}
use Rattle.facts.specs.Limits.{packet_most, entry_size}
use Rattle.facts.specs.Pick.{pick, both}
use Rattle.editions.specs.declared.Edition.{Edition}
use Rattle.wire.specs.Le.{to_le, field, Bytes}
use Rattle.wire.specs.Records.{Rec, rec, records}
use Rattle.wire.proofs.Bytewise.{bytes_drop}
use Rattle.wire.proofs.Laws.{length_to_le}
use Rattle.layout.specs.Shape.{Shape, number, Values, cut, joined}
use Rattle.layout.proofs.Laws.{cut_between, joined_cut}
use Rattle.body.specs.Read.{judge_body}
use Rattle.body.proofs.Laws.{Judgement, good, bad as bad_judged, judgement, good_fits}
use Rattle.packet.specs.Record.{head_of, body_of, rec_of, body_judged, read_record}
use Rattle.packet.specs.Packet.{Framing, before, behind, frames_from, framing}
use Rattle.std.specs.Prelude.{Ok}
use Rattle.packet.proofs.Laws.{GoodRec, number_in, whole_record, body_length, enough, frames_step, frames_end}
use Rattle.packet.proofs.Good.{AllGood, Step, step, step_end, framing_size}
use Rattle.trips.specs.Records.{record_bytes, packet_bytes}

-- number and length, in front of a body
abbrev head : List Shape
head = number 8 ∷ number 2 ∷ []

pub length_record : (n : ℕ) (b : List ℕ) → length (record_bytes n b) ≡ 10 + length b
unfolding record_bytes
length_record n b = rw (length-append, length-append, length_to_le, length_to_le) (omega arith)

-- ---- what stands in front decides: a record that is whole reads the same with more behind it
module _ (p q : List ℕ) (w : 10 ≤ length p) where
  number_front : field (p ++ q) 0 8 ≡ field p 0 8
  unfolding field
  number_front = rw (take-append-le 8 p q (omega arith))

  len_front : field (p ++ q) 8 2 ≡ field p 8 2
  unfolding field
  len_front = rw (drop-append-le 8 p q (omega arith), take-append-le 2 (drop 8 p) q (rw length-drop (omega arith)))

  body_front : 10 + field p 8 2 ≤ length p → body_of (p ++ q) ≡ body_of p
  unfolding body_of
  body_front h = rw (len_front, drop-append-le 10 p q w, take-append-le (field p 8 2) (drop 10 p) q (rw length-drop (omega arith)))

  rec_front : 10 + field p 8 2 ≤ length p → rec_of (p ++ q) ≡ rec_of p
  rec_front h = λ i. record { number = number_front i; body = body_front h i }

module _ (ed : Edition) where
  -- a good record that is whole is read
  good_read : (t : List ℕ) → 10 + field t 8 2 ≤ length t → GoodRec ed (rec_of t) → read_record ed t ≡ Ok (head_of t)
  unfolding body_judged
  good_read t h g = whole_record ed t h (number_in (field t 0 8) g.number_from g.number_to) ∙ go (judgement ed (body_of t))
    where
      go : Judgement ed (body_of t) → body_judged (judge_body ed (body_of t)) (head_of t) ≡ Ok (head_of t)
      go (good k e a z) = rw e refl
      go (bad_judged f e a z) = let x : true ≡ false = sym g.body_good ∙ a in let z : ◌≡◌ {A = ℕ} 0 1 = cc in absurd (omega arith)

  -- the records of a run of bytes
  abbrev pub frames_of : List ℕ → Framing
  frames_of p = frames_from ed (length p) p

  frames_one : (t : List ℕ) (f : ℕ) → length t ≤ f → 10 + field t 8 2 ≤ length t → GoodRec ed (rec_of t) → frames_from ed f t ≡ before (10 + field t 8 2) (rec_of t) (frames_from ed f (drop (10 + field t 8 2) t))
  unfolding behind
  frames_one t f l h g = frames_step ed f t (omega arith) l ∙ ap (behind (frames_from ed f) t) (good_read t h g)

  -- ---- one run of bytes behind another: so many bytes in front
  Join : ℕ → Type 0
  Join n = (p q : List ℕ) (cs ds : List Rec) → length p ≤ n → frames_of p ≡ records cs → frames_of q ≡ records ds → frames_of (p ++ q) ≡ records (cs ++ ds)

  join_none : Join 0
  unfolding Join
  join_none [] q cs ds l e f = let z : cs ≡ [] = step_end ed [] 0 cs (omega arith) e in rw z f
  join_none (x ∷ p) q cs ds l e f = absurd (omega arith)

  join_more : (n : ℕ) → Join n → Join (suc n)
  unfolding Join before
  join_more n ih [] q cs ds l e f = join_none [] q cs ds (omega arith) e f
  join_more n ih (x ∷ p) q cs ds l e f =
      let t : List ℕ = x ∷ p in
      let w : Step ed t 0 cs = step ed t 0 cs (omega arith) e in
      let k : ℕ = field t 8 2 in
      let h : 10 + k ≤ length t = rw zero-add at w.inside in
      let ten : 10 ≤ length t = omega arith in
      let len_is : field (t ++ q) 8 2 ≡ k = len_front t q ten in
      let rec_is : rec_of (t ++ q) ≡ rec_of t = rec_front t q ten h in
      let long : length t ≤ length (t ++ q) = rw length-append (omega arith) in
      let one = frames_one (t ++ q) (length (t ++ q)) (omega arith) (rw len_is (omega arith)) (rw rec_is w.good) in
      let rest : List ℕ = drop (10 + k) t in
      let short : length rest ≤ n = rw length-drop (omega arith) in
      let next : frames_of rest ≡ records w.others = enough ed (length rest) (length t) rest (omega arith) (rw length-drop (omega arith)) ∙ rw zero-add at w.next in
      let behind_it : frames_of (rest ++ q) ≡ records (w.others ++ ds) = ih rest q w.others ds short next f in
      let fuel : frames_from ed (length (t ++ q)) (rest ++ q) ≡ frames_of (rest ++ q) = enough ed (length (t ++ q)) (length (rest ++ q)) (rest ++ q) (rw (length-append, length-append, length-drop) (omega arith)) (omega arith) in
      one ∙ rw (rec_is, len_is, drop-append-le (10 + k) t q h, fuel, behind_it) (ap (λ (l : List Rec). records (l ++ ds)) (sym w.first_is))

  joins : (n : ℕ) → Join n
  joins zero = join_none
  joins (suc n) = join_more n (joins n)

  pub frames_join : (p q : List ℕ) (cs ds : List Rec) → frames_of p ≡ records cs → frames_of q ≡ records ds → frames_of (p ++ q) ≡ records (cs ++ ds)
  unfolding Join
  frames_join p q cs ds e f = joins (length p) p q cs ds (omega arith) e f

  -- ---- a record that was written
  module _ (n : ℕ) (b : List ℕ) (g : GoodRec ed (rec n b)) where
    short : length b ≤ entry_size
    short = (good_fits ed b g.body_good).most

    head_back : cut head (record_bytes n b) 0 ≡ (n, (length b, tt))
    unfolding record_bytes joined to_le
    head_back = let a = g.number_to in let s = short in cut_between head (n, (length b, tt)) [] b 0 refl (omega arith, (omega arith, tt))

    len_back : field (record_bytes n b) 8 2 ≡ length b
    len_back = ap (λ (v : Values head). v.1.0) head_back

    body_back : body_of (record_bytes n b) ≡ b
    unfolding body_of record_bytes to_le
    body_back = rw len_back (take_all (length b) b (omega arith))

    rec_back : rec_of (record_bytes n b) ≡ rec n b
    rec_back = λ i. record { number = (head_back i).0; body = body_back i }

    pub frames_record : frames_of (record_bytes n b) ≡ records (rec n b ∷ [])
    unfolding before
    frames_record =
        let t : List ℕ = record_bytes n b in
        let k = len_back in
        let l = length_record n b in
        frames_one t (length t) (omega arith) (omega arith) (rw rec_back g)
        ∙ rw (rec_back, frames_end ed (length t) t (10 + field t 8 2) (omega arith))

  -- good records, written back to back, are read as they are
  pub frames_written : (cs : List Rec) → AllGood ed cs → frames_of (packet_bytes cs) ≡ records cs
  unfolding packet_bytes frames_from
  frames_written [] g = refl
  frames_written (c ∷ cs) g = frames_join (record_bytes c.number c.body) (packet_bytes cs) (c ∷ []) cs (frames_record c.number c.body g.0) (frames_written cs g.1)

  -- ---- a packet that was read is its records, back to back
  front_record : (t : List ℕ) → Bytes t → 10 + field t 8 2 ≤ length t → record_bytes (field t 0 8) (body_of t) ≡ take (10 + field t 8 2) t
  unfolding record_bytes joined body_of
  front_record t h w =
      let b : List ℕ = body_of t in
      let l : length b ≡ field t 8 2 = body_length t w in
      let ten : joined head (cut head t 0) ≡ take 10 t = joined_cut head t 0 h (omega arith) in
      rw (l, ← append-nil (to_le 2 (field t 8 2)), ← append_assoc (to_le 8 (field t 0 8)) (to_le 2 (field t 8 2) ++ []) b)
      (ap (λ (x : List ℕ). x ++ b) ten ∙ sym (take-add 10 (field t 8 2) t))

  Whole : ℕ → Type 0
  Whole n = (t : List ℕ) (cs : List Rec) → length t ≤ n → Bytes t → frames_of t ≡ records cs → packet_bytes cs ≡ t

  whole_none : Whole 0
  unfolding Whole packet_bytes
  whole_none [] cs l h e = let z : cs ≡ [] = step_end ed [] 0 cs (omega arith) e in rw z refl
  whole_none (x ∷ p) cs l h e = absurd (omega arith)

  whole_more : (n : ℕ) → Whole n → Whole (suc n)
  unfolding Whole packet_bytes
  whole_more n ih [] cs l h e = whole_none [] cs (omega arith) h e
  whole_more n ih (x ∷ p) cs l h e =
      let t : List ℕ = x ∷ p in
      let w : Step ed t 0 cs = step ed t 0 cs (omega arith) e in
      let k : ℕ = field t 8 2 in
      let inside : 10 + k ≤ length t = rw zero-add at w.inside in
      let rest : List ℕ = drop (10 + k) t in
      let short : length rest ≤ n = rw length-drop (omega arith) in
      let next : frames_of rest ≡ records w.others = enough ed (length rest) (length t) rest (omega arith) (rw length-drop (omega arith)) ∙ rw zero-add at w.next in
      let behind_it : packet_bytes w.others ≡ rest = ih rest w.others short (bytes_drop (10 + k) t h) next in
      rw (w.first_is, front_record t h inside, behind_it) (take-append-drop (10 + k) t)

  wholes : (n : ℕ) → Whole n
  wholes zero = whole_none
  wholes (suc n) = whole_more n (wholes n)

  pub packet_written : (p : List ℕ) (cs : List Rec) → Bytes p → framing ed p ≡ records cs → packet_bytes cs ≡ p
  unfolding Whole
  packet_written p cs h e = wholes (length p) p cs (omega arith) h (framing_size ed p cs e).2

  -- good records that fill a packet are a good packet
  pub packet_read : (cs : List Rec) → AllGood ed cs → 1 ≤ length (packet_bytes cs) → length (packet_bytes cs) ≤ packet_most → framing ed (packet_bytes cs) ≡ records cs
  unfolding framing pick both
  packet_read cs g a b = rw (le-leb 1 (length (packet_bytes cs)) a, le-leb (length (packet_bytes cs)) packet_most b) (frames_written cs g)
