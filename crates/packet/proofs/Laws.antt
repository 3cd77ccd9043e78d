-- Where the parts of a packet lie, and what one record, the rest behind it and the end say of framing.
-- Assumes nothing.
use mathlib.Core.Path.{◌≡◌, refl, ap, sym, ◌∙◌, subst}
use mathlib.Core.List.{List, []}
use mathlib.Core.Bool.{true, false}
use mathlib.Core.Logic.{◌⊎◌, inl, inr}
use Prim.Native.Nat.{ℕ, zero, suc, ◌+◌, ◌-◌, ◌≤◌, ◌<◌}
use native.Mathlib.Nat.{add-sub_cancel_left, add-zero, zero-add, add_assoc}
use native.Mathlib.Omega.{arith}
use native.Mathlib.Decide.{dec_lt}
use Rattle.std.proofs.Common.{Bor}
use Rattle.std.specs.Prelude.{Option, Some, None, MatchOption, MatchResult, IsErrAnd}
use Rattle.std.specs.Option.{unwrap_or}
use Rattle.std.specs.List.{slice_range}
use Rattle.std.proofs.lemmas.Result.{err_from_is_err_and}
use borrow.Author.Tests.{ltb-true, ltb-false, leb-true, lt-ltb, le-ltb, le-leb, lt-leb}
use lib.ListN.{length, take, drop, length-drop, drop_of_length-le}
use lib.Seq.{take_all, take-nil, drop-drop, length-take-le}
use lib.Dec.{ltb, leb}
use Rattle.facts.specs.Limits.{last_number, packet_most}
use Rattle.facts.specs.Pick.{pick, both}
use Rattle.facts.proofs.Picks.{pick_ind, both_true}
use Rattle.editions.specs.declared.Edition.{Edition}
use Rattle.wire.specs.Le.{field}
use Rattle.wire.specs.Records.{Rec, bad, records}
use Rattle.fields.specs.Fields.{refusal, bad_at}
use Rattle.fields.specs.declared.Fault.{Fault}
use Rattle.body.specs.Read.{judge_body, good_body}
use Rattle.body.specs.Places.{BadBody}
use Rattle.std.specs.Prelude.{Result, Ok, Err}
use Rattle.packet.specs.declared.Why.{Why}
use Rattle.kinds.specs.declared.Kind.{Kind}
use Rattle.body.proofs.Laws.{Judgement, good, bad as bad_judged, judgement}
use Rattle.body.proofs.Places.{body_within, judged_within}
use Rattle.packet.specs.Record.{number_ok, head_of, body_of, rec_of, shifted, bad_record, body_judged, read_record}
use Rattle.packet.specs.Packet.{later, Framing, before, behind, frames_from, framing, told, read_packet}
use Rattle.packet.specs.Front.{Reached, at_front, past_good}
use Rattle.packet.specs.Places.{BadRecord, no_room, bad_number, bad_body}
use Rattle.packet.specs.declared.Head.{Head}

-- what is left from `at` on, as the code lends it
pub rest : (p : List ℕ) (at : ℕ) → take (length p - at) (drop at p) ≡ drop at p
rest p at = take_all (length p - at) (drop at p) (rw length-drop (omega arith))

-- a body of n bytes, as the code cuts it out of the packet
pub body_part : (p : List ℕ) (at n : ℕ) → n ≡ field (drop at p) 8 2 → take n (drop (at + 10) p) ≡ body_of (drop at p)
unfolding body_of
body_part p at n e = rw (e, drop-drop 10 at p) refl

-- the same at the front of what is left
pub body_cut : (t : List ℕ) (n : ℕ) → n ≡ field t 8 2 → take (10 + n - 10) (drop 10 t) ≡ body_of t
unfolding body_of
body_cut t n e = rw (add-sub_cancel_left 10 n, e) refl

pub body_past : (p : List ℕ) (at : ℕ) → length p ≤ at + 10 → [] ≡ body_of (drop at p)
body_past p at h =
    let e : drop (at + 10) p ≡ [] = drop_of_length-le p {i = at + 10} h in
    sym (sym (body_part p at (field (drop at p) 8 2) refl) ∙ ap (take (field (drop at p) 8 2)) e ∙ take-nil (field (drop at p) 8 2))

-- n bytes of what is left, or all of it where there are fewer
pub part_or_all : (o : Option (Bor (List ℕ))) (b : Bor (List ℕ)) (n : ℕ) → MatchOption o ((n < 0) ⊎ (length b.now < n)) (λ x. (0 ≤ n) × (n ≤ length b.now) × (x.now ≡ slice_range b.now 0 n) × (length x.now + 0 ≡ n)) → (unwrap_or o b).now ≡ take n b.now
part_or_all None b n (inl h) = absurd (omega (arith, h))
part_or_all None b n (inr h) = sym (take_all n b.now (omega (arith, h)))
part_or_all (Some x) b n h = let z : n - 0 ≡ n = omega arith in h.2 ∙ ap (λ (k : ℕ). take k b.now) z

-- ---- "the offset in the packet": what each level adds where its part starts
pub shift_shift : (m n : ℕ) (f : Fault) → shifted m (shifted n f) ≡ shifted (m + n) f
shift_shift m n f = ap (bad_at f.number) (sym (add_assoc m n f.at))

pub shift_none : (f : Fault) → shifted 0 f ≡ f
shift_none f = ap (bad_at f.number) (zero-add f.at)

later_later : (m n : ℕ) (w : Why) → later m (later n w) ≡ later (m + n) w
later_later m n (Why.Alone r) = refl
later_later m n (Why.Placed f) = ap Why.Placed (shift_shift m n f)

later_none : (w : Why) → later 0 w ≡ w
later_none (Why.Alone r) = refl
later_none (Why.Placed f) = ap Why.Placed (shift_none f)

-- an answer of a part that starts n bytes further on, as it is mapped
abbrev pub moved : {T : Type 0} → ℕ → Result T Fault → Result T Fault
moved n (Ok x) = Ok x
moved n (Err f) = Err (shifted n f)

pub mapped : {T : Type 0} (n : ℕ) (j m : Result T Fault) (Q : Fault → Fault → Type 0) → MatchResult j (λ x. m ≡ Ok x) (λ f. IsErrAnd m (Q f)) → ((f g : Fault) → Q f g → g ≡ shifted n f) → m ≡ moved n j
mapped n (Ok x) m Q h k = h
mapped n (Err f) m Q h k = let p = err_from_is_err_and m h in p.1 ∙ ap (λ (g : Fault). Err g) (k f p.0 p.2)

pub moved_ok : {T : Type 0} (n : ℕ) (j : Result T Fault) (x : T) → moved n j ≡ Ok x → j ≡ Ok x
moved_ok n (Ok y) x e = e
moved_ok n (Err f) x e = let z : ◌≡◌ {A = ℕ} 0 1 = cc in absurd (omega arith)

pub moved_err : {T : Type 0} (n : ℕ) (j : Result T Fault) (g : Fault) → moved n j ≡ Err g → (f : Fault) × (j ≡ Err f) × (g ≡ shifted n f)
moved_err n (Ok x) g e = let z : ◌≡◌ {A = ℕ} 0 1 = cc in absurd (omega arith)
moved_err n (Err f) g e = let q : shifted n f ≡ g = cc in (f, refl, sym q)

-- ---- a record is judged by 2, 5, 3, 4: each is told whatever stands behind it
pub short_header : (ed : Edition) (t : List ℕ) → length t < 10 → bad_record 2 ≡ read_record ed t
unfolding read_record pick
short_header ed t a = simp (lt-ltb (length t) 10 a)

module _ (ed : Edition) (t : List ℕ) (h : Head) (e : h ≡ head_of t) (a : 10 ≤ length t) where
  len_is : h.len ≡ field t 8 2
  len_is = ap (λ x. x.len) e

  number_is : h.number ≡ field t 0 8
  number_is = ap (λ x. x.number) e

  pub short_body : length t - 10 < h.len → bad_record 2 ≡ read_record ed t
  unfolding read_record pick
  short_body b = simp (le-ltb (length t) 10 a, ← len_is, lt-ltb _ _ b)

  module _ (b : h.len ≤ length t - 10) where
    pub wrong_number : number_ok h.number ≡ false → bad_record 5 ≡ read_record ed t
    unfolding read_record pick
    wrong_number o = simp (le-ltb (length t) 10 a, ← len_is, le-ltb _ _ b, ← number_is, o)

    -- 3 and 4 are the body's
    pub record_judged : number_ok h.number ≡ true → (r : Result Kind Fault) → r ≡ judge_body ed (take (10 + h.len - 10) (drop 10 t)) → body_judged r h ≡ read_record ed t
    unfolding read_record pick
    record_judged o r q =
        let j : r ≡ judge_body ed (body_of t) = q ∙ ap (judge_body ed) (body_cut t h.len len_is) in
        simp (le-ltb (length t) 10 a, ← len_is, le-ltb _ _ b, ← number_is, o, ← j)

    -- a place in it lies within what is left, or at its end
    pub judged_inside : (f : Fault) → Err f ≡ judge_body ed (take (10 + h.len - 10) (drop 10 t)) → 10 + f.at ≤ length t
    judged_inside f q = omega (arith, judged_within ed (take (10 + h.len - 10) (drop 10 t)) f q, length-take-le (10 + h.len - 10) (drop 10 t) (rw length-drop (omega arith)))

pub no_room_read : (ed : Edition) (t : List ℕ) (h : Head) → h ≡ head_of t → length t < 10 + h.len → bad_record 2 ≡ read_record ed t
no_room_read ed t h e l = go (dec_lt (length t) 10)
  where
    go : Dec (length t < 10) → bad_record 2 ≡ read_record ed t
    go (yes a) = short_header ed t a
    go (no a) = short_body ed t h e (omega (arith, a)) (omega (arith, a, l))

-- a record that is whole, with a good number, is judged by its body
pub whole_record : (ed : Edition) (t : List ℕ) → 10 + (head_of t).len ≤ length t → number_ok (head_of t).number ≡ true → read_record ed t ≡ body_judged (judge_body ed (body_of t)) (head_of t)
whole_record ed t w o = sym (record_judged ed t (head_of t) refl (omega arith) (omega arith) o (judge_body ed (body_of t)) (ap (judge_body ed) (sym (body_cut t (head_of t).len refl))))

-- a number that is good is in range, and the other way round
pub number_range : (n : ℕ) → number_ok n ≡ true → (1 ≤ n) × (n ≤ last_number)
unfolding number_ok
number_range n o = let r = both_true {a = leb 1 n} {b = leb n last_number} o in (leb-true 1 n r.0, leb-true n last_number r.1)

pub number_in : (n : ℕ) → 1 ≤ n → n ≤ last_number → number_ok n ≡ true
unfolding number_ok both
number_in n a b = rw (le-leb 1 n a, le-leb n last_number b) refl

-- what is known of a good record: its number is in range, and its body good
pub record GoodRec (ed : Edition) (c : Rec) : Type 0 where
  pub number_from : 1 ≤ c.number
  pub number_to : c.number ≤ last_number
  pub body_good : good_body ed c.body ≡ true

-- what reading the first record of t says: a good one lies within t, and a bad one is bad where it is said to be
abbrev pub Held : (ed : Edition) → Result Head Fault → List ℕ → Type 0
Held ed (Ok h) t = (h ≡ head_of t) × (10 + h.len ≤ length t) × GoodRec ed (rec_of t)
Held ed (Err f) t = BadRecord ed t f

-- a record whose body has come whole, with a good number: the body decides
judged_held : (ed : Edition) (t : List ℕ) → 10 + (head_of t).len ≤ length t → number_ok (head_of t).number ≡ true → Held ed (body_judged (judge_body ed (body_of t)) (head_of t)) t
unfolding body_judged
judged_held ed t w o = go (judgement ed (body_of t))
  where
    go : Judgement ed (body_of t) → Held ed (body_judged (judge_body ed (body_of t)) (head_of t)) t
    go (good k e g z) =
        let r = number_range (field t 0 8) o in
        rw e (
          refl,
          w,
          record { number_from = r.0; number_to = r.1; body_good = g },
        )
    go (bad_judged f e g h) = rw e (bad_body f w o h)

pub record_held : (ed : Edition) (t : List ℕ) → Held ed (read_record ed t) t
unfolding read_record
record_held ed t =
    pick_ind (λ r. Held ed r t) (ltb (length t) 10) _ _ (λ a. no_room (omega (arith, ltb-true (length t) 10 a)))
    (λ a. pick_ind (λ r. Held ed r t) (ltb (length t - 10) (field t 8 2)) _ _ (λ b. no_room (omega (arith, ltb-true (length t - 10) (field t 8 2) b)))
    (λ b.
    let w : 10 + field t 8 2 ≤ length t = omega (arith, ltb-false (length t) 10 a, ltb-false (length t - 10) (field t 8 2) b) in
    pick_ind (λ r. Held ed r t) (number_ok (field t 0 8)) _ _ (λ o. judged_held ed t w o) (λ o. bad_number w o)))

-- the body of a record that is whole has the length that its header says
pub body_length : (t : List ℕ) → 10 + (head_of t).len ≤ length t → length (body_of t) ≡ (head_of t).len
unfolding body_of
body_length t w = length-take-le (field t 8 2) (drop 10 t) (rw length-drop (omega arith))

pub record_within : (ed : Edition) (t : List ℕ) (f : Fault) → BadRecord ed t f → (f.at ≤ length t) × (2 ≤ f.number) × (f.number ≤ 5)
record_within ed t _ (no_room l) = (omega arith, omega arith, omega arith)
record_within ed t _ (bad_number w o) = (omega arith, omega arith, omega arith)
record_within ed t _ (bad_body f w o h) = (omega (arith, body_within ed (body_of t) f h, body_length t w), (by_number h).0, (by_number h).1)
  where
    by_number : BadBody ed (body_of t) f → (2 ≤ f.number) × (f.number ≤ 5)
    by_number (inl h) = (omega (arith, h.0), omega (arith, h.0))
    by_number (inr h) = (omega (arith, h.0), omega (arith, h.0))

behind_cong : (F G : List ℕ → Framing) (t : List ℕ) (r : Result Head Fault) → ((n : ℕ) → F (drop (10 + n) t) ≡ G (drop (10 + n) t)) → behind F t r ≡ behind G t r
unfolding behind
behind_cong F G t (Ok h) e = ap (before (10 + h.len) (rec_of t)) (e h.len)
behind_cong F G t (Err f) e = refl

-- more turns than there are bytes change nothing
pub enough : (ed : Edition) (f g : ℕ) (t : List ℕ) → length t ≤ f → length t ≤ g → frames_from ed f t ≡ frames_from ed g t
unfolding frames_from pick
enough ed zero zero t a b = refl
enough ed zero (suc g) t a b = simp (le-ltb 0 (length t) a)
enough ed (suc f) zero t a b = simp (le-ltb 0 (length t) b)
enough ed (suc f) (suc g) t a b =
    ap (λ x. pick (ltb 0 (length t)) x (records []))
    (behind_cong (frames_from ed f) (frames_from ed g) t (read_record ed t)
    (λ n. enough ed f g (drop (10 + n) t) (rw length-drop (omega arith)) (rw length-drop (omega arith))))

-- one record
pub frames_step : (ed : Edition) (f : ℕ) (t : List ℕ) → 0 < length t → length t ≤ f → frames_from ed f t ≡ behind (frames_from ed f) t (read_record ed t)
unfolding frames_from pick
frames_step ed zero t a b = absurd (omega arith)
frames_step ed (suc f) t a b =
    simp (lt-ltb 0 (length t) a)
    (behind_cong (frames_from ed f) (frames_from ed (suc f)) t (read_record ed t)
    (λ n. enough ed f (suc f) (drop (10 + n) t) (rw length-drop (omega arith)) (rw length-drop (omega arith))))

pub frames_end : (ed : Edition) (f : ℕ) (p : List ℕ) (at : ℕ) → length p ≤ at → frames_from ed f (drop at p) ≡ records []
unfolding frames_from pick
frames_end ed zero p at h = refl
frames_end ed (suc f) p at h = simp (le-ltb 0 (length (drop at p)) (rw length-drop (omega arith)))

-- an answer, with i records in n bytes before it
unfoldable pub more : ℕ → ℕ → Result ℕ Why → Result ℕ Why
more n i (Ok k) = Ok (i + k)
more n i (Err (Why.Alone r)) = Err (Why.Alone r)
more n i (Err (Why.Placed f)) = Err (Why.Placed (shifted n f))

pub more_none : (x : Result ℕ Why) → x ≡ more 0 0 x
unfolding more
more_none (Ok k) = ap Ok (sym (zero-add k))
more_none (Err (Why.Alone r)) = refl
more_none (Err (Why.Placed f)) = ap (λ q. Err (Why.Placed q)) (sym (shift_none f))

told_before : (n i m : ℕ) (c : Rec) (x : Framing) → more n i (told (before m c x)) ≡ more (n + m) (i + 1) (told x)
unfolding told before more
told_before n i m c (bad (Why.Alone r)) = refl
told_before n i m c (bad (Why.Placed f)) = ap (λ q. Err (Why.Placed q)) (shift_shift n m f)
told_before n i m c (records cs) = ap Ok (sum i (length cs))
  where
    sum : (a b : ℕ) → a + suc b ≡ a + 1 + b
    sum a b = omega arith

-- a turn of the loop over a packet: i records lie before `at`, and r is what was read there
module _ (ed : Edition) (p : List ℕ) (at i : ℕ) (r : Result Head Fault) (in_p : at < length p) (read : r ≡ read_record ed (take (length p - at) (drop at p))) where
  pub here : read_record ed (drop at p) ≡ r
  here = sym (read ∙ ap (read_record ed) (rest p at))

  stepped : frames_from ed (length p) (drop at p) ≡ behind (frames_from ed (length p)) (drop at p) r
  stepped =
      frames_step ed (length p) (drop at p) (rw length-drop (omega arith)) (rw length-drop (omega arith))
      ∙ ap (behind (frames_from ed (length p)) (drop at p)) here

  -- a bad one is bad within the packet or at its end, and its fault is the packet's, `at` bytes further on
  pub at_bad : (f : Fault) → r ≡ Err f → (at + f.at ≤ length p) × (more at i (told (frames_from ed (length p) (drop at p))) ≡ Err (Why.Placed (shifted at f)))
  unfolding behind told more
  at_bad f e =
      let w : BadRecord ed (drop at p) f = subst (λ (x : Result Head Fault). Held ed x (drop at p)) (here ∙ e) (record_held ed (drop at p)) in (
        omega (arith, length-drop at p, (record_within ed (drop at p) f w).0),
        ap (λ x. more at i (told x)) (stepped ∙ ap (behind (frames_from ed (length p)) (drop at p)) e),
      )

  pub at_good : (h : Head) → r ≡ Ok h → (at + (10 + h.len) ≤ length p) × (more at i (told (frames_from ed (length p) (drop at p))) ≡ more (at + (10 + h.len)) (i + 1) (told (frames_from ed (length p) (drop (at + (10 + h.len)) p))))
  unfolding behind
  at_good h e =
      let w : 10 + h.len ≤ length (drop at p) = (subst (λ (x : Result Head Fault). Held ed x (drop at p)) (here ∙ e) (record_held ed (drop at p))).1 in (
        omega (arith, length-drop at p, w),
        ap (λ x. more at i (told x)) (stepped ∙ ap (behind (frames_from ed (length p)) (drop at p)) e)
            ∙ told_before at i (10 + h.len) (rec_of (drop at p)) (frames_from ed (length p) (drop (10 + h.len) (drop at p)))
            ∙ ap (λ x. more (at + (10 + h.len)) (i + 1) (told (frames_from ed (length p) x))) (drop-drop (10 + h.len) at p),
      )

-- "records from the front, each by 2, 5, 3, 4": what is wrong where good records lead to is what the packet is refused by, so many bytes further on
reached_bad : (ed : Edition) (p : List ℕ) (at : ℕ) (w : Why) → Reached ed p at → frames_from ed (length p) (drop at p) ≡ bad w → frames_from ed (length p) p ≡ bad (later at w)
unfolding behind before
reached_bad ed p _ w at_front e = e ∙ ap bad (sym (later_none w))
reached_bad ed p _ w (past_good at h r l g) e =
    reached_bad ed p at (later (10 + h.len) w) r
    (frames_step ed (length p) (drop at p) (rw length-drop (omega arith)) (rw length-drop (omega arith))
    ∙ (ap (behind (frames_from ed (length p)) (drop at p)) g ∙ ap (before (10 + h.len) (rec_of (drop at p))) (ap (frames_from ed (length p)) (drop-drop (10 + h.len) at p) ∙ e)))
    ∙ ap bad (later_later at (10 + h.len) w)

pub first_bad : (ed : Edition) (p : List ℕ) (at : ℕ) (f : Fault) → length p ≤ packet_most → at < length p → Reached ed p at → read_record ed (drop at p) ≡ Err f → framing ed p ≡ bad (Why.Placed (shifted at f))
unfolding framing behind pick both
first_bad ed p at f m l w e =
    let some : 1 ≤ length p = omega arith in
    simp (le-leb 1 (length p) some, le-leb (length p) packet_most m)
    (reached_bad ed p at (Why.Placed f) w
    (frames_step ed (length p) (drop at p) (rw length-drop (omega arith)) (rw length-drop (omega arith)) ∙ ap (behind (frames_from ed (length p)) (drop at p)) e))

-- the loop's end: i records and no more
pub at_end : (ed : Edition) (p : List ℕ) (at i : ℕ) → length p ≤ at → more at i (told (frames_from ed (length p) (drop at p))) ≡ Ok i
unfolding told more
at_end ed p at i h = ap (λ x. more at i (told x)) (frames_end ed (length p) p at h) ∙ ap Ok (add-zero i)

-- a packet of a right size is its records; else 1
pub packet_is : (ed : Edition) (p : List ℕ) → 1 ≤ length p → length p ≤ packet_most → read_packet ed p ≡ told (frames_from ed (length p) p)
unfolding read_packet framing pick both
packet_is ed p a b = simp (le-leb 1 (length p) a, le-leb (length p) packet_most b)

pub packet_long : (ed : Edition) (p : List ℕ) → packet_most < length p → Err (Why.Alone (refusal 1)) ≡ read_packet ed p
unfolding read_packet framing told pick both
packet_long ed p a =
    let b : 1 ≤ length p = omega arith in
    simp (le-leb 1 (length p) b, lt-leb (length p) packet_most a)

pub packet_empty : (ed : Edition) (p : List ℕ) → length p < 1 → Err (Why.Alone (refusal 1)) ≡ read_packet ed p
unfolding read_packet framing told pick both
packet_empty ed p a = simp (lt-leb 1 (length p) a)
