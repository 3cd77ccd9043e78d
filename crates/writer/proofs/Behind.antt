-- A record that was written stands behind a packet so far that was good or empty, so that both are read one after the other; and the records of a packet that was read, written one by one, are that packet.
-- Assumes nothing.
use mathlib.Core.Path.{◌≡◌, refl, sym, ap, subst, ◌∙◌}
use mathlib.Core.List.{List, [], ◌∷◌, ◌++◌, append_assoc}
use mathlib.Core.Bool.{true}
use mathlib.Core.Logic.{inl, inr}
use Prim.Native.Nat.{ℕ, ◌+◌, ◌≤◌, ◌<◌}
use native.Mathlib.Nat.{add_assoc, add-zero, zero-add}
use native.Mathlib.Omega.{arith}
use native.Mathlib.Decide.{dec_lt}
use lib.ListN.{length, take, drop, length-append}
use lib.Seq.{sets, sets-eq, length-sets, take_at, drop_at, length-take-le}
use lib.Dec.{eqb, leb}
use borrow.Author.Tests.{eqb-true, eq-eqb, le-leb, leb-true}
use Rattle.facts.specs.Limits.{packet_most}
use Rattle.facts.specs.Pick.{pick, both}
use Rattle.facts.proofs.Picks.{pick_cases, pick_ind}
use Rattle.facts.proofs.Stores.{sets_append}
use Rattle.editions.specs.declared.Edition.{Edition}
use Rattle.wire.specs.Le.{Bytes}
use Rattle.wire.specs.Records.{Rec, rec, records}
use Rattle.kinds.specs.Table.{type_of}
use Rattle.layout.specs.Message.{Message, written, Fit}
use Rattle.fields.specs.Fields.{refusal}
use Rattle.fields.specs.declared.Refusal.{Refusal}
use Rattle.fields.specs.declared.Fault.{Fault}
use Rattle.body.specs.Read.{judge_body, judged_number, good_body}
use Rattle.packet.specs.Record.{number_ok}
use Rattle.packet.specs.Packet.{frames_from, framing, told, read_packet}
use Rattle.std.specs.Prelude.{Result, Ok, Err}
use Rattle.packet.specs.declared.Why.{Why}
use Rattle.packet.proofs.Laws.{GoodRec, number_in, number_range, frames_end, packet_is}
use Rattle.packet.proofs.Places.{packet_small}
use Rattle.packet.proofs.Good.{AllGood, Fine, framing_size, good_framing, framing_fine}
use Rattle.numbers.specs.Drafts.{draft_number, draft_body}
use Rattle.numbers.specs.Back.{numbers_read, text_read, WrittenBack, ReadBack}
use Rattle.numbers.proofs.Drafts.{written_back, read_back}
use Rattle.trips.specs.Messages.{fault_in}
use Rattle.trips.specs.Records.{record_bytes, packet_bytes, length_first}
use Rattle.trips.proofs.Messages.{written_judged}
use Rattle.trips.proofs.Records.{length_record, frames_of, frames_join, frames_record, packet_written}
use Rattle.writer.specs.Append.{Writing, writing, refused_by, put, where_read, behind, room_number, so_far, own_number, appended_as, appended, numbers_appended, packet_appended}
use Rattle.writer.specs.Behind.{Grown, next_to, appended_all}
use Rattle.writer.proofs.Numbers.{numbers_as_body}
use Rattle.writer.proofs.Laws.{Allowed, allowed, put_stored, good_here, so_far_empty, so_far_some, none_refuses}

-- two answers of different kinds are not one
abbrev OtherAnswer : (w : Result ℕ Why) (l : ℕ) → Type 0
OtherAnswer (Ok n) l = n ≡ l
OtherAnswer (Err r) l = ⊥

same_answer : (w : Result ℕ Why) (l : ℕ) → w ≡ Ok l → OtherAnswer w l
same_answer w l e = subst (λ (x : Result ℕ Why). OtherAnswer x l) (sym e) refl

-- what was written: the packet so far was good, nothing refused the record, and its bytes are stored
pub record Stored (r : Result ℕ Why) (k : ℕ) (m : List ℕ) (at : ℕ) (s : List ℕ) (l : ℕ) (w : List ℕ) : Type 0 where
  pub records_so_far : ℕ
  pub read_good : r ≡ Ok records_so_far
  pub none : k ≡ 0
  pub within : at ≤ length m
  pub length_is : l ≡ at + length s
  pub memory_is : w ≡ sets m at s

pub stored_is : (r : Result ℕ Why) (k : ℕ) (m : List ℕ) (at : ℕ) (s : List ℕ) (l : ℕ) (w : List ℕ) → behind r k m at s ≡ writing (Ok l) w → Stored r k m at s l w
unfolding behind where_read put
stored_is r k m at s l w e = elim (pick_cases e) [ inl h ↦ by_read r refl (leb-true at (length m) h.0) h.1 | inr h ↦ absurd (same_answer (Err (Why.Alone (refusal 32))) l (ap (λ (x : Writing). x.answer) h.1)) ]
  where
    by_read : (q : Result ℕ Why) → r ≡ q → at ≤ length m → where_read q m (put k m at s) ≡ writing (Ok l) w → Stored r k m at s l w
    by_read (Err x) q i f = absurd (same_answer (Err x) l (ap (λ (y : Writing). y.answer) f))
    by_read (Ok n) q i f =
        elim (pick_cases f) [
          | inl h ↦ record { records_so_far = n; read_good = q; none = eqb-true k 0 h.0; within = i; length_is = sym (same_answer (Ok (at + length s)) l (ap (λ (x : Writing). x.answer) h.1)); memory_is = sym (ap (λ (x : Writing). x.memory) h.1) }
          | inr h ↦ absurd (same_answer (Err (Why.Alone (refusal k))) l (ap (λ (x : Writing). x.answer) h.1))
        ]

-- the records of a packet so far
so_far_records : (ed : Edition) (p : List ℕ) (n : ℕ) → so_far ed p ≡ Ok n → (cs : List Rec) × (frames_of ed p ≡ records cs)
unfolding so_far
so_far_records ed p n e =
    elim (pick_cases e) [
      | inl h ↦ ([], frames_end ed (length p) p 0 (omega (arith, eqb-true (length p) 0 h.0)))
      | inr h ↦ let g = good_framing ed p n h.1 in (g.0, (framing_size ed p g.0 g.1).2)
    ]

good_rec : (ed : Edition) (n : ℕ) (b : List ℕ) → number_ok n ≡ true → judged_number (judge_body ed b) ≡ 0 → GoodRec ed (rec n b)
unfolding good_body
good_rec ed n b o z = let r = number_range n o in record { number_from = r.0; number_to = r.1; body_good = eq-eqb (judged_number (judge_body ed b)) 0 z }

-- ---- "the whole packet is good, its records those before and the new one"
pub append_reads : (ed : Edition) (m : List ℕ) (at n : ℕ) (b : List ℕ) (l : ℕ) (w : List ℕ) → appended ed m at n b ≡ writing (Ok l) w → Grown ed m at n b l w
unfolding appended appended_as framing pick both
append_reads ed m at n b l w e =
    let s : List ℕ = record_bytes n b in
    let x = stored_is (so_far ed (take at m)) (own_number (judged_number (judge_body ed b)) n (length m) (at + length s)) m at s l w e in
    let k : Allowed (judged_number (judge_body ed b)) n (length m) (at + length s) = allowed (judged_number (judge_body ed b)) n (length m) (at + length s) x.none in
    let cs = so_far_records ed (take at m) x.records_so_far x.read_good in
    let g : GoodRec ed (rec n b) = good_rec ed n b k.good_number k.message_ok in
    let a : length (take at m) ≡ at = length-take-le at m x.within in
    let room : at + length s ≤ length m = k.in_room in
    let put_is : w ≡ take at m ++ s ++ drop (at + length s) m = x.memory_is ∙ sets-eq s m at room in
    let long : length (take at m ++ s) ≡ l = rw length-append (omega (arith, x.length_is)) in
    let whole : take l w ≡ take at m ++ s = rw put_is (take_at (take at m ++ s) (drop (at + length s) m) l long) in
    let some : 1 ≤ length (take at m ++ s) = rw long (omega (arith, x.length_is, length_record n b)) in
    let most : length (take at m ++ s) ≤ packet_most = rw long (omega (arith, x.length_is, k.in_packet)) in
    let frames = frames_join ed (take at m) s cs.0 (rec n b ∷ []) cs.1 (frames_record ed n b g) in
    record {
      old = cs.0;
      old_are = ap (λ (f : ℕ). frames_from ed f (take at m)) (sym a) ∙ cs.1;
      reads = rw (whole, le-leb 1 (length (take at m ++ s)) some, le-leb (length (take at m ++ s)) packet_most most) frames;
      length_is = x.length_is ∙ ap (λ (j : ℕ). at + j) (length_record n b);
      front_stays = rw (put_is, append_assoc (take at m) s (drop (at + length s) m)) (take_at (take at m) (s ++ drop (at + length s) m) at a);
      rest_stays = rw put_is (drop_at (take at m ++ s) (drop (at + length s) m) l long) ∙ ap (λ (j : ℕ). drop j m) (sym x.length_is);
      size_stays = ap length x.memory_is ∙ length-sets m at s;
    }

-- ---- "A record goes, from a number and fields": of fields that fit, 4 where one is out of range, and never 3
pub from_fields : {M : Type 0} (ed : Edition) (s : Message M) → 1 ≤ type_of s.kind → (v : M) → Fit s v → (m : List ℕ) (at n : ℕ) → appended ed m at n (written s v) ≡ appended_as ed (pick (eqb (fault_in ed s v) 0) 0 4) m at n (written s v)
unfolding appended
from_fields ed s t v f m at n = ap (λ (k : ℕ). appended_as ed k m at n (written s v)) (written_judged ed s t v f)

-- ---- record by record
-- a packet so far whose records are read is good
so_far_good : (ed : Edition) (q : List ℕ) (ds : List Rec) → frames_of ed q ≡ records ds → length q ≤ packet_most → (n : ℕ) × (so_far ed q ≡ Ok n)
unfolding told
so_far_good ed q ds e l = go (dec_lt 0 (length q))
  where
    go : Dec (0 < length q) → (n : ℕ) × (so_far ed q ≡ Ok n)
    go (yes a) = (length ds, sym (so_far_some ed q (λ z. omega arith)) ∙ (packet_is ed q (omega arith) l ∙ ap told e))
    go (no a) = (0, sym (so_far_empty ed q (omega arith)))

-- a good record that fits is written behind it
appended_good : (ed : Edition) (m : List ℕ) (at n : ℕ) (b : List ℕ) (ds : List Rec) → frames_of ed (take at m) ≡ records ds → GoodRec ed (rec n b) → at + length (record_bytes n b) ≤ packet_most → at + length (record_bytes n b) ≤ length m → appended ed m at n b ≡ writing (Ok (at + length (record_bytes n b))) (sets m at (record_bytes n b))
unfolding appended appended_as good_body
appended_good ed m at n b ds e g most room =
    let s : List ℕ = record_bytes n b in
    let new : ℕ = at + length s in
    let why : ℕ = judged_number (judge_body ed b) in
    let z : why ≡ 0 = eqb-true why 0 g.body_good in
    let o : number_ok n ≡ true = number_in n g.number_from g.number_to in
    let own : 0 ≡ own_number why n (length m) new = none_refuses why n (length m) new o z (le-leb new packet_most most) (le-leb new (length m) room) in
    let in_m : at ≤ length m = omega arith in
    let a : length (take at m) ≡ at = length-take-le at m in_m in
    let x = so_far_good ed (take at m) ds e (rw a (omega arith)) in
    sym (good_here (so_far ed (take at m)) (own_number why n (length m) new) m at s x.0 in_m x.1) ∙ sym (put_stored (own_number why n (length m) new) m at s (sym own))

all_written : (ed : Edition) (cs : List Rec) (m : List ℕ) (at : ℕ) (ds : List Rec) → frames_of ed (take at m) ≡ records ds → AllGood ed cs → at + length (packet_bytes cs) ≤ packet_most → at + length (packet_bytes cs) ≤ length m → appended_all ed cs m at ≡ writing (Ok (at + length (packet_bytes cs))) (sets m at (packet_bytes cs))
unfolding appended_all next_to packet_bytes
all_written ed [] m at ds e g most room = rw (add-zero at) refl
all_written ed (c ∷ cs) m at ds e g most room =
    let s : List ℕ = record_bytes c.number c.body in
    let q : List ℕ = packet_bytes cs in
    let both_long : length (s ++ q) ≡ length s + length q = length-append s q in
    let one = appended_good ed m at c.number c.body ds e g.0 (omega arith) (omega arith) in
    let w : List ℕ = sets m at s in
    let a : length (take at m) ≡ at = length-take-le at m (omega arith) in
    let long : length (take at m ++ s) ≡ at + length s = rw length-append (omega arith) in
    let front : take (at + length s) w ≡ take at m ++ s = rw (sets-eq s m at (omega arith)) (take_at (take at m ++ s) (drop (at + length s) m) (at + length s) long) in
    let frames : frames_of ed (take (at + length s) w) ≡ records (ds ++ (c ∷ [])) = rw front (frames_join ed (take at m) s ds (c ∷ []) e (frames_record ed c.number c.body g.0)) in
    let size : length w ≡ length m = length-sets m at s in
    let rest = all_written ed cs w (at + length s) (ds ++ (c ∷ [])) frames g.1 (omega arith) (omega arith) in
    ap (next_to (appended_all ed cs)) one
    ∙ (rest ∙ rw (← sets_append s q m at, add_assoc at (length s) (length q), both_long) refl)

-- "a packet written record by record is the packet read record by record": and so a packet that any reader accepts can be written
pub record_by_record : (ed : Edition) (p : List ℕ) (cs : List Rec) (m : List ℕ) → Bytes p → framing ed p ≡ records cs → length p ≤ length m → appended_all ed cs m 0 ≡ writing (Ok (length p)) (p ++ drop (length p) m)
record_by_record ed p cs m h e l =
    let s = framing_size ed p cs e in
    let is : packet_bytes cs ≡ p = packet_written ed p cs h e in
    let g : AllGood ed cs = subst (Fine ed (length p)) e (framing_fine ed p) in
    let none : frames_of ed (take 0 m) ≡ records [] = frames_end ed 0 [] 0 (omega arith) in
    let most : 0 + length (packet_bytes cs) ≤ packet_most = rw is (omega (arith, s.1)) in
    let room : 0 + length (packet_bytes cs) ≤ length m = rw is (omega arith) in
    let all = all_written ed cs m 0 [] none g most room in
    all ∙ rw (is, zero-add (length p)) (ap (writing (Ok (length p))) (sets-eq p m 0 (omega arith) ∙ rw (zero-add (length p)) refl))

-- ---- "and writes nothing": whatever goes behind what is there, a record or a packet, an answer that is no length leaves every byte
pub refusal_keeps : (r : Result ℕ Why) (k : ℕ) (m : List ℕ) (at : ℕ) (s : List ℕ) → ((l : ℕ) → (behind r k m at s).answer ≡ Ok l → ⊥) → (behind r k m at s).memory ≡ m
unfolding behind where_read put
refusal_keeps r k m at s = pick_ind Kept (leb at (length m)) (where_read r m (put k m at s)) (refused_by 32 m) (λ _. by_read r) (λ _ h. refl)
  where
    Kept : Writing → Type 0
    Kept w = ((l : ℕ) → w.answer ≡ Ok l → ⊥) → w.memory ≡ m

    by_put : Kept (put k m at s)
    by_put = pick_ind Kept (eqb k 0) (writing (Ok (at + length s)) (sets m at s)) (refused_by k m) (λ _ h. absurd (h (at + length s) refl)) (λ _ h. refl)

    by_read : (q : Result ℕ Why) → Kept (where_read q m (put k m at s))
    by_read (Ok n) h = by_put h
    by_read (Err x) h = refl

-- ---- where an offset is told, it is the reader's, of the packet so far or of the packet
bad_read : (r : Result ℕ Why) (k : ℕ) (m : List ℕ) (at : ℕ) (s : List ℕ) (f : Fault) → (behind r k m at s).answer ≡ Err (Why.Placed f) → r ≡ Err (Why.Placed f)
unfolding behind where_read put
bad_read r k m at s f e = pick_ind Told (leb at (length m)) (where_read r m (put k m at s)) (refused_by 32 m) (λ _. by_read r) (λ _ h. absurd (not_bad h)) e
  where
    Told : Writing → Type 0
    Told w = w.answer ≡ Err (Why.Placed f) → r ≡ Err (Why.Placed f)

    not_bad : {x : Refusal} → ◌≡◌ {A = Result ℕ Why} (Err (Why.Alone x)) (Err (Why.Placed f)) → ⊥
    not_bad h = let z : ◌≡◌ {A = ℕ} 0 1 = cc in omega arith

    no_length : {n : ℕ} → ◌≡◌ {A = Result ℕ Why} (Ok n) (Err (Why.Placed f)) → ⊥
    no_length h = let z : ◌≡◌ {A = ℕ} 0 1 = cc in omega arith

    by_put : (put k m at s).answer ≡ Err (Why.Placed f) → ⊥
    by_put = pick_ind (λ (w : Writing). w.answer ≡ Err (Why.Placed f) → ⊥) (eqb k 0) (writing (Ok (at + length s)) (sets m at s)) (refused_by k m) (λ _ h. no_length h) (λ _ h. not_bad h)

    by_read : (q : Result ℕ Why) → (where_read q m (put k m at s)).answer ≡ Err (Why.Placed f) → q ≡ Err (Why.Placed f)
    by_read (Ok n) h = absurd (by_put h)
    by_read (Err x) h = h

pub append_small : (ed : Edition) (why : ℕ) (m : List ℕ) (at n : ℕ) (b : List ℕ) (f : Fault) → (appended_as ed why m at n b).answer ≡ Err (Why.Placed f) → f.at ≤ packet_most
unfolding appended_as so_far
append_small ed why m at n b f e =
    let q = bad_read (so_far ed (take at m)) (own_number why n (length m) (at + length (record_bytes n b))) m at (record_bytes n b) f e in
    elim (pick_cases q) [ inl h ↦ let z = h.1 in let y : ◌≡◌ {A = ℕ} 0 1 = cc in absurd (omega arith) | inr h ↦ packet_small ed (take at m) f h.1 ]

pub packet_append_small : (ed : Edition) (m : List ℕ) (at : ℕ) (p : List ℕ) (f : Fault) → (packet_appended ed m at p).answer ≡ Err (Why.Placed f) → f.at ≤ packet_most
unfolding packet_appended
packet_append_small ed m at p f e = packet_small ed p f (bad_read (read_packet ed p) (room_number (length m) (at + length (length_first p))) m at (length_first p) f e)

-- ---- from numbers and text, as C has them
-- a call that answers a length wrote the body that they stand for, and what is read of it stands for the same fields
pub numbers_reads : (ed : Edition) (m : List ℕ) (at n : ℕ) (l x : List ℕ) (k : ℕ) (w : List ℕ) → numbers_appended ed m at n l x ≡ writing (Ok k) w → Grown ed m at n (draft_body ed l x) k w × ReadBack ed l x
unfolding numbers_appended appended_as
numbers_reads ed m at n l x k w e =
    let b : List ℕ = draft_body ed l x in
    let new : ℕ = at + length (record_bytes n b) in
    let s = stored_is (so_far ed (take at m)) (own_number (draft_number ed l x) n (length m) new) m at (record_bytes n b) k w e in
    let z : draft_number ed l x ≡ 0 = (allowed (draft_number ed l x) n (length m) new s.none).message_ok in
    (append_reads ed m at n b k w (sym (numbers_as_body ed l x m at n z) ∙ e), read_back ed l x z)

-- "so that what was read can be written": what is told of a good body is written as that body
pub read_appended : (ed : Edition) (b : List ℕ) → Bytes b → good_body ed b ≡ true → (m : List ℕ) (at n : ℕ) → numbers_appended ed m at n (numbers_read ed b) (text_read ed b) ≡ appended ed m at n b
read_appended ed b h g m at n =
    let w : WrittenBack ed b = written_back ed b g h in
    numbers_as_body ed (numbers_read ed b) (text_read ed b) m at n w.allowed ∙ ap (appended ed m at n) w.same_bytes
