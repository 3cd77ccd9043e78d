-- A packet is rewritten record by record, and the loop in the code keeps: what lies before `at` is rewritten, what follows is as it was, and both together come to the whole.
-- Assumes nothing.
use Prim.Native.Nat.{ℕ, zero, suc, ◌+◌, ◌≤◌, ◌<◌}
use mathlib.Core.Path.{◌≡◌, refl, sym, ap, subst, ◌∙◌}
use mathlib.Core.Bool.{Bool, true, false}
use mathlib.Core.List.{List, [], ◌∷◌, ◌++◌, append-nil, append_assoc}
use mathlib.Core.Logic.{◌⊎◌, inl, inr}
use native.Mathlib.Nat.{add-zero}
use native.Mathlib.Omega.{arith}
use lib.ListN.{length, take, drop, length-append, length-take, length-drop, drop_of_length-le}
use lib.Seq.{take_at, drop_at, take_all, take-add, drop-drop, length-take-le}
use lib.Dec.{ltb}
use borrow.Author.Tests.{le-ltb, lt-ltb}
use Rattle.facts.specs.Pick.{pick}
use Rattle.facts.specs.Sums.{sum_by, only_if, count_by}
use Rattle.facts.proofs.Picks.{pick_ind}
use Rattle.facts.proofs.SumLaws.{only_yes, only_no}
use Rattle.editions.specs.declared.Edition.{Edition}
use Rattle.wire.specs.Le.{field}
use Rattle.wire.specs.Records.{Rec, records}
use Rattle.packet.specs.Record.{head_of, body_of, rec_of}
use Rattle.packet.specs.Packet.{frames_from, framing}
use Rattle.packet.specs.declared.Head.{Head}
use Rattle.packet.proofs.Laws.{body_part}
use Rattle.packet.proofs.Good.{Step, step, step_end, framing_size}
use Rattle.retype.specs.Retyped.{Asked, is_update, retyped, Retyping, retyping, retypes}
use Rattle.retype.proofs.Laws.{retyped_length}
use Rattle.conversion.specs.Packet.{record_to, records_to, rewritten, updates_in, IsPacket}

-- ---- a part of a list that a call has changed, of k elements from `at` on
module _ (p s : List ℕ) (at k : ℕ) (fits : at + k ≤ length p) (size : length s ≡ k) where
  abbrev pub pasted : List ℕ
  pasted = take at p ++ (s ++ drop k (drop at p))

  front_size : length (take at p ++ s) ≡ at + k
  front_size = length-append (take at p) s ∙ rw (length-take-le at p (omega arith), size)

  in_two : pasted ≡ take at p ++ s ++ drop (at + k) p
  in_two = sym (append_assoc (take at p) s (drop k (drop at p))) ∙ ap (λ (x : List ℕ). take at p ++ s ++ x) (drop-drop k at p)

  pub pasted_front : take (at + k) pasted ≡ take at p ++ s
  pasted_front = ap (take (at + k)) in_two ∙ take_at (take at p ++ s) (drop (at + k) p) (at + k) front_size

  pub pasted_rest : drop (at + k) pasted ≡ drop (at + k) p
  pasted_rest = ap (drop (at + k)) in_two ∙ drop_at (take at p ++ s) (drop (at + k) p) (at + k) front_size

  pub pasted_size : length pasted ≡ length p
  pasted_size = ap length in_two ∙ length-append (take at p ++ s) (drop (at + k) p) ∙ omega (arith, front_size, length-drop (at + k) p)

module _ (a : Asked) where
  -- ---- one record, then the rest; more turns than there are bytes change nothing
  to_enough : (f g : ℕ) (t : List ℕ) → length t ≤ f → length t ≤ g → records_to a f t ≡ records_to a g t
  unfolding records_to pick
  to_enough zero zero t l m = refl
  to_enough zero (suc g) t l m = simp (le-ltb 0 (length t) l)
  to_enough (suc f) zero t l m = simp (le-ltb 0 (length t) m)
  to_enough (suc f) (suc g) t l m = ap (λ (x : List ℕ). pick (ltb 0 (length t)) (record_to a t ++ x) t) (to_enough f g (drop (10 + field t 8 2) t) (rw length-drop (omega arith)) (rw length-drop (omega arith)))

  pub rewritten_none : rewritten a [] ≡ []
  unfolding rewritten records_to pick
  rewritten_none = refl

  by_turns : (f : ℕ) (t : List ℕ) → 0 < length t → length t ≤ f → records_to a f t ≡ record_to a t ++ rewritten a (drop (10 + field t 8 2) t)
  unfolding rewritten records_to pick
  by_turns zero t l m = absurd (omega arith)
  by_turns (suc f) t l m =
      let u : List ℕ = drop (10 + field t 8 2) t in
      simp (lt-ltb 0 (length t) l) (ap (λ (x : List ℕ). record_to a t ++ x) (to_enough f (length u) u (rw length-drop (omega arith)) (omega arith)))

  pub rewritten_more : (t : List ℕ) → 0 < length t → rewritten a t ≡ record_to a t ++ rewritten a (drop (10 + field t 8 2) t)
  unfolding rewritten
  rewritten_more t l = by_turns (length t) t l (omega arith)

  -- ---- its length
  pub record_length : (t : List ℕ) → length (record_to a t) + length (drop (10 + field t 8 2) t) ≡ length t
  unfolding record_to body_of
  record_length t =
      omega (arith, length-append (take 10 t) (retyped a (body_of t)), retyped_length a (body_of t), length-take 10 t, length-take (field t 8 2) (drop 10 t), length-drop 10 t, length-drop (10 + field t 8 2) t)

  turns_length : (f : ℕ) (t : List ℕ) → length (records_to a f t) ≡ length t
  unfolding records_to
  turns_length zero t = refl
  turns_length (suc f) t =
      let u : List ℕ = drop (10 + field t 8 2) t in
      pick_ind (λ (x : List ℕ). length x ≡ length t) (ltb 0 (length t)) (record_to a t ++ records_to a f u) t
      (λ _. omega (arith, length-append (record_to a t) (records_to a f u), turns_length f u, record_length t))
      (λ _. refl)

  pub rewritten_length : (p : List ℕ) → length (rewritten a p) ≡ length p
  unfolding rewritten
  rewritten_length p = turns_length (length p) p

  -- ---- the loop: the packet p₀ at its entry, p now
  pub record Walked (p₀ p : List ℕ) (at : ℕ) : Type 0 where
    pub as_it_was : drop at p ≡ drop at p₀
    pub comes_to : take at p ++ rewritten a (drop at p₀) ≡ rewritten a p₀

  pub walk_none : (p : List ℕ) → Walked p p 0
  walk_none p = record { as_it_was = refl; comes_to = refl }

  pub walk_end : (p₀ p : List ℕ) (at : ℕ) → length p ≡ length p₀ → length p ≤ at → Walked p₀ p at → p ≡ rewritten a p₀
  walk_end p₀ p at e l w =
      let gone : drop at p₀ ≡ [] = drop_of_length-le p₀ {i = at} (omega arith) in
      sym (append-nil p) ∙ (λ i. sym (take_all at p l) i ++ sym rewritten_none i) ∙ ap (λ (x : List ℕ). take at p ++ rewritten a x) (sym gone) ∙ w.comes_to

  -- a turn: the record at `at` has a body of n bytes, which a call has made s
  module _ (p₀ p s : List ℕ) (at n m : ℕ) (u : Bool) (w : Walked p₀ p at) (n_is : n ≡ (head_of (drop at p)).len) (m_is : m ≡ n) (fits : at + 10 + n ≤ length p) (made : retyping u s ≡ retypes a (take m (drop (at + 10) p))) where
    abbrev t : List ℕ
    t = drop at p

    body_is : take m (drop (at + 10) p) ≡ body_of t
    body_is = ap (λ (k : ℕ). take k (drop (at + 10) p)) m_is ∙ body_part p at n n_is

    s_is : s ≡ retyped a (body_of t)
    s_is = ap (λ (x : Retyping). x.body) made ∙ ap (retyped a) body_is

    pub update_is : u ≡ is_update (body_of (drop at p₀))
    update_is = ap (λ (x : Retyping). x.update) made ∙ ap is_update body_is ∙ ap (λ (x : List ℕ). is_update (body_of x)) w.as_it_was

    s_size : length s ≡ m
    s_size = ap length s_is ∙ retyped_length a (body_of t) ∙ ap length (sym body_is) ∙ length-take-le m (drop (at + 10) p) (rw length-drop (omega arith))

    abbrev q : List ℕ
    q = take (at + 10) p ++ (s ++ drop m (drop (at + 10) p))

    on : at + 10 + m ≡ at + (10 + n)
    on = omega arith

    front : take (at + (10 + n)) q ≡ take at p ++ record_to a t
    unfolding record_to
    front =
        ap (λ (k : ℕ). take k q) (sym on)
        ∙ pasted_front p s (at + 10) m (omega arith) s_size
        ∙ (λ i. take-add at 10 p i ++ s_is i)
        ∙ append_assoc (take at p) (take 10 t) (retyped a (body_of t))

    behind : drop (at + (10 + n)) q ≡ drop (at + (10 + n)) p
    behind = ap (λ (k : ℕ). drop k q) (sym on) ∙ pasted_rest p s (at + 10) m (omega arith) s_size ∙ ap (λ (k : ℕ). drop k p) on

    left : (x : List ℕ) → drop at p ≡ drop at x → drop (at + (10 + n)) x ≡ drop (10 + field t 8 2) t
    left x e = sym (drop-drop (10 + n) at x) ∙ (λ i. drop (10 + n_is i) (sym e i))

    pub walk_more : Walked p₀ q (at + (10 + n))
    walk_more =
        record {
          as_it_was = behind ∙ left p refl ∙ sym (left p₀ w.as_it_was);
          comes_to =
              (λ i. front i ++ rewritten a (left p₀ w.as_it_was i))
              ∙ append_assoc (take at p) (record_to a t) (rewritten a (drop (10 + field t 8 2) t))
              ∙ ap (λ (x : List ℕ). take at p ++ x) (sym (rewritten_more t (rw length-drop (omega arith))))
              ∙ ap (λ (x : List ℕ). take at p ++ rewritten a x) w.as_it_was
              ∙ w.comes_to;
        }

    pub walk_size : length q ≡ length p
    walk_size = pasted_size p s (at + 10) m (omega arith) s_size

-- ---- what the loop counts: so many Symbol Updates before `at`, and those of the records that are left
pub record Remain (ed : Edition) (p : List ℕ) (at n : ℕ) (cs : List Rec) : Type 0 where
  pub others : List Rec
  pub left : frames_from ed (length p) (drop at p) ≡ records others
  pub sum : updates_in cs ≡ n + updates_in others

abbrev pub Counted : List ℕ → ℕ → ℕ → Type 0
Counted p at n = (ed : Edition) (cs : List Rec) → framing ed p ≡ records cs → Remain ed p at n cs

pub count_none : (p : List ℕ) → Counted p 0 0
count_none p ed cs e = record { others = cs; left = (framing_size ed p cs e).2; sum = omega arith }

updates_more : (c : Rec) (cs : List Rec) (n : ℕ) → only_if (λ (x : Rec). is_update x.body) (λ x. 1) c ≡ n → updates_in (c ∷ cs) ≡ n + updates_in cs
unfolding updates_in count_by sum_by
updates_more c cs n e = rw e refl

updates_none : updates_in [] ≡ 0
unfolding updates_in count_by sum_by
updates_none = refl

pub count_end : (p : List ℕ) (at n : ℕ) → length p ≤ at → Counted p at n → (ed : Edition) (cs : List Rec) → framing ed p ≡ records cs → n ≡ updates_in cs
count_end p at n l k ed cs e =
    let x : Remain ed p at n cs = k ed cs e in
    let z : updates_in x.others ≡ 0 = ap updates_in (step_end ed p at x.others l x.left) ∙ updates_none in
    omega (arith, x.sum, z)

-- a record of a good packet lies inside it
pub inside : (p : List ℕ) (at n : ℕ) → at < length p → IsPacket p → Counted p at n → at + (10 + (head_of (drop at p)).len) ≤ length p
inside p at n l g k = let x = k g.edition g.its g.good in (step g.edition p at x.others l x.left).inside

pub fits_in : (a : Asked) (p₀ p : List ℕ) (at n : ℕ) (h : Head) → h ≡ head_of (drop at p) → length p ≡ length p₀ → at < length p → IsPacket p₀ → Walked a p₀ p at → Counted p₀ at n → at + (10 + h.len) ≤ length p
fits_in a p₀ p at n h e l lt g w k =
    let same : h.len ≡ (head_of (drop at p₀)).len = ap (λ (x : Head). x.len) e ∙ ap (λ (x : List ℕ). field x 8 2) w.as_it_was in
    omega (arith, inside p₀ at n (omega arith) g k, same, l)

module _ (p : List ℕ) (at n : ℕ) (l : at < length p) (k : Counted p at n) where
  count_more : (m : ℕ) → only_if (λ (x : Rec). is_update x.body) (λ x. 1) (rec_of (drop at p)) ≡ m → Counted p (at + (10 + (head_of (drop at p)).len)) (n + m)
  count_more m q ed cs e =
      let x : Remain ed p at n cs = k ed cs e in
      let s : Step ed p at x.others = step ed p at x.others l x.left in
      let y : updates_in x.others ≡ m + updates_in s.others = ap updates_in s.first_is ∙ updates_more (rec_of (drop at p)) s.others m q in
      record { others = s.others; left = s.next; sum = omega (arith, x.sum, y) }

  pub count_yes : is_update (body_of (drop at p)) ≡ true → Counted p (at + (10 + (head_of (drop at p)).len)) (n + 1)
  count_yes e = count_more 1 (only_yes (λ (x : Rec). is_update x.body) (λ x. 1) (rec_of (drop at p)) e)

  pub count_no : is_update (body_of (drop at p)) ≡ false → Counted p (at + (10 + (head_of (drop at p)).len)) n
  count_no e = subst (Counted p (at + (10 + (head_of (drop at p)).len))) (add-zero n) (count_more 0 (only_no (λ (x : Rec). is_update x.body) (λ x. 1) (rec_of (drop at p)) e))

-- a turn, as the code counts it
pub count_turn : (p : List ℕ) (at n k j : ℕ) (u : Bool) → at < length p → Counted p at k → n ≡ (head_of (drop at p)).len → u ≡ is_update (body_of (drop at p)) → ((u ≡ true) × (j ≡ k + 1)) ⊎ ((u ≡ false) × (j ≡ k)) → Counted p (at + (10 + n)) j × (j ≤ k + 1)
count_turn p at n k j u l c e q (inl y) = (subst (λ (m : ℕ). Counted p (at + (10 + m)) j) (sym e) (subst (Counted p (at + (10 + (head_of (drop at p)).len))) (sym y.1) (count_yes p at k l c (sym q ∙ y.0))), omega (arith, y.1))
count_turn p at n k j u l c e q (inr y) = (subst (λ (m : ℕ). Counted p (at + (10 + m)) j) (sym e) (subst (Counted p (at + (10 + (head_of (drop at p)).len))) (sym y.1) (count_no p at k l c (sym q ∙ y.0))), omega (arith, y.1))
