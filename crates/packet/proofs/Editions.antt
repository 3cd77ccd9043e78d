-- What one edition's reader makes of the other's packets (request 10): record by record what it makes of their bodies.
-- Assumes nothing.
use Prim.Native.Nat.{ℕ, ◌+◌, ◌≤◌, ◌<◌}
use mathlib.Core.Path.{◌≡◌, refl, sym, ap, subst, ◌∙◌}
use mathlib.Core.Bool.{true, true≢false}
use mathlib.Core.List.{List, [], ◌∷◌}
use mathlib.Core.Logic.{◌⊎◌, inl, inr}
use native.Mathlib.Decide.{dec_lt}
use native.Mathlib.Omega.{arith}
use lib.ListN.{length, drop, length-drop}
use lib.Seq.{drop-drop}
use borrow.Author.Tests.{le-leb}
use Rattle.facts.specs.Limits.{packet_most, last_number}
use Rattle.facts.specs.Pick.{pick, both}
use Rattle.editions.specs.declared.Edition.{Edition}
use Rattle.wire.specs.Records.{Rec, bad, records}
use Rattle.fields.specs.Fields.{bad_at}
use Rattle.fields.specs.declared.Fault.{Fault}
use Rattle.body.specs.Read.{judge_body, good_body}
use Rattle.body.specs.Editions.{IsUpdate, Lettered, Unlettered}
use Rattle.std.specs.Prelude.{Result, Ok, Err}
use Rattle.packet.specs.declared.Why.{Why}
use Rattle.kinds.specs.declared.Kind.{Kind}
use Rattle.body.proofs.Laws.{Judgement, good as is_good, bad as is_bad, judgement}
use Rattle.body.proofs.Editions.{good_lettered, no_update_alike, lettered_alike, older_alike, unlettered_refused, update_cases}
use Rattle.packet.specs.Record.{number_ok, head_of, body_of, rec_of, shifted, body_judged, read_record}
use Rattle.packet.specs.Packet.{Framing, before, behind, frames_from, framing}
use Rattle.packet.specs.Front.{Reached, at_front, past_good}
use Rattle.packet.specs.Editions.{NoLetters, NoUpdates, TypeRefused}
use Rattle.packet.proofs.Laws.{whole_record, frames_step, frames_end, first_bad}
use Rattle.packet.proofs.Good.{AllGood, Fine, Step, step, step_end, framing_fine, framing_size}

-- ---- a packet that is good in w, as r reads it: r judges each of its bodies as w does, or tells one that is Q by the fault f
module _ (r w : Edition) (f : Fault) (Q : List ℕ → Type 0)
    (each : (b : List ℕ) → good_body w b ≡ true → (judge_body r b ≡ judge_body w b) ⊎ ((judge_body r b ≡ Err f) × Q b))
    (p : List ℕ) (small : length p ≤ packet_most) where
  -- the first body that r tells, behind records that it takes
  record Told : Type 0 where
    at : ℕ
    reached : Reached r p at
    such : Q (body_of (drop at p))
    refused : framing r p ≡ bad (Why.Placed (shifted at (shifted 10 f)))

  module _ (at : ℕ) (reached : Reached r p at) (inside : at < length p) (c : Rec) (cs : List Rec) (s : Step w p at (c ∷ cs)) where
    abbrev t : List ℕ
    t = drop at p

    fits : 10 + (head_of t).len ≤ length t
    fits = omega (arith, s.inside, length-drop at p)

    number_good : number_ok (head_of t).number ≡ true
    unfolding number_ok both
    number_good = rw (le-leb 1 _ s.good.number_from, le-leb _ last_number s.good.number_to) refl

    read_as : (j : Result Kind Fault) → judge_body r (body_of t) ≡ j → read_record r t ≡ body_judged j (head_of t)
    read_as j e = whole_record r t fits number_good ∙ ap (λ (x : Result Kind Fault). body_judged x (head_of t)) e

    -- told
    told_here : judge_body r (body_of t) ≡ Err f → Q (body_of t) → Told
    unfolding body_judged
    told_here e q = record { at = at; reached = reached; such = q; refused = first_bad r p at (shifted 10 f) small inside reached (read_as (Err f) e) }

    -- taken, as w takes it
    taken_here : judge_body r (body_of t) ≡ judge_body w (body_of t) → read_record r t ≡ Ok (head_of t)
    unfolding body_judged
    taken_here e = go (judgement w (body_of t))
      where
        go : Judgement w (body_of t) → read_record r t ≡ Ok (head_of t)
        go (is_good k g q z) = read_as (Ok k) (e ∙ g)
        go (is_bad x g q h) = absurd (true≢false (sym s.good.body_good ∙ q))

    then : (x : read_record r t ≡ Ok (head_of t)) → frames_from r (length p) (drop (at + (10 + (head_of t).len)) p) ≡ records cs → frames_from r (length p) t ≡ records (c ∷ cs)
    unfolding behind before
    then x e =
        let first : rec_of t ≡ c = cc in
        frames_step r (length p) t (rw length-drop (omega arith)) (rw length-drop (omega arith))
        ∙ ap (behind (frames_from r (length p)) t) x
        ∙ ap (before (10 + (head_of t).len) (rec_of t)) (ap (frames_from r (length p)) (drop-drop (10 + (head_of t).len) at p) ∙ e)
        ∙ ap (λ (y : Rec). records (y ∷ cs)) first

  walk : (cs : List Rec) (at : ℕ) → Reached r p at → frames_from w (length p) (drop at p) ≡ records cs → (frames_from r (length p) (drop at p) ≡ records cs) ⊎ Told
  walk [] at h e = go (dec_lt at (length p))
    where
      go : Dec (at < length p) → (frames_from r (length p) (drop at p) ≡ records []) ⊎ Told
      go (yes l) = let s = step w p at [] l e in let q = s.first_is in let z : ◌≡◌ {A = ℕ} 0 1 = cc in absurd (omega arith)
      go (no l) = inl (frames_end r (length p) p at (omega (arith, l)))
  walk (c ∷ cs) at h e = go (λ n i q. walk cs n i q) (dec_lt at (length p))
    where
      go : ((n : ℕ) → Reached r p n → frames_from w (length p) (drop n p) ≡ records cs → (frames_from r (length p) (drop n p) ≡ records cs) ⊎ Told) → Dec (at < length p) → (frames_from r (length p) (drop at p) ≡ records (c ∷ cs)) ⊎ Told
      go on (no l) = let q = step_end w p at (c ∷ cs) (omega (arith, l)) e in let z : ◌≡◌ {A = ℕ} 0 1 = cc in absurd (omega arith)
      go on (yes l) = by_body (each (body_of (drop at p)) s.good.body_good)
        where
          s : Step w p at (c ∷ cs)
          s = step w p at (c ∷ cs) l e

          left : frames_from w (length p) (drop (at + (10 + (head_of (drop at p)).len)) p) ≡ records cs
          left = let q = s.first_is in let same : s.others ≡ cs = cc in s.next ∙ ap records same

          by_rest : (x : read_record r (drop at p) ≡ Ok (head_of (drop at p))) → (frames_from r (length p) (drop (at + (10 + (head_of (drop at p)).len)) p) ≡ records cs) ⊎ Told → (frames_from r (length p) (drop at p) ≡ records (c ∷ cs)) ⊎ Told
          by_rest x (inl y) = inl (then at h l c cs s x y)
          by_rest x (inr y) = inr y

          by_body : (judge_body r (body_of (drop at p)) ≡ judge_body w (body_of (drop at p))) ⊎ ((judge_body r (body_of (drop at p)) ≡ Err f) × Q (body_of (drop at p))) → (frames_from r (length p) (drop at p) ≡ records (c ∷ cs)) ⊎ Told
          by_body (inl a) = let x = taken_here at h l c cs s a in by_rest x (on (at + (10 + (head_of (drop at p)).len)) (past_good at (head_of (drop at p)) h l x) left)
          by_body (inr b) = inr (told_here at h l c cs s b.0 b.1)

  -- from the front
  read_so : (cs : List Rec) → framing w p ≡ records cs → (framing r p ≡ records cs) ⊎ Told
  unfolding framing pick both
  read_so cs e = go (walk cs 0 at_front s.2)
    where
      s : (1 ≤ length p) × (length p ≤ packet_most) × (frames_from w (length p) p ≡ records cs)
      s = framing_size w p cs e

      go : (frames_from r (length p) p ≡ records cs) ⊎ Told → (framing r p ≡ records cs) ⊎ Told
      go (inl y) = inl (rw (le-leb 1 (length p) s.0, le-leb (length p) packet_most s.1) y)
      go (inr y) = inr y

-- ---- a packet of 1.3, read by 1.3.b: the same records
pub older_packet : (p : List ℕ) (cs : List Rec) → framing Edition.V13 p ≡ records cs → framing Edition.V13b p ≡ records cs
older_packet p cs e = go (read_so Edition.V13b Edition.V13 (bad_at 4 20) (λ b. ⊥) (λ b g. inl (older_alike b g)) p (framing_size Edition.V13 p cs e).1 cs e)
  where
    go : (framing Edition.V13b p ≡ records cs) ⊎ Told Edition.V13b Edition.V13 (bad_at 4 20) (λ b. ⊥) (λ b g. inl (older_alike b g)) p (framing_size Edition.V13 p cs e).1 → framing Edition.V13b p ≡ records cs
    go (inl y) = y
    go (inr y) = absurd y.such

-- ---- a packet of 1.3.b, read by 1.3
by_letter : (b : List ℕ) → good_body Edition.V13b b ≡ true → (judge_body Edition.V13 b ≡ judge_body Edition.V13b b) ⊎ ((judge_body Edition.V13 b ≡ Err (bad_at 4 20)) × Unlettered b)
by_letter b g = go (update_cases b)
  where
    go : (IsUpdate b → ⊥) ⊎ (Lettered b ⊎ Unlettered b) → (judge_body Edition.V13 b ≡ judge_body Edition.V13b b) ⊎ ((judge_body Edition.V13 b ≡ Err (bad_at 4 20)) × Unlettered b)
    go (inl n) = inl (no_update_alike Edition.V13 Edition.V13b b n)
    go (inr (inl l)) = inl (lettered_alike b l)
    go (inr (inr l)) = inr (unlettered_refused b g l, l)

-- whatever its reserved bytes are: the same records, or refused at the first that is no letter
pub newer_packet : (p : List ℕ) (cs : List Rec) → framing Edition.V13b p ≡ records cs → (framing Edition.V13 p ≡ records cs) ⊎ TypeRefused p
newer_packet p cs e = go (read_so Edition.V13 Edition.V13b (bad_at 4 20) Unlettered by_letter p (framing_size Edition.V13b p cs e).1 cs e)
  where
    go : (framing Edition.V13 p ≡ records cs) ⊎ Told Edition.V13 Edition.V13b (bad_at 4 20) Unlettered by_letter p (framing_size Edition.V13b p cs e).1 → (framing Edition.V13 p ≡ records cs) ⊎ TypeRefused p
    go (inl y) = inl y
    go (inr y) = inr (record { at = y.at; reached = y.reached; unlettered = y.such; refused = y.refused })

-- records that are good in 1.3 and have no letter are no Symbol Updates
no_updates : (cs : List Rec) → AllGood Edition.V13 cs → NoLetters cs → NoUpdates cs
no_updates [] g n = tt
no_updates (c ∷ cs) g n = (λ u. n.0 (good_lettered c.body g.0.body_good u), no_updates cs g.1 n.1)

-- "if no reserved byte 20 is `E` or `F`": the packet has no Symbol Update and the same records, or is refused at the first one's byte 20
pub newer_unlettered : (p : List ℕ) (cs : List Rec) → framing Edition.V13b p ≡ records cs → NoLetters cs → ((framing Edition.V13 p ≡ records cs) × NoUpdates cs) ⊎ TypeRefused p
newer_unlettered p cs e n = go (newer_packet p cs e)
  where
    all_good : (x : Framing) → Fine Edition.V13 (length p) x → x ≡ records cs → AllGood Edition.V13 cs
    all_good (bad q) f i = let z : ◌≡◌ {A = ℕ} 0 1 = cc in absurd (omega arith)
    all_good (records ds) f i = let same : ds ≡ cs = cc in subst (AllGood Edition.V13) same f

    go : (framing Edition.V13 p ≡ records cs) ⊎ TypeRefused p → ((framing Edition.V13 p ≡ records cs) × NoUpdates cs) ⊎ TypeRefused p
    go (inl y) = inl (y, no_updates cs (all_good (framing Edition.V13 p) (framing_fine Edition.V13 p) y) n)
    go (inr y) = inr y
