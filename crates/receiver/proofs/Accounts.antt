-- The answer to a packet, from the work that its records made: the theory's run and counts are the code's state and counts. And a packet by the tests of `receive`.
-- Assumes nothing.
use Prim.Native.Nat.{ℕ, ◌+◌, ◌-◌, ◌≤◌}
use mathlib.Core.Path.{◌≡◌, refl, sym, ap, subst, ◌∙◌}
use mathlib.Core.Bool.{Bool, true, false}
use mathlib.Core.List.{List, [], ◌∷◌, ◌++◌}
use native.Mathlib.Omega.{arith}
use Rattle.facts.specs.Pick.{pick, both}
use Rattle.facts.specs.Limits.{last_number}
use Rattle.facts.proofs.Picks.{both_true, pick_ind}
use Rattle.wire.specs.Records.{Rec, Frames, bad, records}
use borrow.Author.Tests.{leb-true}
use lib.Dec.{leb}
use Rattle.fields.specs.Fields.{refusal}
use Rattle.arbitration.specs.Engine.{Engine, Store}
use Rattle.arbitration.specs.Receive.{records_of, counts_of, said, run, told, stop, highest, no_counts}
use Rattle.arbitration.specs.Loops.{Working, work}
use Rattle.arbitration.specs.declared.Counts.{Counts}
use Rattle.arbitration.proofs.Answers.{run_next}
use Rattle.arbitration.proofs.Tallies.{work_told}
use Rattle.receiver.specs.Parts.{Parts, engine_of}
use Rattle.receiver.specs.Receiver.{next_ok, received_number, refused_by, Rx, Receiver, receiver, Handled, handled, handled_by, fit, receives, receives_all}
use Rattle.receiver.specs.Demand3.{Reported}
use Rattle.receiver.specs.declared.Account.{Account}
use Rattle.std.specs.Prelude.{Ok, Err}
use Rattle.packet.specs.declared.Why.{Why}
use Rattle.packet.specs.Packet.{framing, read_packet}
use Rattle.packet.proofs.Good.{refused_framing, bad_framing}
use Rattle.editions.specs.declared.Edition.{Edition}

pub next_most : (n : ℕ) → next_ok n ≡ true → n ≤ last_number + 1
unfolding next_ok
next_most n h = leb-true n (last_number + 1) (both_true {a = leb 1 n} {b = leb n (last_number + 1)} h).1

-- a packet that its reader refuses is refused for the same
pub framed_bad : (ed : Edition) (p : List ℕ) (w : Why) → read_packet ed p ≡ Err w → framing ed p ≡ bad w
framed_bad ed p (Why.Alone r) e = refused_framing ed p r e
framed_bad ed p (Why.Placed f) e = bad_framing ed p f e

module _ (P : Parts) where
  abbrev S : Store
  S = P.store

  abbrev E : Engine
  E = engine_of P.rules

  module _ (cs : List Rec) (k : Receiver P) (now : Rx P) (t : Counts)
      (worked : ◌≡◌ {A = Working S E} (record { rx = now; counts = t }) (work S E cs (record { rx = k.rx; counts = no_counts }))) where
    -- the state and the counts of the packet's records
    ran : ◌≡◌ {A = Working S E} (record { rx = now; counts = t }) (record { rx = run S E cs k.rx; counts = (told S E cs k.rx).counts })
    ran = worked ∙ work_told S E cs k.rx

    pub next_grows : k.rx.next ≤ now.next
    next_grows = omega (arith, ap (λ (x : Working S E). x.rx.next) ran, run_next S E cs k.rx)

    -- the answer that a state and counts make
    abbrev told_of : Rx P → Counts → Handled P
    told_of x c =
        handled P (Ok (record { counts = c; next = x.next; applied = x.next - k.rx.next; highest = highest S 64 x.shelf; stop = stop S E x }))
        (receiver P x (stop S E x) k.edition)

    pub accepted : (q top : ℕ) → q ≡ stop S E now → top ≡ highest S 64 now.shelf → (x : Frames Why) → x ≡ records cs
        → handled P (Ok (record { counts = t; next = now.next; applied = now.next - k.rx.next; highest = top; stop = q })) (receiver P now q k.edition) ≡ handled_by P x k
    unfolding handled_by told
    accepted q top e f x g =
        (λ i. handled P (Ok (record { counts = t; next = now.next; applied = now.next - k.rx.next; highest = f i; stop = e i })) (receiver P now (e i) k.edition))
        ∙ (λ i. told_of (ran i).rx (ran i).counts)
        ∙ ap (λ (y : Frames Why). handled_by P y k) (sym g)

  -- ---- a packet by the tests of `receive`
  module _ (k : Receiver P) (p : List ℕ) where
    abbrev sizes : Bool
    sizes = P.sized k.rx.book k.rx.shelf

    pub refused_sizes : sizes ≡ false → handled P (Err (Why.Alone (refusal 6))) k ≡ receives P k p
    unfolding receives fit both pick
    refused_sizes e = simp e

    module _ (good : sizes ≡ true) where
      pub refused_next : next_ok k.rx.next ≡ false → handled P (Err (Why.Alone (refusal 6))) k ≡ receives P k p
      unfolding receives fit both pick
      refused_next e = simp (good, e)

      pub by_frame : next_ok k.rx.next ≡ true → handled_by P (P.frame p) k ≡ receives P k p
      unfolding receives fit both pick
      by_frame e = simp (good, e)

      -- a refused packet, and what refused it
      pub refused_packet : next_ok k.rx.next ≡ true → (q : Why) → P.frame p ≡ bad q → handled P (refused_by q) k ≡ receives P k p
      unfolding handled_by
      refused_packet e q f = ap (λ (x : Frames Why). handled_by P x k) (sym f) ∙ by_frame e

  -- ---- demand 1: "a refusal changes no byte and no state", whatever its number and place
  pub refused_same : (k : Receiver P) (p : List ℕ) → ((a : Account) → (receives P k p).answer ≡ Ok a → ⊥) → (receives P k p).after ≡ k
  unfolding receives handled_by
  refused_same k p = pick_ind Keeps (fit P k) (handled_by P (P.frame p) k) (handled P (Err (Why.Alone (refusal 6))) k) (λ _. by_framing (P.frame p)) (λ _ _. refl)
    where
      Keeps : Handled P → Type 0
      Keeps x = ((a : Account) → x.answer ≡ Ok a → ⊥) → x.after ≡ k

      by_framing : (x : Frames Why) → Keeps (handled_by P x k)
      by_framing (bad q) n = refl
      by_framing (records cs) n = absurd (n _ refl)

  -- so does any number but 0
  pub refusal_keeps : (k : Receiver P) (p : List ℕ) → (received_number (receives P k p).answer ≡ 0 → ⊥) → (receives P k p).after ≡ k
  refusal_keeps k p n = refused_same k p (λ a e. n (ap received_number e))

  -- a packet that framing refuses keeps the receiver, by its own number or by 6
  pub bad_keeps : (k : Receiver P) (p : List ℕ) (q : Why) → P.frame p ≡ bad q → (receives P k p).after ≡ k
  unfolding receives handled_by
  bad_keeps k p q e = pick_ind (λ (h : Handled P). h.after ≡ k) (fit P k) (handled_by P (P.frame p) k) (handled P (Err (Why.Alone (refusal 6))) k) (λ _. rw e refl) (λ _. refl)

  -- and wherever in a run it comes, the receiver ends as if it had been lost
  pub refused_lost : (p : List ℕ) (q : Why) → P.frame p ≡ bad q → (ps qs : List (List ℕ)) (k : Receiver P) → receives_all P (ps ++ (p ∷ qs)) k ≡ receives_all P (ps ++ qs) k
  unfolding receives_all
  refused_lost p q e [] qs k = ap (receives_all P qs) (bad_keeps k p q e)
  refused_lost p q e (x ∷ ps) qs k = refused_lost p q e ps qs (receives P k x).after

  -- an accepted packet's account tells the next number and the stop that the receiver then has, and counts the answers
  pub account_reports : (k k' : Receiver P) (p : List ℕ) (a : Account) → receives P k p ≡ handled P (Ok a) k' → Reported P k p a k'
  unfolding receives handled_by told
  account_reports k k' p a = pick_ind Reports (fit P k) (handled_by P (P.frame p) k) (handled P (Err (Why.Alone (refusal 6))) k) (λ _. by_framing (P.frame p) refl) (λ _. no_account (Why.Alone (refusal 6)) k)
    where
      Reports : Handled P → Type 0
      Reports x = x ≡ handled P (Ok a) k' → Reported P k p a k'

      no_account : (w : Why) (j : Receiver P) → Reports (handled P (refused_by w) j)
      no_account (Why.Alone r) j e =
          let q : Err (Why.Alone r) ≡ Ok a = ap (λ (x : Handled P). x.answer) e in
          let z : ◌≡◌ {A = ℕ} 0 1 = cc in absurd (omega arith)
      no_account (Why.Placed f) j e =
          let q : Err (Why.Placed f) ≡ Ok a = ap (λ (x : Handled P). x.answer) e in
          let z : ◌≡◌ {A = ℕ} 0 1 = cc in absurd (omega arith)

      told_all : (b : Account) (j : Receiver P) → Reported P k p b j → Reports (handled P (Ok b) j)
      told_all b j r e =
          let q : Ok b ≡ Ok a = ap (λ (x : Handled P). x.answer) e in
          let same : b ≡ a = cc in
          let there : j ≡ k' = ap (λ (x : Handled P). x.after) e in
          subst (λ (x : Account). Reported P k p x k') same (subst (Reported P k p b) there r)

      by_framing : (x : Frames Why) → P.frame p ≡ x → Reports (handled_by P x k)
      by_framing (bad w) f = no_account w k
      by_framing (records cs) f = told_all _ _ (record { next_is = refl; stop_is = refl; counts_are = ap (λ (y : Frames Why). counts_of (said S E (records_of y) k.rx)) (sym f) })
