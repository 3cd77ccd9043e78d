-- Two receivers over packets that mean the same answer alike and stay close, call by call: sizes and next are judged alike, and so are the records of an accepted packet (`told_close`).
-- Assumes nothing.
use Prim.Native.Nat.{ℕ}
use mathlib.Core.Path.{◌≡◌, sym, subst, ◌∙◌}
use mathlib.Core.Bool.{Bool, true, false}
use mathlib.Core.List.{List}
use Rattle.facts.specs.Pick.{pick, both}
use Rattle.wire.specs.Records.{Frames}
use Rattle.fields.specs.Fields.{refusal}
use Rattle.arbitration.specs.Engine.{Engine, Store}
use Rattle.arbitration.specs.Receive.{records_of}
use Rattle.arbitration.specs.Receive as theory
use Rattle.arbitration.specs.Lists.{Every, Bounded}
use Rattle.arbitration.specs.Meaning.{Close, close, ToldAlike}
use Rattle.arbitration.proofs.MeaningLaws.{run_close, told_close, zeroed_close}
use Rattle.packet.specs.declared.Why.{Why}
use Rattle.receiver.specs.Parts.{Parts, engine_of}
use Rattle.receiver.specs.Receiver.{next_ok, account, Receiver, handled, handled_by, fit, receives, receives_all}
use Rattle.receiver.specs.Demand3.{Started}
use Rattle.mornings.specs.Alongside.{Two, one_of, other_of, FramesAlike, both_bad, both_good, PacketsAlike, no_packets, one_more, AccountAlike, refusing, both_accepted, both_refused, Alongside, HandledAlike}
use Rattle.std.specs.Prelude.{Err}
use Rattle.receiver.proofs.PartsLaws.{PartsLaws}

accounts : {t u : theory.Told} → ToldAlike t u → AccountAlike (account t) (account u)
accounts a = record { counts_alike = a.counts_alike; next_same = a.next_same; applied_same = a.applied_same; highest_same = a.top_same; stop_same = a.stopped_same }

-- two starts from alike books
pub started_alongside : (X : Two) (b0 : X.rules.Book) (c0 : X.rules'.Book) (k : Receiver (one_of X)) (k' : Receiver (other_of X)) → X.R b0 c0 → Started (one_of X) b0 k → Started (other_of X) c0 k' → Alongside X k k'
started_alongside X b0 c0 k k' r s s' =
    record { near = zeroed_close X.store (engine_of X.rules) (engine_of X.rules') X.R r s.zeroed s'.zeroed; stop_same = s'.no_stop ∙ sym s.no_stop }

-- what each owes by itself, and that neither's sizes are refused where the other's are not
module _ (X : Two) (L : PartsLaws (one_of X)) (L' : PartsLaws (other_of X))
    (sized_same : (x : X.rules.Book) (y : X.rules'.Book) (s t : X.store.Shelf) → X.R x y → X.store.Ok s → X.store.Ok t → X.sized' y t ≡ X.sized x s) where
  abbrev P : Parts
  P = one_of X

  abbrev Q : Parts
  Q = other_of X

  abbrev S : Store
  S = X.store

  abbrev E : Engine
  E = engine_of X.rules

  abbrev F : Engine
  F = engine_of X.rules'

  -- ---- one call
  fit_same : (k : Receiver P) (k' : Receiver Q) → Alongside X k k' → fit Q k' ≡ fit P k
  unfolding fit
  fit_same k k' a = go a.near
    where
      go : {r : theory.State S E} {q : theory.State S F} → Close S E F X.R r q → both (X.sized' q.book q.shelf) (next_ok q.next) ≡ both (X.sized r.book r.shelf) (next_ok r.next)
      go (close n {x = x} {y = y} {s = s} {t = t} r o p h) = λ i. both (sized_same x y s t r o p i) (next_ok n)

  framed : (k : Receiver P) (k' : Receiver Q) {x y : Frames Why} → Every Bounded (records_of x) → Every Bounded (records_of y) → FramesAlike X x y → Alongside X k k' → HandledAlike X (handled_by P x k) (handled_by Q y k')
  unfolding handled_by
  framed k k' hb hc (both_bad v w) a = record { answers_alike = both_refused (refusing v) (refusing w); still = a }
  framed k k' hb hc (both_good {bs = bs} {cs = cs} m) a =
      let t = told_close S E F X.R L.store bs cs m hb hc a.near in
      record {
        answers_alike = both_accepted (accounts t);
        still = record { near = run_close S E F X.R L.store bs cs m hb hc a.near; stop_same = t.stopped_same };
      }

  pub call_alike : (k : Receiver P) (k' : Receiver Q) (p p' : List ℕ) → FramesAlike X (X.frame p) (X.frame' p') → Alongside X k k' → HandledAlike X (receives P k p) (receives Q k' p')
  unfolding receives pick
  call_alike k k' p p' f a =
      subst (λ (t : Bool). HandledAlike X (receives P k p) (pick t (handled_by Q (X.frame' p') k') (handled Q (Err (Why.Alone (refusal 6))) k'))) (sym (fit_same k k' a)) (go (fit P k))
    where
      go : (t : Bool) → HandledAlike X (pick t (handled_by P (X.frame p) k) (handled P (Err (Why.Alone (refusal 6))) k)) (pick t (handled_by Q (X.frame' p') k') (handled Q (Err (Why.Alone (refusal 6))) k'))
      go true = framed k k' (L.bounded p) (L'.bounded p') f a
      go false = record { answers_alike = both_refused (refusing (Why.Alone (refusal 6))) (refusing (Why.Alone (refusal 6))); still = a }

  -- ---- any number of calls
  pub calls_alongside : (k : Receiver P) (k' : Receiver Q) {ps ps' : List (List ℕ)} → PacketsAlike X ps ps' → Alongside X k k' → Alongside X (receives_all P ps k) (receives_all Q ps' k')
  unfolding receives_all
  calls_alongside k k' no_packets a = a
  calls_alongside k k' (one_more p p' f h) a = calls_alongside (receives P k p).after (receives Q k' p').after h (call_alike k k' p p' f a).still

  -- and the next one is answered alike
  pub calls_alike : (k : Receiver P) (k' : Receiver Q) {ps ps' : List (List ℕ)} (p p' : List ℕ) → PacketsAlike X ps ps' → FramesAlike X (X.frame p) (X.frame' p') → Alongside X k k'
      → HandledAlike X (receives P (receives_all P ps k) p) (receives Q (receives_all Q ps' k') p')
  calls_alike k k' {ps} {ps'} p p' h f a = call_alike (receives_all P ps k) (receives_all Q ps' k') p p' f (calls_alongside k k' h a)
