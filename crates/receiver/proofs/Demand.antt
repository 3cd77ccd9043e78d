-- Demand 3, of a start and any number of calls of `receive`: the calls are the packets of the theory, whose halves hold from a start, and the stop is that of the state.
-- Assumes nothing.
use Prim.Native.Nat.{ℕ, suc, ◌+◌, ◌-◌, ◌≤◌, ◌<◌}
use mathlib.Core.Path.{◌≡◌, sym, ap, subst, ◌∙◌}
use mathlib.Core.Logic.{◌⊎◌, inl, inr}
use mathlib.Core.List.{List}
use native.Mathlib.Omega.{arith}
use Rattle.wire.specs.Records.{Rec}
use Rattle.arbitration.specs.Engine.{ok, broke, Engine, Store}
use Rattle.arbitration.specs.Receive.{accepted, run, stop}
use Rattle.arbitration.specs.Lists.{Every, Numbered, Copy, made}
use Rattle.arbitration.proofs.Invariant.{every_copy}
use Rattle.arbitration.proofs.Halves.{Made, Named, agree, start_ready, first_half, second_half}
use Rattle.arbitration.proofs.Packets.{every_accepted, packets_run}
use Rattle.receiver.specs.Parts.{Parts, engine_of}
use Rattle.receiver.specs.Receiver.{Rx, Receiver, handled, receives, receives_all}
use Rattle.receiver.specs.Demand3.{Started, Given, MadeBy, Names, AnsweredTo, Demand3, parts_calls}
use Rattle.receiver.proofs.PartsLaws.{PartsLaws, laws_of}
use Rattle.receiver.proofs.Accounts.{account_reports}
use Rattle.receiver.proofs.Fits.{one_call_more, all_received, all_stop, start_fit, start_stop}

module _ (P : Parts) (L : PartsLaws P) (ms : List (List ℕ)) (b0 : P.rules.Book) where
  abbrev S : Store
  S = P.store

  abbrev E : Engine
  E = engine_of P.rules

  -- what the theory says of a receiver, in the demand's words
  one_less : {k n : ℕ} → n ≡ 0 + suc k → k ≡ n - 1
  one_less e = omega arith

  is_next : {k n : ℕ} → n ≡ 0 + suc k → suc k ≡ n
  is_next e = omega arith

  pub made_by : (k : Receiver P) → Made S E ms 0 b0 k.rx → MadeBy P ms b0 k
  made_by k m =
      record {
        from_1 = omega (arith, m.next_is);
        in_list = omega (arith, m.next_is, m.within);
        tables_are = subst (λ (n : ℕ). made E ms 0 b0 n ≡ ok k.rx.book) (one_less m.next_is) m.book_is;
      }

  pub named_by : (k : Receiver P) → k.stop ≡ stop S E k.rx → Named S E ms 0 b0 k.rx → Names P ms b0 k
  named_by k s m =
      record {
        in_list = omega (arith, m.next_is, m.in_list);
        rule_named = omega (arith, s, m.rule_named);
        list_breaks = subst (λ (n : ℕ). made E ms 0 b0 n ≡ broke k.stop) (is_next m.next_is) (m.breaks ∙ ap broke (sym s));
      }

  -- the calls from a start: the run of the accepted records, and the stop of its end
  module _ (k0 : Receiver P) (ps : List (List ℕ)) (h : Started P b0 k0) where
    pub ran : (receives_all P ps k0).rx ≡ run S E (accepted P.frame ps) k0.rx
    ran = all_received P L ps k0 (start_fit P L b0 k0 h) ∙ packets_run P.frame S E ps k0.rx

    pub stop_is : (receives_all P ps k0).stop ≡ stop S E (receives_all P ps k0).rx
    stop_is = all_stop P L ps k0 (start_stop P L b0 k0 h)

  module _ (k0 : Receiver P) (ps : List (List ℕ)) (g : Given P ms b0 k0 ps) where
    abbrev cs : List Rec
    cs = accepted P.frame ps

    abbrev end : Receiver P
    end = receives_all P ps k0

    copies : Every (Copy ms) cs
    copies = every_copy ms cs (every_accepted P.frame Numbered L.numbered ps) g.copies

    pub made_so : Made S E ms 0 b0 end.rx
    made_so = subst (Made S E ms 0 b0) (sym (ran k0 ps g.started)) (first_half S E (laws_of P L) ms g.well_formed 0 b0 k0.rx cs (start_ready S E (laws_of P L) ms g.well_formed b0 k0.rx g.started.zeroed) copies)

    pub first_of : MadeBy P ms b0 end
    first_of = made_by end made_so

    pub second_of : (j : ℕ) → AnsweredTo P j ps k0 → (j ≤ end.rx.next - 1) ⊎ Names P ms b0 end
    second_of j all =
        go (second_half S E (laws_of P L) ms g.well_formed 0 b0 k0.rx cs j (start_ready S E (laws_of P L) ms g.well_formed b0 k0.rx g.started.zeroed) copies all)
      where
        go : (j < (run S E cs k0.rx).next) ⊎ Named S E ms 0 b0 (run S E cs k0.rx) → (j ≤ end.rx.next - 1) ⊎ Names P ms b0 end
        go (inl l) = inl (omega (arith, ap (λ (x : Rx P). x.next) (ran k0 ps g.started)))
        go (inr m) = inr (named_by end (stop_is k0 ps g.started) (subst (Named S E ms 0 b0) (sym (ran k0 ps g.started)) m))

  pub demand_3 : Demand3 P (parts_calls P) ms b0
  demand_3 = record {
    first = λ k0 ps u g. first_of k0 ps g;
    second = λ k0 ps u g. second_of k0 ps g;
    agreement = λ k0 k0' ps ps' u u' g g' e. agree S E ms 0 b0 _ _ (made_so k0 ps g) (made_so k0' ps' g') e;
    one_more = one_call_more P L;
    reported = λ k0 ps p a u h e. let k = receives_all P ps k0 in account_reports P k (receives P k p).after p a (λ i. handled P (e i) (receives P k p).after);
  }
