-- Undefined bits of a Modify's flags over the receiver (request 2): no table hangs on them, so copies that differ in them make the list's tables like true ones; and yet
-- they tell copies apart on the shelf.
-- Assumes nothing.
use Prim.Native.Nat.{ℕ, ◌+◌, ◌-◌, ◌≤◌, ◌<◌}
use mathlib.Core.Path.{◌≡◌, sym, ap, subst, ◌∙◌}
use mathlib.Core.Logic.{◌⊎◌, inl, inr}
use mathlib.Core.Bool.{true}
use mathlib.Core.List.{List}
use native.Mathlib.Omega.{arith}
use native.Mathlib.Decide.{dec_lt}
use lib.Dec.{eqb}
use lib.ListN.{length}
use Rattle.facts.specs.Limits.{shelf_size}
use Rattle.facts.specs.Pick.{pick}
use Rattle.editions.specs.declared.Edition.{Edition}
use Rattle.wire.specs.Records.{Rec, rec}
use Rattle.body.specs.Read.{good_body}
use Rattle.body.specs.Undefined.{OnlyBits, ButForBits}
use Rattle.body.proofs.Laws.{good_fits}
use Rattle.body.proofs.Undefined.{bits_good, bits_apart}
use Rattle.packet.specs.Packet.{framing}
use Rattle.book.specs.Book.{Book, Effect}
use Rattle.book.proofs.Undefined.{bits_applied}
use Rattle.arbitration.specs.Engine.{ok, broke}
use Rattle.arbitration.specs.Slots.{slot_for}
use Rattle.arbitration.specs.Receive.{taken, old, differing, accepted, slot_of, judged, after, run, stop}
use Rattle.arbitration.specs.Receive as theory
use Rattle.arbitration.specs.Lists.{Every, Numbered, Bounded}
use Rattle.arbitration.specs.Meaning.{Means, SameBook, Faithful}
use Rattle.arbitration.proofs.Answers.{shows, after_next, run_next}
use Rattle.arbitration.proofs.Range.{bounded_fits}
use Rattle.arbitration.proofs.Settled.{Fitting}
use Rattle.arbitration.proofs.Halves.{Made, Named, Ready, agree, start_ready}
use Rattle.arbitration.proofs.Packets.{every_map, every_accepted}
use Rattle.arbitration.proofs.OnShelf.{AsItCame, copy_old, copy_differs, taken_as_it_came, stays_as_it_came}
use Rattle.arbitration.proofs.MeaningLaws.{means_same, faithful_first, faithful_second}
use Rattle.shelf.specs.Store.{shelf_store}
use Rattle.receiver.specs.Demand3.{MadeBy, Names, AnsweredTo}
use Rattle.receiver.specs.Receiver.{Keeps, receives_all}
use Rattle.receiver.specs.Lent.{book_engine, ledger_engine, real, plain, Rx, Lent, plain_rx, plain_of, received_all, zero_book}
use Rattle.receiver.specs.Undefined.{BitCopy, GivenBits}
use Rattle.receiver.proofs.PartsLaws.{laws_of}
use Rattle.receiver.proofs.Demand.{made_by, named_by, ran, stop_is}
use Rattle.receiver.proofs.Real.{real_laws, plain_laws}
use Rattle.receiver.proofs.Engines.{runs_follow, begins_sure}

abbrev PlainRx : Type 0
PlainRx = theory.Rx (List ℕ) Book

-- ---- "They are ignored from now on"
pub bits_mean : (ed : Edition) (b c : List ℕ) → ButForBits ed b c → Means (book_engine ed) (book_engine ed) (SameBook (book_engine ed)) b c
bits_mean ed b c (inl e) = means_same (book_engine ed) b c (ap (good_body ed) (sym e)) (λ n k. ap (λ (x : List ℕ). (book_engine ed).apply n x k) (sym e))
bits_mean ed b c (inr o) =
    let g = bits_good ed b c o in
    means_same (book_engine ed) b c (g.1 ∙ sym g.0) (λ n k. ap (λ (x : Effect). pick (eqb x.rule 0) (ok x.after) (broke x.rule)) (bits_applied ed n b c k o))

all_faithful : (ed : Edition) (ms : List (List ℕ)) (cs : List Rec) → Every (BitCopy ed ms) cs → Every (Faithful (book_engine ed) ms) cs
all_faithful ed ms cs h = every_map (BitCopy ed ms) (Faithful (book_engine ed) ms) (λ c x. record { in_list = x.in_list; means = bits_mean ed _ _ x.same }) cs h

-- both halves of demand 3, of copies that differ from the list in undefined bits
module _ (ed : Edition) (ms : List (List ℕ)) (o s : ℕ) (k0 : Lent) (ps : List (List ℕ)) (g : GivenBits ed ms o s k0 ps) where
  abbrev cs : List Rec
  cs = accepted (framing ed) ps

  ready : Ready shelf_store (book_engine ed) ms 0 (zero_book o s) (plain_rx k0.rx)
  ready = start_ready shelf_store (book_engine ed) (laws_of (plain ed) (plain_laws ed)) ms g.well_formed (zero_book o s) (plain_rx k0.rx) g.started.zeroed

  numbered : Every Numbered cs
  numbered = every_accepted (framing ed) Numbered (plain_laws ed).numbered ps

  run_is : plain_of (received_all ps k0) ≡ receives_all (plain ed) ps (plain_of k0)
  run_is = (runs_follow ed ps k0 g.chosen.edition_is (begins_sure ed o s k0 g.chosen g.started)).0

  abbrev end : Keeps (List ℕ) Book
  end = plain_of (received_all ps k0)

  stopped : end.stop ≡ stop shelf_store (book_engine ed) end.rx
  stopped = subst (λ (k : Keeps (List ℕ) Book). k.stop ≡ stop shelf_store (book_engine ed) k.rx) (sym run_is) (stop_is (plain ed) (plain_laws ed) ms (zero_book o s) (plain_of k0) ps g.started)

  end_is : end.rx ≡ run shelf_store (book_engine ed) cs (plain_rx k0.rx)
  end_is = ap (λ (k : Keeps (List ℕ) Book). k.rx) run_is ∙ ran (plain ed) (plain_laws ed) ms (zero_book o s) (plain_of k0) ps g.started

  pub bits_made : Made shelf_store (book_engine ed) ms 0 (zero_book o s) end.rx
  bits_made =
      subst (Made shelf_store (book_engine ed) ms 0 (zero_book o s)) (sym end_is)
      (faithful_first shelf_store (book_engine ed) (laws_of (plain ed) (plain_laws ed)) ms g.well_formed 0 (zero_book o s) (plain_rx k0.rx) cs ready numbered (all_faithful ed ms cs g.copies))

  pub bits_first : MadeBy (plain ed) ms (zero_book o s) end
  bits_first = made_by (plain ed) (plain_laws ed) ms (zero_book o s) end bits_made

  pub bits_second : (j : ℕ) → AnsweredTo (plain ed) j ps (plain_of k0) → (j ≤ end.rx.next - 1) ⊎ Names (plain ed) ms (zero_book o s) end
  bits_second j all =
      go (faithful_second shelf_store (book_engine ed) (laws_of (plain ed) (plain_laws ed)) ms g.well_formed 0 (zero_book o s) (plain_rx k0.rx) cs ready numbered (all_faithful ed ms cs g.copies) j all)
    where
      go : (j < (run shelf_store (book_engine ed) cs (plain_rx k0.rx)).next) ⊎ Named shelf_store (book_engine ed) ms 0 (zero_book o s) (run shelf_store (book_engine ed) cs (plain_rx k0.rx))
          → (j ≤ end.rx.next - 1) ⊎ Names (plain ed) ms (zero_book o s) end
      go (inl l) = inl (omega (arith, ap (λ (x : PlainRx). x.next) end_is))
      go (inr m) =
          inr (named_by (plain ed) (plain_laws ed) ms (zero_book o s) end stopped
          (subst (Named shelf_store (book_engine ed) ms 0 (zero_book o s)) (sym end_is) m))

-- and two such receivers agree
pub bits_agree : (ed : Edition) (ms : List (List ℕ)) (o s : ℕ) (k0 k0' : Lent) (ps ps' : List (List ℕ)) → GivenBits ed ms o s k0 ps → GivenBits ed ms o s k0' ps'
    → (received_all ps k0).rx.next ≡ (received_all ps' k0').rx.next → (received_all ps k0).rx.book.plain ≡ (received_all ps' k0').rx.book.plain
bits_agree ed ms o s k0 k0' ps ps' g g' e =
    agree shelf_store (book_engine ed) ms 0 (zero_book o s) (plain_rx (received_all ps k0).rx) (plain_rx (received_all ps' k0').rx) (bits_made ed ms o s k0 ps g) (bits_made ed ms o s k0' ps' g') e

-- ---- two copies that differ only in those bits: the first was taken, by any receiver whose shelf has its size, and any records came after it that packets can bring
module _ (ed : Edition) (r : Rx) (n : ℕ) (b c : List ℕ) (o : OnlyBits ed b c) (w : Numbered (rec n b)) (size : length r.shelf ≡ shelf_size)
    (first : judged shelf_store (ledger_engine ed) (rec n b) r ≡ taken) (cs : List Rec) (h : Every Bounded cs) where
  short : (x : List ℕ) → good_body ed x ≡ true → length x ≤ 64
  short x g = omega (arith, (good_fits ed x g).most)

  abbrev then : Rx
  then = run shelf_store (ledger_engine ed) cs (after shelf_store (ledger_engine ed) (rec n b) r)

  -- "kept on the shelf as they came"
  pub first_kept : AsItCame shelf_store (ledger_engine ed) n b then
  first_kept =
      let fit : Fitting (rec n b) = bounded_fits (rec n b) (record { number_to = w.number_to; short = short b (bits_good ed b c o).0 }) in
      stays_as_it_came shelf_store (ledger_engine ed) (laws_of (real ed) (real_laws ed)) n b cs (after shelf_store (ledger_engine ed) (rec n b) r) w.number_from (every_map Bounded Fitting bounded_fits cs h)
      (taken_as_it_came shelf_store (ledger_engine ed) (laws_of (real ed) (real_laws ed)) (rec n b) r fit size first)

  -- next only grows, so the window still has n
  in_window : n < then.next + 64
  in_window =
      let a = (shows r.next (slot_of shelf_store (ledger_engine ed) r n) (rec n b) taken first).1 in
      omega (arith, a, (after_next shelf_store (ledger_engine ed) (rec n b) r).0, run_next shelf_store (ledger_engine ed) cs (after shelf_store (ledger_engine ed) (rec n b) r))

  -- what the second is answered
  abbrev Answers : Type 0
  Answers = ((then.next ≤ n) × (judged shelf_store (ledger_engine ed) (rec n c) then ≡ differing)) ⊎ ((n < then.next) × (judged shelf_store (ledger_engine ed) (rec n c) then ≡ old))

  -- "Two copies that differ only in those bits are still differing copies (14)": while the first waits; 11 once next has passed it; and it changes nothing
  pub second_copy : (after shelf_store (ledger_engine ed) (rec n c) then ≡ then) × Answers
  second_copy = go first_kept.1
    where
      passed : n < then.next → (after shelf_store (ledger_engine ed) (rec n c) then ≡ then) × Answers
      passed l = let a = copy_old shelf_store (ledger_engine ed) then n c l in (a.1, inr (l, a.0))

      waiting : slot_of shelf_store (ledger_engine ed) then n ≡ slot_for n b → Dec (n < then.next) → (after shelf_store (ledger_engine ed) (rec n c) then ≡ then) × Answers
      waiting e (yes l) = passed l
      waiting e (no l) =
          let from : then.next ≤ n = omega arith in
          let g = bits_good ed b c o in
          let a = copy_differs shelf_store (ledger_engine ed) then n b e w.number_from from in_window c (short b g.0) (short c g.1) (bits_apart ed b c o) in
          (a.1, inl (from, a.0))

      go : (n < then.next) ⊎ (slot_of shelf_store (ledger_engine ed) then n ≡ slot_for n b) → (after shelf_store (ledger_engine ed) (rec n c) then ≡ then) × Answers
      go (inl l) = passed l
      go (inr e) = waiting e (dec_lt n then.next)
