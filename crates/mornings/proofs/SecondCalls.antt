-- Of a recording and the same converted, call by call from a start: the shelves hold what they held, retyped, so that each account has the repeats of the other and those that byte 20 alone had kept apart.
-- Assumes nothing.
use Prim.Native.Nat.{ℕ}
use mathlib.Core.Path.{◌≡◌, refl, sym, subst, ◌∙◌}
use mathlib.Core.Bool.{Bool, true, false}
use mathlib.Core.Logic.{◌⊎◌, inl, inr}
use mathlib.Core.List.{List, [], ◌∷◌}
use Rattle.facts.specs.Pick.{pick, both}
use Rattle.editions.specs.declared.Edition.{Edition}
use Rattle.wire.specs.Records.{Rec, records}
use Rattle.fields.specs.Fields.{refusal}
use Rattle.packet.specs.Packet.{Framing, framing}
use Rattle.packet.proofs.Good.{AllGood}
use Rattle.book.specs.Book.{Book}
use Rattle.arbitration.specs.Engine.{Engine}
use Rattle.arbitration.specs.Receive.{records_of, said, told, counts_of}
use Rattle.arbitration.specs.Receive as theory
use Rattle.arbitration.specs.Lists.{Every, Numbered, Bounded}
use Rattle.arbitration.specs.Meaning.{Close, close}
use Rattle.arbitration.specs.declared.Counts.{Counts}
use Rattle.shelf.specs.Store.{shelf_store}
use Rattle.receiver.specs.Receiver.{next_ok, Handles, handled, handled_by, fit, receives}
use Rattle.receiver.specs.Lent.{sizes_ok, book_engine, plain, Lent, plain_of, received, received_all, fresh}
use Rattle.receiver.specs.declared.Account.{Account}
use Rattle.std.specs.Prelude.{Result, Ok, Err}
use Rattle.packet.specs.declared.Why.{Why}
use Rattle.receiver.proofs.Real.{plain_laws, fresh_started, sizes_are}
use Rattle.receiver.proofs.Along.{Plainly}
use Rattle.receiver.proofs.Engines.{call_follows}
use Rattle.retype.specs.Types.{types_ok}
use Rattle.retype.specs.Retyped.{Asked, retyped}
use Rattle.conversion.specs.Kept.{Becomes, taken, refused, recs_to}
use Rattle.conversion.proofs.Passing.{becomes}
use Rattle.mornings.specs.Mornings.{packet_to, packets_to}
use Rattle.mornings.specs.Alongside.{refusing}
use Rattle.mornings.specs.Seconds.{both_empty, Kept, Firm, CountsTo, SomeMerged, AccountTo, ReceivedTo, accepted_to, refused_to}
use Rattle.mornings.proofs.Runs.{two, meant_to, sized_to, Pair, fresh_pair, call_pair}
use Rattle.mornings.proofs.Recordings.{all_good, frames_to}
use Rattle.mornings.proofs.Seconds.{counts_to, counts_or_merged, run_to, said_to, retyped_short}

module _ (from : Edition) (a : Asked) (ok : types_ok a.to a.all a.others ≡ true) where
  abbrev E : Engine
  E = book_engine from

  abbrev F : Engine
  F = book_engine a.to

  abbrev R : Book → Book → Type 0
  R = (two from a ok).R

  -- one call each
  record HandledTo (r : theory.State shelf_store E) (cs : List Rec) (h h' : Handles (List ℕ) Book) : Type 0 where
    answers : ReceivedTo (retyped a) shelf_store E r cs h.answer h'.answer
    kept : Kept (retyped a) shelf_store h.after.rx.shelf h'.after.rx.shelf

  -- ---- one call, without an index
  -- neither is refused by 6 where the other is not
  fit_to : (k k' : Plainly) → Close shelf_store E F R k.rx k'.rx → fit (plain a.to) k' ≡ fit (plain from) k
  unfolding fit
  fit_to k k' c = go c
    where
      go : {r : theory.State shelf_store E} {q : theory.State shelf_store F} → Close shelf_store E F R r q → both ((plain a.to).sized q.book q.shelf) (next_ok q.next) ≡ both ((plain from).sized r.book r.shelf) (next_ok r.next)
      go (close n {x = x} {y = y} {s = s} {t = t} r o p h) = λ i. both (sized_to from a ok x y s t r o p i) (next_ok n)

  module _ (k k' : Plainly) (d : Firm (retyped a) shelf_store E F R k.rx k'.rx) where
    records_to : (cs : List Rec) → AllGood from cs → Every Numbered cs → Every Bounded cs → HandledTo k.rx cs (handled_by (plain from) (records cs) k) (handled_by (plain a.to) (records (recs_to a cs)) k')
    unfolding handled_by told
    records_to cs g v w =
        let m = meant_to from a ok cs g in
        record {
          answers = accepted_to (record {
            before = said shelf_store E cs k.rx;
            converted = said shelf_store F (recs_to a cs) k'.rx;
            counts_before = refl;
            counts_converted = refl;
            answers = said_to (retyped a) (retyped_short a) shelf_store E F R (plain_laws from).store cs m v w d;
          });
          kept = (run_to (retyped a) (retyped_short a) shelf_store E F R (plain_laws from).store cs m v w d).kept;
        }

    abbrev Framed : Framing → Framing → Type 0
    Framed x y = HandledTo k.rx (records_of x) (handled_by (plain from) x k) (handled_by (plain a.to) y k')

    framed_to : (p : List ℕ) → Framed (framing from p) (framing a.to (packet_to from a p))
    unfolding handled_by
    framed_to p = go (becomes from a p ok)
      where
        both_are : {x y : Framing} → framing from p ≡ x → framing a.to (packet_to from a p) ≡ y → Framed x y → Framed (framing from p) (framing a.to (packet_to from a p))
        both_are {x} {y} e f h = subst (λ (z : Framing). Framed z (framing a.to (packet_to from a p))) (sym e) (subst (Framed x) (sym f) h)

        go : Becomes from a p → Framed (framing from p) (framing a.to (packet_to from a p))
        go (taken cs e f) =
            both_are e f (records_to cs (all_good from a ok p cs e)
            (subst (λ (x : Framing). Every Numbered (records_of x)) e ((plain_laws from).numbered p))
            (subst (λ (x : Framing). Every Bounded (records_of x)) e ((plain_laws from).bounded p)))
        go (refused w v e f) = both_are e f (record { answers = refused_to (refusing w) (refusing v); kept = d.kept })

    receives_to : (p : List ℕ) → HandledTo k.rx (records_of (framing from p)) (receives (plain from) k p) (receives (plain a.to) k' (packet_to from a p))
    unfolding receives pick
    receives_to p =
        subst (λ (t : Bool). HandledTo k.rx (records_of (framing from p)) (receives (plain from) k p) (pick t (handled_by (plain a.to) (framing a.to (packet_to from a p)) k') (handled (plain a.to) (Err (Why.Alone (refusal 6))) k')))
        (sym (fit_to k k' d.near)) (go (fit (plain from) k))
      where
        go : (t : Bool) → HandledTo k.rx (records_of (framing from p)) (pick t (handled_by (plain from) (framing from p) k) (handled (plain from) (Err (Why.Alone (refusal 6))) k)) (pick t (handled_by (plain a.to) (framing a.to (packet_to from a p)) k') (handled (plain a.to) (Err (Why.Alone (refusal 6))) k'))
        go true = framed_to p
        go false = record { answers = refused_to (refusing (Why.Alone (refusal 6))) (refusing (Why.Alone (refusal 6))); kept = d.kept }

  -- ---- any calls, with an index or without
  pub record FirmPair (k k' : Lent) : Type 0 where
    pub pair : Pair from a ok k k'
    pub kept : Kept (retyped a) shelf_store k.rx.shelf k'.rx.shelf

  pub fresh_firm : (o s h i i' : ℕ) → sizes_ok o s h i ≡ true → sizes_ok o s h i' ≡ true → FirmPair (fresh from o s h i) (fresh a.to o s h i')
  fresh_firm o s h i i' e e' =
      let g = sizes_are o s h i e in
      record {
        pair = fresh_pair from a ok o s h i i' e e';
        kept = λ j l. both_empty ((fresh_started from o s h i g.0).zeroed.shelf_empty j l) ((fresh_started a.to o s h i' g.0).zeroed.shelf_empty j l);
      }

  pub call_firm : (k k' : Lent) (p : List ℕ) → FirmPair k k' → ReceivedTo (retyped a) shelf_store E (plain_of k).rx (records_of (framing from p)) (received k p).answer (received k' (packet_to from a p)).answer × FirmPair (received k p).after (received k' (packet_to from a p)).after
  call_firm k k' p x =
      let p' : List ℕ = packet_to from a p in
      let cs : List Rec = records_of (framing from p) in
      let g = call_follows from k p x.pair.edition_is x.pair.sure in
      let g' = call_follows a.to k' p' x.pair.edition_is' x.pair.sure' in
      let h = receives_to (plain_of k) (plain_of k') (record { near = x.pair.along.near; kept = x.kept }) p in (
        subst (λ (y : Result Account Why). ReceivedTo (retyped a) shelf_store E (plain_of k).rx cs y (received k' p').answer) (sym g.answer_same) (subst (ReceivedTo (retyped a) shelf_store E (plain_of k).rx cs (receives (plain from) (plain_of k) p).answer) (sym g'.answer_same) h.answers),
        record {
          pair = (call_pair from a ok (packet_to from a) (frames_to from a ok) k k' p x.pair).1;
          kept = subst (λ (y : Plainly). Kept (retyped a) shelf_store y.rx.shelf (received k' p').after.rx.shelf) (sym g.rest_same)
              (subst (λ (y : Plainly). Kept (retyped a) shelf_store (receives (plain from) (plain_of k) p).after.rx.shelf y.rx.shelf) (sym g'.rest_same) h.kept);
        },
      )

  pub calls_firm : (ps : List (List ℕ)) (k k' : Lent) → FirmPair k k' → FirmPair (received_all ps k) (received_all (packets_to from a ps) k')
  unfolding received_all
  calls_firm [] k k' x = x
  calls_firm (p ∷ ps) k k' x = calls_firm ps (received k p).after (received k' (packet_to from a p)).after (call_firm k k' p x).1

  -- ---- what is told: after any packets, of the next
  account_of : (r : theory.State shelf_store E) (cs : List Rec) (u v : Result Account Why) (x y : Account) → u ≡ Ok x → v ≡ Ok y → ReceivedTo (retyped a) shelf_store E r cs u v → AccountTo (retyped a) shelf_store E r cs x y
  account_of r cs _ _ x y e f (accepted_to {x = w} {y = z} h) =
      let w_is : w ≡ x = cc in
      let z_is : z ≡ y = cc in
      subst (λ (c : Account). AccountTo (retyped a) shelf_store E r cs c y) w_is (subst (AccountTo (retyped a) shelf_store E r cs w) z_is h)
  account_of r cs _ v x y e f (refused_to (refusing w) q) = absurd (cc)

  module _ (o s h i i' : ℕ) (sizes : sizes_ok o s h i ≡ true) (sizes' : sizes_ok o s h i' ≡ true) (ps : List (List ℕ)) (p : List ℕ) (x y : Account)
      (before : (received (received_all ps (fresh from o s h i)) p).answer ≡ Ok x)
      (converted : (received (received_all (packets_to from a ps) (fresh a.to o s h i')) (packet_to from a p)).answer ≡ Ok y) where
    -- the one receiver as the packet comes, and the packet's records
    abbrev pub stands : theory.State shelf_store E
    stands = (plain_of (received_all ps (fresh from o s h i))).rx

    abbrev pub cs : List Rec
    cs = records_of (framing from p)

    -- record by record: the same answer, or 14 before and 13 after
    pub second_answers : AccountTo (retyped a) shelf_store E stands cs x y
    second_answers =
        let k : Lent = received_all ps (fresh from o s h i) in
        let k' : Lent = received_all (packets_to from a ps) (fresh a.to o s h i') in
        account_of stands cs (received k p).answer (received k' (packet_to from a p)).answer x y before converted (call_firm k k' p (calls_firm ps (fresh from o s h i) (fresh a.to o s h i') (fresh_firm o s h i i' sizes sizes'))).0

    -- no fewer repeats than before, and as many of all else
    pub second_counts : CountsTo x.counts y.counts
    second_counts =
        let t = second_answers in
        subst (λ (c : Counts). CountsTo c y.counts) (sym t.counts_before) (subst (CountsTo (counts_of t.before)) (sym t.counts_converted) (counts_to (retyped a) shelf_store E t.answers))

    -- every count is the same, or some record of the packet differs from its first copy, which waits in its slot, in byte 20 alone (`merged_in_20`)
    pub same_or_20 : (y.counts ≡ x.counts) ⊎ SomeMerged (retyped a) shelf_store E stands cs
    same_or_20 = let t = second_answers in go t.counts_before t.counts_converted (counts_or_merged (retyped a) shelf_store E t.answers)
      where
        go : {c d : Counts} → x.counts ≡ c → y.counts ≡ d → (d ≡ c) ⊎ SomeMerged (retyped a) shelf_store E stands cs → (y.counts ≡ x.counts) ⊎ SomeMerged (retyped a) shelf_store E stands cs
        go e f (inl g) = inl (f ∙ g ∙ sym e)
        go e f (inr g) = inr g
