-- A receiver of the one edition and one of the other, which is given the same packets converted, go alongside from a start: each body means the same to the other's book, and packets are refused before and after.
-- Assumes nothing.
use Prim.Native.Nat.{ℕ}
use mathlib.Core.Path.{◌≡◌, refl, sym, ap, subst, ◌∙◌}
use mathlib.Core.Bool.{Bool, true, false}
use mathlib.Core.List.{List, [], ◌∷◌, map}
use lib.Dec.{eqb}
use lib.ListN.{length, replicate}
use Rattle.facts.specs.Limits.{shelf_size}
use Rattle.facts.specs.Pick.{pick}
use Rattle.editions.specs.declared.Edition.{Edition}
use Rattle.wire.specs.Records.{Rec}
use Rattle.body.specs.Read.{good_body}
use Rattle.packet.specs.Packet.{framing}
use Rattle.packet.proofs.Good.{AllGood}
use Rattle.book.specs.Book.{Book, book, Effect, applied}
use Rattle.book.specs.Plan.{clock}
use Rattle.book.proofs.Ledgers.{Sure}
use Rattle.arbitration.specs.Engine.{ok as ok', broke}
use Rattle.arbitration.specs.Same.{Alike, both_ok, both_broke}
use Rattle.arbitration.specs.Meaning.{Means, Meant, none, more, Close}
use Rattle.arbitration.proofs.MeaningLaws.{close_agrees}
use Rattle.shelf.specs.Store.{shelf_store}
use Rattle.receiver.specs.Receiver.{receives}
use Rattle.receiver.specs.Lent.{tables_ok, sizes_ok, book_engine, book_rules, plain, Lent, plain_of, received, received_all, real, fresh, zero_book}
use Rattle.std.specs.Prelude.{Result}
use Rattle.packet.specs.declared.Why.{Why}
use Rattle.receiver.specs.declared.Account.{Account}
use Rattle.receiver.proofs.Real.{plain_laws, fresh_started, sizes_are, rows_sized}
use Rattle.receiver.proofs.Along.{Plainly}
use Rattle.receiver.proofs.Editions.{edition_kept}
use Rattle.receiver.proofs.Engines.{call_follows, zero_sure}
use Rattle.retype.specs.Types.{types_ok}
use Rattle.retype.specs.Retyped.{Asked, retyped}
use Rattle.retype.proofs.Laws.{retyped_good}
use Rattle.mornings.specs.Tables.{book_to}
use Rattle.conversion.specs.Kept.{recs_to}
use Rattle.mornings.specs.Mornings.{SameMorning}
use Rattle.mornings.specs.Alongside.{Two, FramesAlike, ReceivedAlike, Alongside}
use Rattle.mornings.proofs.Alongside.{started_alongside, call_alike}
use Rattle.mornings.proofs.Entries.{length_to, wiped_to}
use Rattle.mornings.proofs.Books.{applied_to}

-- ---- messages
module _ (from : Edition) (a : Asked) (ok : types_ok a.to a.all a.others ≡ true) where
  abbrev pub two : Two
  two =
      record {
        store = shelf_store;
        rules = book_rules from;
        rules' = book_rules a.to;
        frame = framing from;
        frame' = framing a.to;
        sized = (plain from).sized;
        sized' = (plain a.to).sized;
        R = λ x y. book_to a x ≡ y;
      }

  -- a good body means to the other's book what it means to the one's
  pub means_to : (b : List ℕ) → good_body from b ≡ true → Means (book_engine from) (book_engine a.to) two.R b (retyped a b)
  unfolding pick
  means_to b g = record { as_good = retyped_good from a b g ok ∙ sym g; as_applied = λ n x y _ _ r. subst (λ (k : Book). Alike two.R ((book_engine from).apply n b x) ((book_engine a.to).apply n (retyped a b) k)) r (does n x) }
    where
      by : (t : Bool) (q : ℕ) (k : Book) → Alike two.R (pick t (ok' k) (broke q)) (pick t (ok' (book_to a k)) (broke q))
      by true q k = both_ok refl
      by false q k = both_broke q

      does : (n : ℕ) (x : Book) → Alike two.R ((book_engine from).apply n b x) ((book_engine a.to).apply n (retyped a b) (book_to a x))
      does n x =
          subst (λ (z : Effect). Alike two.R ((book_engine from).apply n b x) (pick (eqb z.rule 0) (ok' z.after) (broke z.rule))) (sym (applied_to from a b g ok n x))
          (by (eqb (applied from n b x).rule 0) (applied from n b x).rule (applied from n b x).after)

  pub meant_to : (cs : List Rec) → AllGood from cs → Meant (book_engine from) (book_engine a.to) two.R cs (recs_to a cs)
  meant_to [] h = none
  meant_to (c ∷ cs) h = more c.number (means_to c.body h.0.body_good) (meant_to cs h.1)

  -- the sizes that are judged are the same
  pub sized_to : (x y : Book) (s t : List ℕ) → book_to a x ≡ y → length s ≡ shelf_size → length t ≡ shelf_size → (plain a.to).sized y t ≡ (plain from).sized x s
  sized_to x y s t e m n =
      ap (λ (k : Book). tables_ok (length k.orders) (length k.symbols) (length t)) (sym e)
      ∙ (λ i. tables_ok (length x.orders) (length_to a x.symbols i) ((n ∙ sym m) i))

  -- ---- calls: of packets, and of what is given in their place
  -- a receiver of each edition, each with no index or with that of its rows
  pub record Pair (k k' : Lent) : Type 0 where
    pub edition_is : k.edition ≡ from
    pub edition_is' : k'.edition ≡ a.to
    pub sure : Sure k.rx.book
    pub sure' : Sure k'.rx.book
    pub along : Alongside two (plain_of k) (plain_of k')

  pub fresh_pair : (o s h i i' : ℕ) → sizes_ok o s h i ≡ true → sizes_ok o s h i' ≡ true → Pair (fresh from o s h i) (fresh a.to o s h i')
  fresh_pair o s h i i' e e' =
      let g = sizes_are o s h i e in
      let g' = sizes_are o s h i' e' in
      let r = rows_sized o s h g.0 in
      record {
        edition_is = refl;
        edition_is' = refl;
        sure = zero_sure o s i r g.1;
        sure' = zero_sure o s i' r g'.1;
        along = started_alongside two (zero_book o s) (zero_book o s) (plain_of (fresh from o s h i)) (plain_of (fresh a.to o s h i')) (λ j. book (replicate o 0) (wiped_to a s j) (clock 0)) (fresh_started from o s h i g.0) (fresh_started a.to o s h i' g.0);
      }

  module _ (f : List ℕ → List ℕ) (frames : (p : List ℕ) → FramesAlike two (framing from p) (framing a.to (f p))) where
    pub call_pair : (k k' : Lent) (p : List ℕ) → Pair k k' → ReceivedAlike (received k p).answer (received k' (f p)).answer × Pair (received k p).after (received k' (f p)).after
    call_pair k k' p x =
        let g = call_follows from k p x.edition_is x.sure in
        let g' = call_follows a.to k' (f p) x.edition_is' x.sure' in
        let h = call_alike two (plain_laws from) (plain_laws a.to) sized_to (plain_of k) (plain_of k') p (f p) (frames p) x.along in (
          subst (λ (y : Result Account Why). ReceivedAlike y (received k' (f p)).answer) (sym g.answer_same) (subst (ReceivedAlike (receives (plain from) (plain_of k) p).answer) (sym g'.answer_same) h.answers_alike),
          record {
            edition_is = edition_kept (real k.edition) k p ∙ x.edition_is;
            edition_is' = edition_kept (real k'.edition) k' (f p) ∙ x.edition_is';
            sure = g.kind;
            sure' = g'.kind;
            along = subst (λ (y : Plainly). Alongside two y (plain_of (received k' (f p)).after)) (sym g.rest_same) (subst (Alongside two (receives (plain from) (plain_of k) p).after) (sym g'.rest_same) h.still);
          },
        )

    pub calls_pair : (ps : List (List ℕ)) (k k' : Lent) → Pair k k' → Pair (received_all ps k) (received_all (map f ps) k')
    unfolding received_all
    calls_pair [] k k' x = x
    calls_pair (p ∷ ps) k k' x = calls_pair ps (received k p).after (received k' (f p)).after (call_pair k k' p x).1

  -- what it is to a reader
  pub pair_same : (k k' : Lent) → Pair k k' → SameMorning a k k'
  pair_same k k' x = go x.along.near x.along.stop_same
    where
      go : Close shelf_store (book_engine from) (book_engine a.to) two.R (plain_of k).rx (plain_of k').rx → k'.stop ≡ k.stop → SameMorning a k k'
      go c s =
          let g = close_agrees shelf_store (book_engine from) (book_engine a.to) two.R c in
          record {
            next = g.next_same;
            clock = sym (ap (λ (b : Book). b.clock) g.books_alike);
            stop = s;
            orders = sym (ap (λ (b : Book). b.orders) g.books_alike);
            symbols = sym (ap (λ (b : Book). b.symbols) g.books_alike);
          }
