-- Two engines side by side (request 9), over the ledgers of a kind: each message breaks the rule and leaves the book that it would without an index, and leaves a ledger of that
-- kind. Then so does every call. Engines has two kinds: those that follow their rows, and those without an index.
-- Assumes nothing.
use Prim.Native.Nat.{ℕ, ◌≤◌}
use mathlib.Core.Path.{◌≡◌, refl, sym, ap, subst, ◌∙◌}
use mathlib.Core.Bool.{Bool, true, false}
use mathlib.Core.List.{List, [], ◌∷◌}
use lib.Dec.{eqb}
use lib.ListN.{length}
use borrow.Author.Tests.{leb-true}
use Rattle.facts.specs.Pick.{pick, both}
use Rattle.facts.proofs.Picks.{both_true}
use Rattle.editions.specs.declared.Edition.{Edition}
use Rattle.wire.specs.Records.{Rec, bad, records}
use Rattle.fields.specs.Fields.{refusal}
use Rattle.packet.specs.Packet.{Framing, framing}
use Rattle.engines.specs.Engines.{good_index}
use Rattle.book.specs.Book.{Book, applied}
use Rattle.book.specs.Ledger.{Ledger, posted}
use Rattle.arbitration.specs.Receive.{Told, State, told, said}
use Rattle.arbitration.specs.Same.{Alike, both_ok, both_broke, Sim, Twin, twin}
use Rattle.arbitration.proofs.SameLaws.{run_twin, told_twin, said_twin}
use Rattle.shelf.specs.Store.{shelf_store}
use Rattle.receiver.specs.Receiver.{next_ok, account, Keeps, Handles, handled, handled_by, fit, receives, receives_all}
use Rattle.receiver.specs.Lent.{tables_ok, sizes_ok, book_engine, ledger_engine, real, plain, Rx, Lent, plain_rx, plain_of, Handled, received, received_all}
use Rattle.std.specs.Prelude.{Ok, Err}
use Rattle.packet.specs.declared.Why.{Why}
use Rattle.receiver.proofs.Editions.{chosen_run, edition_kept}

abbrev pub Plainly : Type 0
Plainly = Keeps (List ℕ) Book

-- a kind of ledger that messages keep, and that goes along with its book
pub record Along (ed : Edition) (Q : Ledger → Type 0) : Type 0 where
  pub sized : (l : Ledger) → Q l → good_index (length l.index) ≡ true
  pub rule_same : (n : ℕ) (b : List ℕ) (l : Ledger) → Q l → (posted ed n b l).rule ≡ (applied ed n b l.plain).rule
  pub book_same : (n : ℕ) (b : List ℕ) (l : Ledger) → Q l → (posted ed n b l).after.plain ≡ (applied ed n b l.plain).after
  pub kept : (n : ℕ) (b : List ℕ) (l : Ledger) → 1 ≤ n → Q l → Q (posted ed n b l).after

-- a call with an index beside one without
pub record Followed (Q : Ledger → Type 0) (a : Handles (List ℕ) Book) (b : Handled) : Type 0 where
  pub answer_same : b.answer ≡ a.answer
  pub rest_same : plain_of b.after ≡ a.after
  pub kind : Q b.after.rx.book

-- a good index size is no reason to refuse
pub both_one : (a b : Bool) → b ≡ true → both a b ≡ a
unfolding both
both_one true b e = e
both_one false b e = refl

pub sizes_one : (o s h i : ℕ) → good_index i ≡ true → sizes_ok o s h i ≡ tables_ok o s h
unfolding sizes_ok
sizes_one o s h i g = both_one (tables_ok o s h) (good_index i) g

module _ (ed : Edition) (Q : Ledger → Type 0) (L : Along ed Q) where
  -- a ledger beside its book
  abbrev related : Book → Ledger → Type 0
  related k l = (l.plain ≡ k) × Q l

  alike : (n : ℕ) (b : List ℕ) (l : Ledger) → 1 ≤ n → Q l → Alike related ((book_engine ed).apply n b l.plain) ((ledger_engine ed).apply n b l)
  unfolding pick
  alike n b l h u = go (eqb (applied ed n b l.plain).rule 0) refl
    where
      go : (t : Bool) → eqb (applied ed n b l.plain).rule 0 ≡ t → Alike related ((book_engine ed).apply n b l.plain) ((ledger_engine ed).apply n b l)
      go true e = rw (L.rule_same n b l u, e) (both_ok (L.book_same n b l u, L.kept n b l h u))
      go false e = rw (L.rule_same n b l u, e) (both_broke (applied ed n b l.plain).rule)

  -- the theory's form of it, which takes refreshes too: one leaves related books where its index is built (`built_sure`, Engines)
  pub twins : Sim (book_engine ed) (ledger_engine ed)
  twins = record {
    R = related;
    good_same = λ b. refl;
    step = λ n b x y h g r. subst (λ (k : Book). Alike related ((book_engine ed).apply n b k) ((ledger_engine ed).apply n b y)) r.0 (alike n b y h r.1);
  }

  abbrev Twinned : State shelf_store (book_engine ed) → Rx → Type 0
  Twinned q r = Twin shelf_store (book_engine ed) (ledger_engine ed) twins q r

  twin_of : (r : Rx) → Q r.book → Twinned (plain_rx r) r
  unfolding twins
  twin_of r u = twin r.next r.shelf (refl, u)

  twin_shows : {q : State shelf_store (book_engine ed)} {r : Rx} → Twinned q r → (plain_rx r ≡ q) × Q r.book
  unfolding twins
  twin_shows (twin n s h) = ((λ i. record { next = n; shelf = s; book = h.0 i }), h.1)

  -- the records' answers, one by one
  pub said_along : (cs : List Rec) (r : Rx) → 1 ≤ r.next → Q r.book → said shelf_store (ledger_engine ed) cs r ≡ said shelf_store (book_engine ed) cs (plain_rx r)
  said_along cs r h u = sym (said_twin shelf_store (book_engine ed) (ledger_engine ed) twins cs h (twin_of r u))

  -- ---- one call
  fit_same : (k : Lent) → Q k.rx.book → fit (real ed) k ≡ fit (plain ed) (plain_of k)
  unfolding fit
  fit_same k u =
      ap (λ (t : Bool). both t (next_ok k.rx.next))
      (sizes_one (length k.rx.book.plain.orders) (length k.rx.book.plain.symbols) (length k.rx.shelf) (length k.rx.book.index) (L.sized k.rx.book u))

  from_1 : (k : Lent) → fit (plain ed) (plain_of k) ≡ true → 1 ≤ k.rx.next
  unfolding fit next_ok
  from_1 k f = leb-true 1 k.rx.next (both_true (both_true f).1).0

  call_along : (k : Lent) (p : List ℕ) → Q k.rx.book → Followed Q (receives (plain ed) (plain_of k) p) (receives (real ed) k p)
  unfolding receives handled_by pick
  call_along k p u = rw (fit_same k u) (go (fit (plain ed) (plain_of k)) refl)
    where
      framed : 1 ≤ k.rx.next → (x : Framing) → Followed Q (handled_by (plain ed) x (plain_of k)) (handled_by (real ed) x k)
      framed h (bad w) = record { answer_same = refl; rest_same = refl; kind = u }
      framed h (records cs) =
          let t = twin_of k.rx u in
          let s : told shelf_store (book_engine ed) cs (plain_rx k.rx) ≡ told shelf_store (ledger_engine ed) cs k.rx = told_twin shelf_store (book_engine ed) (ledger_engine ed) twins cs h t in
          let w = twin_shows (run_twin shelf_store (book_engine ed) (ledger_engine ed) twins cs h t) in
          record {
            answer_same = ap (λ (y : Told). Ok (account y)) (sym s);
            rest_same = λ i. record { rx = w.0 i; stop = (sym s i).stopped; edition = k.edition };
            kind = w.1;
          }

      go : (t : Bool) → fit (plain ed) (plain_of k) ≡ t
          → Followed Q (pick t (handled_by (plain ed) (framing ed p) (plain_of k)) (handled (plain ed) (Err (Why.Alone (refusal 6))) (plain_of k))) (pick t (handled_by (real ed) (framing ed p) k) (handled (real ed) (Err (Why.Alone (refusal 6))) k))
      go true f = framed (from_1 k f) (framing ed p)
      go false f = record { answer_same = refl; rest_same = refl; kind = u }

  -- by the edition that the state has
  pub one_along : (k : Lent) (p : List ℕ) → k.edition ≡ ed → Q k.rx.book → Followed Q (receives (plain ed) (plain_of k) p) (received k p)
  one_along k p e u = subst (λ (v : Edition). Followed Q (receives (plain ed) (plain_of k) p) (receives (real v) k p)) (sym e) (call_along k p u)

  -- ---- any number of calls
  all_along : (ps : List (List ℕ)) (k : Lent) → Q k.rx.book → (plain_of (receives_all (real ed) ps k) ≡ receives_all (plain ed) ps (plain_of k)) × Q (receives_all (real ed) ps k).rx.book
  unfolding receives_all
  all_along [] k u = (refl, u)
  all_along (p ∷ ps) k u =
      let f = call_along k p u in
      let r = all_along ps (receives (real ed) k p).after f.kind in
      (r.0 ∙ ap (receives_all (plain ed) ps) f.rest_same, r.1)

  pub runs_along : (ps : List (List ℕ)) (k : Lent) → k.edition ≡ ed → Q k.rx.book → (plain_of (received_all ps k) ≡ receives_all (plain ed) ps (plain_of k)) × Q (received_all ps k).rx.book
  runs_along ps k e u = subst (λ (x : Lent). (plain_of x ≡ receives_all (plain ed) ps (plain_of k)) × Q x.rx.book) (sym (chosen_run ed ps k e)) (all_along ps k u)

  run_edition : (ps : List (List ℕ)) (k : Lent) → k.edition ≡ ed → (received_all ps k).edition ≡ ed
  unfolding received_all
  run_edition [] k e = e
  run_edition (p ∷ ps) k e = run_edition ps (received k p).after (edition_kept (real k.edition) k p ∙ e)

  pub answers_along : (ps : List (List ℕ)) (p : List ℕ) (k : Lent) → k.edition ≡ ed → Q k.rx.book
      → ((received (received_all ps k) p).answer ≡ (receives (plain ed) (receives_all (plain ed) ps (plain_of k)) p).answer) × (plain_of (received (received_all ps k) p).after ≡ (receives (plain ed) (receives_all (plain ed) ps (plain_of k)) p).after)
  answers_along ps p k e u =
      let r = runs_along ps k e u in
      let f = one_along (received_all ps k) p (run_edition ps k e) r.1 in
      (f.answer_same ∙ ap (λ (y : Plainly). (receives (plain ed) y p).answer) r.0, f.rest_same ∙ ap (λ (y : Plainly). (receives (plain ed) y p).after) r.0)
