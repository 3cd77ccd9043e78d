-- The real parts keep what the theory asks: by the laws of the readers, the book and the shelf. So do they without an index, of which demand 3 speaks.
-- Assumes nothing.
use Prim.Native.Nat.{ℕ}
use mathlib.Core.Path.{◌≡◌, refl, sym, ap, subst, ◌∙◌}
use mathlib.Core.Bool.{Bool, true, false}
use mathlib.Core.List.{List, [], ◌∷◌}
use native.Mathlib.Omega.{arith}
use lib.ListN.{length, replicate, length-replicate}
use Rattle.facts.specs.Pick.{pick, both}
use Rattle.facts.proofs.Picks.{both_true, pick_ind}
use Rattle.editions.specs.declared.Edition.{Edition}
use Rattle.wire.specs.Records.{Rec, bad, records}
use Rattle.fields.specs.Fields.{refusal}
use Rattle.body.proofs.Laws.{good_fits}
use Rattle.packet.specs.Packet.{Framing, framing}
use Rattle.packet.proofs.Laws.{GoodRec}
use Rattle.packet.proofs.Good.{AllGood, Fine, framing_fine}
use Rattle.rows.specs.Rows.{rows, good_rows}
use Rattle.symbols.specs.Entries.{good_entries}
use Rattle.index.proofs.Lengths.{built_length}
use Rattle.engines.specs.Engines.{good_index}
use Rattle.book.proofs.Steps.{broken_keeps, bad_body, rule_good, lengths_kept}
use Rattle.book.proofs.Ledgers.{post_broken, post_bad, post_good, post_lengths}
use Rattle.arbitration.specs.Receive.{records_of}
use Rattle.arbitration.specs.Lists.{Every, Numbered, Bounded}
use Rattle.shelf.specs.Shelf.{good_shelf}
use Rattle.shelf.proofs.StoreLaws.{shelf_laws, length_put_slot}
use Rattle.shelf.proofs.Laws.{good_size, zeros_empty}
use Rattle.receiver.specs.Demand3 as demand
use Rattle.receiver.specs.Lent.{tables_ok, sizes_ok, real, plain, Lent, lent, plain_of, fresh, fresh_state, zero_book, zero_ledger, Begun, begun, start_number, started}
use Rattle.receiver.specs.declared.State.{State}
use Rattle.std.specs.Prelude.{Ok, Err}
use Rattle.receiver.proofs.PartsLaws.{PartsLaws}
use Rattle.receiver.proofs.Records.{good_bounded}
use Rattle.receiver.proofs.Demand.{demand_3}

-- what is known of a good record is known of each record of a packet
pub every_framed : (ed : Edition) (P : Rec → Type 0) → ((c : Rec) → GoodRec ed c → P c) → (p : List ℕ) → Every P (records_of (framing ed p))
every_framed ed P good p = go (framing ed p) (framing_fine ed p)
  where
    all : (cs : List Rec) → AllGood ed cs → Every P cs
    all [] h = tt
    all (c ∷ cs) h = (good c h.0, all cs h.1)

    go : (x : Framing) → Fine ed (length p) x → Every P (records_of x)
    go (bad q) f = tt
    go (records cs) f = all cs f

pub framing_bounded : (ed : Edition) (p : List ℕ) → Every Bounded (records_of (framing ed p))
framing_bounded ed p = every_framed ed Bounded (good_bounded ed) p

shelf_sized : (o s h : ℕ) → tables_ok o s h ≡ true → good_shelf h ≡ true
unfolding tables_ok
shelf_sized o s h e =
    let b = both_true {a = good_rows o} {b = both (good_entries s) (good_shelf h)} e in
    (both_true {a = good_entries s} {b = good_shelf h} b.1).1

pub rows_sized : (o s h : ℕ) → tables_ok o s h ≡ true → good_rows o ≡ true
unfolding tables_ok
rows_sized o s h e = (both_true {a = good_rows o} {b = both (good_entries s) (good_shelf h)} e).0

pub sizes_are : (o s h i : ℕ) → sizes_ok o s h i ≡ true → (tables_ok o s h ≡ true) × (good_index i ≡ true)
unfolding sizes_ok
sizes_are o s h i e = both_true {a = tables_ok o s h} {b = good_index i} e

pub real_laws : (ed : Edition) → PartsLaws (real ed)
real_laws ed = record {
  store = shelf_laws;
  good_fits = λ b h. omega (arith, (good_fits ed b h).most);
  rule_good = λ n b l e. post_good ed n b l e;
  bad_body = λ n b l e. post_bad ed n b l e;
  broken_keeps = λ n b l e. post_broken ed n b l e;
  numbered = λ p. every_framed ed Numbered (λ c g. record { number_from = g.number_from; number_to = g.number_to }) p;
  bounded = framing_bounded ed;
  sized_ok = λ l h e.
      let t = sizes_are (length l.plain.orders) (length l.plain.symbols) (length h) (length l.index) e in
      good_size (length h) (shelf_sized (length l.plain.orders) (length l.plain.symbols) (length h) t.0);
  sized_put = λ l h i x. ap (λ (n : ℕ). sizes_ok (length l.plain.orders) (length l.plain.symbols) n (length l.index)) (length_put_slot h i x);
  sized_after = λ n b l h. let k = post_lengths ed n b l in rw (k.orders, k.symbols, k.index) refl;
}

-- and so do they without an index
pub plain_laws : (ed : Edition) → PartsLaws (plain ed)
plain_laws ed = record {
  store = shelf_laws;
  good_fits = (real_laws ed).good_fits;
  rule_good = λ n b k e. rule_good ed n b k e;
  bad_body = λ n b k e. bad_body ed n b k e;
  broken_keeps = λ n b k e. broken_keeps ed n b k e;
  numbered = (real_laws ed).numbered;
  bounded = framing_bounded ed;
  sized_ok = λ k h e. good_size (length h) (shelf_sized (length k.orders) (length k.symbols) (length h) e);
  sized_put = λ k h i x. ap (tables_ok (length k.orders) (length k.symbols)) (length_put_slot h i x);
  sized_after = λ n b k h. let l = lengths_kept ed n b k in rw (l.0, l.1) refl;
}

-- ---- demand 3 of a receiver without an index, in tables of o numbers and s bytes
pub plain_demand : (ed : Edition) (ms : List (List ℕ)) (o s : ℕ) → demand.Demand3 (plain ed) (demand.parts_calls (plain ed)) ms (zero_book o s)
plain_demand ed ms o s = demand_3 (plain ed) (plain_laws ed) ms (zero_book o s)

-- a start is where it begins, whatever index is lent
pub fresh_started : (ed : Edition) (o s h i : ℕ) → tables_ok o s h ≡ true → demand.Started (plain ed) (zero_book o s) (plain_of (fresh ed o s h i))
fresh_started ed o s h i e =
    record {
      sizes_good = rw (length-replicate {A = ℕ} o 0, length-replicate {A = ℕ} s 0, length-replicate {A = ℕ} h 0) e;
      zeroed = record {
        ok_shelf = length-replicate h 0 ∙ good_size h (shelf_sized o s h e);
        next_1 = refl;
        book_start = refl;
        shelf_empty = λ i l. ap (λ x. x.number) (zeros_empty h i);
      };
      no_stop = refl;
    }

-- and with its index it is one that no packet is refused by 6 from
pub fresh_real : (ed : Edition) (o s h i : ℕ) → sizes_ok o s h i ≡ true → demand.Started (real ed) (zero_ledger o s i) (fresh ed o s h i)
fresh_real ed o s h i e =
    let t = fresh_started ed o s h i (sizes_are o s h i e).0 in
    record {
      sizes_good = rw (length-replicate {A = ℕ} o 0, length-replicate {A = ℕ} s 0, length-replicate {A = ℕ} h 0, built_length (replicate i 0) (rows (replicate o 0)), length-replicate {A = ℕ} i 0) e;
      zeroed = record { ok_shelf = t.zeroed.ok_shelf; next_1 = refl; book_start = refl; shelf_empty = t.zeroed.shelf_empty };
      no_stop = refl;
    }

-- ---- what `start` ensures
-- "a refusal changes no byte and no state"
pub start_keeps : (ed : Edition) (o s h ix : List ℕ) → (start_number (started ed o s h ix).answer ≡ 0 → ⊥) → started ed o s h ix ≡ begun (Err (refusal 6)) o s h ix
unfolding started
start_keeps ed o s h ix =
    pick_ind (λ x. (start_number x.answer ≡ 0 → ⊥) → x ≡ begun (Err (refusal 6)) o s h ix) (sizes_ok (length o) (length s) (length h) (length ix)) _ (begun (Err (refusal 6)) o s h ix)
    (λ _ n. absurd (n refl)) (λ _ _. refl)

-- a start that was not refused: sizes are good, and the receiver is a fresh one
module _ (ed : Edition) (o s h ix : List ℕ) (st : State) (o' s' h' ix' : List ℕ) (e : begun (Ok st) o' s' h' ix' ≡ started ed o s h ix) where
  pub start_ready : (sizes_ok (length o) (length s) (length h) (length ix) ≡ true) × (lent o' s' h' ix' st ≡ fresh ed (length o) (length s) (length h) (length ix))
  unfolding started pick
  start_ready = go (sizes_ok (length o) (length s) (length h) (length ix)) refl
    where
      go : (b : Bool) → sizes_ok (length o) (length s) (length h) (length ix) ≡ b
          → (sizes_ok (length o) (length s) (length h) (length ix) ≡ true) × (lent o' s' h' ix' st ≡ fresh ed (length o) (length s) (length h) (length ix))
      go true f =
          let y = rw f at e in
          let a : Ok st ≡ Ok (fresh_state ed) = ap (λ (u : Begun). u.answer) y in
          let st_is : st ≡ fresh_state ed = cc in
          (f, λ i. lent (y i).orders (y i).symbols (y i).shelf (y i).index (st_is i))
      go false f =
          let y = rw f at e in
          let a : Ok st ≡ Err (refusal 6) = ap (λ (u : Begun). u.answer) y in
          let z : ◌≡◌ {A = ℕ} 0 1 = cc in absurd (omega arith)

  -- and demand 3 speaks of it
  pub start_started : demand.Started (plain ed) (zero_book (length o) (length s)) (plain_of (lent o' s' h' ix' st))
  start_started =
      subst (λ (k : Lent). demand.Started (plain ed) (zero_book (length o) (length s)) (plain_of k)) (sym start_ready.1)
      (fresh_started ed (length o) (length s) (length h) (length ix) (sizes_are (length o) (length s) (length h) (length ix) start_ready.0).0)
