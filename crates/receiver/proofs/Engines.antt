-- Two engines side by side (request 9): while the index is that of the rows, or none is lent, every call answers and leaves what it would without an index. So demand 3 holds of both,
-- and they give the same answers and the same tables. Where none is lent that is so over any tables.
-- Assumes nothing.
use Prim.Native.Nat.{ℕ, ◌-◌, ◌≤◌}
use mathlib.Core.Path.{◌≡◌, refl, sym, ap, subst, ◌∙◌}
use mathlib.Core.Bool.{Bool, true, false}
use mathlib.Core.Logic.{◌⊎◌, inl, inr}
use mathlib.Core.List.{List, [], ◌∷◌, map}
use native.Mathlib.Omega.{arith}
use lib.ListN.{length, replicate, length-replicate}
use Rattle.facts.specs.Pick.{pick}
use Rattle.editions.specs.declared.Edition.{Edition}
use Rattle.fields.specs.Fields.{refusal}
use Rattle.packet.specs.Packet.{framing}
use Rattle.rows.specs.Rows.{rows, good_rows}
use Rattle.rows.specs.Tidy.{Unique}
use Rattle.rows.proofs.Tables.{length_rows}
use Rattle.rows.proofs.Judged.{good_rows_lem}
use Rattle.symbols.specs.Entries.{entries}
use Rattle.symbols.specs.Tidy.{Distinct}
use Rattle.symbols.proofs.StartLaws.{wiped_distinct}
use Rattle.orders.proofs.Unique.{zero_unique}
use Rattle.index.specs.Index.{built}
use Rattle.index.specs.Indexed.{Indexed}
use Rattle.index.proofs.Built.{built_indexed}
use Rattle.index.proofs.Lengths.{built_length}
use Rattle.engines.specs.Engines.{good_index}
use Rattle.engines.proofs.Cases.{index_none, index_size, index_cases}
use Rattle.book.specs.Book.{Book}
use Rattle.book.specs.Ledger.{Ledger, ledger, Posting}
use Rattle.book.proofs.Ledgers.{posted_alone, Sure, posted_same, sure_kept}
use Rattle.arbitration.specs.Receive.{accepted}
use Rattle.arbitration.specs.Lists.{Among}
use Rattle.receiver.specs.Receiver.{handled, receives, receives_all}
use Rattle.receiver.specs.Demand3 as demand
use Rattle.receiver.specs.Chosen.{Begins, Chosen}
use Rattle.receiver.specs.Engines.{SameStarts, Call, packet, done, done_all, SameRuns}
use Rattle.receiver.specs.Lent.{tables_ok, sizes_ok, real, plain, Lent, plain_of, orders_of, index_of, start_index, received, received_all, fresh, fresh_state, zero_book, zero_ledger, Begun, begun, started}
use Rattle.std.specs.Prelude.{Ok, Err}
use Rattle.receiver.proofs.Accounts.{account_reports}
use Rattle.receiver.proofs.Along.{Plainly, Along, Followed, sizes_one, said_along, one_along, runs_along, answers_along}
use Rattle.receiver.proofs.Editions.{call_more, edition_kept}
use Rattle.receiver.proofs.Real.{plain_demand, rows_sized, sizes_are}

-- ---- the kinds of ledger that go along with their books
-- those whose index is that of their rows, or that have none, and in which no ID stands twice
pub sure_along : (ed : Edition) → Along ed Sure
sure_along ed = record {
  sized = λ l u. go l u.followed;
  rule_same = λ n b l u. ap (λ (x : Posting). x.rule) (posted_same l u ed n b);
  book_same = λ n b l u. ap (λ (x : Posting). x.after.plain) (posted_same l u ed n b);
  kept = λ n b l h u. sure_kept l u ed n b h;
}
  where
    go : (l : Ledger) → (length l.index ≡ 0) ⊎ Indexed l.index (rows l.plain.orders) → good_index (length l.index) ≡ true
    go l (inl e) = index_none (length l.index) e
    go l (inr x) = index_size (length l.index) x.all.size

-- those without an index, whatever stands in their tables: the searches are document 01's
abbrev Alone : Ledger → Type 0
Alone l = length l.index ≡ 0

alone_along : (ed : Edition) → Along ed Alone
alone_along ed = record {
  sized = λ l e. index_none (length l.index) e;
  rule_same = λ n b l e. ap (λ (x : Posting). x.rule) (posted_alone ed n b l e);
  book_same = λ n b l e. ap (λ (x : Posting). x.after.plain) (posted_alone ed n b l e);
  kept = λ n b l h e. ap (λ (x : Posting). length x.after.index) (posted_alone ed n b l e) ∙ e;
}

-- the first engine is document 01's over any tables and any state, altered ones too: "If a caller alters tables or state between calls, the same steps hold over what is found"
pub alone_follows : (k : Lent) (p : List ℕ) → length (index_of k) ≡ 0
    → ((received k p).answer ≡ (receives (plain k.edition) (plain_of k) p).answer) × (plain_of (received k p).after ≡ (receives (plain k.edition) (plain_of k) p).after)
alone_follows k p e = let f = one_along k.edition Alone (alone_along k.edition) k p refl e in (f.answer_same, f.rest_same)

-- ---- calls from a start are those without an index
module _ (ed : Edition) where
  pub call_follows : (k : Lent) (p : List ℕ) → k.edition ≡ ed → Sure k.rx.book → Followed Sure (receives (plain ed) (plain_of k) p) (received k p)
  call_follows = one_along ed Sure (sure_along ed)

  pub runs_follow : (ps : List (List ℕ)) (k : Lent) → k.edition ≡ ed → Sure k.rx.book → (plain_of (received_all ps k) ≡ receives_all (plain ed) ps (plain_of k)) × Sure (received_all ps k).rx.book
  runs_follow = runs_along ed Sure (sure_along ed)

  pub answers_follow : (ps : List (List ℕ)) (p : List ℕ) (k : Lent) → k.edition ≡ ed → Sure k.rx.book
      → ((received (received_all ps k) p).answer ≡ (receives (plain ed) (receives_all (plain ed) ps (plain_of k)) p).answer) × (plain_of (received (received_all ps k) p).after ≡ (receives (plain ed) (receives_all (plain ed) ps (plain_of k)) p).after)
  answers_follow = answers_along ed Sure (sure_along ed)

-- ---- an index built from the rows follows them: at a start, and wherever a book is put in whole
pub built_sure : (k : Book) (ix : List ℕ) → length (rows k.orders) ≤ 16000 → good_index (length ix) ≡ true → Unique (rows k.orders) → Distinct (entries k.symbols) → Sure (ledger k (built ix (rows k.orders)))
built_sure k ix few g u d = record { followed = go (index_cases (length ix) g); unique = u; distinct = d }
  where
    go : (length ix ≡ 0) ⊎ (length ix ≡ 49403) → (length (built ix (rows k.orders)) ≡ 0) ⊎ Indexed (built ix (rows k.orders)) (rows k.orders)
    go (inl e) = inl (built_length ix (rows k.orders) ∙ e)
    go (inr e) = inr (built_indexed ix (rows k.orders) e few).0

pub zero_sure : (o s i : ℕ) → good_rows o ≡ true → good_index i ≡ true → Sure (zero_ledger o s i)
zero_sure o s i g x =
    built_sure (zero_book o s) (replicate i 0) (rw (length_rows, length-replicate {A = ℕ} o 0) (good_rows_lem o g).1) (rw (length-replicate {A = ℕ} i 0) x) (zero_unique o) (wiped_distinct s)

pub fresh_begins : (ed : Edition) (o s h i : ℕ) → good_index i ≡ true → Begins ed (fresh ed o s h i)
fresh_begins ed o s h i g =
    let n : length (start_index i o) ≡ i = built_length (replicate i 0) (rows (replicate o 0)) ∙ length-replicate i 0 in
    record { edition_is = refl; index_good = rw n g; index_made = rw (n, length-replicate {A = ℕ} o 0) refl }

-- whoever demand 3 speaks of follows its rows
module _ (ed : Edition) (o s : ℕ) (k : Lent) (b : Begins ed k) (t : demand.Started (plain ed) (zero_book o s) (plain_of k)) where
  pub begins_sure : Sure k.rx.book
  begins_sure =
      let z : k.rx.book.plain ≡ zero_book o s = t.zeroed.book_start in
      let n : length (orders_of k) ≡ o = ap (λ (x : Book). length x.orders) z ∙ length-replicate o 0 in
      let g : good_rows o ≡ true = rw (length-replicate {A = ℕ} o 0) at (rows_sized _ _ _ t.sizes_good) in
      let i : index_of k ≡ start_index (length (index_of k)) o = b.index_made ∙ ap (start_index (length (index_of k))) n in
      subst Sure (λ j. ledger (sym z j) (sym i j)) (zero_sure o s (length (index_of k)) g b.index_good)

  -- "If every number up to j was answered as taken, repeated or old" (demand 3): by the receiver's own answers, with its index, is by those without
  pub answered_same : (j : ℕ) (ps : List (List ℕ)) → demand.AnsweredTo (real ed) j ps k → demand.AnsweredTo (plain ed) j ps (plain_of k)
  answered_same j ps a n from to = subst (Among n) (said_along ed Sure (sure_along ed) (accepted (framing ed) ps) k.rx (omega (arith, t.zeroed.next_1)) begins_sure) (a n from to)

-- ---- "Both give the same answers and the same tables": to a start, refused or not. "Refusal 6 covers the index size", and with a good one the tables' sizes alone decide
module _ (ed : Edition) (o s h : List ℕ) where
  abbrev started_by : Bool → List ℕ → Begun
  started_by t ix =
      pick t
      (begun (Ok (fresh_state ed)) (replicate (length o) 0) (replicate (length s) 0) (replicate (length h) 0) (start_index (length ix) (length o)))
      (begun (Err (refusal 6)) o s h ix)

  started_is : (ix : List ℕ) → good_index (length ix) ≡ true → started ed o s h ix ≡ started_by (tables_ok (length o) (length s) (length h)) ix
  unfolding started
  started_is ix g = ap (λ (t : Bool). started_by t ix) (sizes_one (length o) (length s) (length h) (length ix) g)

  pub starts_alike : (ix ix' : List ℕ) → good_index (length ix) ≡ true → good_index (length ix') ≡ true → SameStarts (started ed o s h ix) (started ed o s h ix')
  unfolding pick
  starts_alike ix ix' g g' = rw (started_is ix g, started_is ix' g') (go (tables_ok (length o) (length s) (length h)))
    where
      go : (t : Bool) → SameStarts (started_by t ix) (started_by t ix')
      go true = record { answer = refl; orders = refl; symbols = refl; shelf = refl }
      go false = record { answer = refl; orders = refl; symbols = refl; shelf = refl }

-- ---- "Both give the same answers and the same tables on every run from a start that leaves tables and index to them"
-- two receivers that are alike but for the index
pub record Beside (ed : Edition) (k k' : Lent) : Type 0 where
  pub edition_is : k.edition ≡ ed
  pub edition_is' : k'.edition ≡ ed
  pub sure : Sure k.rx.book
  pub sure' : Sure k'.rx.book
  pub rest_same : plain_of k ≡ plain_of k'

module _ (ed : Edition) where
  -- a call answers alike and leaves them so
  one_call : (c : Call) (k k' : Lent) → Beside ed k k' → ((done c k).answer ≡ (done c k').answer) × Beside ed (done c k).after (done c k').after
  unfolding done
  one_call (packet p) k k' b =
      let f = call_follows ed k p b.edition_is b.sure in
      let f' = call_follows ed k' p b.edition_is' b.sure' in (
        f.answer_same ∙ ap (λ (x : Plainly). (receives (plain ed) x p).answer) b.rest_same ∙ sym f'.answer_same,
        record {
          edition_is = edition_kept (real k.edition) k p ∙ b.edition_is;
          edition_is' = edition_kept (real k'.edition) k' p ∙ b.edition_is';
          sure = f.kind;
          sure' = f'.kind;
          rest_same = f.rest_same ∙ ap (λ (x : Plainly). (receives (plain ed) x p).after) b.rest_same ∙ sym f'.rest_same;
        },
      )

  any_calls : (cs : List Call) (k k' : Lent) → Beside ed k k' → Beside ed (done_all cs k) (done_all cs k')
  unfolding done_all
  any_calls [] k k' b = b
  any_calls (c ∷ cs) k k' b = any_calls cs (done c k).after (done c k').after (one_call c k k' b).1

  pub same_runs : (k k' : Lent) → Beside ed k k' → SameRuns k k'
  same_runs k k' b = record { answers = λ cs c. (one_call c (done_all cs k) (done_all cs k') (any_calls cs k k' b)).0; tables = λ cs. (any_calls cs k k' b).rest_same }

pub both_engines : (ed : Edition) (o s h i i' : ℕ) → sizes_ok o s h i ≡ true → sizes_ok o s h i' ≡ true → SameRuns (fresh ed o s h i) (fresh ed o s h i')
both_engines ed o s h i i' e e' =
    let g = sizes_are o s h i e in
    let g' = sizes_are o s h i' e' in
    let r = rows_sized o s h g.0 in
    same_runs ed (fresh ed o s h i) (fresh ed o s h i') (record { edition_is = refl; edition_is' = refl; sure = zero_sure o s i r g.1; sure' = zero_sure o s i' r g'.1; rest_same = refl })

-- of packets alone, a call of `receive` for each
pub packets_done : (ps : List (List ℕ)) (k : Lent) → done_all (map packet ps) k ≡ received_all ps k
unfolding done_all done received_all
packets_done [] k = refl
packets_done (p ∷ ps) k = packets_done ps (received k p).after

pub packets_alike : (k k' : Lent) → SameRuns k k' → (ps : List (List ℕ)) (p : List ℕ) → ((received (received_all ps k) p).answer ≡ (received (received_all ps k') p).answer) × (plain_of (received_all ps k) ≡ plain_of (received_all ps k'))
unfolding done
packets_alike k k' r ps p =
    let d = packets_done ps k in
    let d' = packets_done ps k' in (
      ap (λ (x : Lent). (received x p).answer) (sym d) ∙ r.answers (map packet ps) (packet p) ∙ ap (λ (x : Lent). (received x p).answer) d',
      ap (λ (x : Lent). plain_of x) (sym d) ∙ r.tables (map packet ps) ∙ ap (λ (x : Lent). plain_of x) d',
    )

-- ---- demand 3 of the calls that a caller makes, with an index or without
pub calls_demand : (ed : Edition) (ms : List (List ℕ)) (o s : ℕ) → Chosen ed ms o s
calls_demand ed ms o s =
    let d = plain_demand ed ms o s in
    let b0 = zero_book o s in
    record {
      first = λ k0 ps b g. subst (demand.MadeBy (plain ed) ms b0) (sym (ran k0 ps b g.started)) (d.first (plain_of k0) ps tt g);
      second = λ k0 ps b g j a. subst (λ (k : Plainly). (j ≤ k.rx.next - 1) ⊎ demand.Names (plain ed) ms b0 k) (sym (ran k0 ps b g.started)) (d.second (plain_of k0) ps tt g j a);
      agreement = λ k0 k0' ps ps' b b' g g' n.
          let r = ran k0 ps b g.started in
          let r' = ran k0' ps' b' g'.started in
          ap (λ (k : Plainly). k.rx.book) r
          ∙ d.agreement (plain_of k0) (plain_of k0') ps ps' tt tt g g' (sym (ap (λ (k : Plainly). k.rx.next) r) ∙ n ∙ ap (λ (k : Plainly). k.rx.next) r')
          ∙ sym (ap (λ (k : Plainly). k.rx.book) r');
      one_more = call_more;
      reported = λ k0 ps p a b t e.
          let u = begins_sure ed o s k0 b t in
          let f = answers_follow ed ps p k0 b.edition_is u in
          let k : Plainly = receives_all (plain ed) ps (plain_of k0) in
          let w = account_reports (plain ed) k (receives (plain ed) k p).after p a (λ i. handled (plain ed) ((sym f.0 ∙ e) i) (receives (plain ed) k p).after) in
          subst (λ (x : Plainly). demand.Reported (plain ed) (plain_of (received_all ps k0)) p a x) (sym f.1)
          (subst (λ (x : Plainly). demand.Reported (plain ed) x p a (receives (plain ed) k p).after) (sym (ran k0 ps b t)) w);
    }
  where
    ran : (k0 : Lent) (ps : List (List ℕ)) → Begins ed k0 → demand.Started (plain ed) (zero_book o s) (plain_of k0) → plain_of (received_all ps k0) ≡ receives_all (plain ed) ps (plain_of k0)
    ran k0 ps b t = (runs_follow ed ps k0 b.edition_is (begins_sure ed o s k0 b t)).0
