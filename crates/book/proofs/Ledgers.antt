-- What every message does to a ledger, whatever is lent: it breaks one of the book rules or none, a broken rule changes nothing, and nothing changes a length. Where no
-- index is lent, or while it is that of the rows, a ledger's book is left as the same message leaves that book without an index.
-- Assumes nothing.
use mathlib.Core.Path.{◌≡◌, refl, sym, ap, subst, ◌∙◌}
use mathlib.Core.Bool.{Bool, true, false}
use mathlib.Core.List.{List}
use mathlib.Core.Logic.{◌⊎◌, inl, inr}
use Prim.Native.Nat.{ℕ, ◌≤◌, ◌<◌}
use native.Mathlib.Omega.{arith}
use lib.ListN.{length, get_or}
use lib.Dec.{eqb}
use Rattle.facts.proofs.Picks.{upheld, pick_ind}
use Rattle.std.specs.Prelude.{Option, Some, Ok, Err}
use Rattle.editions.specs.declared.Edition.{Edition}
use Rattle.fields.specs.declared.Body.{Body}
use Rattle.fields.specs.declared.AddOrder.{AddOrder}
use Rattle.body.specs.Read.{read_body, good_body}
use Rattle.body.proofs.Laws.{bad_number}
use Rattle.rows.specs.declared.Row.{Row}
use Rattle.rows.specs.Rows.{rows, zero_row, free, live}
use Rattle.rows.specs.Find.{held_at, find_order, find_free}
use Rattle.rows.specs.Tidy.{Unique}
use Rattle.rows.proofs.Tables.{length_rows}
use Rattle.rows.proofs.Judged.{not_free, live_ranges, order_is}
use Rattle.rows.proofs.Walks.{order_below, free_row_below}
use Rattle.symbols.specs.Entries.{entries, id_of}
use Rattle.symbols.specs.Find.{place_for}
use Rattle.symbols.specs.Tidy.{Distinct}
use Rattle.symbols.proofs.StartLaws.{distinct_kept}
use Rattle.orders.specs.declared.RowWork.{RowWork}
use Rattle.orders.specs.Work.{moves, remade, less, reduced}
use Rattle.index.specs.Indexed.{Indexed}
use Rattle.engines.specs.Engines.{noted}
use Rattle.engines.proofs.Cases.{order_walk, free_walk, entry_walk}
use Rattle.engines.proofs.Alone.{none_is}
use Rattle.engines.proofs.Found.{order_same, free_same, entry_same}
use Rattle.engines.proofs.Noted.{Proper, nothing, comes, goes, stays, clears, noted_indexed, hinted_indexed}
use Rattle.engines.proofs.Lengths.{noted_length, hinted_length}
use Rattle.book.specs.declared.Works.{Works}
use Rattle.book.specs.declared.Rule.TheVariants.{NoBody}
use Rattle.book.specs.Plan.{Plan, row_for, room_for, target, upon, modify_at, delete_at, execute_at, add_plan, modify_plan, delete_plan, execution_plan, clear_plan, plan_by}
use Rattle.book.specs.Book.{Book, order_in, scans, planned, carried, applied}
use Rattle.book.specs.Ledger.{Ledger, ledger, Posting, posting, looks, devised, index_after, posts, posted}
use Rattle.book.proofs.Laws.{Agree, plan_same, devised_by, posted_by}
use Rattle.book.proofs.Plans.{never_goes, goes_known, goes_owned, held_live, goes_room, goes_execute, goes_update}
use Rattle.book.proofs.Steps.{Numbered, carried_broken, carried_orders, carried_symbols, carried_numbers, group_of, group_bad}
use Rattle.book.proofs.Theorems.{entries_kept, unique_kept}

-- ---- for any tables and any index
index_length : (p : Plan) (b : List ℕ) (l : Ledger) → length (index_after p b l) ≡ length l.index
unfolding index_after
index_length (Err n) b l = refl
index_length (Ok w) b l = hinted_length w.symbols b (noted w.orders (rows l.plain.orders) l.index) ∙ noted_length w.orders (rows l.plain.orders) l.index

index_broken : (p : Plan) (b : List ℕ) (l : Ledger) → ((carried p b l.plain).rule ≡ 0 → ⊥) → index_after p b l ≡ l.index
unfolding index_after carried
index_broken (Err n) b l h = refl
index_broken (Ok w) b l h = absurd (h refl)

pub record Lengths (l m : Ledger) : Type 0 where
  pub orders : length m.plain.orders ≡ length l.plain.orders
  pub symbols : length m.plain.symbols ≡ length l.plain.symbols
  pub index : length m.index ≡ length l.index

module _ (ed : Edition) (n : ℕ) (b : List ℕ) (l : Ledger) where
  -- "the first broken one counts": and changes nothing
  pub post_broken : ((posted ed n b l).rule ≡ 0 → ⊥) → (posted ed n b l).after ≡ l
  unfolding posted
  post_broken h =
      let p : Plan = devised ed n b l in
      let k : (carried p b l.plain).after ≡ l.plain = carried_broken b l.plain p h in
      let x : index_after p b l ≡ l.index = index_broken p b l h in
      λ i. ledger (k i) (x i)

  pub post_lengths : Lengths l (posted ed n b l).after
  unfolding posted
  post_lengths = let p : Plan = devised ed n b l in record { orders = carried_orders b l.plain p; symbols = carried_symbols b l.plain p; index = index_length p b l }

  -- 0, or one of 20 to 27
  pub post_rules : Numbered (posted ed n b l).rule
  unfolding posted
  post_rules = carried_numbers b l.plain (devised ed n b l)

  -- "no good body stops with 27"
  pub post_bad : good_body ed b ≡ false → (posted ed n b l).rule ≡ 27
  unfolding carried
  post_bad h =
      ap (λ (o : Posting). o.rule) (sym (posted_by ed (Err NoBody) n b l
      (sym (devised_by ed (read_body ed b) n b l refl) ∙ group_bad n b l.plain.clock (looks l) (group_of (read_body ed b)) (bad_number ed b h))))

  pub post_good : (posted ed n b l).rule ≡ 0 → good_body ed b ≡ true
  post_good e = upheld (good_body ed b) (λ g. omega (arith, post_bad g))

-- ---- the work of a message is such as an index can follow
add_not_free : (m : AddOrder) (n : ℕ) → 1 ≤ n → free (row_for m n) ≡ false
unfolding row_for
add_not_free m n h = sym (not_free (row_for m n) (λ z. omega (arith, z.rank)))

remade_not_free : (price size : ℕ) (moved : Bool) (n : ℕ) (r : Row) → 1 ≤ n → live r ≡ true → free (remade price size moved n r) ≡ false
unfolding remade
remade_not_free price size moved n r h l =
    sym (not_free (remade price size moved n r) (λ z. pick_ind (λ (k : ℕ). k ≡ 0 → ⊥) moved n r.rank (λ e q. omega arith) (λ e q. omega (arith, (live_ranges r l).ranked)) z.rank))

remade_order : (price size : ℕ) (moved : Bool) (n : ℕ) (r : Row) → (remade price size moved n r).order ≡ r.order
unfolding remade
remade_order price size moved n r = refl

less_not_free : (n : ℕ) (r : Row) → live r ≡ true → free (less n r) ≡ false
less_not_free n r l = sym (not_free (less n r) (λ z. omega (arith, z.rank, (live_ranges r l).ranked)))

reduced_proper : (rs : List Row) (i n : ℕ) → i < length rs → live (get_or rs i zero_row) ≡ true → Proper rs (RowWork.Put i (reduced n (get_or rs i zero_row)))
unfolding reduced
reduced_proper rs i n h l =
    pick_ind (λ (x : Row). Proper rs (RowWork.Put i x)) (eqb (less n (get_or rs i zero_row)).size 0) zero_row (less n (get_or rs i zero_row))
    (λ e. goes i h l) (λ e. stays i (less n (get_or rs i zero_row)) h l (less_not_free n (get_or rs i zero_row) l) refl)

module _ (n : ℕ) (b : List ℕ) (k : Book) (ranked : 1 ≤ n) where
  abbrev rs : List Row
  rs = rows k.orders

  -- the order found: live, and in its place
  found : (id i : ℕ) (r : Row) → order_in id k.orders ≡ Some (i, r) → (i < length rs) × (live (get_or rs i zero_row) ≡ true) × (r ≡ get_or rs i zero_row)
  found id i r e =
      let h = held_live (find_order id rs) rs i r e in
      let w = order_below id k.orders i h.0 in
      (rw length_rows w.0, (order_is id (get_or rs i zero_row) w.1).1, h.1)

  proper_plan : (m : Body) (w : Works) → plan_by m n b k.clock (scans k) ≡ Ok w → Proper rs w.orders
  unfolding plan_by add_plan modify_plan delete_plan execution_plan clear_plan
  proper_plan (Body.SystemTime s) w e = let q : RowWork.Keep ≡ w.orders = cc in subst (Proper rs) q nothing
  proper_plan (Body.SymbolUpdate m) w e =
      let u = goes_update k.clock (place_for (id_of b) (entries k.symbols)) w e in
      subst (Proper rs) (ap (λ (x : Works). x.orders) u.2) nothing
  proper_plan (Body.Add m) w e =
      let g = goes_known _ (λ i. room_for k.clock (row_for m n) (order_in m.order k.orders) (find_free rs)) w e in
      let r = goes_room k.clock (row_for m n) (order_in m.order k.orders) (find_free rs) w g.2 in
      let f = free_row_below k.orders r.1.0 r.1.1 in
      subst (Proper rs) (ap (λ (x : Works). x.orders) r.1.2) (comes r.1.0 (row_for m n) (rw length_rows f.0) f.1 (add_not_free m n ranked))
  proper_plan (Body.Modify m) w e =
      let g = goes_known _ (λ i. upon (target (order_in m.order k.orders) m.symbol) (modify_at k.clock m n)) w e in
      let o = goes_owned (order_in m.order k.orders) m.symbol (modify_at k.clock m n) w g.2 in
      let f = found m.order o.place o.held o.order_found in
      let r : Row = remade m.price m.size (moves m.flags) n o.held in
      let q : RowWork.Put o.place r ≡ w.orders = cc o.goes in
      let l : live o.held ≡ true = ap live f.2 ∙ f.1 in
      subst (Proper rs) q (stays o.place r f.0 f.1 (remade_not_free m.price m.size (moves m.flags) n o.held ranked l) (remade_order m.price m.size (moves m.flags) n o.held ∙ ap (λ (x : Row). x.order) f.2))
  proper_plan (Body.Delete m) w e =
      let g = goes_known _ (λ i. upon (target (order_in m.order k.orders) m.symbol) (delete_at k.clock)) w e in
      let o = goes_owned (order_in m.order k.orders) m.symbol (delete_at k.clock) w g.2 in
      let f = found m.order o.place o.held o.order_found in
      let q : RowWork.Put o.place zero_row ≡ w.orders = cc o.goes in
      subst (Proper rs) q (goes o.place f.0 f.1)
  proper_plan (Body.Execution m) w e =
      let g = goes_known _ (λ i. upon (target (order_in m.order k.orders) m.symbol) (execute_at k.clock m)) w e in
      let o = goes_owned (order_in m.order k.orders) m.symbol (execute_at k.clock m) w g.2 in
      let f = found m.order o.place o.held o.order_found in
      let x = goes_execute k.clock m o.place o.held w o.goes in
      let q : RowWork.Put o.place (reduced m.size (get_or rs o.place zero_row)) ≡ w.orders = ap (λ (r : Row). RowWork.Put o.place (reduced m.size r)) (sym f.2) ∙ ap (λ (y : Works). y.orders) x.1 in
      subst (Proper rs) q (reduced_proper rs o.place m.size f.0 f.1)
  proper_plan (Body.SymbolClear m) w e =
      let g = goes_known _ (λ i. Ok _) w e in
      let q : RowWork.Clear m.symbol ≡ w.orders = cc g.2 in
      subst (Proper rs) q (clears m.symbol)
  proper_plan (Body.SystemState m) w e = let q : RowWork.Keep ≡ w.orders = cc in subst (Proper rs) q nothing
  proper_plan (Body.TradingStatus m) w e = let q : RowWork.Keep ≡ w.orders = cc in subst (Proper rs) q nothing
  proper_plan (Body.Trade m) w e = let q : RowWork.Keep ≡ w.orders = cc in subst (Proper rs) q nothing
  proper_plan (Body.TradeCancel m) w e = let q : RowWork.Keep ≡ w.orders = cc in subst (Proper rs) q nothing
  proper_plan (Body.Bad r) w e = never_goes e

-- ---- searches that find what document 01's find, whoever searches: the same plan, so the same rule and the same book
module _ (l : Ledger) (a : Agree (looks l) (scans l.plain)) (ed : Edition) (n : ℕ) (b : List ℕ) where
  agree_devised : devised ed n b l ≡ planned ed n b l.plain
  unfolding devised planned
  agree_devised = plan_same (looks l) (scans l.plain) a (read_body ed b) n b l.plain.clock

  agree_posted : posted ed n b l ≡ posting (applied ed n b l.plain).rule (ledger (applied ed n b l.plain).after (index_after (planned ed n b l.plain) b l))
  unfolding posted applied
  agree_posted = ap (λ (p : Plan). posts p b l) agree_devised

-- ---- no index is lent, and the tables are any
-- the first engine searches as document 01 says it
pub none_agree : (l : Ledger) → length l.index ≡ 0 → Agree (looks l) (scans l.plain)
none_agree l z =
    record {
      order = λ id. ap (λ (f : Option ℕ). held_at f (rows l.plain.orders)) (order_walk l.index (rows l.plain.orders) id z);
      free_row = free_walk l.index (rows l.plain.orders) z;
      entry = λ id. entry_walk l.index id (entries l.plain.symbols) z;
      room = λ id. refl;
    }

-- no message makes an index where none is lent
none_after : (p : Plan) (b : List ℕ) (l : Ledger) → length l.index ≡ 0 → index_after p b l ≡ l.index
none_after p b l z = none_is (index_after p b l) (index_length p b l ∙ z) ∙ sym (none_is l.index z)

-- and a message does to its book what document 01 says, and nothing else
pub posted_alone : (ed : Edition) (n : ℕ) (b : List ℕ) (l : Ledger) → length l.index ≡ 0 → posted ed n b l ≡ posting (applied ed n b l.plain).rule (ledger (applied ed n b l.plain).after l.index)
posted_alone ed n b l z =
    agree_posted l (none_agree l z) ed n b
    ∙ ap (λ (ix : List ℕ). posting (applied ed n b l.plain).rule (ledger (applied ed n b l.plain).after ix)) (none_after (planned ed n b l.plain) b l z)

-- ---- a ledger whose searches find what document 01's find: no index is lent, or it is that of the rows; and no ID stands twice
pub record Sure (l : Ledger) : Type 0 where
  pub followed : (length l.index ≡ 0) ⊎ Indexed l.index (rows l.plain.orders)
  pub unique : Unique (rows l.plain.orders)
  pub distinct : Distinct (entries l.plain.symbols)

module _ (l : Ledger) (u : Sure l) where
  agree : Agree (looks l) (scans l.plain)
  agree = go u.followed
    where
      go : (length l.index ≡ 0) ⊎ Indexed l.index (rows l.plain.orders) → Agree (looks l) (scans l.plain)
      go (inl z) = none_agree l z
      go (inr x) =
          record {
            order = λ id. ap (λ (f : Option ℕ). held_at f (rows l.plain.orders)) (order_same l.index (rows l.plain.orders) x u.unique id);
            free_row = free_same l.index (rows l.plain.orders) x;
            entry = λ id. entry_same l.index id (entries l.plain.symbols) u.distinct;
            room = λ id. refl;
          }

  module _ (ed : Edition) (n : ℕ) (b : List ℕ) where
    -- the same plan
    pub devised_same : devised ed n b l ≡ planned ed n b l.plain
    devised_same = agree_devised l agree ed n b

    -- so the same rule, and the same book
    pub posted_same : posted ed n b l ≡ posting (applied ed n b l.plain).rule (ledger (applied ed n b l.plain).after (index_after (planned ed n b l.plain) b l))
    posted_same = agree_posted l agree ed n b

    index_kept : 1 ≤ n → (p : Plan) → planned ed n b l.plain ≡ p → (length l.index ≡ 0) ⊎ Indexed l.index (rows l.plain.orders)
        → (length (index_after p b l) ≡ 0) ⊎ Indexed (index_after p b l) (rows (carried p b l.plain).after.orders)
    unfolding index_after carried planned
    index_kept h (Err q) e f = f
    index_kept h (Ok w) e (inl z) = inl (index_length (Ok w) b l ∙ z)
    index_kept h (Ok w) e (inr x) =
        inr (hinted_indexed (noted w.orders (rows l.plain.orders) l.index) _
        (noted_indexed l.plain.orders l.index x w.orders (proper_plan n b l.plain h (read_body ed b) w e)) w.symbols b)

    -- and it stays so
    pub sure_kept : 1 ≤ n → Sure (posted ed n b l).after
    unfolding applied
    sure_kept h =
        subst (λ (x : Posting). Sure x.after) (sym posted_same)
        (record {
          followed = index_kept h (planned ed n b l.plain) refl u.followed;
          unique = unique_kept ed n b l.plain u.unique;
          distinct = entries_kept ed n b l.plain Distinct (λ i e v d. distinct_kept b (entries l.plain.symbols) i e v d) u.distinct;
        })
