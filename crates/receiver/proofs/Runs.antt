-- From a start, for whole runs of the real receiver, with an index or without: what each applied message keeps of the book, every call of `receive` keeps, since a run applies good messages that are
-- numbered from 1 and made of bytes.
-- Assumes nothing.
use Prim.Native.Nat.{ℕ, suc, ◌+◌, ◌-◌, ◌≤◌}
use mathlib.Core.Path.{◌≡◌, refl, sym, ap, subst, ◌∙◌}
use mathlib.Core.Bool.{true}
use mathlib.Core.List.{List, [], ◌∷◌, ◌++◌}
use native.Mathlib.Omega.{arith}
use lib.ListN.{length, take, get_or}
use lib.Seq.{take-suc}
use Rattle.editions.specs.declared.Edition.{Edition}
use Rattle.wire.specs.Le.{Bytes}
use Rattle.wire.specs.Records.{Rec, bad, records}
use Rattle.wire.proofs.Bytewise.{bytes_zeros}
use Rattle.packet.specs.Packet.{Framing, framing}
use Rattle.packet.proofs.PacketBytes.{AllBytes, Bytewise, framing_bytes}
use Rattle.engines.specs.Engines.{good_index}
use Rattle.book.specs.Book.{Book}
use Rattle.book.specs.Plan.{clock}
use Rattle.book.specs.Tidy.{Tidy, used_ids, first_use}
use Rattle.book.proofs.Tidies.{tidy_zero, tidy_kept, ids_zero, first_use_kept}
use Rattle.arbitration.specs.Engine.{ok}
use Rattle.arbitration.specs.Receive.{records_of, accepted}
use Rattle.arbitration.specs.Lists.{Every, Bounded, Sent, msg, made}
use Rattle.arbitration.proofs.Invariant.{made_keeps}
use Rattle.arbitration.proofs.Carried.{start_carried, packets_hold}
use Rattle.arbitration.proofs.Packets.{every_append}
use Rattle.shelf.specs.Store.{shelf_store}
use Rattle.shelf.proofs.Laws.{zeros_empty}
use Rattle.receiver.specs.Receiver.{Keeps, Rx}
use Rattle.receiver.specs.Demand3.{Given, MadeBy}
use Rattle.receiver.specs.Lent.{sizes_ok, book_rules, book_engine, plain, Lent, plain_of, received_all, fresh, zero_book}
use Rattle.receiver.specs.Order.{first_uses}
use Rattle.receiver.proofs.PartsLaws.{laws_of, applied_shows, applied_rule}
use Rattle.receiver.proofs.Fits.{all_received, start_fit}
use Rattle.receiver.proofs.Real.{plain_laws, framing_bounded, fresh_started, rows_sized, sizes_are}
use Rattle.receiver.proofs.Engines.{runs_follow, zero_sure, fresh_begins, calls_demand}

abbrev Plainly : Type 0
Plainly = Keeps (List ℕ) Book

-- ---- packets hold bytes
both_known : (cs : List Rec) → Every Bounded cs → AllBytes cs → Every Sent cs
both_known [] b y = tt
both_known (c ∷ cs) b y = (record { bounded = b.0; bytes = y.0 }, both_known cs b.1 y.1)

packet_sent : (ed : Edition) (p : List ℕ) → Bytes p → Every Sent (records_of (framing ed p))
packet_sent ed p h = go (framing ed p) (framing_bounded ed p) (framing_bytes ed p h)
  where
    go : (x : Framing) → Every Bounded (records_of x) → Bytewise x → Every Sent (records_of x)
    go (bad q) b y = tt
    go (records cs) b y = both_known cs b y

all_sent : (ed : Edition) (ps : List (List ℕ)) → Every Bytes ps → Every Sent (accepted (framing ed) ps)
unfolding accepted
all_sent ed [] h = tt
all_sent ed (p ∷ ps) h = every_append Sent (records_of (framing ed p)) (accepted (framing ed) ps) (packet_sent ed p h.0) (all_sent ed ps h.1)

-- ---- what every applied good message keeps is kept by any number of calls of `receive`, from a start
module _ (ed : Edition)
    (P : Book → Type 0)
    (keeps : (n : ℕ) (b : List ℕ) (k : Book) → 1 ≤ n → Bytes b → (book_rules ed).good b ≡ true → (book_rules ed).rule n b k ≡ 0 → P k → P ((book_rules ed).after n b k))
    (o s h i : ℕ) (sizes : sizes_ok o s h i ≡ true) (zeroed : P (zero_book o s)) where
  applying : (n : ℕ) (b : List ℕ) (x y : Book) → 1 ≤ n → Bytes b → (book_rules ed).good b ≡ true → (book_engine ed).apply n b x ≡ ok y → P x → P y
  applying n b x y l c g e p = subst P (sym (applied_shows (book_rules ed) n b x y e)) (keeps n b x l c g (applied_rule (book_rules ed) n b x y e) p)

  pub run_keeps_book : (ps : List (List ℕ)) → Every Bytes ps → P (received_all ps (fresh ed o s h i)).rx.book.plain
  run_keeps_book ps c =
      let g = sizes_are o s h i sizes in
      let k0 = plain_of (fresh ed o s h i) in
      let began = fresh_started ed o s h i g.0 in
      let start = start_carried shelf_store (book_engine ed) (laws_of (plain ed) (plain_laws ed)) (zero_book o s) k0.rx began.zeroed (λ j l. rw (zeros_empty h j) (bytes_zeros 64)) in
      subst (λ (k : Plainly). P k.rx.book) (sym (runs_follow ed ps (fresh ed o s h i) refl (zero_sure o s i (rows_sized o s h g.0) g.1)).0)
      (subst (λ (r : Rx (plain ed)). P r.book) (sym (all_received (plain ed) (plain_laws ed) ps k0 (start_fit (plain ed) (plain_laws ed) (zero_book o s) k0 began)))
      (packets_hold shelf_store (book_engine ed) (laws_of (plain ed) (plain_laws ed)) P applying (framing ed) ps k0.rx (all_sent ed ps c) (record { carried = start; holds = zeroed })).holds)

-- no row is spoiled; live order IDs are unique; used symbol entries have distinct IDs and lie in front
pub run_tidy : (ed : Edition) (o s h i : ℕ) → sizes_ok o s h i ≡ true → (ps : List (List ℕ)) → Every Bytes ps → Tidy (received_all ps (fresh ed o s h i)).rx.book.plain
run_tidy ed o s h i sizes ps c = run_keeps_book ed Tidy (λ n b k l y g z t. tidy_kept ed n b k l y z t) o s h i sizes (tidy_zero o s (clock 0)) ps c

-- ---- "in order of first use"
uses_last : (ed : Edition) (ms : List (List ℕ)) (m : List ℕ) (ids : List ℕ) → first_uses ed (ms ++ (m ∷ [])) ids ≡ first_use ed m (first_uses ed ms ids)
unfolding first_uses
uses_last ed [] m ids = refl
uses_last ed (x ∷ ms) m ids = uses_last ed ms m (first_use ed x ids)

-- in demand 3's run: the symbols in table order are those of the list's first k messages, each where it is first used
module _ (ed : Edition) (ms : List (List ℕ)) (bytes : (n : ℕ) → Bytes (msg ms n)) (o s : ℕ) where
  pub record Ordered (k : ℕ) (x : Book) : Type 0 where
    pub tidy : Tidy x
    pub ids_are : used_ids x ≡ first_uses ed (take k ms) []

  one_more : (k : ℕ) (x y : Book) → 0 + suc k ≤ length ms → Ordered k x → (book_engine ed).apply (0 + suc k) (msg ms (0 + suc k)) x ≡ ok y → Ordered (suc k) y
  one_more k x y l v e =
      let m : List ℕ = msg ms (0 + suc k) in
      let z = applied_rule (book_rules ed) (0 + suc k) m x y e in
      let after = applied_shows (book_rules ed) (0 + suc k) m x y e in
      let at : 0 + suc k - 1 ≡ k = omega arith in
      let parts : take (suc k) ms ≡ take k ms ++ (m ∷ []) = take-suc ms k [] (omega arith) ∙ ap (λ j. take k ms ++ (get_or ms j [] ∷ [])) (sym at) in
      record {
        tidy = subst Tidy (sym after) (tidy_kept ed (0 + suc k) m x (omega arith) (bytes (0 + suc k)) z v.tidy);
        ids_are =
            ap used_ids after
            ∙ first_use_kept ed (0 + suc k) m x (omega arith) (bytes (0 + suc k)) z v.tidy
            ∙ ap (first_use ed m) v.ids_are
            ∙ sym (uses_last ed (take k ms) m [])
            ∙ ap (λ l. first_uses ed l []) (sym parts);
      }

  pub made_ordered : (k : ℕ) (x : Book) → k ≤ length ms → made (book_engine ed) ms 0 (zero_book o s) k ≡ ok x → Ordered k x
  unfolding first_uses
  made_ordered k x l e =
      made_keeps (book_engine ed) ms 0 (zero_book o s) Ordered (record { tidy = tidy_zero o s (clock 0); ids_are = ids_zero o s (clock 0) }) one_more k x (omega arith) e

  pub run_ordered : (h i : ℕ) → good_index i ≡ true → (ps : List (List ℕ)) → Given (plain ed) ms (zero_book o s) (plain_of (fresh ed o s h i)) ps
      → used_ids (received_all ps (fresh ed o s h i)).rx.book.plain ≡ first_uses ed (take ((received_all ps (fresh ed o s h i)).rx.next - 1) ms) []
  run_ordered h i x ps g =
      let k : Lent = received_all ps (fresh ed o s h i) in
      let m : MadeBy (plain ed) ms (zero_book o s) (plain_of k) = (calls_demand ed ms o s).first (fresh ed o s h i) ps (fresh_begins ed o s h i x) g in
      (made_ordered (k.rx.next - 1) k.rx.book.plain m.in_list m.tables_are).ids_are
