-- From a start, chunk after chunk: what a chunk leaves is never refused, so all chunks give what they give as one: what calls of `receive` give, one for each of the recording's packets.
-- Assumes nothing.
use Prim.Native.Nat.{ℕ, ◌-◌, ◌≤◌}
use mathlib.Core.Path.{◌≡◌, refl, sym, ap, subst, ◌∙◌}
use mathlib.Core.Bool.{true}
use mathlib.Core.Logic.{◌⊎◌}
use mathlib.Core.List.{List, [], ◌∷◌, ◌++◌, append_assoc, append-nil}
use native.Mathlib.Omega.{arith}
use lib.ListN.{length, replicate}
use lib.Dec.{ltb}
use borrow.Author.Tests.{le-leb}
use Rattle.facts.specs.Pick.{pick, both}
use Rattle.facts.specs.Limits.{hold_least}
use Rattle.facts.proofs.Picks.{both_true}
use Rattle.facts.specs.Pieces.{join}
use Rattle.editions.specs.declared.Edition.{Edition}
use Rattle.fields.specs.declared.Refusal.{Refusal}
use Rattle.arbitration.specs.Stream.{each}
use Rattle.arbitration.specs.Receive.{accepted}
use Rattle.arbitration.specs.Engine.{ok}
use Rattle.arbitration.specs.Lists.{WellFormed, Copies, made}
use Rattle.book.specs.Book.{Book, book}
use Rattle.body.specs.Read.{good_body}
use Rattle.packet.specs.Packet.{framing}
use Rattle.receiver.specs.Receiver.{next_ok, fit}
use Rattle.receiver.specs.Demand3.{Given, MadeBy, Names, AnsweredTo}
use Rattle.receiver.specs.Receiver.{receives_all}
use Rattle.receiver.specs.Lent.{real, plain, book_engine, Lent, lent, orders_of, symbols_of, shelf_of, index_of, state_of, plain_of, received_all, start_index, fresh, fresh_state, zero_book, zero_ledger, sizes_ok, begun, started}
use Rattle.receiver.specs.Chosen.{Begins}
use Rattle.receiver.specs.declared.State.{State}
use Rattle.std.specs.Prelude.{Ok, Err}
use Rattle.receiver.proofs.Fits.{never_six}
use Rattle.receiver.proofs.Editions.{calls_keep}
use Rattle.receiver.proofs.Real.{real_laws, fresh_started, fresh_real, start_ready, sizes_are}
use Rattle.receiver.proofs.Engines.{fresh_begins, calls_demand}
use Rattle.recording.specs.Stream.{Standing, hears, Hearing, hearing, byte, standing_of, hearing_of, opened, cut, feedable, Feeding, feeding, stream_in, took, fed}
use Rattle.recording.specs.Whole.{packets_of, rest_of, waiting, fed_on, fed_all, began, opened_over}
use Rattle.recording.specs.declared.Stream.{Stream}
use Rattle.recording.proofs.Heard.{all_heard, packets_heard, hears_receives, cut_rest}
use Rattle.recording.proofs.Cuts.{all_in, same_stream, again, same_size, fed_then}

-- the tests of a feed, met
feedable_by : (k : Stream) (o s h i w : ℕ) → (sizes_ok o s h i ≡ true) × (next_ok k.receiver.next ≡ true) → hold_least ≤ w → k.held ≤ w → feedable k o s h i w ≡ true
unfolding feedable both
feedable_by k o s h i w six big fits = simp (six.0, six.1, le-leb hold_least w big, le-leb k.held w fits)

-- `start` and `open`: a start that was not refused is where this begins
pub start_opened : (ed : Edition) (o s h ix w : List ℕ) (st : State) (o' s' h' ix' : List ℕ) → begun (Ok st) o' s' h' ix' ≡ started ed o s h ix → (sizes_ok (length o) (length s) (length h) (length ix) ≡ true) × (feeding (Ok (opened st)) o' s' h' ix' w ≡ opened_over ed (length o) (length s) (length h) (length ix) w)
start_opened ed o s h ix w st o' s' h' ix' e =
    let r = start_ready ed o s h ix st o' s' h' ix' e in
    (r.0, ap (λ (l : Lent). feeding (Ok (opened (state_of l))) (orders_of l) (symbols_of l) (shelf_of l) (index_of l) w) r.1)

-- o, s, h, i: the lengths of the lent tables and of the index; w: the lent buffer
module _ (ed : Edition) (o s h i : ℕ) (w : List ℕ) (sizes : sizes_ok o s h i ≡ true) (big : hold_least ≤ length w) where
  -- after all bytes of t
  abbrev heard_all : List ℕ → Hearing
  heard_all t = each byte t (hearing [] 0 (began ed o s h i))

  -- t as one chunk
  abbrev one_chunk : List ℕ → Feeding
  one_chunk t = fed (opened (fresh_state ed)) (replicate o 0) (replicate s 0) (replicate h 0) (start_index i o) w t

  heard_lent : (t : List ℕ) → (heard_all t).kept.lent ≡ receives_all (real ed) (packets_of t) (fresh ed o s h i)
  heard_lent t = ap (λ (x : Standing). x.lent) (packets_heard t (began ed o s h i)) ∙ hears_receives (packets_of t) (began ed o s h i) ∙ calls_keep (packets_of t) (fresh ed o s h i)

  abbrev NoSix : Lent → Type 0
  NoSix x = (sizes_ok (length (orders_of x)) (length (symbols_of x)) (length (shelf_of x)) (length (index_of x)) ≡ true) × (next_ok (state_of x).next ≡ true)

  fit_parts : (x : Lent) → fit (real ed) x ≡ true → NoSix x
  unfolding fit
  fit_parts x e = both_true {a = sizes_ok (length (orders_of x)) (length (symbols_of x)) (length (shelf_of x)) (length (index_of x))} {b = next_ok (state_of x).next} e

  six : (t : List ℕ) (l : Lent) → l ≡ (heard_all t).kept.lent → NoSix l
  six t l e =
      subst NoSix (sym (e ∙ heard_lent t))
      (fit_parts (receives_all (real ed) (packets_of t) (fresh ed o s h i)) (never_six (real ed) (real_laws ed) (zero_ledger o s i) (fresh ed o s h i) (fresh_real ed o s h i sizes) (packets_of t)))

  one_is : (t : List ℕ) → one_chunk t ≡ took (length w) (heard_all t)
  unfolding fed pick each
  one_is t = simp (feedable_by (opened (fresh_state ed)) (length (replicate o 0)) (length (replicate s 0)) (length (replicate h 0)) (length (start_index i o)) (length w) (six [] (fresh ed o s h i) refl) big (omega arith))

  -- what t left can be fed
  goes_on : (t : List ℕ) (k : Stream) (o' s' h' ix' w' : List ℕ) → took (length w) (heard_all t) ≡ feeding (Ok k) o' s' h' ix' w' → feedable k (length o') (length s') (length h') (length ix') (length w') ≡ true
  goes_on t k o' s' h' ix' w' e =
      let few : length (heard_all t).unfinished ≤ length w = all_in (length w) big t (hearing [] 0 (began ed o s h i)) (omega arith) in
      let size : length w' ≡ length w = same_size (length w) (heard_all t) k o' s' h' ix' w' e few in
      let held : length (heard_all t).unfinished ≡ k.held = ap (λ (v : Stream). v.held) (same_stream (length w) (heard_all t) k o' s' h' ix' w' e) in
      feedable_by k (length o') (length s') (length h') (length ix') (length w') (six t (lent o' s' h' ix' k.receiver) (ap (λ (x : Hearing). x.kept.lent) (again (length w) (heard_all t) k o' s' h' ix' w' e))) (omega arith) (omega arith)

  one_more : (a c : List ℕ) → fed_on c (one_chunk a) ≡ one_chunk (a ++ c)
  unfolding fed_on took
  one_more a c =
      let y = heard_all a in
      ap (fed_on c) (one_is a)
      ∙ fed_then (opened (fresh_state ed)) (stream_in y) (replicate o 0) (replicate s 0) (replicate h 0) (start_index i o) w (took (length w) y).orders (took (length w) y).symbols (took (length w) y).shelf (took (length w) y).index (took (length w) y).hold a (one_is a) c (goes_on a (stream_in y) _ _ _ _ _ refl)

  all_more : (cs : List (List ℕ)) (a : List ℕ) → fed_all cs (one_chunk a) ≡ one_chunk (a ++ join cs)
  unfolding fed_all join
  all_more [] a = ap one_chunk (sym (append-nil a))
  all_more (c ∷ cs) a = ap (fed_all cs) (one_more a c) ∙ all_more cs (a ++ c) ∙ ap one_chunk (append_assoc a c (join cs))

  -- chunks are their bytes as one chunk
  pub as_one : (c : List ℕ) (cs : List (List ℕ)) → fed_all (c ∷ cs) (opened_over ed o s h i w) ≡ one_chunk (join (c ∷ cs))
  unfolding fed_all fed_on join
  as_one c cs = all_more cs c

  -- and end with the recording's packets heard and what is left of it waiting; of the buffer only the length counts
  pub any_pieces : (c : List ℕ) (cs : List (List ℕ)) → fed_all (c ∷ cs) (opened_over ed o s h i w) ≡ took (length w) (waiting (rest_of (join (c ∷ cs))) (hears (packets_of (join (c ∷ cs))) (began ed o s h i)))
  any_pieces c cs = as_one c cs ∙ one_is (join (c ∷ cs)) ∙ ap (took (length w)) (all_heard (join (c ∷ cs)) (began ed o s h i))

  -- two ways to cut one recording end alike, in every table, count and byte lent (no chunk at all leaves the buffer as it came)
  pub cut_alike : (c d : List ℕ) (cs ds : List (List ℕ)) → join (c ∷ cs) ≡ join (d ∷ ds) → fed_all (c ∷ cs) (opened_over ed o s h i w) ≡ fed_all (d ∷ ds) (opened_over ed o s h i w)
  cut_alike c d cs ds e = as_one c cs ∙ ap one_chunk e ∙ sym (as_one d ds)

  -- no chunk is refused
  pub never_refused : (cs : List (List ℕ)) (r : Refusal) → (fed_all cs (opened_over ed o s h i w)).answer ≡ Err r → ⊥
  unfolding fed_all took
  never_refused [] r e = let z : ◌≡◌ {A = ℕ} 0 1 = cc in absurd (omega arith)
  never_refused (c ∷ cs) r e =
      let y = heard_all (join (c ∷ cs)) in
      let q : Ok (stream_in y) ≡ Err r = sym (ap (λ (x : Feeding). x.answer) (as_one c cs ∙ one_is (join (c ∷ cs)))) ∙ e in
      let z : ◌≡◌ {A = ℕ} 0 1 = cc in absurd (omega arith)

  -- ---- the stream and the tables at the end of any chunks, none included
  module _ (cs : List (List ℕ)) (k : Stream) (o' s' h' ix' w' : List ℕ) (ended : fed_all cs (opened_over ed o s h i w) ≡ feeding (Ok k) o' s' h' ix' w') where
    pieces_heard : (stream_in (heard_all (join cs)) ≡ k) × (hearing_of k o' s' h' ix' w' ≡ heard_all (join cs))
    unfolding fed_all join each
    pieces_heard = go cs ended
      where
        go : (ds : List (List ℕ)) → fed_all ds (opened_over ed o s h i w) ≡ feeding (Ok k) o' s' h' ix' w' → (stream_in (heard_all (join ds)) ≡ k) × (hearing_of k o' s' h' ix' w' ≡ heard_all (join ds))
        go [] e =
            let f : Ok (opened (fresh_state ed)) ≡ Ok k = ap (λ (x : Feeding). x.answer) e in
            let g : opened (fresh_state ed) ≡ k = cc in
            (g, sym (λ j. hearing_of (g j) (e j).orders (e j).symbols (e j).shelf (e j).index (e j).hold))
        go (d ∷ ds) e =
            let left : took (length w) (heard_all (join (d ∷ ds))) ≡ feeding (Ok k) o' s' h' ix' w' = sym (as_one d ds ∙ one_is (join (d ∷ ds))) ∙ e in
            (same_stream (length w) (heard_all (join (d ∷ ds))) k o' s' h' ix' w' left, again (length w) (heard_all (join (d ∷ ds))) k o' s' h' ix' w' left)

    -- the counts, the receiver and its tables: the recording's packets, heard one after another
    pub pieces_kept : standing_of k o' s' h' ix' ≡ hears (packets_of (join cs)) (began ed o s h i)
    pieces_kept = ap (λ (x : Hearing). x.kept) pieces_heard.1 ∙ packets_heard (join cs) (began ed o s h i)

    -- the receiver and its tables: those of a start and a call of `receive` for each of the recording's packets
    pub pieces_received : lent o' s' h' ix' k.receiver ≡ received_all (packets_of (join cs)) (fresh ed o s h i)
    pieces_received = ap (λ (x : Standing). x.lent) pieces_kept ∙ hears_receives (packets_of (join cs)) (began ed o s h i)

    -- "recording=cut"
    pub pieces_cut : cut k ≡ ltb 0 (length (rest_of (join cs)))
    pieces_cut = ap cut (sym pieces_heard.0) ∙ cut_rest (join cs) (began ed o s h i)

    -- so demand 3 speaks of it, with the recording's packets for those given
    module _ (ms : List (List ℕ)) (wf : WellFormed (good_body ed) ms) (copies : Copies ms (accepted (framing ed) (packets_of (join cs)))) where
      pub pieces_given : Given (plain ed) ms (zero_book o s) (plain_of (fresh ed o s h i)) (packets_of (join cs))
      pieces_given = record { well_formed = wf; started = fresh_started ed o s h i (sizes_are o s h i sizes).0; copies = copies }

      begins : Begins ed (fresh ed o s h i)
      begins = fresh_begins ed o s h i (sizes_are o s h i sizes).1

      pub pieces_first : MadeBy (plain ed) ms (zero_book o s) (plain_of (lent o' s' h' ix' k.receiver))
      pieces_first = subst (λ (x : Lent). MadeBy (plain ed) ms (zero_book o s) (plain_of x)) (sym pieces_received) ((calls_demand ed ms o s).first (fresh ed o s h i) (packets_of (join cs)) begins pieces_given)

      pub pieces_second : (j : ℕ) → AnsweredTo (plain ed) j (packets_of (join cs)) (plain_of (fresh ed o s h i)) → (j ≤ k.receiver.next - 1) ⊎ Names (plain ed) ms (zero_book o s) (plain_of (lent o' s' h' ix' k.receiver))
      pieces_second j all =
          subst (λ (x : Lent). (j ≤ x.rx.next - 1) ⊎ Names (plain ed) ms (zero_book o s) (plain_of x)) (sym pieces_received)
          ((calls_demand ed ms o s).second (fresh ed o s h i) (packets_of (join cs)) begins pieces_given j all)

      -- "Two such receivers on one list, with equal capacities and equal k, agree in these three": the other may have got its packets in any way, with an index or without
      pub pieces_agree : (x : Lent) → MadeBy (plain ed) ms (zero_book o s) (plain_of x) → k.receiver.next ≡ x.rx.next → (o' ≡ orders_of x) × (s' ≡ symbols_of x) × (k.receiver.clock ≡ (state_of x).clock)
      pieces_agree x m e =
          let both_made : ok (book o' s' k.receiver.clock) ≡ ok x.rx.book.plain = sym pieces_first.tables_are ∙ ap (λ (n : ℕ). made (book_engine ed) ms 0 (zero_book o s) (n - 1)) e ∙ m.tables_are in
          let same : book o' s' k.receiver.clock ≡ x.rx.book.plain = cc in
          (ap (λ (b : Book). b.orders) same, ap (λ (b : Book). b.symbols) same, ap (λ (b : Book). b.clock) same)
