-- With true copies of a list no copy differs from the first, in either edition, so that every answer is the same: converted copies are true copies of the converted list.
-- Assumes nothing.
use Prim.Native.Nat.{ℕ, ◌-◌, ◌<◌}
use mathlib.Core.Path.{◌≡◌, refl, sym, ap, subst, ◌∙◌}
use mathlib.Core.Bool.{true}
use mathlib.Core.List.{List, [], ◌∷◌, ◌++◌, map}
use native.Mathlib.Omega.{arith}
use lib.ListN.{length, get_or, length-map, get_or-map}
use Rattle.editions.specs.declared.Edition.{Edition}
use Rattle.wire.specs.Records.{Rec, Frames}
use Rattle.body.specs.Read.{good_body}
use Rattle.packet.specs.Packet.{framing}
use Rattle.arbitration.specs.declared.Counts.{Counts}
use Rattle.arbitration.specs.Receive.{records_of, accepted, said, run, counts_of, count}
use Rattle.arbitration.specs.Receive as theory
use Rattle.arbitration.specs.Lists.{Every, WellFormed, Copies, Numbered, Copy}
use Rattle.arbitration.proofs.Halves.{start_ready, run_ready, none_differs}
use Rattle.arbitration.proofs.Packets.{every_accepted}
use Rattle.shelf.specs.Store.{shelf_store}
use Rattle.receiver.specs.Receiver.{Keeps}
use Rattle.receiver.specs.Lent.{book_engine, plain, Lent, plain_rx, plain_of, sizes_ok, received, received_all, fresh, zero_book}
use Rattle.receiver.specs.declared.Account.{Account}
use Rattle.std.specs.Prelude.{Result, Ok}
use Rattle.packet.specs.declared.Why.{Why}
use Rattle.book.specs.Book.{Book}
use Rattle.receiver.proofs.PartsLaws.{laws_of}
use Rattle.receiver.proofs.Demand.{ran}
use Rattle.receiver.proofs.Real.{plain_laws, fresh_started, sizes_are}
use Rattle.receiver.proofs.Engines.{fresh_begins, begins_sure, runs_follow, calls_demand}
use Rattle.retype.specs.Types.{types_ok}
use Rattle.retype.specs.Retyped.{Asked, is_update, retyped}
use Rattle.retype.proofs.Laws.{retyped_good, retyped_no}
use Rattle.conversion.specs.Kept.{Becomes, taken, refused, rec_to, recs_to}
use Rattle.conversion.proofs.Passing.{becomes}
use Rattle.mornings.specs.Mornings.{packet_to, packets_to}
use Rattle.mornings.specs.Alongside.{AccountAlike, ReceivedAlike, both_accepted, both_refused, refusing}
use Rattle.mornings.proofs.Runs.{fresh_pair}
use Rattle.mornings.proofs.Recordings.{same_answers}

abbrev PlainRx : Type 0
PlainRx = theory.Rx (List ℕ) Book

numbered_copies : (ms : List (List ℕ)) (cs : List Rec) → Every Numbered cs → Copies ms cs → Every (Copy ms) cs
numbered_copies ms [] n c = tt
numbered_copies ms (x ∷ cs) n c = ((n.0, c.0), numbered_copies ms cs n.1 c.1)

-- ---- with true copies 14 is never answered
module _ (ed : Edition) (ms : List (List ℕ)) (wf : WellFormed (good_body ed) ms) (o s h i : ℕ) (sizes : sizes_ok o s h i ≡ true) (ps : List (List ℕ)) (p : List ℕ)
    (before : Copies ms (accepted (framing ed) ps)) (now_copies : Copies ms (records_of (framing ed p))) where
  abbrev k0 : Lent
  k0 = fresh ed o s h i

  abbrev cs : List Rec
  cs = accepted (framing ed) ps

  none_14 : (x : Account) → (received (received_all ps k0) p).answer ≡ Ok x → x.counts.differing ≡ 0
  unfolding counts_of
  none_14 x e =
      let z = sizes_are o s h i sizes in
      let b = fresh_begins ed o s h i z.1 in
      let t = fresh_started ed o s h i z.0 in
      let laws = laws_of (plain ed) (plain_laws ed) in
      let end : (plain_of (received_all ps k0)).rx ≡ run shelf_store (book_engine ed) cs (plain_rx k0.rx) =
      ap (λ (k : Keeps (List ℕ) Book). k.rx) (runs_follow ed ps k0 refl (begins_sure ed o s k0 b t)).0 ∙ ran (plain ed) (plain_laws ed) ms (zero_book o s) (plain_of k0) ps t in
      let ready = run_ready shelf_store (book_engine ed) laws ms wf 0 (zero_book o s) cs (plain_rx k0.rx) (numbered_copies ms cs (every_accepted (framing ed) Numbered (plain_laws ed).numbered ps) before) (start_ready shelf_store (book_engine ed) laws ms wf (zero_book o s) (plain_rx k0.rx) t.zeroed) in
      let none = none_differs shelf_store (book_engine ed) laws ms wf 0 (zero_book o s) (records_of (framing ed p)) (run shelf_store (book_engine ed) cs (plain_rx k0.rx)) (numbered_copies ms (records_of (framing ed p)) ((plain_laws ed).numbered p) now_copies) ready.follows in
      ap (λ (c : Counts). c.differing) ((calls_demand ed ms o s).reported k0 ps p x b t e).counts_are
      ∙ ap (λ (r : PlainRx). count 14 (said shelf_store (book_engine ed) (records_of (framing ed p)) r)) end
      ∙ none

-- ---- true copies, converted
module _ (from : Edition) (a : Asked) (ok : types_ok a.to a.all a.others ≡ true) where
  abbrev pub list_to : List (List ℕ) → List (List ℕ)
  list_to ms = map (retyped a) ms

  records_to : (p : List ℕ) → records_of (framing a.to (packet_to from a p)) ≡ recs_to a (records_of (framing from p))
  records_to p = go (becomes from a p ok)
    where
      go : Becomes from a p → records_of (framing a.to (packet_to from a p)) ≡ recs_to a (records_of (framing from p))
      go (taken cs e f) = ap records_of f ∙ sym (ap (λ (x : Frames Why). recs_to a (records_of x)) e)
      go (refused w v e f) = ap records_of f ∙ sym (ap (λ (x : Frames Why). recs_to a (records_of x)) e)

  map_then : (bs cs : List Rec) → recs_to a (bs ++ cs) ≡ recs_to a bs ++ recs_to a cs
  map_then [] cs = refl
  map_then (b ∷ bs) cs = ap (λ (l : List Rec). rec_to a b ∷ l) (map_then bs cs)

  accepted_to : (ps : List (List ℕ)) → accepted (framing a.to) (packets_to from a ps) ≡ recs_to a (accepted (framing from) ps)
  unfolding accepted
  accepted_to [] = refl
  accepted_to (p ∷ ps) = (λ i. records_to p i ++ accepted_to ps i) ∙ sym (map_then (records_of (framing from p)) (accepted (framing from) ps))

  -- message n of it
  nth : (ms : List (List ℕ)) (i : ℕ) → get_or (list_to ms) i [] ≡ retyped a (get_or ms i [])
  unfolding is_update
  nth ms i = ap (get_or (list_to ms) i) (sym (retyped_no a [] refl)) ∙ get_or-map (retyped a) ms i []

  list_good : (ms : List (List ℕ)) → WellFormed (good_body from) ms → WellFormed (good_body a.to) (list_to ms)
  list_good ms wf i l =
      let m : i < length ms = rw (length-map ms (retyped a)) at l in
      ap (good_body a.to) (nth ms i) ∙ retyped_good from a (get_or ms i []) (wf i m) ok

  copies_to : (ms : List (List ℕ)) (cs : List Rec) → Every Numbered cs → Copies ms cs → Copies (list_to ms) (recs_to a cs)
  copies_to ms [] n c = tt
  copies_to ms (x ∷ cs) n c = (record { in_list = rw (length-map ms (retyped a)) c.0.in_list; same = ap (retyped a) c.0.same ∙ sym (nth ms (x.number - 1)) }, copies_to ms cs n.1 c.1)

-- accounts that are alike and tell of no differing copy are the same
account_is : (w y : Account) → AccountAlike w y → w.counts.differing ≡ 0 → y.counts.differing ≡ 0 → y ≡ w
account_is w y h d e =
    let c = h.counts_alike in
    let r : y.counts.repeated ≡ w.counts.repeated = omega (arith, c.seconds_same, d, e) in
    λ i. record {
      counts = record { taken = c.taken_same i; old = c.old_same i; far = c.far_same i; repeated = r i; differing = (e ∙ sym d) i };
      next = h.next_same i;
      applied = h.applied_same i;
      highest = h.highest_same i;
      stop = h.stop_same i;
    }

-- to packets of true copies every number of the account is the same
module _ (from : Edition) (a : Asked) (ok : types_ok a.to a.all a.others ≡ true) (ms : List (List ℕ)) (wf : WellFormed (good_body from) ms) (o s h' i i' : ℕ)
    (sizes : sizes_ok o s h' i ≡ true) (sizes' : sizes_ok o s h' i' ≡ true) (ps : List (List ℕ)) (p : List ℕ) (before : Copies ms (accepted (framing from) ps)) (now_copies : Copies ms (records_of (framing from p))) where
  pub same_account : (x : Account) → (received (received_all ps (fresh from o s h' i)) p).answer ≡ Ok x
      → (received (received_all (packets_to from a ps) (fresh a.to o s h' i')) (packet_to from a p)).answer ≡ Ok x
  same_account x e = go (received (received_all ps (fresh from o s h' i)) p).answer (received (received_all (packets_to from a ps) (fresh a.to o s h' i')) (packet_to from a p)).answer e refl (same_answers from a ok ps p (fresh from o s h' i) (fresh a.to o s h' i') (fresh_pair from a ok o s h' i i' sizes sizes'))
    where
      list_copies : (cs : List Rec) → Every Numbered cs → Copies ms cs → Copies (list_to from a ok ms) (recs_to a cs)
      list_copies = copies_to from a ok ms

      differs : (y : Account) → (received (received_all (packets_to from a ps) (fresh a.to o s h' i')) (packet_to from a p)).answer ≡ Ok y → y.counts.differing ≡ 0
      differs =
          none_14 a.to (list_to from a ok ms) (list_good from a ok ms wf) o s h' i' sizes' (packets_to from a ps) (packet_to from a p)
          (subst (Copies (list_to from a ok ms)) (sym (accepted_to from a ok ps)) (list_copies (accepted (framing from) ps) (every_accepted (framing from) Numbered (plain_laws from).numbered ps) before))
          (subst (Copies (list_to from a ok ms)) (sym (records_to from a ok p)) (list_copies (records_of (framing from p)) ((plain_laws from).numbered p) now_copies))

      go : (u v : Result Account Why) → u ≡ Ok x → (received (received_all (packets_to from a ps) (fresh a.to o s h' i')) (packet_to from a p)).answer ≡ v → ReceivedAlike u v → v ≡ Ok x
      go _ _ f g (both_accepted {a = w} {b = y} h) =
          let w_is : w ≡ x = cc in
          ap Ok (account_is w y h (ap (λ (k : Account). k.counts.differing) w_is ∙ none_14 from ms wf o s h' i sizes ps p before now_copies x e) (differs y g) ∙ w_is)
      go _ v f g (both_refused (refusing w) q) = absurd (cc)
