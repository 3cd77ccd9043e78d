-- Both engines are fed one recording (request 9): its packets are heard alike, one after another, so that from a start streams, tables and buffer stay the same.
-- Assumes nothing.
use Prim.Native.Nat.{ℕ, ◌-◌, ◌≤◌}
use mathlib.Core.Path.{◌≡◌, refl, sym, ap, subst}
use mathlib.Core.Bool.{Bool, true, false}
use mathlib.Core.List.{List, [], ◌∷◌}
use lib.ListN.{length}
use lib.Dec.{leb, ltb}
use Rattle.facts.specs.Pick.{pick, both}
use Rattle.facts.specs.Limits.{packet_most, hold_least}
use Rattle.facts.specs.Pieces.{join}
use Rattle.editions.specs.declared.Edition.{Edition}
use Rattle.wire.specs.Le.{field}
use Rattle.receiver.specs.Lent.{Lent, plain_of, received, sizes_ok}
use Rattle.receiver.specs.Engines.{packet, done, done_all, SameRuns}
use Rattle.std.specs.Prelude.{Result, Ok, Err}
use Rattle.packet.specs.declared.Why.{Why}
use Rattle.receiver.specs.declared.Account.{Account}
use Rattle.receiver.proofs.Engines.{both_engines}
use Rattle.recording.specs.Stream.{more, added, Standing, noted, too_long, heard, hears, hearing, Feeding, took}
use Rattle.recording.specs.Whole.{packets_of, rest_of, waiting, fed_all, began, opened_over, SameFeeds}
use Rattle.recording.proofs.FromStart.{any_pieces}

-- what packets change, alike but for the index
record Alike (x y : Standing) : Type 0 where
  bad_same : x.bad ≡ y.bad
  last_same : x.last ≡ y.last
  totals_same : x.totals ≡ y.totals
  runs_same : SameRuns x.lent y.lent

noted_alike : (a : Result Account Why) (l l' : Lent) (x y : Standing) → SameRuns l l' → Alike x y → Alike (noted a l x) (noted a l' y)
unfolding noted
noted_alike (Ok a) l l' x y r h = record { bad_same = h.bad_same; last_same = h.last_same; totals_same = ap (added a.counts) h.totals_same; runs_same = r }
noted_alike (Err w) l l' x y r h = record { bad_same = ap (λ (n : ℕ). more n 1) h.bad_same; last_same = refl; totals_same = h.totals_same; runs_same = r }

heard_alike : (p : List ℕ) (x y : Standing) → Alike x y → Alike (heard p x) (heard p y)
unfolding heard pick done done_all
heard_alike p x y h = go (ltb packet_most (length p))
  where
    answer_same : (received x.lent p).answer ≡ (received y.lent p).answer
    answer_same = h.runs_same.answers [] (packet p)

    after_same : SameRuns (received x.lent p).after (received y.lent p).after
    after_same = record { answers = λ cs c. h.runs_same.answers (packet p ∷ cs) c; tables = λ cs. h.runs_same.tables (packet p ∷ cs) }

    go : (t : Bool)
        → Alike (pick t (too_long x) (noted (received x.lent p).answer (received x.lent p).after x)) (pick t (too_long y) (noted (received y.lent p).answer (received y.lent p).after y))
    go true = record { bad_same = ap (λ (n : ℕ). more n 1) h.bad_same; last_same = refl; totals_same = h.totals_same; runs_same = h.runs_same }
    go false =
        subst (λ (a : Result Account Why). Alike (noted a (received x.lent p).after x) (noted (received y.lent p).answer (received y.lent p).after y)) (sym answer_same)
        (noted_alike (received y.lent p).answer (received x.lent p).after (received y.lent p).after x y after_same h)

hears_alike : (ps : List (List ℕ)) (x y : Standing) → Alike x y → Alike (hears ps x) (hears ps y)
unfolding hears
hears_alike [] x y h = h
hears_alike (p ∷ ps) x y h = hears_alike ps (heard p x) (heard p y) (heard_alike p x y h)

-- what of it is left after a chunk
module _ (w : ℕ) (x y : Standing) (h : Alike x y) where
  took_alike : (u : List ℕ) (n : ℕ) → SameFeeds (took w (hearing u n x)) (took w (hearing u n y))
  unfolding took done_all
  took_alike u n =
      let e : plain_of x.lent ≡ plain_of y.lent = h.runs_same.tables [] in
      record {
        answer = λ i. Ok (record { receiver = record { next = (e i).rx.next; clock = (e i).rx.book.clock; stop = (e i).stop; edition = (e i).edition }; held = length u; skip = n; bad = h.bad_same i; last = h.last_same i; totals = h.totals_same i });
        orders = λ i. (e i).rx.book.orders;
        symbols = λ i. (e i).rx.book.symbols;
        shelf = λ i. (e i).rx.shelf;
        hold = refl;
      }

  waiting_alike : (u : List ℕ) → SameFeeds (took w (waiting u x)) (took w (waiting u y))
  unfolding waiting pick
  waiting_alike u = go (both (leb 2 (length u)) (ltb packet_most (field u 0 2)))
    where
      go : (t : Bool) → SameFeeds (took w (pick t (hearing [] (field u 0 2 - (length u - 2)) x) (hearing u 0 x))) (took w (pick t (hearing [] (field u 0 2 - (length u - 2)) y) (hearing u 0 y)))
      go true = took_alike [] (field u 0 2 - (length u - 2))
      go false = took_alike u 0

-- o, s, h: the lengths of the lent tables; i, i': those of the two indices, of which one may be none; w: the lent buffer
module _ (ed : Edition) (o s h i i' : ℕ) (w : List ℕ) (sizes : sizes_ok o s h i ≡ true) (sizes' : sizes_ok o s h i' ≡ true) (big : hold_least ≤ length w) where
  some_fed : (c : List ℕ) (cs : List (List ℕ)) → SameFeeds (fed_all (c ∷ cs) (opened_over ed o s h i w)) (fed_all (c ∷ cs) (opened_over ed o s h i' w))
  some_fed c cs =
      let t : List ℕ = join (c ∷ cs) in
      let start : Alike (began ed o s h i) (began ed o s h i') = record { bad_same = refl; last_same = refl; totals_same = refl; runs_same = both_engines ed o s h i i' sizes sizes' } in
      subst (λ (x : Feeding). SameFeeds x (fed_all (c ∷ cs) (opened_over ed o s h i' w))) (sym (any_pieces ed o s h i w sizes big c cs))
      (subst (λ (x : Feeding). SameFeeds (took (length w) (waiting (rest_of t) (hears (packets_of t) (began ed o s h i)))) x) (sym (any_pieces ed o s h i' w sizes' big c cs))
      (waiting_alike (length w) (hears (packets_of t) (began ed o s h i)) (hears (packets_of t) (began ed o s h i')) (hears_alike (packets_of t) (began ed o s h i) (began ed o s h i') start) (rest_of t)))

  -- "Both give the same answers and the same tables on every run from a start that leaves tables and index to them": of any chunks, none included
  pub both_fed : (cs : List (List ℕ)) → SameFeeds (fed_all cs (opened_over ed o s h i w)) (fed_all cs (opened_over ed o s h i' w))
  unfolding fed_all
  both_fed [] = record { answer = refl; orders = refl; symbols = refl; shelf = refl; hold = refl }
  both_fed (c ∷ cs) = some_fed c cs
