-- A converted recording has the first one's packets, each converted, and the same rest; they are heard alongside, refused before and after, so that the sheets are made of the same but for byte 20.
-- Assumes nothing.
use Prim.Native.Nat.{ℕ, ◌+◌, ◌-◌, ◌≤◌}
use mathlib.Core.Path.{◌≡◌, refl, sym, ap, subst, ◌∙◌}
use mathlib.Core.Bool.{Bool, true, false}
use mathlib.Core.Logic.{inl, inr}
use mathlib.Core.List.{List, [], ◌∷◌, ◌++◌}
use native.Mathlib.Omega.{arith}
use lib.ListN.{length, take, drop, length-append, length-take, length-drop}
use lib.Seq.{take_at, drop_at, drop-drop, length-take-le}
use lib.Dec.{ltb}
use Rattle.facts.specs.Pick.{pick}
use Rattle.facts.specs.Limits.{packet_most, hold_least}
use Rattle.facts.specs.Pieces.{join}
use Rattle.editions.specs.declared.Edition.{Edition}
use Rattle.wire.specs.Le.{le, field}
use Rattle.wire.specs.Records.{Rec, bad, records}
use Rattle.packet.specs.Packet.{Framing, framing}
use Rattle.packet.proofs.Good.{AllGood, framing_fine, Fine}
use Rattle.arbitration.specs.Stream.{each}
use Rattle.receiver.specs.Lent.{Lent, state_of, orders_of, symbols_of, sizes_ok, received, received_all}
use Rattle.receiver.specs.declared.State.{State}
use Rattle.std.specs.Prelude.{Result}
use Rattle.packet.specs.declared.Why.{Why}
use Rattle.receiver.specs.declared.Account.{Account}
use Rattle.recording.specs.Stream.{more, Standing, noted, too_long, heard, hears, Hearing, hearing, byte, took}
use Rattle.recording.specs.Whole.{packets_of, rest_of, InFront, Laid, Inside, began}
use Rattle.recording.proofs.Packets.{packets_laid, laid_once}
use Rattle.recording.proofs.Heard.{all_heard, packets_heard, cut_rest}
use Rattle.recording.proofs.FromStart.{any_pieces}
use Rattle.answer_sheet.specs.Lines.{Line}
use Rattle.answer_sheet.specs.Types.{untyped, in_edition}
use Rattle.answer_sheet.specs.Sheet.{lines_of}
use Rattle.retype.specs.Types.{types_ok}
use Rattle.retype.specs.Retyped.{Asked}
use Rattle.conversion.specs.Piece.{Piece, whole_front, packet_in_front}
use Rattle.conversion.specs.Kept.{Becomes, taken, refused}
use Rattle.conversion.proofs.Pieces.{not_whole, is_whole, passed_length, piece_none, piece_more}
use Rattle.conversion.proofs.Passing.{becomes}
use Rattle.mornings.specs.Mornings.{packet_to, packets_to, recording_to, SameMorning, whole_or_cut, lines_after, sheet_in}
use Rattle.mornings.specs.Alongside.{FramesAlike, both_bad, both_good, ReceivedAlike, both_accepted, both_refused, Refusing, refusing}
use Rattle.mornings.proofs.Runs.{two, meant_to, Pair, fresh_pair, call_pair, calls_pair, pair_same}
use Rattle.mornings.proofs.Sheets.{lines_alike}

module _ (from : Edition) (a : Asked) (ok : types_ok a.to a.all a.others ≡ true) where
  -- ---- packets: refused before and after
  pub all_good : (p : List ℕ) (cs : List Rec) → framing from p ≡ records cs → AllGood from cs
  all_good p cs e = subst (Fine from (length p)) e (framing_fine from p)

  pub frames_to : (p : List ℕ) → FramesAlike (two from a ok) (framing from p) (framing a.to (packet_to from a p))
  frames_to p = go (becomes from a p ok)
    where
      go : Becomes from a p → FramesAlike (two from a ok) (framing from p) (framing a.to (packet_to from a p))
      go (taken cs e f) = subst (λ (x : Framing). FramesAlike (two from a ok) x (framing a.to (packet_to from a p))) (sym e) (subst (FramesAlike (two from a ok) (records cs)) (sym f) (both_good (meant_to from a ok cs (all_good p cs e))))
      go (refused w v e f) = subst (λ (x : Framing). FramesAlike (two from a ok) x (framing a.to (packet_to from a p))) (sym e) (subst (FramesAlike (two from a ok) (bad w)) (sym f) (both_bad w v))

  -- "gives the same answers and makes the same tables": after any packets, and to the next
  pub same_answers : (ps : List (List ℕ)) (p : List ℕ) (k k' : Lent) → Pair from a ok k k' → ReceivedAlike (received (received_all ps k) p).answer (received (received_all (packets_to from a ps) k') (packet_to from a p)).answer
  same_answers ps p k k' x = (call_pair from a ok (packet_to from a) frames_to (received_all ps k) (received_all (packets_to from a ps) k') p (calls_pair from a ok (packet_to from a) frames_to ps k k' x)).0

  pub same_tables : (ps : List (List ℕ)) (k k' : Lent) → Pair from a ok k k' → SameMorning a (received_all ps k) (received_all (packets_to from a ps) k')
  same_tables ps k k' x = pair_same from a ok (received_all ps k) (received_all (packets_to from a ps) k') (calls_pair from a ok (packet_to from a) frames_to ps k k' x)

  -- ---- packets of a recording, counted where they are bad
  record Beside (x y : Standing) : Type 0 where
    bad_same : y.bad ≡ x.bad
    pair : Pair from a ok x.lent y.lent

  refusing_bad : (r : Result Account Why) (l : Lent) (x : Standing) → Refusing r → ((noted r l x).bad ≡ more x.bad 1) × ((noted r l x).lent ≡ l)
  unfolding noted
  refusing_bad _ l x (refusing w) = (refl, refl)

  noted_beside : (r r' : Result Account Why) (l l' : Lent) (x y : Standing) → ReceivedAlike r r' → Pair from a ok l l' → y.bad ≡ x.bad → Beside (noted r l x) (noted r' l' y)
  unfolding noted
  noted_beside _ _ l l' x y (both_accepted g) p e = record { bad_same = e; pair = p }
  noted_beside r r' l l' x y (both_refused u v) p e =
      let b = refusing_bad r l x u in
      let b' = refusing_bad r' l' y v in
      record { bad_same = b'.0 ∙ ap (λ (n : ℕ). more n 1) e ∙ sym b.0; pair = subst (λ (k : Lent). Pair from a ok k (noted r' l' y).lent) (sym b.1) (subst (Pair from a ok l) (sym b'.1) p) }

  heard_beside : (p : List ℕ) (x y : Standing) → Beside x y → Beside (heard p x) (heard (packet_to from a p) y)
  unfolding heard pick
  heard_beside p x y h = subst (λ (n : ℕ). Beside (heard p x) (pick (ltb packet_most n) (too_long y) (noted (received y.lent (packet_to from a p)).answer (received y.lent (packet_to from a p)).after y))) (sym (passed_length from a p)) (go (ltb packet_most (length p)))
    where
      c : ReceivedAlike (received x.lent p).answer (received y.lent (packet_to from a p)).answer × Pair from a ok (received x.lent p).after (received y.lent (packet_to from a p)).after
      c = call_pair from a ok (packet_to from a) frames_to x.lent y.lent p h.pair

      go : (t : Bool) → Beside (pick t (too_long x) (noted (received x.lent p).answer (received x.lent p).after x)) (pick t (too_long y) (noted (received y.lent (packet_to from a p)).answer (received y.lent (packet_to from a p)).after y))
      go true = record { bad_same = ap (λ (n : ℕ). more n 1) h.bad_same; pair = h.pair }
      go false = noted_beside (received x.lent p).answer (received y.lent (packet_to from a p)).answer (received x.lent p).after (received y.lent (packet_to from a p)).after x y c.0 c.1 h.bad_same

  hears_beside : (ps : List (List ℕ)) (x y : Standing) → Beside x y → Beside (hears ps x) (hears (packets_to from a ps) y)
  unfolding hears
  hears_beside [] x y h = h
  hears_beside (p ∷ ps) x y h = hears_beside ps (heard p x) (heard (packet_to from a p) y) (heard_beside p x y h)

  -- ---- its packets and its rest
  inside_none : (u : List ℕ) → Inside u → whole_front u ≡ false
  inside_none u (inl l) = not_whole u (omega arith)
  inside_none u (inr l) = not_whole u (omega arith)

  -- a packet q of the length that stands before it, in front of what follows
  module _ (t q r : List ℕ) (two_there : 2 ≤ length t) (len : field t 0 2 ≡ length q) where
    abbrev all : List ℕ
    all = take 2 t ++ (q ++ r)

    two_long : length (take 2 t) ≡ 2
    two_long = length-take-le 2 t two_there

    in_front : InFront q all
    unfolding field
    in_front =
        record {
          length_there = omega (arith, length-append (take 2 t) (q ++ r), two_long);
          length_is = ap le (take_at (take 2 t) (q ++ r) 2 two_long) ∙ len;
          bytes_are = ap (take (length q)) (drop_at (take 2 t) (q ++ r) 2 two_long) ∙ take_at q r (length q) refl;
        }

    then_rest : drop (2 + length q) all ≡ r
    then_rest = sym (drop-drop (length q) 2 all) ∙ ap (drop (length q)) (drop_at (take 2 t) (q ++ r) 2 two_long) ∙ drop_at q r (length q) refl

  laid_to : (ps : List (List ℕ)) (t u : List ℕ) → Laid ps t u → Inside u → Laid (packets_to from a ps) (recording_to from a t) u
  laid_to [] t u e i = ap (λ (x : Piece). x.bytes) (piece_none from a t (inside_none t (subst Inside (sym e) i))) ∙ e
  laid_to (p ∷ ps) t u (f, r) i =
      let long : length p ≤ length t - 2 = omega (arith, sym (ap length f.bytes_are), length-take (length p) (drop 2 t), length-drop 2 t) in
      let whole : whole_front t ≡ true = is_whole t (omega (arith, long, f.length_is, f.length_there)) in
      let packet : packet_in_front t ≡ p = ap (λ (n : ℕ). take n (drop 2 t)) f.length_is ∙ f.bytes_are in
      let q : List ℕ = packet_to from a p in
      let rest : List ℕ = recording_to from a (drop (2 + length p) t) in
      let is : recording_to from a t ≡ take 2 t ++ (q ++ rest) =
      ap (λ (x : Piece). x.bytes) (piece_more from a t whole) ∙ (λ j. take 2 t ++ (packet_to from a (packet j) ++ recording_to from a (drop (2 + f.length_is j) t))) in
      let len : field t 0 2 ≡ length q = f.length_is ∙ sym (passed_length from a p) in
      subst (λ (x : List ℕ). InFront q x × Laid (packets_to from a ps) (drop (2 + length q) x) u) (sym is)
      (in_front t q rest f.length_there len, subst (λ (x : List ℕ). Laid (packets_to from a ps) x u) (sym (then_rest t q rest f.length_there len)) (laid_to ps (drop (2 + length p) t) u r i))

  pub packets_to_lem : (t : List ℕ) → (packets_of (recording_to from a t) ≡ packets_to from a (packets_of t)) × (rest_of (recording_to from a t) ≡ rest_of t)
  packets_to_lem t =
      let l = packets_laid t in
      let m = packets_laid (recording_to from a t) in
      laid_once (packets_of (recording_to from a t)) (packets_to from a (packets_of t)) (recording_to from a t) (rest_of (recording_to from a t)) (rest_of t) m.0 m.1 (laid_to (packets_of t) t (rest_of t) l.0 l.1) l.1

-- ---- the sheet
-- of what was heard, and whether anything is left
lines_in : Bool → Standing → List Line
lines_in b k = lines_of (whole_or_cut b) k.bad (state_of k.lent) (orders_of k.lent) (symbols_of k.lent)

module _ (ed : Edition) (o s h i : ℕ) (w : List ℕ) (sizes : sizes_ok o s h i ≡ true) (big : hold_least ≤ length w) where
  sheet_is : (c : List ℕ) (cs : List (List ℕ)) → sheet_in ed o s h i w (c ∷ cs) ≡ lines_in (ltb 0 (length (rest_of (join (c ∷ cs))))) (hears (packets_of (join (c ∷ cs))) (began ed o s h i))
  unfolding lines_after took lines_in
  sheet_is c cs =
      let t : List ℕ = join (c ∷ cs) in
      let k : Standing = began ed o s h i in
      let x : Hearing = each byte t (hearing [] 0 k) in
      ap lines_after (any_pieces ed o s h i w sizes big c cs ∙ ap (took (length w)) (sym (all_heard t k)))
      ∙ (λ j. lines_in (cut_rest t k j) (packets_heard t k j))

-- the same sheet but for the `type=` lines: of any recording, in chunks of any size, and of what it is converted to, in any others; with an index or without
module _ (from : Edition) (a : Asked) (ok : types_ok a.to a.all a.others ≡ true) (o s h i i' : ℕ) (w w' : List ℕ)
    (sizes : sizes_ok o s h i ≡ true) (sizes' : sizes_ok o s h i' ≡ true) (big : hold_least ≤ length w) (big' : hold_least ≤ length w') where
  began_beside : Beside from a ok (began from o s h i) (began a.to o s h i')
  began_beside = record { bad_same = refl; pair = fresh_pair from a ok o s h i i' sizes sizes' }

  lines_beside : (b : Bool) (x y : Standing) → Beside from a ok x y → untyped (lines_in b y) ≡ untyped (lines_in b x)
  unfolding lines_in
  lines_beside b x y e =
      let m = pair_same from a ok x.lent y.lent e.pair in
      let own : state_of x.lent ≡ in_edition from (state_of x.lent) = λ j. record { next = (state_of x.lent).next; clock = (state_of x.lent).clock; stop = (state_of x.lent).stop; edition = e.pair.edition_is j } in
      let other : state_of y.lent ≡ in_edition a.to (state_of x.lent) = λ j. record { next = m.next j; clock = m.clock j; stop = m.stop j; edition = e.pair.edition_is' j } in
      (λ j. untyped (lines_of (whole_or_cut b) (e.bad_same j) (other j) (m.orders j) (m.symbols j)))
      ∙ lines_alike from a.to a (whole_or_cut b) x.bad (state_of x.lent) (orders_of x.lent) (symbols_of x.lent)
      ∙ ap (λ (q : State). untyped (lines_of (whole_or_cut b) x.bad q (orders_of x.lent) (symbols_of x.lent))) (sym own)

  pub same_sheet : (c d : List ℕ) (cs ds : List (List ℕ)) → join (d ∷ ds) ≡ recording_to from a (join (c ∷ cs)) → untyped (sheet_in a.to o s h i' w' (d ∷ ds)) ≡ untyped (sheet_in from o s h i w (c ∷ cs))
  same_sheet c d cs ds e =
      let t : List ℕ = join (c ∷ cs) in
      let p = packets_to_lem from a ok t in
      ap untyped (sheet_is a.to o s h i' w' sizes' big' d ds)
      ∙ (λ j. untyped (lines_in (ltb 0 (length (rest_of (e j)))) (hears (packets_of (e j)) (began a.to o s h i'))))
      ∙ (λ j. untyped (lines_in (ltb 0 (length (p.1 j))) (hears (p.0 j) (began a.to o s h i'))))
      ∙ lines_beside (ltb 0 (length (rest_of t))) (hears (packets_of t) (began from o s h i)) (hears (packets_to from a (packets_of t)) (began a.to o s h i')) (hears_beside from a ok (packets_of t) (began from o s h i) (began a.to o s h i') began_beside)
      ∙ ap untyped (sym (sheet_is from o s h i w sizes big c cs))
