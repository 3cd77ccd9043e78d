-- A packet rewritten: record by record along its chain, each with the same number and length, so that every reader walks it alike.
-- Assumes nothing.
use Prim.Native.Nat.{ℕ, ◌+◌, ◌≤◌}
use mathlib.Core.Path.{◌≡◌, sym, ap, subst, ◌∙◌}
use mathlib.Core.Bool.{true}
use mathlib.Core.List.{List, [], ◌∷◌, ◌++◌}
use native.Mathlib.Omega.{arith}
use lib.ListN.{length, take, drop}
use Rattle.editions.specs.declared.Edition.{Edition}
use Rattle.wire.specs.Le.{field}
use Rattle.wire.specs.Records.{Rec, rec, records}
use Rattle.packet.specs.Record.{body_of, rec_of}
use Rattle.packet.specs.Packet.{framing}
use Rattle.packet.proofs.Laws.{GoodRec, body_length}
use Rattle.packet.proofs.Good.{framing_size}
use Rattle.retype.specs.Types.{types_ok}
use Rattle.retype.specs.Retyped.{Asked, retyped}
use Rattle.retype.proofs.Laws.{retyped_good, retyped_length, retyped_again, retyped_own}
use Rattle.conversion.specs.Packet.{record_to, rewritten}
use Rattle.conversion.specs.Kept.{rec_to, recs_to, HasTypes}
use Rattle.conversion.proofs.Turns.{rewritten_none, rewritten_more, rewritten_length}
use Rattle.conversion.proofs.Chains.{Chain, none, one, packet_chain, chain_packet, laid, laid_head, laid_body, laid_rest, laid_whole, laid_chain, taken_apart, head_size, head_field}

module _ (a : Asked) where
  -- ---- a record that is whole, rewritten in front of the rest
  module _ (t : List ℕ) (w : 10 + field t 8 2 ≤ length t) where
    abbrev h : List ℕ
    h = take 10 t

    abbrev b : List ℕ
    b = retyped a (body_of t)

    abbrev r : List ℕ
    r = rewritten a (drop (10 + field t 8 2) t)

    ten : length h ≡ 10
    ten = head_size t w

    len_is : field h 8 2 ≡ field t 8 2
    len_is = head_field t 8 2 (omega arith) (omega arith)

    number_is : field h 0 8 ≡ field t 0 8
    number_is = head_field t 0 8 (omega arith) (omega arith)

    long : length b ≡ field h 8 2
    long = retyped_length a (body_of t) ∙ body_length t w ∙ sym len_is

    as_laid : rewritten a t ≡ laid h b r ten long
    unfolding record_to
    as_laid = rewritten_more a t (omega arith)

  -- ---- a good packet of any edition is a good one of the edition asked for, with the same numbers
  module _ (from : Edition) (ok : types_ok a.to a.all a.others ≡ true) where
    good_to : (c : Rec) → GoodRec from c → GoodRec a.to (rec_to a c)
    good_to c g = record { number_from = g.number_from; number_to = g.number_to; body_good = retyped_good from a c.body g.body_good ok }

    chain_to : (t : List ℕ) (cs : List Rec) → Chain from t cs → Chain a.to (rewritten a t) (recs_to a cs)
    chain_to _ _ none = subst (λ (x : List ℕ). Chain a.to x []) (sym (rewritten_none a)) none
    chain_to t _ (one _ cs w g k) =
        let same : rec (field (h t w) 0 8) (b t w) ≡ rec_to a (rec_of t) = ap (λ (n : ℕ). rec n (retyped a (body_of t))) (number_is t w) in
        subst (λ (x : List ℕ). Chain a.to x (recs_to a (rec_of t ∷ cs))) (sym (as_laid t w))
        (subst (λ (c : Rec). Chain a.to (laid (h t w) (b t w) (r t w) (ten t w) (long t w)) (c ∷ recs_to a cs)) same
        (laid_chain (h t w) (b t w) (r t w) (ten t w) (long t w) a.to (recs_to a cs)
        (subst (GoodRec a.to) (sym same) (good_to (rec_of t) g))
        (chain_to (drop (10 + field t 8 2) t) cs k)))

    pub rewritten_good : (p : List ℕ) (cs : List Rec) → framing from p ≡ records cs → framing a.to (rewritten a p) ≡ records (recs_to a cs)
    rewritten_good p cs e =
        let s = framing_size from p cs e in
        chain_packet a.to (rewritten a p) (recs_to a cs) (rw rewritten_length s.0) (rw rewritten_length s.1) (chain_to p cs (packet_chain from p cs e))

  -- ---- rewritten as it is: where each Symbol Update has what is asked for
  chain_own : (from : Edition) (t : List ℕ) (cs : List Rec) → Chain from t cs → HasTypes a cs → rewritten a t ≡ t
  unfolding record_to
  chain_own from _ _ none y = (rewritten_none a)
  chain_own from t _ (one _ cs w g k) y =
      rewritten_more a t (omega arith)
      ∙ ap (λ (x : List ℕ). take 10 t ++ x ++ rewritten a (drop (10 + field t 8 2) t)) (retyped_own a (body_of t) y.0)
      ∙ ap (λ (x : List ℕ). take 10 t ++ body_of t ++ x) (chain_own from (drop (10 + field t 8 2) t) cs k y.1)
      ∙ taken_apart t w

  pub rewritten_own : (from : Edition) (p : List ℕ) (cs : List Rec) → framing from p ≡ records cs → HasTypes a cs → rewritten a p ≡ p
  rewritten_own from p cs e y = chain_own from p cs (packet_chain from p cs e) y

-- ---- rewritten once more: only what is asked for last counts
module _ (a c : Asked) (from : Edition) where
  chain_again : (t : List ℕ) (cs : List Rec) → Chain from t cs → rewritten c (rewritten a t) ≡ rewritten c t
  unfolding record_to
  chain_again _ _ none = ap (rewritten c) (rewritten_none a)
  chain_again t _ (one _ cs w g k) =
      let n : ℕ = 10 + field t 8 2 in
      let u : List ℕ = laid (h a t w) (b a t w) (r a t w) (ten a t w) (long a t w) in
      let first : take 10 u ≡ take 10 t = laid_head (h a t w) (b a t w) (r a t w) (ten a t w) (long a t w) in
      let body : retyped c (body_of u) ≡ retyped c (body_of t) = ap (retyped c) (laid_body (h a t w) (b a t w) (r a t w) (ten a t w) (long a t w)) ∙ retyped_again a c (body_of t) in
      let rest : rewritten c (drop (10 + field u 8 2) u) ≡ rewritten c (drop n t) = ap (rewritten c) (laid_rest (h a t w) (b a t w) (r a t w) (ten a t w) (long a t w)) ∙ chain_again (drop n t) cs k in
      ap (rewritten c) (as_laid a t w)
      ∙ rewritten_more c u (omega (arith, laid_whole (h a t w) (b a t w) (r a t w) (ten a t w) (long a t w)))
      ∙ (λ i. first i ++ body i ++ rest i)
      ∙ sym (rewritten_more c t (omega arith))

  pub rewritten_again : (p : List ℕ) (cs : List Rec) → framing from p ≡ records cs → rewritten c (rewritten a p) ≡ rewritten c p
  rewritten_again p cs e = chain_again p cs (packet_chain from p cs e)

  -- there and back: the packet itself, where it had what is asked for on the way back
  pub there_and_back : (p : List ℕ) (cs : List Rec) → framing from p ≡ records cs → HasTypes c cs → rewritten c (rewritten a p) ≡ p
  there_and_back p cs e y = rewritten_again p cs e ∙ rewritten_own c from p cs e y
