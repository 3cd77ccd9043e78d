-- Flags are not judged: a good Modify with any other flags is a good Modify, whose other fields are as they were. All of them lie before byte 29.
-- Assumes nothing.
use Prim.Native.Nat.{ℕ, zero, suc, ◌+◌, ◌≤◌, ◌<◌}
use mathlib.Core.Path.{◌≡◌, refl, sym, ap, ◌∙◌}
use mathlib.Core.Bool.{Bool, true, false}
use mathlib.Core.List.{List, [], ◌∷◌}
use mathlib.Core.Logic.{◌≢◌}
use native.Mathlib.Omega.{arith}
use lib.ListN.{length, get_or, set, length-set}
use lib.Seq.{get_or-set_same, get_or-set_other, set-get_or}
use lib.Dec.{eqb}
use Rattle.facts.specs.Pick.{pick}
use Rattle.editions.specs.declared.Edition.{Edition}
use Rattle.wire.specs.Le.{field}
use Rattle.wire.proofs.Laws.{field_same}
use Rattle.kinds.specs.declared.Kind.{Kind}
use Rattle.layout.proofs.Laws.{tiles}
use Rattle.fields.specs.Fields.{modify_of, bad_at, decoded, body_number}
use Rattle.fields.specs.declared.ModifyOrder.{ModifyOrder}
use Rattle.fields.specs.declared.Body.{Body}
use Rattle.body.specs.Ranges.{nanos_ok, price_ok, size_ok}
use Rattle.body.specs.Faults.{fault_from, fault_of}
use Rattle.body.specs.Read.{judge_body, read_body, good_body}
use Rattle.body.specs.Undefined.{flagged, with_flags, OnlyBits}
use Rattle.body.proofs.Laws.{Framed, Sound, read_framed, read_sound, judge_by_fault, number_good}

-- a Modify reaches to its flags
modify_long : (b : List ℕ) → Framed Kind.Modify b → 29 < length b
modify_long b w = omega (arith, w.length_is, tiles Kind.Modify (rw w.length_is at w.some))

module _ (ed : Edition) (b : List ℕ) (x : ℕ) where
  -- a field before the flags
  before : (at w : ℕ) → at + w ≤ 29 → field (flagged b x) at w ≡ field b at w
  before at w l = field_same (flagged b x) b at w (λ k h m. get_or-set_other b 29 k x 0 (λ e. omega arith))

  flagged_framed : Framed Kind.Modify b → Framed Kind.Modify (flagged b x)
  flagged_framed w =
      let n : length (flagged b x) ≡ length b = length-set b 29 x in
      record {
        type_is = get_or-set_other b 29 0 x 0 (λ e. omega arith) ∙ w.type_is;
        length_is = n ∙ w.length_is;
        some = rw n w.some;
        most = rw n w.most;
      }

  fault_kept : fault_of ed Kind.Modify (flagged b x) ≡ fault_of ed Kind.Modify b
  unfolding fault_of fault_from pick
  fault_kept i = pick (nanos_ok (before 1 4 (omega arith) i)) (pick (price_ok (before 17 8 (omega arith) i)) (pick (size_ok (before 25 4 (omega arith) i)) 0 25) 17) 1

  fields_kept : 29 < length b → modify_of (flagged b x) ≡ with_flags (modify_of b) x
  fields_kept l i =
      record {
        nanos = before 1 4 (omega arith) i;
        symbol = before 5 4 (omega arith) i;
        order = before 9 8 (omega arith) i;
        price = before 17 8 (omega arith) i;
        size = before 25 4 (omega arith) i;
        flags = get_or-set_same b 29 x 0 l i;
      }

  -- "the field range for flags is struck out": whatever they are, a body of that type and length is good, or bad by the same number at the same place
  pub flags_unjudged : Framed Kind.Modify b → judge_body ed (flagged b x) ≡ judge_body ed b
  flags_unjudged w = judge_by_fault ed Kind.Modify b (flagged b x) w (flagged_framed w) fault_kept

  -- and a good one is the same message but for them
  pub any_flags : (m : ModifyOrder) → read_body ed b ≡ Body.Modify m → read_body ed (flagged b x) ≡ Body.Modify (with_flags m x)
  unfolding decoded pick
  any_flags m h = go (eqb (fault_of ed Kind.Modify b) 0) refl
    where
      w : Sound ed (Body.Modify m) b
      w = rw h at (read_sound ed b)

      go : (t : Bool) → eqb (fault_of ed Kind.Modify b) 0 ≡ t → read_body ed (flagged b x) ≡ Body.Modify (with_flags m x)
      go true e = read_framed ed Kind.Modify (flagged b x) (flagged_framed w.0) ∙ rw (fault_kept, e, fields_kept (modify_long b w.0), w.1) refl
      go false e =
          let q : Body.Bad (bad_at 4 (fault_of ed Kind.Modify b)) ≡ Body.Modify m = sym (rw e at (read_framed ed Kind.Modify b w.0)) ∙ h in
          cc

-- the flags of a good Modify are its byte 29
flags_at : (ed : Edition) (b : List ℕ) (m : ModifyOrder) → read_body ed b ≡ Body.Modify m → m.flags ≡ get_or b 29 0
flags_at ed b m h = let w : Sound ed (Body.Modify m) b = rw h at (read_sound ed b) in ap (λ (x : ModifyOrder). x.flags) w.1

set_twice : (l : List ℕ) (i x y : ℕ) → set (set l i x) i y ≡ set l i y
set_twice [] i x y = refl
set_twice (a ∷ l) zero x y = refl
set_twice (a ∷ l) (suc i) x y = ap (λ (t : List ℕ). a ∷ t) (set_twice l i x y)

-- ---- two that differ in undefined bits alone
module _ (ed : Edition) (b c : List ℕ) (o : OnlyBits ed b c) where
  -- the second is good too
  pub bits_read : read_body ed c ≡ Body.Modify (with_flags o.modify o.flags)
  bits_read = ap (read_body ed) o.second ∙ any_flags ed b o.flags o.modify o.first

  pub bits_good : (good_body ed b ≡ true) × (good_body ed c ≡ true)
  bits_good = (number_good ed b (ap body_number o.first), number_good ed c (ap body_number bits_read))

  -- and they are not the same bytes
  pub bits_apart : b ≢ c
  bits_apart e =
      let old : o.modify.flags ≡ get_or b 29 0 = flags_at ed b o.modify o.first in
      let new : get_or c 29 0 ≡ o.flags = sym (flags_at ed c (with_flags o.modify o.flags) bits_read) in
      o.differ (sym (old ∙ ap (λ (l : List ℕ). get_or l 29 0) e ∙ new))

  -- nor does it matter which of them is called the first
  pub bits_turned : OnlyBits ed c b
  bits_turned =
      let back : flagged b o.modify.flags ≡ b = ap (flagged b) (flags_at ed b o.modify o.first) ∙ set-get_or b 29 0 in
      record {
        modify = with_flags o.modify o.flags;
        flags = o.modify.flags;
        first = bits_read;
        second = sym (ap (λ (l : List ℕ). flagged l o.modify.flags) o.second ∙ set_twice b 29 o.flags o.modify.flags ∙ back);
        bit_0 = sym o.bit_0;
        differ = λ e. o.differ (sym e);
      }
