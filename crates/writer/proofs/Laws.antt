-- What each step of writing says of the definitions: where bytes are stored, what refuses them, and in which order.
-- Assumes nothing.
use mathlib.Core.Path.{◌≡◌, refl, sym, ap, ◌∙◌}
use mathlib.Core.List.{List, ◌++◌}
use mathlib.Core.Bool.{Bool, true, false}
use mathlib.Core.Logic.{inl, inr}
use Prim.Native.Nat.{ℕ, ◌+◌, ◌≤◌, ◌<◌}
use native.Mathlib.Omega.{arith}
use lib.ListN.{length, length-append}
use lib.Seq.{sets}
use lib.Dec.{eqb, leb}
use borrow.Author.Tests.{eq-eqb, ne_eqb, eqb-true, eqb-false, le-leb, lt-leb, leb-true}
use Rattle.facts.specs.Limits.{packet_most}
use Rattle.facts.specs.Pick.{pick}
use Rattle.facts.proofs.Picks.{pick_ind, pick_cases}
use Rattle.facts.proofs.Stores.{sets_append}
use Rattle.editions.specs.declared.Edition.{Edition}
use Rattle.wire.specs.Le.{to_le}
use Rattle.wire.proofs.Laws.{length_to_le}
use Rattle.fields.specs.declared.Refusal.{Refusal}
use Rattle.fields.specs.Fields.{refusal}
use Rattle.packet.specs.Record.{number_ok}
use Rattle.packet.specs.Packet.{read_packet}
use Rattle.std.specs.Prelude.{Result, Ok, Err}
use Rattle.packet.specs.declared.Why.{Why}
use Rattle.trips.specs.Records.{record_bytes, length_first}
use Rattle.trips.proofs.Records.{length_record}
use Rattle.writer.specs.Append.{writing, refused_by, put, where_read, behind, room_number, so_far, own_number, unless}

-- ---- runs stored one behind the other
stored_two : (t a b : List ℕ) (at n : ℕ) → length a ≡ n → sets (sets t at a) (at + n) b ≡ sets t at (a ++ b)
stored_two t a b at n l = rw (← l) (sym (sets_append a b t at))

-- number, length and body: the record
pub record_put : (t b : List ℕ) (at n : ℕ) → sets (sets (sets t at (to_le 8 n)) (at + 8) (to_le 2 (length b))) (at + 10) b ≡ sets t at (record_bytes n b)
unfolding record_bytes
record_put t b at n =
    let two : List ℕ = to_le 2 (length b) in
    let ten : at + 10 ≡ at + 8 + 2 = omega arith in
    rw (ten, stored_two (sets t at (to_le 8 n)) two b (at + 8) 2 (length_to_le 2 (length b))) (stored_two t (to_le 8 n) (two ++ b) at 8 (length_to_le 8 n))

-- length and packet
pub packet_put : (t p : List ℕ) (at : ℕ) → sets (sets t at (to_le 2 (length p))) (at + 2) p ≡ sets t at (length_first p)
unfolding length_first
packet_put t p at = stored_two t (to_le 2 (length p)) p at 2 (length_to_le 2 (length p))

pub length_first_lem : (p : List ℕ) → length (length_first p) ≡ 2 + length p
unfolding length_first
length_first_lem p = rw (length-append, length_to_le 2 (length p))

-- ---- the refusals of a record, each told whatever stands behind it
module _ (why n room new : ℕ) where
  pub bad_number : number_ok n ≡ false → 5 ≡ own_number why n room new
  unfolding own_number pick
  bad_number o = rw o refl

  pub bad_message : number_ok n ≡ true → (why ≡ 0 → ⊥) → why ≡ own_number why n room new
  unfolding own_number pick
  bad_message o w = rw (o, ne_eqb why 0 w) refl

  module _ (o : number_ok n ≡ true) (w : why ≡ 0) where
    pub over_long : leb new packet_most ≡ false → 1 ≡ own_number why n room new
    unfolding own_number pick
    over_long l = rw (o, eq-eqb why 0 w, l) refl

    pub no_room : leb new packet_most ≡ true → leb new room ≡ false → 32 ≡ own_number why n room new
    unfolding own_number room_number pick
    no_room l r = rw (o, eq-eqb why 0 w, l, r) refl

    pub none_refuses : leb new packet_most ≡ true → leb new room ≡ true → 0 ≡ own_number why n room new
    unfolding own_number room_number pick
    none_refuses l r = rw (o, eq-eqb why 0 w, l, r) refl

-- ---- refused by a number, and by none
pub unless_ok : (k : ℕ) (u : Unit {0}) → unless k ≡ Ok u → k ≡ 0
unless_ok k u = pick_ind (λ (x : Result (Unit {0}) Refusal). x ≡ Ok u → k ≡ 0) (eqb k 0) (Ok tt) (Err (refusal k)) (λ e _. eqb-true k 0 e) (λ _ q. let z : ◌≡◌ {A = ℕ} 0 1 = cc in absurd (omega arith))

pub unless_err : (k : ℕ) (r : Refusal) → unless k ≡ Err r → (k ≡ 0 → ⊥) × (r ≡ refusal k)
unless_err k r =
    pick_ind (λ (x : Result (Unit {0}) Refusal). x ≡ Err r → (k ≡ 0 → ⊥) × (r ≡ refusal k))
    (eqb k 0)
    (Ok tt)
    (Err (refusal k))
    (λ _ q. let z : ◌≡◌ {A = ℕ} 0 1 = cc in absurd (omega arith))
    (λ e q. let s : r ≡ refusal k = cc in (eqb-false k 0 e, s))

pub is_refused : (k own : ℕ) → k ≡ own → (k ≡ 0 → ⊥) → Err (refusal k) ≡ unless own
unfolding pick
is_refused k own e d = rw (← e, ne_eqb k 0 d) refl

pub is_allowed : (own : ℕ) → 0 ≡ own → Ok tt ≡ unless own
unfolding pick
is_allowed own e = rw (← e) refl

-- what is known of a record that nothing refuses
pub record Allowed (why n room new : ℕ) : Type 0 where
  pub good_number : number_ok n ≡ true
  pub message_ok : why ≡ 0
  pub in_packet : new ≤ packet_most
  pub in_room : new ≤ room

pub allowed : (why n room new : ℕ) → own_number why n room new ≡ 0 → Allowed why n room new
unfolding own_number room_number
allowed why n room new e =
    elim (pick_cases e) [
      | inl h ↦ elim (pick_cases h.1) [
        | inl i ↦ elim (pick_cases i.1) [
          | inl j ↦ elim (pick_cases j.1) [
            | inl k ↦ record { good_number = h.0; message_ok = eqb-true why 0 i.0; in_packet = leb-true new packet_most j.0; in_room = leb-true new room k.0 }
            | inr k ↦ absurd (omega (arith, k.1))
          ]
          | inr j ↦ absurd (omega (arith, j.1))
        ]
        | inr i ↦ let z : why ≡ 0 = i.1 in absurd (not_zero why z i.0)
      ]
      | inr h ↦ absurd (omega (arith, h.1))
    ]
  where
    not_zero : (a : ℕ) → a ≡ 0 → eqb a 0 ≡ false → ⊥
    not_zero a z f = let x : true ≡ false = sym (eq-eqb a 0 z) ∙ f in let y : ◌≡◌ {A = ℕ} 0 1 = cc in omega arith

-- ---- refused, or stored
pub put_refused : (k : ℕ) (m : List ℕ) (at : ℕ) (s : List ℕ) → (k ≡ 0 → ⊥) → refused_by k m ≡ put k m at s
unfolding put pick
put_refused k m at s d = rw (ne_eqb k 0 d) refl

pub put_stored : (k : ℕ) (m : List ℕ) (at : ℕ) (s : List ℕ) → k ≡ 0 → writing (Ok (at + length s)) (sets m at s) ≡ put k m at s
unfolding put pick
put_stored k m at s z = rw (eq-eqb k 0 z) refl

-- ---- beyond the memory, or as reading says
pub beyond : (r : Result ℕ Why) (k : ℕ) (m : List ℕ) (at : ℕ) (s : List ℕ) → length m < at → refused_by 32 m ≡ behind r k m at s
unfolding behind pick
beyond r k m at s l = rw (lt-leb at (length m) l) refl

pub within : (r : Result ℕ Why) (k : ℕ) (m : List ℕ) (at : ℕ) (s : List ℕ) → at ≤ length m → where_read r m (put k m at s) ≡ behind r k m at s
unfolding behind pick
within r k m at s l = rw (le-leb at (length m) l) refl

-- by what the reader said
module _ (r : Result ℕ Why) (k : ℕ) (m : List ℕ) (at : ℕ) (s : List ℕ) where
  pub refused_here : (x : Why) → at ≤ length m → r ≡ Err x → writing (Err x) m ≡ behind r k m at s
  unfolding where_read
  refused_here x l e = ap (λ (y : Result ℕ Why). where_read y m (put k m at s)) (sym e) ∙ within r k m at s l

  pub good_here : (n : ℕ) → at ≤ length m → r ≡ Ok n → put k m at s ≡ behind r k m at s
  unfolding where_read
  good_here n l e = ap (λ (y : Result ℕ Why). where_read y m (put k m at s)) (sym e) ∙ within r k m at s l

-- ---- a record, as the code goes
module _ (why n : ℕ) (m : List ℕ) (at : ℕ) (b : List ℕ) (k : ℕ) where
  own_is : k ≡ own_number why n (length m) (at + (10 + length b)) → k ≡ own_number why n (length m) (at + length (record_bytes n b))
  own_is e = rw (length_record n b) e

  pub put_own_refused : k ≡ own_number why n (length m) (at + (10 + length b)) → (k ≡ 0 → ⊥) → refused_by k m ≡ put (own_number why n (length m) (at + length (record_bytes n b))) m at (record_bytes n b)
  put_own_refused e z = put_refused k m at (record_bytes n b) z ∙ ap (λ (j : ℕ). put j m at (record_bytes n b)) (own_is e)

  pub put_own_stored : (m1 : List ℕ) → k ≡ own_number why n (length m) (at + (10 + length b)) → k ≡ 0 → m1 ≡ sets m at (record_bytes n b) → writing (Ok (at + (10 + length b))) m1 ≡ put (own_number why n (length m) (at + length (record_bytes n b))) m at (record_bytes n b)
  put_own_stored m1 e z w =
      (λ i. writing (Ok (at + sym (length_record n b) i)) (w i))
      ∙ (put_stored k m at (record_bytes n b) z ∙ ap (λ (j : ℕ). put j m at (record_bytes n b)) (own_is e))

-- ---- a packet, as the code goes
module _ (m : List ℕ) (at : ℕ) (p : List ℕ) where
  room_is : (x : Bool) → leb (at + (2 + length p)) (length m) ≡ x → room_number (length m) (at + length (length_first p)) ≡ pick x 0 32
  unfolding room_number
  room_is x e = rw (length_first_lem p, e) refl

  pub put_packet_refused : leb (at + (2 + length p)) (length m) ≡ false → refused_by 32 m ≡ put (room_number (length m) (at + length (length_first p))) m at (length_first p)
  unfolding pick
  put_packet_refused e = put_refused 32 m at (length_first p) (λ z. omega arith) ∙ ap (λ (j : ℕ). put j m at (length_first p)) (sym (room_is false e))

  pub put_packet_stored : (m1 m2 : List ℕ) → leb (at + (2 + length p)) (length m) ≡ true → m1 ≡ sets m at (to_le 2 (length p)) → m2 ≡ sets m1 (at + 2) p → writing (Ok (at + (2 + length p))) m2 ≡ put (room_number (length m) (at + length (length_first p))) m at (length_first p)
  unfolding pick
  put_packet_stored m1 m2 e f g =
      let w : m2 ≡ sets m at (length_first p) = g ∙ (ap (λ (x : List ℕ). sets x (at + 2) p) f ∙ packet_put m p at) in
      (λ i. writing (Ok (at + sym (length_first_lem p) i)) (w i))
      ∙ (put_stored 0 m at (length_first p) refl ∙ ap (λ (j : ℕ). put j m at (length_first p)) (sym (room_is true e)))

-- ---- the packet so far
pub so_far_empty : (ed : Edition) (p : List ℕ) → length p ≡ 0 → Ok 0 ≡ so_far ed p
unfolding so_far pick
so_far_empty ed p e = rw (eq-eqb (length p) 0 e) refl

pub so_far_some : (ed : Edition) (p : List ℕ) → (length p ≡ 0 → ⊥) → read_packet ed p ≡ so_far ed p
unfolding so_far pick
so_far_some ed p e = rw (ne_eqb (length p) 0 e) refl
