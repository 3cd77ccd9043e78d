-- Request 2 of document 02: "The specification calls bits 1 to 7 undefined", of the flags of a Modify. The words for what it says of them.
use Rattle.std.specs.Prelude.{ℕ, ◌%◌, ◌≡◌, List, ◌≢◌, ◌⊎◌, set}
use Rattle.editions.specs.declared.Edition.{Edition}
use Rattle.fields.specs.declared.ModifyOrder.{ModifyOrder}
use Rattle.fields.specs.declared.Body.{Body}
use Rattle.body.specs.Read.{read_body}

-- a Modify with other flags: of its bytes ("flags 29"), and of its fields
abbrev pub flagged : List ℕ → ℕ → List ℕ
flagged b x = set b 29 x

abbrev pub with_flags : ModifyOrder → ℕ → ModifyOrder
with_flags m x = record { nanos = m.nanos; symbol = m.symbol; order = m.order; price = m.price; size = m.size; flags = x }

-- "Two copies that differ only in those bits": a good Modify b, and c, which has other flags with the same bit 0
pub record OnlyBits (ed : Edition) (b c : List ℕ) : Type 0 where
  pub modify : ModifyOrder
  pub flags : ℕ
  pub first : read_body ed b ≡ Body.Modify modify
  pub second : c ≡ flagged b flags
  pub bit_0 : flags % 2 ≡ modify.flags % 2
  pub differ : flags ≢ modify.flags

-- the same bytes, but for those bits
abbrev pub ButForBits : Edition → List ℕ → List ℕ → Type 0
ButForBits ed b c = (b ≡ c) ⊎ OnlyBits ed b c
