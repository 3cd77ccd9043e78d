-- Request 10 of document 02, "The 2020 edition": the words for what it says of "the other edition's recording". The one test in which the editions differ is `security_ok` (Ranges), beside its
-- field (Faults), and the one field that they show differently `security_in` (Shown).
use Rattle.std.specs.Prelude.{ℕ, ◌≡◌, true, false, List, ◌⊎◌, get_or, Some, None}
use Rattle.editions.specs.declared.Edition.{Edition}
use Rattle.kinds.specs.Table.{kind_of}
use Rattle.kinds.specs.declared.Kind.{Kind}
use Rattle.fields.specs.Fields.{security_of}
use Rattle.body.specs.Ranges.{security_ok}
use Rattle.body.specs.Read.{read_body, good_body}
use Rattle.body.specs.Shown.{security_in}

-- a Symbol Update, by its type byte
abbrev pub IsUpdate : List ℕ → Type 0
IsUpdate b = kind_of (get_or b 0 0) ≡ Kind.SymbolUpdate

-- a Symbol Update whose byte 20 "is `E` or `F`", and one whose byte 20 is neither
pub record Lettered (b : List ℕ) : Type 0 where
  pub update : IsUpdate b
  pub letter : security_ok Edition.V13 (security_of b) ≡ true

pub record Unlettered (b : List ℕ) : Type 0 where
  pub update : IsUpdate b
  pub no_letter : security_ok Edition.V13 (security_of b) ≡ false

-- "a reader shows only right fields": a reader of the edition r, given a body of the edition w, takes it as the same message, whose fields are read from the same bytes by a definition that knows no
-- edition (`decoded`), and shows no Security Type but the one that w has there
pub record OnlyRight (r w : Edition) (b : List ℕ) : Type 0 where
  pub taken : good_body r b ≡ true
  pub same_message : read_body r b ≡ read_body w b
  pub type_right : IsUpdate b → (security_in r b ≡ None) ⊎ (security_in r b ≡ security_in w b)

-- where a reserved byte 20 is `E` or `F`: a 1.3 reader takes the message as it is, and shows that byte for a Security Type, which it is not
pub record WrongType (b : List ℕ) : Type 0 where
  pub taken : good_body Edition.V13 b ≡ true
  pub same_message : read_body Edition.V13 b ≡ read_body Edition.V13b b
  pub shown : security_in Edition.V13 b ≡ Some (security_of b)
  pub not_there : security_in Edition.V13b b ≡ None
