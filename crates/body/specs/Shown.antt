-- What byte 20 of a Symbol Update is to a reader of an edition (request 10): "version 1.3, where byte 20 of a Symbol Update is Security Type ..; from 1.3.a it is reserved". The sheet, the calls
-- for C and the program `reading` show it by this.
use Rattle.std.specs.Prelude.{ℕ, List, Option, Some, None}
use Rattle.editions.specs.declared.Edition.{Edition}
use Rattle.fields.specs.Fields.{security_of}

abbrev pub security_in : Edition → List ℕ → Option ℕ
security_in Edition.V13 b = Some (security_of b)
security_in Edition.V13b b = None
