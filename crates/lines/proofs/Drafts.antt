-- A record of a message so far, by its body and its columns.
use Rattle.std.specs.Prelude.{ℕ, List, Option}
use Rattle.editions.specs.declared.Edition.{Edition}
use Rattle.kinds.specs.Table.{kind_length}
use Rattle.kinds.specs.declared.Kind.{Kind}
use Rattle.line_in.specs.declared.Draft.{Draft}

abbrev pub draft : Edition → Kind → List ℕ → List (Option ℕ) → Draft
draft ed k b g = record { edition = ed; kind = k; length = kind_length k; body = b; columns = g }
