-- Text that is printed one behind the other on lent memory.
use Rattle.std.specs.Prelude.{ℕ, List, ◌≡◌}
use Rattle.text.specs.Text.{Wrote}
use Rattle.answer_sheet.specs.declared.Page.{Page}

-- q is the page p with the text t behind its own (`Wrote`), over the same memory
pub record Printed (p : Page) (t : List ℕ) (q : Page) : Type 0 where
  pub wrote : Wrote p.buf.now p.at t q.buf.now q.at
  pub same : q.buf.ghost_name ≡ p.buf.ghost_name
