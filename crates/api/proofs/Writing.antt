-- An offset in what a writer answers is that of the packet so far, or of the packet, and small.
-- Assumes nothing.
use Prim.Native.Nat.{ℕ}
use mathlib.Core.Path.{◌≡◌, sym, ap, ◌∙◌}
use mathlib.Core.List.{List}
use Rattle.std.specs.Prelude.{Result, IfErr}
use Rattle.editions.specs.declared.Edition.{Edition}
use Rattle.packet.specs.declared.Why.{Why}
use Rattle.numbers.specs.Drafts.{draft_number, draft_body}
use Rattle.writer.specs.Append.{Writing, writing, numbers_appended, packet_appended}
use Rattle.writer.proofs.Behind.{append_small, packet_append_small}
use Rattle.api.specs.Told.{done_of, Small}
use Rattle.api.proofs.Telling.{small_err}

pub numbers_small : (ed : Edition) (m : List ℕ) (at n : ℕ) (l x : List ℕ) (w : Result ℕ Why) (q : List ℕ) → writing w q ≡ numbers_appended ed m at n l x → IfErr (done_of w) Small
unfolding numbers_appended
numbers_small ed m at n l x w q e = small_err w (λ f g. append_small ed (draft_number ed l x) m at n (draft_body ed l x) f (sym (ap (λ (y : Writing). y.answer) e) ∙ g))

pub append_packet_small : (ed : Edition) (m : List ℕ) (at : ℕ) (p : List ℕ) (w : Result ℕ Why) (q : List ℕ) → writing w q ≡ packet_appended ed m at p → IfErr (done_of w) Small
append_packet_small ed m at p w q e = small_err w (λ f g. packet_append_small ed m at p f (sym (ap (λ (y : Writing). y.answer) e) ∙ g))
