-- By the receiver's answer, one law says what is counted and kept.
-- Assumes nothing.
use mathlib.Core.Path.{ap, ◌∙◌}
use Rattle.receiver.specs.Lent.{lent, handled}
use Rattle.recording.specs.Stream.{standing_of, refused_for}
use Rattle.recording.specs.Steps.{standing_at}
use Rattle.recording.specs.declared.Stream.{Stream}
use Rattle.fields.specs.declared.Fault.{Fault}
use Rattle.recording.proofs.Exits.{heard_accepted, heard_refused}
use Rattle.recording.proofs.listen.Listener.hear.Goals as goal

pub returns-in-Ok-clause-standing : goal.returns-in-Ok-clause-standing
returns-in-Ok-clause-standing c =
    let r = c.receive-reply in
    heard_accepted (standing_at c.args.self.now) c.args.p.now c.requires (handled r.result.answer _) r.ensures _ c.in-Ok.is c.added-self.result c.added-self.ensures

pub returns-in-Err-clause-standing : goal.returns-in-Err-clause-standing
returns-in-Err-clause-standing c =
    let r = c.receive-reply in
    ap (λ (v : Stream). standing_of v r.new.orders r.new.symbols r.new.shelf r.new.index) c.missed-self.ensures
    ∙ ap (λ (f : Fault). refused_for f (lent r.new.orders r.new.symbols r.new.shelf r.new.index r.result.state) (standing_at c.args.self.now)) c.placed.ensures
    ∙ heard_refused (standing_at c.args.self.now) c.args.p.now c.requires (handled r.result.answer _) r.ensures _ c.in-Err.is
