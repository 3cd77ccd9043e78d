-- Four texts, one behind another: of the message that the first byte tells, and of the body with its zeros.
-- Assumes nothing.
use Rattle.std.proofs.Common.{◌≡◌, ap, get_or, ◌∙◌}
use Rattle.text.proofs.Laws.{wrote_then, wrote_as}
use Rattle.kinds.specs.Table.{kind_of}
use Rattle.kinds.specs.declared.Kind.{Kind}
use Rattle.line_out.specs.Lines.{line_by, record_line}
use Rattle.line_out.proofs.write_line.Goals as goal

pub returns : goal.returns
unfolding line_by record_line
returns c =
    let a = c.args in
    let k : c.from-k.result ≡ kind_of (get_or a.body.now 0 0) = c.from-k.ensures ∙ ap kind_of c.at.ensures in
    let line : line_by a.e c.from-k.result a.number c.bytes_at.result ≡ record_line a.e a.number a.body.now =
    ap (λ (x : Kind). line_by a.e x a.number c.bytes_at.result) k ∙ ap (line_by a.e (kind_of (get_or a.body.now 0 0)) a.number) c.bytes_at.ensures in
    wrote_as line
    (wrote_then c.decimal-o.ensures
    (wrote_then c.byte-p.ensures
    (wrote_then (wrote_as (c.as_bytes.ensures.value ∙ c.name_of.ensures) c.bytes-q.ensures) c.put_fields.ensures)))
