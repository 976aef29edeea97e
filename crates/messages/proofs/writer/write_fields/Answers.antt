-- `writer::write_fields` meets its contract, by the kind that the fields have. Assumes nothing.
use mathlib.Core.Path.{ap, sym, subst, ◌∙◌}
use Rattle.std.proofs.lemmas.Result.{err_from_is_err_and}
use Rattle.std.specs.Prelude.{Err}
use Rattle.messages.specs.Refusals.{IsWritten}
use Rattle.messages.proofs.Refused.{not_row, not_kind}
use Rattle.messages.proofs.writer.write_fields.Goals as goal

pub returns-in_default : goal.returns-in_default
returns-in_default c =
    let p = not_row c.args.fields.now c.args.area.now c.in_default.ensures.cases in
    record { number = p.number; area = p.left; reason = p.reason }

pub returns-in_err-kind : goal.returns-in_err-kind
returns-in_err-kind c =
    let w = err_from_is_err_and c.from_residual.result c.from_residual.ensures.1 in
    let n = c.in_err-kind.ensures in
    let z = c.in-Some.ensures.cases in
    let p = subst (λ r. IsWritten r c.args.fields.now c.args.area.now c.args.area.now) (sym (w.1 ∙ ap Err (w.2 ∙ n.1)))
    (not_kind c.args.fields.now c.args.area.now c.in-Some.fields.now z.same z.long n.0) in
    record { number = p.number; area = p.left; reason = p.reason }
