-- `reader::read_fields` meets its contract, by the test at which it stopped or the kind that it read. Assumes nothing.
use mathlib.Core.Path.{ap, sym, subst, ◌∙◌}
use borrow.Author.Tests.{eqb-true, eqb-false}
use Rattle.std.proofs.lemmas.Result.{err_from_is_err_and}
use Rattle.std.specs.Prelude.{Err}
use Rattle.messages.specs.Layouts.{length_of}
use Rattle.messages.specs.Refusals.{IsRead}
use Rattle.messages.proofs.Rows.{unread_empty, unread_length, unread_kind}
use Rattle.messages.proofs.Refused.{not_read, not_fields}
use Rattle.messages.proofs.reader.read_fields.Goals as goal

pub returns-in_default : goal.returns-in_default
returns-in_default c =
    let p = not_fields c.args.bytes.now c.args.fields.now c.in_default.ensures.cases in
    record { number = p.number; fields = p.left; reason = p.reason }

pub returns-then-is_empty : goal.returns-then-is_empty
returns-then-is_empty c =
    let z = c.in-Some.ensures.cases in
    let p = not_read c.args.bytes.now c.args.fields.now z.long (unread_empty c.args.bytes.now c.args.fields.now (eqb-true _ _ (sym c.is_empty.ensures ∙ c.if-is_empty.true))) in
    record { number = p.number; fields = z.same ∙ p.left; reason = p.reason }

pub returns-in_err-kind : goal.returns-in_err-kind
returns-in_err-kind c =
    let w = err_from_is_err_and c.from_residual.result c.from_residual.ensures.1 in
    let n = c.in_err-kind.ensures in
    let z = c.in-Some.ensures.cases in
    let some = eqb-false _ _ (sym c.is_empty.ensures ∙ c.if-is_empty.false) in
    let p = subst (λ r. IsRead r c.args.bytes.now c.args.fields.now c.args.fields.now) (sym (w.1 ∙ ap Err (w.2 ∙ n.1)))
    (not_read c.args.bytes.now c.args.fields.now z.long (unread_kind c.args.bytes.now c.args.fields.now n.0 some)) in
    record { number = p.number; fields = z.same ∙ p.left; reason = p.reason }

pub returns-then-bytes-from : goal.returns-then-bytes-from
returns-then-bytes-from c =
    let z = c.in-Some.ensures.cases in
    let p = not_read c.args.bytes.now c.args.fields.now z.long (unread_length c.args.bytes.now c.args.fields.now _ c.if-bytes-from.true (c.from.ensures ∙ c.length.ensures ∙ ap length_of (sym c.in_ok-kind.ensures))) in
    record { number = p.number; fields = z.same ∙ p.left; reason = p.reason }
