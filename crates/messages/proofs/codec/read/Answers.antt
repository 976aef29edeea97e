-- `codec::read` meets its contract, by the test at which it stopped. Assumes nothing.
use mathlib.Core.Path.{ap, sym, ◌∙◌}
use mathlib.Core.Bool.{not}
use borrow.Author.Tests.{eqb-true, eqb-false}
use Rattle.below.proofs.Tests.{told_not, told_so}
use Rattle.std.proofs.lemmas.Result.{err_from_is_err_and}
use Rattle.std.specs.Prelude.{Err}
use Rattle.messages.specs.declared.Message.{Message}
use Rattle.messages.specs.Layouts.{length_of}
use Rattle.messages.specs.Codec.{message_at}
use Rattle.messages.proofs.Tested.{read_empty, read_none, read_length, read_malformed, read_whole}
use Rattle.messages.proofs.codec.read.Goals as goal

pub returns-then-is_empty : goal.returns-then-is_empty
returns-then-is_empty c = read_empty c.args.bytes.now (eqb-true _ _ (sym c.is_empty.ensures ∙ c.if-is_empty.true))

pub returns-in_err-kind : goal.returns-in_err-kind
returns-in_err-kind c =
    let w = err_from_is_err_and c.from_residual.result c.from_residual.ensures.1 in
    let n = c.in_err-kind.ensures in
    w.1 ∙ ap Err (w.2 ∙ n.1) ∙ read_none c.args.bytes.now n.0 (eqb-false _ _ (sym c.is_empty.ensures ∙ c.if-is_empty.false))

pub returns-then-bytes-from : goal.returns-then-bytes-from
returns-then-bytes-from c = read_length c.args.bytes.now _ c.if-bytes-from.true (c.from.ensures ∙ c.length.ensures ∙ ap length_of (sym c.in_ok-kind.ensures))

pub fits-requires : goal.fits-requires
unfolding message_at
fits-requires c = ap (λ (m : Message). m.kind) c.message_at-message.ensures

pub returns-then-not-fits : goal.returns-then-not-fits
returns-then-not-fits c =
    read_malformed c.args.bytes.now c.message_at-message.result (c.message_at-message.ensures ∙ ap (message_at c.args.bytes.now) (sym c.in_ok-kind.ensures))
    (told_not _ _ (ap not c.if-not-fits.true) c.fits.ensures)

pub returns : goal.returns
returns c =
    let k = sym c.in_ok-kind.ensures in
    read_whole c.args.bytes.now c.message_at-message.result _ c.if-bytes-from.false (c.from.ensures ∙ c.length.ensures ∙ ap length_of k)
    (c.message_at-message.ensures ∙ ap (message_at c.args.bytes.now) k) (told_so _ _ (ap not c.if-not-fits.false) c.fits.ensures)
