-- `codec::write` meets its contract, by the test at which it stopped. Assumes nothing.
use native.Mathlib.Omega.{arith}
use mathlib.Core.Path.{◌≡◌, ap, refl, sym, subst, ◌∙◌}
use mathlib.Core.Bool.{not}
use borrow.Author.Rules.{rules}
use Rattle.below.proofs.Tests.{told_not, told_so}
use Rattle.std.proofs.lemmas.Result.{err_from_is_err_and}
use Rattle.std.specs.Prelude.{Err, IfErr}
use Rattle.messages.specs.declared.Refusal.TheVariants.{Malformed}
use Rattle.messages.specs.Layouts.{length_of}
use Rattle.messages.specs.Refusals.{number_of, unwritten}
use Rattle.messages.proofs.Tested.{kindless, length_some, write_malformed, write_short, write_whole}
use Rattle.messages.proofs.codec.write.Goals as goal

pub returns-in_err-kind : goal.returns-in_err-kind
returns-in_err-kind c =
    let w = err_from_is_err_and c.from_residual.result c.from_residual.ensures.1 in
    let n = c.in_err-kind.ensures in
    let q : c.from_residual.result ≡ Err Malformed = w.1 ∙ ap Err (w.2 ∙ n.1) in
    let e = kindless c.args.m n.0 in
    let p = write_malformed c.args.m c.args.area.now e in
    record { number = ap number_of q ∙ p.0; area = p.1; reason = subst (λ r. IfErr r (λ x. x ≡ unwritten c.args.m)) (sym q) (rw e refl) }

pub returns-then-not-fits : goal.returns-then-not-fits
returns-then-not-fits c =
    let e = told_not _ _ (ap not c.if-not-fits.true) c.fits.ensures in
    let p = write_malformed c.args.m c.args.area.now e in
    record { number = p.0; area = p.1; reason = rw e refl }

pub returns-then-area-from : goal.returns-then-area-from
returns-then-area-from c =
    let e = told_so _ _ (ap not c.if-not-fits.false) c.fits.ensures in
    let p = write_short c.args.m c.args.area.now _ c.if-area-from.true (c.from.ensures ∙ c.length.ensures ∙ ap length_of (sym c.in_ok-kind.ensures)) in
    record { number = p.0; area = p.1; reason = rw e refl }

pub put_byte-requires : goal.put_byte-requires
put_byte-requires c =
    omega (
      arith,
      length_some c.args.m (told_so _ _ (ap not c.if-not-fits.false) c.fits.ensures),
      c.from.ensures ∙ c.length.ensures ∙ ap length_of (sym c.in_ok-kind.ensures),
      c.if-area-from.false,
    )

pub returns : goal.returns
returns c =
    let p = write_whole c.args.m c.args.area.now _ c.put_byte.new.area c.put_body.new.area (search rules)
    (told_so _ _ (ap not c.if-not-fits.false) c.fits.ensures) c.if-area-from.false (c.from.ensures ∙ c.length.ensures ∙ ap length_of (sym c.in_ok-kind.ensures))
    c.put_byte.ensures c.put_body.ensures in
    record { number = p.0; area = p.1; reason = tt }
