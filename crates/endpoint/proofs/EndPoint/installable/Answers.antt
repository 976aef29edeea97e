-- `installable` meets its contract: what one pass over the members found is what the checks ask. Assumes nothing.
use native.Mathlib.Omega.{arith}
use mathlib.Core.Path.{sym, ◌∙◌}
use Rattle.std.proofs.lemmas.Grind.{common_steps}
use Rattle.endpoint.specs.Install.{install_checks}
use Rattle.endpoint.specs.Numbers.{verdict}
use Rattle.endpoint.proofs.Planning.{me_low}
use Rattle.endpoint.proofs.Agreed.{owes_is, fewer_is, more_is}
use Rattle.endpoint.proofs.EndPoint.installable.Goals as goal

pub returns-then-owes : goal.returns-then-owes
unfolding install_checks verdict
returns-then-owes c =
    let e = c.args.self.now in
    let o = owes_is e _ c.agreed-agreed.ensures.whole _ (me_low e (sym c.sound.ensures ∙ c.if-not-sound.false)) c.owes.ensures in
    grind (arith, common_steps)

pub returns-then-not-counts_least : goal.returns-then-not-counts_least
unfolding install_checks verdict
returns-then-not-counts_least c =
    let e = c.args.self.now in
    let a = c.agreed-agreed.ensures.whole in
    let o = owes_is e _ a _ (me_low e (sym c.sound.ensures ∙ c.if-not-sound.false)) c.owes.ensures in
    let f = fewer_is e _ a _ c.counts_least.ensures in
    grind (arith, common_steps)

pub returns-then-not-counts_least-2 : goal.returns-then-not-counts_least-2
unfolding install_checks verdict
returns-then-not-counts_least-2 c =
    let e = c.args.self.now in
    let a = c.agreed-agreed.ensures.whole in
    let o = owes_is e _ a _ (me_low e (sym c.sound.ensures ∙ c.if-not-sound.false)) c.owes.ensures in
    let f = fewer_is e _ a _ c.counts_least.ensures in
    let g = more_is e _ a _ c.counts_least-2.ensures in
    grind (arith, common_steps)

pub returns : goal.returns
unfolding install_checks verdict
returns c =
    let e = c.args.self.now in
    let a = c.agreed-agreed.ensures.whole in
    let o = owes_is e _ a _ (me_low e (sym c.sound.ensures ∙ c.if-not-sound.false)) c.owes.ensures in
    let f = fewer_is e _ a _ c.counts_least.ensures in
    let g = more_is e _ a _ c.counts_least-2.ensures in
    grind (arith, common_steps)
