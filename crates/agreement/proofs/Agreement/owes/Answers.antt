-- `Agreement::owes` meets its contract: `none` says that nothing is due to the members passed. Assumes nothing.
use Rattle.std.proofs.Common.{rules, ◌≡◌, ◌∙◌, ◌<◌, sym, ap, length, arith}
use Rattle.below.proofs.All.{acc_end}
use Rattle.views.specs.Cuts.{no_cut}
use Rattle.records.proofs.Past.{array_length}
use Rattle.agreement.specs.Agreement.{agrees}
use Rattle.agreement.specs.Spans.{highs}
use Rattle.agreement.proofs.Rows.{read_any}
use Rattle.agreement.proofs.Due.{member_low}
use Rattle.agreement.proofs.Found.{owes_some}
use Rattle.agreement.proofs.Agreement.owes.Goals as goal

pub returns : goal.returns
unfolding agrees
returns c =
    let a = c.args in
    let l = c.loop-q in
    let e : length a.self.now.cuts ≡ 8 = search (rules, array_length) in
    let t = sym c.contains.ensures ∙ c.if-not-contains.false in
    let b : a.p < 8 = member_low a.self.now.set a.p (search rules) t in
    owes_some a.self.now a.members a.p a.rows.now t c.lowers-low.result c.highs-high.result l.none
    c.lowers-low.ensures
    (c.highs-high.ensures ∙ ap (highs a.self.now.set a.members) (read_any a.self.now.cuts a.p _ no_cut (omega arith)))
    (acc_end _ 8 l.q l.none (search rules) (search rules) l.invariant)
