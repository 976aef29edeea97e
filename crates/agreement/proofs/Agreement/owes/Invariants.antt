-- `Agreement::owes` meets its contract: `none` says that nothing is due to the members passed. Assumes nothing.
use Rattle.std.proofs.Common.{◌≡◌, get_or}
use Rattle.below.specs.Below.{all_below}
use Rattle.views.specs.Cuts.{no_cut}
use Rattle.agreement.specs.Due.{no_marks}
use Rattle.agreement.specs.Spans.{none_to}
use Rattle.agreement.proofs.Agreement.owes.Given as goal

abbrev pub invariant-loop-q : goal.invariant-loop-q
invariant-loop-q l = l.none ≡ all_below (λ k. none_to l.self.set l.p l.low l.high k (get_or l.self.cuts k no_cut) (get_or l.rows k no_marks)) l.q
