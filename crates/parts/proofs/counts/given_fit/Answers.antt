-- `given_fit` meets its contract: a loop that tests all. Assumes nothing.
use Rattle.below.proofs.All.{acc_none, acc_more, acc_end}
use mathlib.Core.Path.{ap}
use lib.Dec.{leb}
use lib.ListN.{get_or}
use Rattle.parts.specs.Counts.{given_fit}
use Rattle.parts.proofs.counts.given_fit.Goals as goal

pub loop-r-init : goal.loop-r-init
loop-r-init c = acc_none _

pub loop-r-preserved : goal.loop-r-preserved
loop-r-preserved c = acc_more _ _ _ _ c.loop-r.invariant (ap (leb (get_or c.args.given.now c.loop-r.r 0)) c.run.ensures.value)

pub returns : goal.returns
unfolding given_fit
returns c = acc_end _ 8 _ _ c.loop-r.auto.r-end c.loop-r-test.false c.loop-r.invariant
