-- `counts_least` meets its contract: a loop that tests all. Assumes nothing.
use Rattle.below.proofs.All.{acc_none, acc_more, acc_end}
use Rattle.parts.proofs.Elements.{least_is}
use Rattle.parts.specs.Counts.{at_least}
use Rattle.parts.proofs.counts.counts_least.Goals as goal

pub loop-n-init : goal.loop-n-init
loop-n-init c = acc_none _

pub loop-n-preserved : goal.loop-n-preserved
loop-n-preserved c = acc_more _ _ _ _ c.loop-n.invariant (least_is _ _ _ c.contains.ensures)

pub returns : goal.returns
unfolding at_least
returns c = acc_end _ 8 _ _ c.loop-n.auto.n-end c.loop-n-test.false c.loop-n.invariant
