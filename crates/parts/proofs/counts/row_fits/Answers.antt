-- `row_fits` meets its contract: a loop that tests all. Assumes nothing.
use Rattle.below.proofs.All.{acc_none, acc_more, acc_end}
use mathlib.Core.Path.{refl}
use Rattle.parts.specs.Counts.{row_fits}
use Rattle.parts.proofs.counts.row_fits.Goals as goal

pub loop-mark-init : goal.loop-mark-init
loop-mark-init c = acc_none _

pub loop-mark-preserved : goal.loop-mark-preserved
loop-mark-preserved c = acc_more _ _ _ _ c.loop-mark.invariant (refl)

pub returns : goal.returns
unfolding row_fits
returns c = acc_end _ 8 _ _ c.loop-mark.auto.mark-index-end c.loop-mark-test.false c.loop-mark.invariant
