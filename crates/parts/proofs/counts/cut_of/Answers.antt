-- `cut_of` meets its contract: the places passed are filled. Assumes nothing.
use Rattle.below.proofs.Lists.{filled_none, filled_more, filled_end}
use Rattle.parts.specs.Counts.{cut_of}
use Rattle.parts.proofs.counts.cut_of.Goals as goal

pub loop-r-init : goal.loop-r-init
loop-r-init c = filled_none _ 0 8

pub loop-r-preserved : goal.loop-r-preserved
loop-r-preserved c = filled_more _ 0 8 _ _ _ c.loop-r.invariant c.own_count.ensures

pub returns : goal.returns
unfolding cut_of
returns c = rw (filled_end _ 0 8 c.loop-r.counts c.loop-r.r c.loop-r.auto.r-end c.loop-r-test.false c.loop-r.invariant)
