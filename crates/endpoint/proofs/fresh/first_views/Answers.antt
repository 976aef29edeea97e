-- `first_views` meets its contract: the places passed are filled. Assumes nothing.
use Rattle.below.proofs.Lists.{filled_none, filled_more, filled_end}
use Rattle.views.specs.Views.{initial, no_view}
use Rattle.endpoint.proofs.fresh.first_views.Goals as goal

pub loop-q-init : goal.loop-q-init
loop-q-init c = rw c.none-views.ensures (filled_none initial no_view 8)

pub loop-q-preserved : goal.loop-q-preserved
loop-q-preserved c = filled_more initial no_view 8 _ _ _ c.loop-q.invariant c.initial.ensures

pub returns : goal.returns
returns c = filled_end initial no_view 8 c.loop-q.views c.loop-q.q c.loop-q.auto.q-end c.loop-q-test.false c.loop-q.invariant
