-- `first_views` meets its contract: the places passed are filled. Assumes nothing.
use Rattle.below.specs.Below.{fill_below}
use lib.ListN.{replicate}
use mathlib.Core.Path.{◌≡◌}
use Rattle.views.specs.Views.{initial, no_view}
use Rattle.endpoint.proofs.fresh.first_views.Given as goal

abbrev pub invariant-loop-q : goal.invariant-loop-q
invariant-loop-q l = l.views ≡ fill_below initial (replicate 8 no_view) l.q
