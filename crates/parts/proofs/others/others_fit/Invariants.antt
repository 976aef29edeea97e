-- `others_fit` meets its contract: the senders passed fit. Assumes nothing.
use mathlib.Core.Path.{◌≡◌}
use mathlib.Core.Bool.{true, ◌||◌}
use lib.Dec.{eqb}
use lib.ListN.{get_or}
use Rattle.below.specs.Below.{all_below}
use Rattle.parts.specs.Others.{other_fits}
use Rattle.parts.proofs.Elements.{past_view}
use Rattle.parts.proofs.others.others_fit.Given as goal

abbrev pub invariant-loop-q : goal.invariant-loop-q
invariant-loop-q l =
    all_below (λ q. eqb q l.at.me || other_fits l.at.me l.at.current l.at.latest l.at.pending l.slots.tags (get_or l.heard q past_view) (get_or l.received q 0)) l.q ≡ true
