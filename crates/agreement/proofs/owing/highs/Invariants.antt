-- `owing::highs` meets its contract: the places passed are filled. Assumes nothing.
use Rattle.std.proofs.Common.{◌≡◌, ◌&&◌, not, cond, min, get_or, replicate}
use Rattle.below.specs.Below.{fill_below}
use Rattle.views.specs.Sets.{has}
use Rattle.agreement.proofs.owing.highs.Given as goal

abbrev pub invariant-loop-r : goal.invariant-loop-r
invariant-loop-r l = l.counts ≡ fill_below (λ k. cond (has l.members k && not (has l.set k)) (min (get_or l.own.counts k 0) 128) 0) (replicate 8 0) l.r
