-- `rising::higher` meets its contract: the places passed are filled. Assumes nothing.
use Rattle.std.proofs.Common.{◌≡◌, max, get_or, replicate}
use Rattle.below.specs.Below.{fill_below}
use Rattle.agreement.proofs.rising.higher.Given as goal

abbrev pub invariant-loop-n : goal.invariant-loop-n
invariant-loop-n l = l.counts ≡ fill_below (λ k. max (get_or l.a.counts k 0) (get_or l.b.counts k 0)) (replicate 8 0) l.n
