-- `counts_least` meets its contract: a loop that tests all. Assumes nothing.
use Rattle.below.specs.Below.{all_below}
use mathlib.Core.Bool.{true, cond}
use mathlib.Core.Path.{◌≡◌}
use lib.Dec.{leb}
use lib.ListN.{get_or}
use Rattle.views.specs.Sets.{has}
use Rattle.parts.proofs.counts.counts_least.Given as goal

abbrev pub invariant-loop-n : goal.invariant-loop-n
invariant-loop-n l = l.ok ≡ all_below (λ r. cond (has l.set r) (leb (get_or l.low r 0) (get_or l.high r 0)) true) l.n
