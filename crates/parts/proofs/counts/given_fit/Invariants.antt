-- `given_fit` meets its contract: a loop that tests all. Assumes nothing.
use Rattle.below.specs.Below.{all_below}
use mathlib.Core.Path.{◌≡◌}
use lib.Dec.{leb}
use lib.ListN.{get_or}
use Rattle.marks.specs.Marks.{run_in}
use Rattle.parts.proofs.counts.given_fit.Given as goal

abbrev pub invariant-loop-r : goal.invariant-loop-r
invariant-loop-r l = l.ok ≡ all_below (λ k. leb (get_or l.given k 0) (run_in l.m k)) l.r
