-- `cut_of` meets its contract: the places passed are filled. Assumes nothing.
use Rattle.below.specs.Below.{fill_below}
use lib.ListN.{replicate}
use mathlib.Core.Bool.{cond}
use mathlib.Core.Path.{◌≡◌}
use Rattle.views.specs.Sets.{has}
use Rattle.marks.specs.Marks.{run_in}
use Rattle.parts.proofs.counts.cut_of.Given as goal

abbrev pub invariant-loop-r : goal.invariant-loop-r
invariant-loop-r l = l.counts ≡ fill_below (λ k. cond (has l.set k) (run_in l.m k) 0) (replicate 8 0) l.r
