-- `row_fits` meets its contract: a loop that tests all. Assumes nothing.
use Rattle.below.specs.Below.{all_below}
use mathlib.Core.Path.{◌≡◌}
use lib.Dec.{leb}
use lib.ListN.{get_or}
use Rattle.parts.proofs.counts.row_fits.Given as goal

abbrev pub invariant-loop-mark : goal.invariant-loop-mark
invariant-loop-mark l = l.ok ≡ all_below (λ k. leb (get_or l.mark-items k 0) 128) l.mark-index
