-- `rows_fit` meets its contract: a loop that tests all. Assumes nothing.
use Rattle.below.specs.Below.{all_below}
use mathlib.Core.Path.{◌≡◌}
use lib.ListN.{get_or}
use Rattle.parts.specs.Counts.{row_fits}
use Rattle.parts.proofs.Elements.{past_row}
use Rattle.parts.proofs.counts.rows_fit.Given as goal

abbrev pub invariant-loop-row : goal.invariant-loop-row
invariant-loop-row l = l.ok ≡ all_below (λ q. row_fits (get_or l.rows q past_row)) l.row-index
