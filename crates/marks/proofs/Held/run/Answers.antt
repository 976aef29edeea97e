-- `run` meets its contract: the run ends in the low half, or goes on into the high half. Assumes nothing.
use borrow.Author.Rules.{rules}
use Rattle.marks.proofs.Packing.{run_within_low, run_into_high}
use Rattle.marks.proofs.Held.run.Goals as goal

pub returns-then-n-lt64-clause-value : goal.returns-then-n-lt64-clause-value
returns-then-n-lt64-clause-value c = search (rules, run_within_low)

pub returns-else-n-lt64-clause-value : goal.returns-else-n-lt64-clause-value
returns-else-n-lt64-clause-value c = search (rules, run_into_high)
