-- `low_run` meets its contract: the zeros that the complement ends in are the run of the lowest bits. Assumes nothing.
use mathlib.Core.Path.{◌∙◌}
use borrow.Author.Rules.{rules}
use Rattle.marks.proofs.Bits.{run_zeros}
use Rattle.marks.proofs.low_run.Goals as goal

pub returns-clause-value : goal.returns-clause-value
returns-clause-value c = c.trailing_ones.ensures ∙ run_zeros 64 c.args.x (search rules)
