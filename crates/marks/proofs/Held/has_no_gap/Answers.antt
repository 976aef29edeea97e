-- `has_no_gap` meets its contract, by the half in which the run ends. Assumes nothing.
use borrow.Author.Rules.{rules}
use mathlib.Core.Path.{◌∙◌}
use borrow.Author.Tests.{ne_eqb}
use Rattle.marks.proofs.Packing.{gap_both, gap_high, gap_low}
use Rattle.marks.proofs.Held.has_no_gap.Goals as goal

pub returns-then-self-eq0 : goal.returns-then-self-eq0
returns-then-self-eq0 c = search (rules, gap_low)

pub returns-else-self-eq0 : goal.returns-else-self-eq0
returns-else-self-eq0 c = ne_eqb _ _ c.if-self-eq0.false ∙ search (rules, gap_high)

pub returns-else-n-lt64 : goal.returns-else-n-lt64
returns-else-n-lt64 c = search (rules, gap_both)
