-- `none_from` meets its contract: past the width there is no bit; before it none is set where the shift leaves 0. Assumes nothing.
use mathlib.Core.Path.{sym, ◌∙◌}
use borrow.Author.Rules.{rules}
use borrow.Author.Tests.{le-leb}
use Rattle.marks.proofs.Bits.{none_bits}
use Rattle.marks.proofs.Beyond.{none_past}
use Rattle.marks.proofs.none_from.Goals as goal

pub returns-then-k-ge64 : goal.returns-then-k-ge64
returns-then-k-ge64 c = le-leb _ _ c.if-k-ge64.true ∙ sym (none_past _ _ _ (search rules))

pub returns-else-k-ge64 : goal.returns-else-k-ge64
returns-else-k-ge64 c = sym (none_bits 64 c.args.k c.args.x (search rules) (search rules))
