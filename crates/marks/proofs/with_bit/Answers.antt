-- `with_bit` meets its contract: 1 shifted by k is 2 ^ k, since k is below the width. Assumes nothing.
use borrow.Author.Rules.{rules}
use Rattle.marks.specs.Bits.{with_bit}
use Rattle.marks.proofs.Bits.{shift_one}
use Rattle.marks.proofs.with_bit.Goals as goal

pub returns : goal.returns
unfolding with_bit
returns c = rw (shift_one 64 c.args.k (search rules))
