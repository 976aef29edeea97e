-- `sets::less` meets its contract: the byte without the bit. Assumes nothing.
use Rattle.views.proofs.Members.{less_and}
use borrow.Author.Rules.{rules}
use Rattle.views.proofs.sets.less.Goals as goal

pub returns : goal.returns
returns c = rw c.only.ensures (less_and c.args.a c.args.n (search rules))
