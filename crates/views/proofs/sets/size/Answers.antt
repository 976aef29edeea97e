-- `sets::size` meets its contract: the count of ones is the count of members. Assumes nothing.
use borrow.Author.Rules.{rules}
use Rattle.views.proofs.Members.{size_ones}
use Rattle.views.proofs.sets.size.Goals as goal

pub returns : goal.returns
returns c = size_ones c.args.set (search rules)
