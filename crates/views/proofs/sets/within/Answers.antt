-- `sets::within` meets its contract: the two bytes joined are the second. Assumes nothing.
use borrow.Author.Rules.{rules}
use Rattle.views.proofs.Members.{within_or}
use Rattle.views.proofs.sets.within.Goals as goal

pub returns : goal.returns
returns c = within_or c.args.a c.args.b (search rules) (search rules)
