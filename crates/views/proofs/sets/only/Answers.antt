-- `sets::only` meets its contract: the shift is the power, and nothing is shifted out. Assumes nothing.
use Rattle.views.proofs.Members.{only_none, only_shift}
use borrow.Author.Rules.{rules}
use Rattle.views.proofs.sets.only.Goals as goal

pub returns-then-n-lt8 : goal.returns-then-n-lt8
returns-then-n-lt8 c = only_shift c.args.n (search rules)

pub returns-else-n-lt8 : goal.returns-else-n-lt8
returns-else-n-lt8 c = only_none c.args.n (search rules)
