-- `counts::tops` meets its contract: the way from a set's bits to its members is tried for each set. Assumes nothing.
use borrow.Author.Rules.{rules}
use Rattle.views.proofs.Words.{tops_word}
use Rattle.views.proofs.counts.tops.Goals as goal

pub returns : goal.returns
returns c = rw c.from-each.ensures (tops_word c.args.set (search rules))
