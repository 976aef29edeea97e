-- `sets::joined` meets its contract: the two bytes joined, in either order. Assumes nothing.
use mathlib.Core.Path.{◌∙◌}
use lib.Bits.{or_comm}
use Rattle.views.proofs.Members.{joined_or}
use borrow.Author.Rules.{rules}
use Rattle.views.proofs.sets.joined.Goals as goal

pub returns : goal.returns
returns c = or_comm c.args.b c.args.a ∙ joined_or c.args.a c.args.b (search rules) (search rules)
