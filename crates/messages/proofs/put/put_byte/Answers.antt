-- `put::put_byte` meets its contract: a byte is its own remainder. Assumes nothing.
use Rattle.messages.proofs.Numbers.{le_byte}
use borrow.Author.Rules.{rules}
use Rattle.messages.proofs.put.put_byte.Goals as goal

pub returns : goal.returns
returns c = rw (le_byte c.args.x (search rules))
