-- `codec::length_of` meets its contract. Assumes nothing.
use Rattle.messages.proofs.Arms.{length_none}
use Rattle.messages.proofs.codec.length_of.Goals as goal

pub returns-in-Err : goal.returns-in-Err
returns-in-Err c = length_none c.args.kind c.in-Err.ensures.0
