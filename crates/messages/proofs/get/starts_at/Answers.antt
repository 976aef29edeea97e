-- `get::starts_at` meets its contract: the places passed are filled. Assumes nothing.
use borrow.Author.Rules.{rules}
use Rattle.below.proofs.Lists.{fills, filled_none}
use Rattle.messages.specs.Bytes.{row_at}
use Rattle.messages.proofs.get.starts_at.Goals as goal

pub loop-n-init : goal.loop-n-init
loop-n-init c = filled_none _ 0 8

pub loop-n-preserved : goal.loop-n-preserved
loop-n-preserved c = search (rules, fills)

pub returns : goal.returns
unfolding row_at
returns c = search (rules, fills)
