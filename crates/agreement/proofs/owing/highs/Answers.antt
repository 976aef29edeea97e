-- `owing::highs` meets its contract: the places passed are filled. Assumes nothing.
use Rattle.std.proofs.Common.{rules, ap}
use Rattle.below.proofs.Lists.{fills, filled_none}
use Rattle.views.specs.Cuts.{count_of}
use Rattle.agreement.specs.Spans.{highs}
use Rattle.agreement.proofs.owing.highs.Goals as goal

pub loop-r-init : goal.loop-r-init
loop-r-init c = filled_none _ 0 8

pub loop-r-preserved : goal.loop-r-preserved
loop-r-preserved c = search (rules, fills)

pub returns : goal.returns
unfolding highs count_of
returns c = ap (λ l. record { counts = l }) (search (rules, fills))
