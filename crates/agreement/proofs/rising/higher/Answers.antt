-- `rising::higher` meets its contract: the places passed are filled. Assumes nothing.
use Rattle.std.proofs.Common.{rules, ap}
use Rattle.below.proofs.Lists.{fills, filled_none}
use Rattle.views.specs.Cuts.{count_of}
use Rattle.agreement.specs.Tops.{higher}
use Rattle.agreement.proofs.rising.higher.Goals as goal

pub loop-n-init : goal.loop-n-init
loop-n-init c = filled_none _ 0 8

pub loop-n-preserved : goal.loop-n-preserved
loop-n-preserved c = search (rules, fills)

pub returns : goal.returns
unfolding higher count_of
returns c = ap (λ l. record { counts = l }) (search (rules, fills))
