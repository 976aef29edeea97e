-- `own_cut` meets its contract. Assumes nothing.
use mathlib.Core.Path.{refl}
use Rattle.endpoint.proofs.Planning.{cut_is}
use Rattle.endpoint.proofs.EndPoint.own_cut.Goals as goal

pub returns : goal.returns
returns c = cut_is c.args.self.now _ _ _ refl c.marks_of.ensures c.cut_of.ensures
