-- `sets::bit` meets its contract: the shift and the remainder are the bit. Assumes nothing.
use mathlib.Core.Path.{refl}
use Rattle.below.specs.Bits.{bit}
use Rattle.views.specs.Sets.{has}
use Rattle.views.proofs.sets.bit.Goals as goal

pub returns : goal.returns
unfolding has bit
returns c = refl
