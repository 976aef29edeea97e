-- `counts::packed` meets its contract: eight bytes, the lowest first. Assumes nothing.
use native.Mathlib.Omega.{arith}
use Rattle.views.specs.Words.{word}
use Rattle.views.proofs.counts.packed.Goals as goal

pub returns : goal.returns
unfolding word
returns c = omega arith
