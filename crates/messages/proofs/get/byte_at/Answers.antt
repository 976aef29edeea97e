-- `get::byte_at` meets its contract: one byte is the number. Assumes nothing.
use native.Mathlib.Omega.{arith}
use Rattle.messages.specs.Bytes.{number_at}
use Rattle.messages.proofs.get.byte_at.Goals as goal

pub returns : goal.returns
unfolding number_at
returns c = omega arith
