-- The places passed are filled.
use Rattle.std.proofs.Common.{◌≡◌, ◌+◌, ◌*◌, replicate}
use Rattle.below.specs.Below.{fill_below}
use Rattle.messages.specs.Bytes.{number_at}
use Rattle.messages.proofs.get.starts_at.Given as goal

abbrev pub invariant-loop-n : goal.invariant-loop-n
invariant-loop-n l = l.starts ≡ fill_below (λ k. number_at 4 l.bytes (l.at + 4 * k)) (replicate 8 0) l.n
