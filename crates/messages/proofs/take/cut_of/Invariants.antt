-- The places passed are filled.
use Rattle.std.proofs.Common.{◌≡◌, ◌+◌, get_or, replicate}
use Rattle.below.specs.Below.{fill_below}
use Rattle.messages.proofs.take.cut_of.Given as goal

abbrev pub invariant-loop-n : goal.invariant-loop-n
invariant-loop-n l = l.counts ≡ fill_below (λ k. get_or l.fields (16 + k) 0) (replicate 8 0) l.n
