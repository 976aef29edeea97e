-- The places passed are filled.
use Rattle.std.proofs.Common.{◌≡◌, ◌+◌, get_or, replicate}
use Rattle.below.specs.Below.{fill_below}
use Rattle.messages.proofs.take.view_of.Given as goal

abbrev pub invariant-loop-n : goal.invariant-loop-n
invariant-loop-n l = l.starts ≡ fill_below (λ k. get_or l.fields (8 + k) 0) (replicate 8 0) l.n
