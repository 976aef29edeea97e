-- `ok` says that all fields so far passed.
use Rattle.std.proofs.Common.{◌≡◌, ◌+◌, get_or, ltb}
use Rattle.below.specs.Below.{all_below}
use Rattle.messages.proofs.fit.narrow_row.Given as goal

abbrev pub invariant-loop-n : goal.invariant-loop-n
invariant-loop-n l = l.ok ≡ all_below (λ k. ltb (get_or l.fields (l.at + k) 0) l.top) l.n
