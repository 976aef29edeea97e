-- `owing::none_above` meets its contract: `ok` says that no count passed is above. Assumes nothing.
use Rattle.std.proofs.Common.{◌≡◌, get_or, leb}
use Rattle.below.specs.Below.{all_below}
use Rattle.agreement.proofs.owing.none_above.Given as goal

abbrev pub invariant-loop-r : goal.invariant-loop-r
invariant-loop-r l = l.ok ≡ all_below (λ k. leb (get_or l.a.counts k 0) (get_or l.b.counts k 0)) l.r
