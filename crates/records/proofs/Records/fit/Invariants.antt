-- `Records::fit` meets its contract: all senders passed fit, and of this one all records passed do. Assumes nothing.
use Rattle.std.proofs.Common.{◌≡◌, true}
use Rattle.below.specs.Below.{all_below}
use Rattle.records.proofs.Passing.{least_at, passes, sender_fits}
use Rattle.records.proofs.Records.fit.Given as goal

abbrev pub invariant-loop-k : goal.invariant-loop-k
invariant-loop-k l =
    record {
      passed : all_below (passes l.self l.p l.latest l.r) l.k ≡ true;
      least : l.least ≡ least_at l.self l.r l.k;
    }

abbrev pub invariant-loop-r : goal.invariant-loop-r
invariant-loop-r l = all_below (sender_fits l.self l.p l.latest) l.r ≡ true
