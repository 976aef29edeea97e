-- `Records::find` meets its contract: none of the records passed has the number. Assumes nothing.
use Rattle.std.proofs.Common.{◌≡◌, true}
use Rattle.below.specs.Below.{none_below}
use Rattle.records.proofs.Past.{numbered}
use Rattle.records.proofs.Records.find.Given as goal

abbrev pub invariant-loop-k : goal.invariant-loop-k
invariant-loop-k l = none_below (numbered l.self l.r l.number) l.k ≡ true
