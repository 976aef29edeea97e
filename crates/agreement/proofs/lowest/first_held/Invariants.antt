-- `lowest::first_held` meets its contract: no word before k counts. Assumes nothing.
use Rattle.std.proofs.Common.{◌≡◌, true}
use Rattle.below.specs.Below.{none_below}
use Rattle.marks.specs.Held.{held_at}
use Rattle.agreement.specs.Spans.{spanned}
use Rattle.agreement.proofs.lowest.first_held.Given as goal

abbrev pub invariant-loop-k : goal.invariant-loop-k
invariant-loop-k l = none_below (spanned l.low l.high (held_at l.held)) l.k ≡ true
