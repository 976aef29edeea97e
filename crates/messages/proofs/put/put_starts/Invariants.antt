-- The numbers passed are stored.
use Rattle.std.proofs.Common.{◌≡◌, get_or}
use lib.Seq.{sets}
use Rattle.below.specs.Below.{join_below}
use Rattle.messages.specs.Bytes.{le}
use Rattle.messages.proofs.put.put_starts.Given as goal

abbrev pub invariant-loop-n : goal.invariant-loop-n
invariant-loop-n l = l.area ≡ sets l.initial.area l.at (join_below (λ k. le 4 (get_or l.starts k 0)) l.n)
