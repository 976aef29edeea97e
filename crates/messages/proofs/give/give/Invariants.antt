-- The numbers passed are stored.
use Rattle.std.proofs.Common.{◌≡◌, get_or}
use lib.Seq.{sets}
use Rattle.below.specs.Below.{list_below}
use Rattle.messages.proofs.give.give.Given as goal

abbrev pub invariant-starts : goal.invariant-starts
invariant-starts l = l.fields ≡ sets l.initial.fields 8 (list_below (λ k. get_or l.m.view.starts k 0) l.n)

abbrev pub invariant-counts : goal.invariant-counts
invariant-counts l = l.fields ≡ sets l.initial.fields 16 (list_below (λ k. get_or l.m.cut.counts k 0) l.n)
