-- `differ` meets its contract: the slots passed differ from those below them. Assumes nothing.
use mathlib.Core.Path.{◌≡◌}
use mathlib.Core.Bool.{true}
use Rattle.below.specs.Below.{all_below}
use Rattle.slots.proofs.Branches.{apart, apart_below}
use Rattle.slots.proofs.Slots.differ.Given as goal

abbrev pub invariant-loop-other : goal.invariant-loop-other
invariant-loop-other l = all_below (apart l.self.tags l.s) l.other-index ≡ true

abbrev pub invariant-loop-s : goal.invariant-loop-s
invariant-loop-s l = all_below (apart_below l.self.tags) l.s ≡ true
