-- `fit` meets its contract: the slots passed fit. Assumes nothing.
use mathlib.Core.Path.{◌≡◌}
use mathlib.Core.Bool.{true}
use Rattle.below.specs.Below.{all_below}
use Rattle.slots.proofs.Branches.{fits_at}
use Rattle.slots.proofs.Slots.fit.Given as goal

abbrev pub invariant-loop-s : goal.invariant-loop-s
invariant-loop-s l = all_below (fits_at l.at.me l.at.current l.at.latest l.at.pending l.self) l.s ≡ true
