-- No refusal has the number 0, which is accepted. Assumes nothing.
use native.Mathlib.Omega.{arith}
use mathlib.Core.Path.{◌≡◌}
use Rattle.endpoint.specs.declared.refusal.Refusal.{Refusal}
use Rattle.endpoint.specs.declared.refusal.Refusal.TheVariants.{Unfit, Absent, NotNewer, OutOfTurn, Blocked, Full, NoFreeSlot, NotDeclared, NotNamed, NothingToDo, BeyondCut, NotForwarded, FewerGiven, AnotherWord, MoreGiven}
use Rattle.endpoint.specs.Refusals.{number_of}

pub refusal_number : (r : Refusal) → number_of r ≡ 0 → ⊥
refusal_number Unfit z = omega arith
refusal_number Absent z = omega arith
refusal_number NotNewer z = omega arith
refusal_number OutOfTurn z = omega arith
refusal_number Blocked z = omega arith
refusal_number Full z = omega arith
refusal_number NoFreeSlot z = omega arith
refusal_number NotDeclared z = omega arith
refusal_number NotNamed z = omega arith
refusal_number NothingToDo z = omega arith
refusal_number BeyondCut z = omega arith
refusal_number NotForwarded z = omega arith
refusal_number FewerGiven z = omega arith
refusal_number AnotherWord z = omega arith
refusal_number MoreGiven z = omega arith
