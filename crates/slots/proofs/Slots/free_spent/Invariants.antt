-- `free_spent` meets its contract: the tags passed are freed. Assumes nothing.
use mathlib.Core.Path.{◌≡◌}
use Rattle.slots.specs.Spent.{spent_by}
use Rattle.slots.proofs.Branches.{freed_below}
use Rattle.slots.proofs.Slots.free_spent.Given as goal

abbrev pub invariant-loop-tag : goal.invariant-loop-tag
invariant-loop-tag l = l.tag-items ≡ freed_below (spent_by l.at.me l.at.current l.at.latest l.at.pending) l.fn.self.tags l.tag-index
