-- All that sound asks of slots, in one test: slot by slot, then that they differ.
-- Assumes nothing. That it is the tests of Slots taken one by one is in proofs/.
use Rattle.std.specs.Prelude.{ℕ, Bool, true, not, cond, ◌&&◌, leb}
use Rattle.below.specs.Below.{all_below}
use Rattle.views.specs.declared.View.{View}
use Rattle.views.specs.Views.{view_ok}
use Rattle.marks.specs.Marks.{no_gap_in}
use Rattle.slots.specs.declared.Slots.{Slots}
use Rattle.slots.specs.Slots.{tag_at, marks_at, used, slots_differ}
use Rattle.slots.specs.Spent.{spent_by}

-- of one slot: its flag is 0 or 1; where it is used its view is well formed and not spent, and p's own held words have no gap from word 1
unfoldable pub slot_fits : ℕ → View → ℕ → Bool → Slots → ℕ → Bool
slot_fits p current latest pending ss s =
    leb (tag_at ss s).used 1
    && cond (used ss s) (view_ok (tag_at ss s).view && (not (spent_by p current latest pending (tag_at ss s).view) && no_gap_in (marks_at ss s) p)) true

-- of all four, and that they differ
unfoldable pub slots_fit : ℕ → View → ℕ → Bool → Slots → Bool
slots_fit p current latest pending ss = all_below (slot_fits p current latest pending ss) 4 && slots_differ ss
