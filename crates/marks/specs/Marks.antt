-- The marks of one slot: a row for each of the eight senders, numbered 0 to 7.
-- Assumes nothing; that there are eight rows is the code's type.
use Rattle.std.specs.Prelude.{ℕ, Bool, get_or, set, replicate}
use Rattle.marks.specs.declared.Held.{Held}
use Rattle.marks.specs.declared.Marks.{Marks}
use Rattle.marks.specs.Held.{held_at, marked, run_of, no_gap, none_held}

-- the row of sender r; past the last row nothing is held
unfoldable pub row_of : Marks → ℕ → Held
row_of m r = get_or m.rows r none_held

-- word i of sender r is held
unfoldable pub held_in : Marks → ℕ → ℕ → Bool
held_in m r i = held_at (row_of m r) i

-- the run of sender r
unfoldable pub run_in : Marks → ℕ → ℕ
run_in m r = run_of (row_of m r)

-- the held words of sender r have no gap from word 1
unfoldable pub no_gap_in : Marks → ℕ → Bool
no_gap_in m r = no_gap (row_of m r)

-- m with word i of sender r held besides; m itself past the last row, or where there is no word i
unfoldable pub marked_in : Marks → ℕ → ℕ → Marks
marked_in m r i = record { rows = set m.rows r (marked (row_of m r) i) }

-- "its marks cleared": no word of any sender is held
abbrev pub no_marks : Marks
no_marks = record { rows = replicate 8 none_held }
