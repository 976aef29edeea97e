-- Counts by sender: what sound asks of them, how one row stands to another, and the cut that runs make. Assumes nothing.
use Rattle.std.specs.Prelude.{ℕ, Bool, true, cond, List, leb, get_or}
use Rattle.below.specs.Below.{all_below, list_below}
use Rattle.views.specs.declared.Cut.{Cut}
use Rattle.views.specs.Sets.{has}
use Rattle.marks.specs.declared.Marks.{Marks}
use Rattle.marks.specs.Marks.{run_in}
use Rattle.agreement.specs.declared.Row.{Row}
use Rattle.agreement.specs.Due.{no_marks}

-- forward marks are at most 128
unfoldable pub row_fits : Row → Bool
row_fits row = all_below (λ r. leb (get_or row.marks r 0) 128) 8

unfoldable pub rows_fit : List Row → Bool
rows_fit rows = all_below (λ q. row_fits (get_or rows q no_marks)) 8

-- no given-out count exceeds the run
unfoldable pub given_fit : List ℕ → Marks → Bool
given_fit given m = all_below (λ r. leb (get_or given r 0) (run_in m r)) 8

-- of each member of a set the one count is at most the other
unfoldable pub at_least : ℕ → List ℕ → List ℕ → Bool
at_least members low high = all_below (λ r. cond (has members r) (leb (get_or low r 0) (get_or high r 0)) true) 8

-- the run of each member of a set, 0 for others
unfoldable pub cut_of : ℕ → Marks → Cut
cut_of members m = record { counts = list_below (λ r. cond (has members r) (run_in m r) 0) 8 }
