-- The largest count of each sender over some cuts. Assumes nothing.
use Rattle.std.specs.Prelude.{ℕ, max, cond, get_or}
use Rattle.below.specs.Below.{largest_below, list_below}
use Rattle.views.specs.declared.Cut.{Cut}
use Rattle.views.specs.Cuts.{no_cut, count_of}
use Rattle.agreement.specs.declared.Agreement.{Agreement}
use Rattle.agreement.specs.Agreement.{agrees}

-- the larger of two counts, for each sender
unfoldable pub higher : Cut → Cut → Cut
higher a b = record { counts = list_below (λ r. max (count_of a r) (count_of b r)) 8 }

-- the largest count of each sender over the first n cuts
unfoldable pub tops : (ℕ → Cut) → ℕ → Cut
tops f n = record { counts = list_below (λ r. largest_below (λ m. count_of (f m) r) n) 8 }

-- m's cut where m is in T, and no cut elsewhere
unfoldable pub cut_or_none : Agreement → ℕ → Cut
cut_or_none a m = cond (agrees a m) (get_or a.cuts m no_cut) no_cut
