-- The agreement as one pass finds it. Assumes nothing.
use Rattle.std.specs.Prelude.{ℕ, Bool, cond, get_or}
use Rattle.below.specs.Below.{list_below}
use Rattle.views.specs.declared.View.{View}
use Rattle.views.specs.Sets.{has}
use Rattle.views.specs.Cuts.{no_cut, count_of}
use Rattle.records.specs.declared.Records.{Records}
use Rattle.agreement.specs.declared.Agreement.{Agreement}
use Rattle.agreement.specs.Named.{named, in_t, T, agreed, unnamed}

unfoldable pub agreement : View → View → Records → Agreement
agreement current membership rs =
    record {
      cuts = list_below (λ m. cond (in_t current membership rs m) (named membership rs m).cut no_cut) 8;
      counts = record { counts = list_below (agreed current membership rs) 8 };
      set = T current membership rs;
      unnamed = unnamed current membership rs;
    }

-- m is in T, and m's count for sender r
unfoldable pub agrees : Agreement → ℕ → Bool
agrees a m = has a.set m

unfoldable pub cut_in : Agreement → ℕ → ℕ → ℕ
cut_in a m r = count_of (get_or a.cuts m no_cut) r
