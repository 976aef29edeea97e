-- What the pass finds of one member. Assumes nothing.
use Rattle.std.specs.Prelude.{ℕ, Bool, true, false, cond}
use Rattle.views.specs.declared.Cut.{Cut}
use Rattle.views.specs.declared.View.{View}
use Rattle.views.specs.Views.{same}
use Rattle.views.specs.Cuts.{no_cut}
use Rattle.records.specs.declared.Records.{Records}
use Rattle.agreement.specs.declared.agreeing.Part.{Part}
use Rattle.agreement.specs.declared.agreeing.Part.TheVariants.{Outside, Unnamed, Agrees}
use Rattle.agreement.specs.Named.{named_held, named, in_both}

-- m's part: of a member of both views, by its named record
unfoldable pub part_of : View → View → Records → ℕ → Part
part_of current membership rs m =
    cond (in_both current membership m)
    (cond (named_held membership rs m) (cond (same (named membership rs m).view current) (Agrees (named membership rs m).cut) Outside) Unnamed)
    Outside

-- its cut, none outside T; whether it is in T; and whether it says that no named record is missing
abbrev pub cut_of_part : Part → Cut
cut_of_part Outside = no_cut
cut_of_part Unnamed = no_cut
cut_of_part (Agrees cut) = cut

abbrev pub agrees_of_part : Part → Bool
agrees_of_part Outside = false
agrees_of_part Unnamed = false
agrees_of_part (Agrees cut) = true

abbrev pub named_of_part : Part → Bool
named_of_part Outside = true
named_of_part Unnamed = false
named_of_part (Agrees cut) = true
