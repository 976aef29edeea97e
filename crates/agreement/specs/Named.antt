-- named, T, agreed: from the current view, the membership view and the records held. Assumes nothing.
use Rattle.std.specs.Prelude.{ℕ, Bool, true, not, cond, ◌&&◌}
use Rattle.below.specs.Below.{all_below, largest_below}
use Rattle.views.specs.declared.View.{View}
use Rattle.views.specs.Sets.{has, set_of}
use Rattle.views.specs.Views.{start_of, same}
use Rattle.views.specs.Cuts.{count_of}
use Rattle.records.specs.declared.Record.{Record}
use Rattle.records.specs.declared.Records.{Records}
use Rattle.records.specs.Records.{holds_record, the_record}

-- "The named record of r is the one held with the membership view's start number for r."
unfoldable pub named_held : View → Records → ℕ → Bool
named_held membership rs r = holds_record rs r (start_of membership r)

unfoldable pub named : View → Records → ℕ → Record
named membership rs r = the_record rs r (start_of membership r)

-- r is a member of both views
unfoldable pub in_both : View → View → ℕ → Bool
in_both current membership r = has current.set r && has membership.set r

-- "T is the members of both views whose named record carries the current view."
unfoldable pub in_t : View → View → Records → ℕ → Bool
in_t current membership rs r = in_both current membership r && (named_held membership rs r && same (named membership rs r).view current)

unfoldable pub T : View → View → Records → ℕ
T current membership rs = set_of (in_t current membership rs)

-- r's named record's count for sender s
unfoldable pub named_cut : View → Records → ℕ → ℕ → ℕ
named_cut membership rs r s = count_of (named membership rs r).cut s

-- "The agreed count of r is the largest of the T records' cuts for r, 0 if T is empty."
unfoldable pub agreed : View → View → Records → ℕ → ℕ
agreed current membership rs r = largest_below (λ m. cond (in_t current membership rs m) (named_cut membership rs m r) 0) 8

-- 9: "a named record of a member of both views is not held"
unfoldable pub unnamed : View → View → Records → Bool
unnamed current membership rs = not (all_below (λ r. cond (in_both current membership r) (named_held membership rs r) true) 8)
