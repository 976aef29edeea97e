-- "Fresh end-point p (above 7: 1)". Assumes nothing.
use Rattle.std.specs.Prelude.{ℕ, set, replicate}
use Rattle.below.specs.Below.{list_below}
use Rattle.views.specs.Sets.{only}
use Rattle.views.specs.Views.{initial}
use Rattle.records.specs.Records.{no_records}
use Rattle.slots.specs.declared.Slots.{Slots}
use Rattle.slots.specs.Slots.{no_slots, tag_for}
use Rattle.agreement.specs.Due.{no_marks}
use Rattle.endpoint.specs.declared.Change.{Change}
use Rattle.endpoint.specs.declared.EndPoint.{EndPoint}

-- "start number 0, start set empty, nothing open or pending, free"
abbrev pub no_change : Change
no_change = record { number = 0; set = 0; opened = 0; pending = 0; block = 0 }

-- "current view in slot 0", "no words held"
unfoldable pub fresh_slots : ℕ → Slots
fresh_slots p = record { tags = set no_slots.tags 0 (tag_for (initial p)); marks = no_slots.marks }

-- "current, membership and declared are its initial view (set {p}); each other sender's announced view is that sender's initial view; counts and marks 0, ..
--  no records, .. current view .. counted as announced"
unfoldable pub fresh : ℕ → EndPoint
fresh p =
    record {
      current = initial p;
      membership = initial p;
      heard = list_below initial 8;
      records = no_records;
      slots = fresh_slots p;
      forwarded = replicate 8 no_marks;
      received = replicate 8 0;
      given = replicate 8 0;
      change = no_change;
      me = p;
      declared = only p;
      told = 1;
      passed = 0;
    }
