-- The end-point with some of its parts anew, each written once: there is no record update. And its flags as tests.
-- Assumes nothing.
use Rattle.std.specs.Prelude.{ℕ, Bool, List, eqb}
use Rattle.views.specs.declared.View.{View}
use Rattle.records.specs.declared.Records.{Records}
use Rattle.slots.specs.declared.Slots.{Slots}
use Rattle.agreement.specs.declared.Row.{Row}
use Rattle.endpoint.specs.declared.Change.{Change}
use Rattle.endpoint.specs.declared.EndPoint.{EndPoint}

abbrev pub with_slots : Slots → EndPoint → EndPoint
with_slots ss e = record { current = e.current; membership = e.membership; heard = e.heard; records = e.records; slots = ss; forwarded = e.forwarded; received = e.received; given = e.given; change = e.change; me = e.me; declared = e.declared; told = e.told; passed = e.passed }

abbrev pub with_change : Change → EndPoint → EndPoint
with_change c e = record { current = e.current; membership = e.membership; heard = e.heard; records = e.records; slots = e.slots; forwarded = e.forwarded; received = e.received; given = e.given; change = c; me = e.me; declared = e.declared; told = e.told; passed = e.passed }

abbrev pub with_membership : View → EndPoint → EndPoint
with_membership v e = record { current = e.current; membership = v; heard = e.heard; records = e.records; slots = e.slots; forwarded = e.forwarded; received = e.received; given = e.given; change = e.change; me = e.me; declared = e.declared; told = e.told; passed = e.passed }

abbrev pub with_forwarded : List Row → EndPoint → EndPoint
with_forwarded rows e = record { current = e.current; membership = e.membership; heard = e.heard; records = e.records; slots = e.slots; forwarded = rows; received = e.received; given = e.given; change = e.change; me = e.me; declared = e.declared; told = e.told; passed = e.passed }

abbrev pub with_heard : List View → List ℕ → EndPoint → EndPoint
with_heard vs counts e = record { current = e.current; membership = e.membership; heard = vs; records = e.records; slots = e.slots; forwarded = e.forwarded; received = counts; given = e.given; change = e.change; me = e.me; declared = e.declared; told = e.told; passed = e.passed }

abbrev pub with_records : Records → EndPoint → EndPoint
with_records rs e = record { current = e.current; membership = e.membership; heard = e.heard; records = rs; slots = e.slots; forwarded = e.forwarded; received = e.received; given = e.given; change = e.change; me = e.me; declared = e.declared; told = e.told; passed = e.passed }

abbrev pub with_declared : ℕ → EndPoint → EndPoint
with_declared s e = record { current = e.current; membership = e.membership; heard = e.heard; records = e.records; slots = e.slots; forwarded = e.forwarded; received = e.received; given = e.given; change = e.change; me = e.me; declared = s; told = e.told; passed = e.passed }

abbrev pub with_told : ℕ → ℕ → EndPoint → EndPoint
with_told b n e = record { current = e.current; membership = e.membership; heard = e.heard; records = e.records; slots = e.slots; forwarded = e.forwarded; received = e.received; given = e.given; change = e.change; me = e.me; declared = e.declared; told = b; passed = n }

abbrev pub with_given : List ℕ → EndPoint → EndPoint
with_given counts e = record { current = e.current; membership = e.membership; heard = e.heard; records = e.records; slots = e.slots; forwarded = e.forwarded; received = e.received; given = counts; change = e.change; me = e.me; declared = e.declared; told = e.told; passed = e.passed }

abbrev pub with_current : View → EndPoint → EndPoint
with_current v e = record { current = v; membership = e.membership; heard = e.heard; records = e.records; slots = e.slots; forwarded = e.forwarded; received = e.received; given = e.given; change = e.change; me = e.me; declared = e.declared; told = e.told; passed = e.passed }

-- the change with another block state
abbrev pub with_block : ℕ → Change → Change
with_block b c = record { number = c.number; set = c.set; opened = c.opened; pending = c.pending; block = b }

-- "whether a change is open (start seen, view not yet) and whether it is pending (start seen, nothing installed since)"
abbrev pub is_open : EndPoint → Bool
is_open e = eqb e.change.opened 1

abbrev pub is_pending : EndPoint → Bool
is_pending e = eqb e.change.pending 1

-- "block state (free, asked, blocked)"
abbrev pub is_free : EndPoint → Bool
is_free e = eqb e.change.block 0

abbrev pub is_asked : EndPoint → Bool
is_asked e = eqb e.change.block 1

abbrev pub is_blocked : EndPoint → Bool
is_blocked e = eqb e.change.block 2

-- "whether the current view is announced"
abbrev pub is_told : EndPoint → Bool
is_told e = eqb e.told 1
