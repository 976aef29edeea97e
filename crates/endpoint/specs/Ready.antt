-- "Ready.", and named, T, agreed of an end-point: their rules are in the agreement's crate. Assumes nothing.
use Rattle.std.specs.Prelude.{ℕ, Bool, ◌&&◌, eqb, ltb}
use Rattle.views.specs.Views.{start_of}
use Rattle.records.specs.declared.Record.{Record}
use Rattle.agreement.specs.Named as Rule
use Rattle.endpoint.specs.declared.EndPoint.{EndPoint}
use Rattle.endpoint.specs.State.{is_pending}

-- "A view is ready when a change is pending, the membership view's id exceeds the current id and its start number for p is the pending one."
unfoldable pub ready : EndPoint → Bool
ready e = is_pending e && (ltb e.current.id e.membership.id && eqb (start_of e.membership e.me) e.change.number)

-- the named record of r, and whether it is held
unfoldable pub named_held : EndPoint → ℕ → Bool
named_held e r = Rule.named_held e.membership e.records r

unfoldable pub named : EndPoint → ℕ → Record
named e r = Rule.named e.membership e.records r

-- r is in T, and T
unfoldable pub in_t : EndPoint → ℕ → Bool
in_t e r = Rule.in_t e.current e.membership e.records r

unfoldable pub T : EndPoint → ℕ
T e = Rule.T e.current e.membership e.records

-- r's named record's count for sender s
unfoldable pub named_cut : EndPoint → ℕ → ℕ → ℕ
named_cut e r s = Rule.named_cut e.membership e.records r s

-- the agreed count of r
unfoldable pub agreed : EndPoint → ℕ → ℕ
agreed e r = Rule.agreed e.current e.membership e.records r

-- 9: "a named record of a member of both views is not held"
unfoldable pub unnamed : EndPoint → Bool
unnamed e = Rule.unnamed e.current e.membership e.records
