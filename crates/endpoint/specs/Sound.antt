-- "Sound." Each clause of the paragraph is a line. p's own entries of heard and received are no part of what it remembers. Assumes nothing.
use Rattle.std.specs.Prelude.{ℕ, Bool, not, ◌&&◌, ◌||◌, eqb, leb, get_or}
use Rattle.below.specs.Below.{all_below}
use Rattle.views.specs.Sets.{has}
use Rattle.views.specs.declared.View.{View}
use Rattle.views.specs.Views.{initial, view_ok, same}
use Rattle.records.specs.Records.{records_well_formed, records_rise, records_at_most}
use Rattle.slots.specs.Slots.{tag_at, has_slot, run, all_used, slots_differ, no_gaps}
use Rattle.endpoint.specs.declared.EndPoint.{EndPoint}
use Rattle.endpoint.specs.Spent.{spent}
use Rattle.agreement.specs.Due.{forward_mark}

-- the announced view of q
unfoldable pub heard_from : EndPoint → ℕ → View
heard_from e q = get_or e.heard q (initial q)

-- f holds of each other sender
unfoldable pub all_others : EndPoint → (ℕ → Bool) → Bool
all_others e f = all_below (λ q. eqb q e.me || f q) 8

-- the representation's own ranges: a flag is 0 or 1, the block state 0, 1 or 2
unfoldable pub flags_ok : EndPoint → Bool
flags_ok e =
    leb e.change.opened 1
    && (leb e.change.pending 1
    && (leb e.change.block 2 && (leb e.told 1 && all_below (λ s. leb (tag_at e.slots s).used 1) 4)))

-- "its views .. are well formed": current, membership, the others' announced, the slots'
unfoldable pub views_ok : EndPoint → Bool
views_ok e =
    view_ok e.current
    && (view_ok e.membership && (all_others e (λ q. view_ok (heard_from e q)) && all_used view_ok e.slots))

-- "p is in its current and membership views"
unfoldable pub own_member : EndPoint → Bool
own_member e = has e.current.set e.me && has e.membership.set e.me

-- "counts and marks are at most 128"
unfoldable pub counts_ok : EndPoint → Bool
counts_ok e =
    leb e.passed 128
    && (all_others e (λ q. leb (get_or e.received q 0) 128)
    && (all_below (λ r. leb (get_or e.given r 0) 128) 8 && all_below (λ q. all_below (λ r. leb (forward_mark e.forwarded q r) 128) 8) 8))

-- "its records' views and their cuts are well formed", "each sender's records (at most four) rise in number, p's own none above the latest start number"
unfoldable pub records_ok : EndPoint → Bool
records_ok e =
    all_below (records_well_formed e.records) 8
    && (all_below (records_rise e.records) 8 && records_at_most e.records e.me e.change.number)

-- "in each slot p's own held words have no gap from word 1, its slots hold different views, none spent, the current view has one"
unfoldable pub slots_ok : EndPoint → Bool
slots_ok e =
    no_gaps e.slots e.me
    && (slots_differ e.slots && (all_used (λ v. not (spent e v)) e.slots && has_slot e.slots e.current))

-- "and so has every announced view of positive id that is neither current nor spent"
unfoldable pub heard_ok : EndPoint → Bool
heard_ok e =
    all_others e
    (λ q. eqb (heard_from e q).id 0 || (same (heard_from e q) e.current || (spent e (heard_from e q) || has_slot e.slots (heard_from e q))))

-- "no given-out count exceeds the run, and own words passed out don't exceed p's run"
unfoldable pub given_ok : EndPoint → Bool
given_ok e =
    all_below (λ r. leb (get_or e.given r 0) (run e.slots e.current r)) 8
    && leb e.passed (run e.slots e.current e.me)

-- "its number is 0 to 7", and all of the above
unfoldable pub sound : EndPoint → Bool
sound e =
    leb e.me 7
    && (flags_ok e
    && (views_ok e && (own_member e && (counts_ok e && (records_ok e && (slots_ok e && (heard_ok e && given_ok e)))))))
