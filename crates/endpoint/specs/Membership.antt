-- The membership service's steps: start change, membership view. Assumes nothing.
use Rattle.std.specs.Prelude.{ℕ, true, not, ◌||◌, ◌&&◌, List, [], ◌∷◌, eqb, ltb, replicate}
use Rattle.views.specs.Sets.{has, within}
use Rattle.views.specs.declared.View.{View}
use Rattle.views.specs.Views.{start_of, view_ok}
use Rattle.slots.specs.Slots.{freed}
use Rattle.endpoint.specs.declared.Change.{Change}
use Rattle.endpoint.specs.declared.EndPoint.{EndPoint}
use Rattle.endpoint.specs.State.{with_slots, with_change, with_membership, with_forwarded, is_open}
use Rattle.agreement.specs.Due.{no_marks}
use Rattle.slots.specs.Spent.{spent_by}
use Rattle.endpoint.specs.Sound.{sound}
use Rattle.endpoint.specs.Numbers.{Check, check}

-- "Stored; open and pending."
abbrev pub started : ℕ → ℕ → Change → Change
started n s c = record { number = n; set = s; opened = 1; pending = 1; block = c.block }

-- "Start change (number, set): 2 if p is absent; 3 unless number > latest."
unfoldable pub start_checks : EndPoint → ℕ → ℕ → List Check
start_checks e n s = check 1 (not (sound e)) ∷ check 2 (not (has s e.me)) ∷ check 3 (not (ltb e.change.number n)) ∷ []

-- what that makes spent is freed
unfoldable pub after_start : EndPoint → ℕ → ℕ → EndPoint
after_start e n s = with_change (started n s e.change) (with_slots (freed (spent_by e.me e.current n true) e.slots) e)

-- "no longer open"
abbrev pub closed : Change → Change
closed c = record { number = c.number; set = c.set; opened = 0; pending = c.pending; block = c.block }

-- "Membership view: 1; 2 if p is absent; 3 unless id > the latest membership id; 4 unless open, its number for p the latest and its set within the start set."
unfoldable pub membership_checks : EndPoint → View → List Check
membership_checks e v =
    check 1 (not (sound e) || not (view_ok v))
    ∷ check 2 (not (has v.set e.me))
    ∷ check 3 (not (ltb e.membership.id v.id))
    ∷ check 4 (not (is_open e && (eqb (start_of v e.me) e.change.number && within v.set e.change.set)))
    ∷ []

-- "Stored; no longer open; all forward marks become 0."
unfoldable pub after_membership : EndPoint → View → EndPoint
after_membership e v = with_membership v (with_forwarded (replicate 8 no_marks) (with_change (closed e.change) e))
