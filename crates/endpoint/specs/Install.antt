-- "Install". Assumes nothing.
use Rattle.std.specs.Prelude.{ℕ, Bool, true, false, not, cond, List, [], ◌∷◌, leb, get_or, replicate}
use Rattle.below.specs.Below.{all_below}
use Rattle.views.specs.Sets.{has}
use Rattle.slots.specs.declared.Slots.{Slots}
use Rattle.slots.specs.Slots.{freed, with_slot}
use Rattle.endpoint.specs.declared.Change.{Change}
use Rattle.endpoint.specs.declared.EndPoint.{EndPoint}
use Rattle.endpoint.specs.State.{with_slots, with_change, with_current, with_told, with_given}
use Rattle.slots.specs.Spent.{spent_by}
use Rattle.endpoint.specs.Ready.{ready, unnamed, agreed}
use Rattle.endpoint.specs.Due.{owes}
use Rattle.endpoint.specs.Sound.{sound}
use Rattle.endpoint.specs.Numbers.{Check, check}

-- f holds of each member of the current view
unfoldable pub all_members : EndPoint → (ℕ → Bool) → Bool
all_members e f = all_below (λ r. cond (has e.current.set r) (f r) true) 8

-- 13: "for some member of the current view, fewer words given out than agreed"
unfoldable pub fewer : EndPoint → Bool
fewer e = not (all_members e (λ r. leb (agreed e r) (get_or e.given r 0)))

-- 15: "for some member of the current view, more words given out than agreed"
unfoldable pub more : EndPoint → Bool
more e = not (all_members e (λ r. leb (get_or e.given r 0) (agreed e r)))

-- "not pending, free"
abbrev pub settled : Change → Change
settled c = record { number = c.number; set = c.set; opened = c.opened; pending = 0; block = 0 }

-- what the new view makes spent is freed, then "the new view becomes current in its slot or a new one"
unfoldable pub slots_after : EndPoint → Slots
slots_after e = with_slot e.membership (freed (spent_by e.me e.membership e.change.number false) e.slots)

-- "given-out and passed-out counts 0, not announced, not pending, free"
unfoldable pub after_install : EndPoint → EndPoint
after_install e =
    with_current e.membership (with_slots (slots_after e) (with_given (replicate 8 0) (with_told 0 0 (with_change (settled e.change) e))))

-- "Install: 4 unless ready; 9; 12; 13; 15."
unfoldable pub install_checks : EndPoint → List Check
install_checks e =
    check 1 (not (sound e))
    ∷ check 4 (not (ready e))
    ∷ check 9 (unnamed e)
    ∷ check 12 (owes e)
    ∷ check 13 (fewer e)
    ∷ check 15 (more e)
    ∷ []
