-- "Forward (q, r)". Assumes nothing.
use Rattle.std.specs.Prelude.{ℕ, ◌+◌, not, ◌||◌, List, [], ◌∷◌, leb, ltb, get_or, set}
use Rattle.views.specs.Sets.{only}
use Rattle.messages.specs.Messages.{of_forward}
use Rattle.slots.specs.Slots.{place, slot_of}
use Rattle.agreement.specs.declared.Row.{Row}
use Rattle.endpoint.specs.declared.EndPoint.{EndPoint}
use Rattle.endpoint.specs.declared.Answer.{Answer}
use Rattle.endpoint.specs.State.{with_forwarded}
use Rattle.agreement.specs.Due.{no_marks}
use Rattle.endpoint.specs.Ready.{ready, unnamed}
use Rattle.endpoint.specs.Due.{lowest_due}
use Rattle.endpoint.specs.Application.{unfit}
use Rattle.endpoint.specs.Numbers.{Check, check, sends}

-- the index of the lowest held word of r that is due to q above the mark
unfoldable pub due_index : EndPoint → ℕ → ℕ → ℕ
due_index e q r = lowest_due e q r + 1

-- "raises the mark to it"
unfoldable pub raised : EndPoint → ℕ → ℕ → ℕ → List Row
raised e q r i = set e.forwarded q (record { marks = set (get_or e.forwarded q no_marks).marks r i })

-- "Forward (q, r): 1; 4 unless ready; 9; 10 if no held word of r is due to q above the mark."
unfoldable pub forward_out_checks : EndPoint → List ℕ → ℕ → ℕ → List Check
forward_out_checks e area q r =
    check 1 (unfit e area || (not (leb q 7) || not (leb r 7)))
    ∷ check 4 (not (ready e))
    ∷ check 9 (unnamed e)
    ∷ check 10 (not (ltb (lowest_due e q r) 128))
    ∷ []

-- "Sends the lowest such, raises the mark to it."
unfoldable pub forwards : EndPoint → List ℕ → ℕ → ℕ → Answer
forwards e area q r =
    sends (with_forwarded (raised e q r (due_index e q r)) e) (only q)
    (of_forward r (due_index e q r) e.current (get_or area (place (slot_of e.slots e.current) r (due_index e q r)) 0))
