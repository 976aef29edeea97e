-- The end-point's own steps on the way to a change: ask to block, declare, announce, pass out, sync. Assumes nothing.
use Rattle.std.specs.Prelude.{ℕ, ◌+◌, not, cond, ◌&&◌, List, [], ◌∷◌, ltb, get_or}
use Rattle.below.specs.Below.{list_below}
use Rattle.views.specs.Sets.{has, within, joined, less}
use Rattle.views.specs.declared.Cut.{Cut}
use Rattle.messages.specs.Messages.{of_view, of_word, of_sync}
use Rattle.records.specs.declared.Record.{Record}
use Rattle.records.specs.Records.{holds_record, store_record}
use Rattle.slots.specs.Slots.{place, slot_of, run}
use Rattle.endpoint.specs.declared.EndPoint.{EndPoint}
use Rattle.endpoint.specs.declared.Answer.{Answer}
use Rattle.endpoint.specs.State.{with_change, with_block, with_records, with_declared, with_told, is_pending, is_free, is_blocked, is_told}
use Rattle.endpoint.specs.Sound.{sound}
use Rattle.endpoint.specs.Application.{unfit, own_run}
use Rattle.endpoint.specs.Numbers.{Check, check, sends}

-- "Ask to block: 4 unless pending and free."
unfoldable pub ask_checks : EndPoint → List Check
ask_checks e = check 1 (not (sound e)) ∷ check 4 (not (is_pending e && is_free e)) ∷ []

-- "Becomes asked."
unfoldable pub after_ask : EndPoint → EndPoint
after_ask e = with_change (with_block 1 e.change) e

-- "Declare: the declared set becomes the current set, joined with the start set if pending."
unfoldable pub declared_set : EndPoint → ℕ
declared_set e = cond (is_pending e) (joined e.current.set e.change.set) e.current.set

unfoldable pub declare_checks : EndPoint → List Check
declare_checks e = check 1 (not (sound e)) ∷ []

unfoldable pub after_declare : EndPoint → EndPoint
after_declare e = with_declared (declared_set e) e

-- "Announce: 8 unless the current set is within the declared one; 10 if announced."
unfoldable pub announce_checks : EndPoint → List Check
announce_checks e = check 1 (not (sound e)) ∷ check 8 (not (within e.current.set e.declared)) ∷ check 10 (is_told e) ∷ []

-- "View message to the current set less p."
unfoldable pub announces : EndPoint → Answer
announces e = sends (with_told 1 e.passed e) (less e.current.set e.me) (of_view 1 e.current)

-- p's next word
unfoldable pub own_next : EndPoint → List ℕ → ℕ
own_next e area = get_or area (place (slot_of e.slots e.current) e.me (e.passed + 1)) 0

-- "Pass out: 4 unless announced; 10 if none is left."
unfoldable pub pass_checks : EndPoint → List ℕ → List Check
pass_checks e area = check 1 (unfit e area) ∷ check 4 (not (is_told e)) ∷ check 10 (not (ltb e.passed (own_run e))) ∷ []

-- "p's next word to the current set less p."
unfoldable pub passes : EndPoint → List ℕ → Answer
passes e area = sends (with_told e.told (e.passed + 1) e) (less e.current.set e.me) (of_word (own_next e area))

-- "Cut: the run of each member of the current view, 0 for others."
unfoldable pub own_cut : EndPoint → Cut
own_cut e = record { counts = list_below (λ r. cond (has e.current.set r) (run e.slots e.current r) 0) 8 }

abbrev pub own_record : EndPoint → Record
own_record e = record { view = e.current; cut = own_cut e; number = e.change.number }

-- "Sync: 4 unless pending, blocked and no own record has this number; 8 unless the start set is within the declared one."
unfoldable pub sync_out_checks : EndPoint → List Check
sync_out_checks e =
    check 1 (not (sound e))
    ∷ check 4 (not (is_pending e && (is_blocked e && not (holds_record e.records e.me e.change.number))))
    ∷ check 8 (not (within e.change.set e.declared))
    ∷ []

-- "Stored as p's own record under the rule of four, sent to the start set less p."
unfoldable pub syncs : EndPoint → Answer
syncs e =
    sends (with_records (store_record e.records e.me (own_record e)) e) (less e.change.set e.me)
    (of_sync e.change.number e.current (own_cut e))
