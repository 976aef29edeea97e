-- "Slips this trade has seen": each as the definition that it would be, and a desk on which it gives another answer. Assumes nothing.
use Rattle.std.specs.Prelude.{ℕ, ◌-◌, ◌%◌, Bool, ◌&&◌, [], ◌∷◌, ◌++◌, eqb, ltb, replicate}
use Rattle.views.specs.Views.{start_of}
use Rattle.views.specs.Cuts.{count_of}
use Rattle.records.specs.Records.{record_at, record_count}
use Rattle.slots.specs.Slots.{place}
use Rattle.messages.specs.Messages.{of_sync}
use Rattle.endpoint.specs.declared.EndPoint.{EndPoint}
use Rattle.endpoint.specs.State.{with_forwarded, is_open}
use Rattle.endpoint.specs.Fresh.{fresh}
use Rattle.agreement.specs.Named.{in_both}
use Rattle.endpoint.specs.Ready.{named_held, named}
use Rattle.endpoint.specs.Steps.{start_change, membership_view, receive, sync, forward}
use Rattle.sessions.specs.Play.{Desk, desk, after, view_of, cut_of}
use Rattle.sessions.specs.Sessions.{enter, leave, words, synced, three, two, four, others}

-- "Views compared by id alone: two partitions may use one id."
unfoldable pub in_t_by_id : EndPoint → ℕ → Bool
in_t_by_id e r = in_both e.current e.membership r && (named_held e r && eqb (named e r).view.id e.current.id)

-- "Open and pending kept as one flag: the first ends at the membership view, the second at install."
unfoldable pub ready_by_open : EndPoint → Bool
ready_by_open e = is_open e && (ltb e.current.id e.membership.id && eqb (start_of e.membership e.me) e.change.number)

-- "Word places worked out in eight bits."
unfoldable pub place_in_eight_bits : ℕ → ℕ → ℕ → ℕ
place_in_eight_bits s r i = place s r i % 256

-- "The newest record used instead of the named one."
unfoldable pub cut_of_newest : EndPoint → ℕ → ℕ → ℕ
cut_of_newest e r s = count_of (record_at e.records r (record_count e.records r - 1)).cut s

-- member 1 sends a second sync, of a change that the membership view does not name
unfoldable pub twice : EndPoint
twice = (after desk (enter three ++ (leave two ++ (synced 1 three 5 ∷ receive 1 (of_sync 3 three (cut_of (0 ∷ 0 ∷ 1 ∷ 0 ∷ 0 ∷ 0 ∷ 0 ∷ 0 ∷ []))) ∷ [])))).ep

-- "Forward marks kept over a new membership view: when a lower holder leaves T, its words are never sent."
-- End-point 3 holds seven words of 2, member 1 five, member 0 two. 3 forwards words 6 and 7 to 0; then 1 drops, and 3 to 5 fall to 3 as well.
unfoldable pub desk3 : Desk
desk3 = record { ep = fresh 3; area = replicate 4096 0 }

unfoldable pub forwarded : Desk
forwarded = after desk3 (enter four ++ (words four 7 ++ (leave others ++ (synced 0 four 2 ∷ synced 1 four 5 ∷ forward 0 2 ∷ forward 0 2 ∷ []))))

unfoldable pub dropped : Desk
dropped =
    after forwarded
    (start_change 3 9 ∷ sync ∷ membership_view (view_of 3 9 (3 ∷ 0 ∷ 0 ∷ 3 ∷ 0 ∷ 0 ∷ 0 ∷ 0 ∷ [])) ∷ receive 0 (of_sync 3 four (cut_of (0 ∷ 0 ∷ 2 ∷ 0 ∷ 0 ∷ 0 ∷ 0 ∷ 0 ∷ []))) ∷ [])

-- the same with the marks as they were
unfoldable pub kept : Desk
kept = record { ep = with_forwarded forwarded.ep.forwarded dropped.ep; area = dropped.area }
