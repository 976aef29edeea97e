-- "Receive from q; a refused message stays at the head of its channel." View, word, sync, forward. Assumes nothing.
use Rattle.std.specs.Prelude.{ℕ, ◌+◌, Bool, not, cond, ◌||◌, ◌&&◌, List, [], ◌∷◌, eqb, ltb, leb, get_or, set}
use Rattle.views.specs.Sets.{has}
use Rattle.views.specs.declared.View.{View}
use Rattle.views.specs.Views.{same}
use Rattle.messages.specs.declared.Message.{Message}
use Rattle.messages.specs.Layouts.{well_formed}
use Rattle.records.specs.declared.Record.{Record}
use Rattle.records.specs.Records.{newest, store_record}
use Rattle.slots.specs.Slots.{place, slot_of, has_slot, held_word, mark_word, has_free, taken}
use Rattle.endpoint.specs.declared.EndPoint.{EndPoint}
use Rattle.endpoint.specs.State.{with_slots, with_heard, with_records}
use Rattle.endpoint.specs.Spent.{spent}
use Rattle.endpoint.specs.Sound.{heard_from}
use Rattle.endpoint.specs.Application.{unfit}
use Rattle.endpoint.specs.Numbers.{Check, check}

-- 1: "a member number above 7, a malformed .. message .., or a message from oneself"; "Kinds 5 and 6 given to Receive are malformed there"
unfoldable pub unreceivable : EndPoint → List ℕ → ℕ → Message → Bool
unreceivable e area q m = unfit e area || (not (leb q 7) || (eqb q e.me || (not (well_formed m) || not (leb m.kind 4))))

-- 14: "another word is held at that place": word i of r in view v is held, and is not w
unfoldable pub other_word : EndPoint → List ℕ → View → ℕ → ℕ → ℕ → Bool
other_word e area v r i w = held_word e.slots v r i && not (eqb (get_or area (place (slot_of e.slots v) r i) 0) w)

-- word i of r in view v stored
unfoldable pub store_word : EndPoint → View → ℕ → ℕ → EndPoint
store_word e v r i = with_slots (mark_word e.slots v r i) e

unfoldable pub store_area : EndPoint → List ℕ → View → ℕ → ℕ → ℕ → List ℕ
store_area e area v r i w = set area (place (slot_of e.slots v) r i) w

-- ---- view: "2 unless p and q are members; 3 unless id > that of q's announced view; 7 if it is neither current, spent nor in a slot, and none is free."

-- it has no slot and needs one
unfoldable pub needs_slot : EndPoint → View → Bool
needs_slot e v = not (same v e.current) && (not (spent e v) && not (has_slot e.slots v))

unfoldable pub view_checks : EndPoint → ℕ → View → List Check
view_checks e q v =
    check 2 (not (has v.set e.me && has v.set q))
    ∷ check 3 (not (ltb (heard_from e q).id v.id))
    ∷ check 7 (needs_slot e v && not (has_free e.slots))
    ∷ []

-- "Becomes q's announced view, received count 0; takes a slot if not spent and without one."
unfoldable pub after_view : EndPoint → ℕ → View → EndPoint
after_view e q v =
    with_heard (set e.heard q v) (set e.received q 0) (with_slots (cond (needs_slot e v) (taken v e.slots) e.slots) e)

-- ---- word: "4 if q's announced view is initial. If spent, accepted with no change. Else 6 if 128 received; 14; stored as the next."

-- the index of q's next word
unfoldable pub next_word : EndPoint → ℕ → ℕ
next_word e q = get_or e.received q 0 + 1

unfoldable pub live : EndPoint → ℕ → Bool
live e q = not (spent e (heard_from e q))

unfoldable pub word_checks : EndPoint → List ℕ → ℕ → ℕ → List Check
word_checks e area q w =
    check 4 (eqb (heard_from e q).id 0)
    ∷ check 6 (live e q && eqb (get_or e.received q 0) 128)
    ∷ check 14 (live e q && other_word e area (heard_from e q) q (next_word e q) w)
    ∷ []

unfoldable pub after_word : EndPoint → ℕ → EndPoint
after_word e q =
    cond (live e q) (with_heard e.heard (set e.received q (next_word e q)) (store_word e (heard_from e q) q (next_word e q))) e

unfoldable pub area_after_word : EndPoint → List ℕ → ℕ → ℕ → List ℕ
area_after_word e area q w = cond (live e q) (store_area e area (heard_from e q) q (next_word e q) w) area

-- ---- sync: "2 unless q is in the carried view; 3 unless its number exceeds q's newest held (none counts as 0). Stored; with four held, the oldest goes."

unfoldable pub sync_checks : EndPoint → ℕ → Message → List Check
sync_checks e q m = check 2 (not (has m.view.set q)) ∷ check 3 (not (ltb (newest e.records q) m.number)) ∷ []

abbrev pub carried : Message → Record
carried m = record { view = m.view; cut = m.cut; number = m.number }

unfoldable pub after_sync : EndPoint → ℕ → Message → EndPoint
after_sync e q m = with_records (store_record e.records q (carried m)) e

-- ---- forward (r, i, view, word): "2 unless p, q, r are members and r is not p. View not current: accepted with no change. Else 14, or stored."

unfoldable pub forward_checks : EndPoint → List ℕ → ℕ → Message → List Check
forward_checks e area q m =
    check 2 (not (has m.view.set e.me && (has m.view.set q && (has m.view.set m.sender && not (eqb m.sender e.me)))))
    ∷ check 14 (same m.view e.current && other_word e area e.current m.sender m.index m.word)
    ∷ []

unfoldable pub after_forward : EndPoint → Message → EndPoint
after_forward e m = cond (same m.view e.current) (store_word e e.current m.sender m.index) e

unfoldable pub area_after_forward : EndPoint → List ℕ → Message → List ℕ
area_after_forward e area m = cond (same m.view e.current) (store_area e area e.current m.sender m.index m.word) area

-- ---- the four together, by the message's kind

abbrev pub by_kind : {A : Type 0} → ℕ → A → A → A → A → A
by_kind k v w s f = cond (eqb k 1) v (cond (eqb k 2) w (cond (eqb k 3) s f))

unfoldable pub receive_checks : EndPoint → List ℕ → ℕ → Message → List Check
receive_checks e area q m =
    check 1 (unreceivable e area q m)
    ∷ by_kind m.kind (view_checks e q m.view) (word_checks e area q m.word) (sync_checks e q m) (forward_checks e area q m)

unfoldable pub after_receive : EndPoint → ℕ → Message → EndPoint
after_receive e q m = by_kind m.kind (after_view e q m.view) (after_word e q) (after_sync e q m) (after_forward e m)

unfoldable pub area_after_receive : EndPoint → List ℕ → ℕ → Message → List ℕ
area_after_receive e area q m = by_kind m.kind area (area_after_word e area q m.word) area (area_after_forward e area m)
