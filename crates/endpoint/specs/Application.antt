-- The application's steps: send, block-ok. Assumes nothing.
use Rattle.std.specs.Prelude.{ℕ, ◌+◌, Bool, not, ◌||◌, List, [], ◌∷◌, eqb, length, set}
use Rattle.slots.specs.Slots.{place, slot_of, run, mark_word}
use Rattle.endpoint.specs.declared.EndPoint.{EndPoint}
use Rattle.endpoint.specs.State.{with_slots, with_change, with_block, is_asked, is_blocked}
use Rattle.endpoint.specs.Sound.{sound}
use Rattle.endpoint.specs.Numbers.{Check, check}

-- 1 in every step that takes the word area: "an unsound end-point, .. a word area of another length"
unfoldable pub unfit : EndPoint → List ℕ → Bool
unfit e area = not (sound e) || not (eqb (length area) 4096)

-- how many words p has in its current view
unfoldable pub own_run : EndPoint → ℕ
own_run e = run e.slots e.current e.me

-- "Application send: 5; 6."
unfoldable pub send_checks : EndPoint → List ℕ → List Check
send_checks e area = check 1 (unfit e area) ∷ check 5 (is_blocked e) ∷ check 6 (eqb (own_run e) 128) ∷ []

-- "Appends the word to p's own in the current view."
unfoldable pub after_send : EndPoint → EndPoint
after_send e = with_slots (mark_word e.slots e.current e.me (own_run e + 1)) e

unfoldable pub area_after_send : EndPoint → List ℕ → ℕ → List ℕ
area_after_send e area w = set area (place (slot_of e.slots e.current) e.me (own_run e + 1)) w

-- "Block-ok: 4 unless asked."
unfoldable pub block_ok_checks : EndPoint → List Check
block_ok_checks e = check 1 (not (sound e)) ∷ check 4 (not (is_asked e)) ∷ []

-- "Becomes blocked."
unfoldable pub after_block_ok : EndPoint → EndPoint
after_block_ok e = with_change (with_block 2 e.change) e
