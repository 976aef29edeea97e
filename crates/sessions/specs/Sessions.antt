-- "Sessions at the edges", 1 to 11, for end-point 0: a table of what each gives and what it is to give. Sets are bytes: {0} is 1, {0,1} is 3, {0,1,2} is 7.
-- Session 12 is run. Assumes nothing.
use Rattle.std.specs.Prelude.{ℕ, ◌+◌, ◌≡◌, Bool, cond, List, [], ◌∷◌, ◌++◌, length, get_or, replicate}
use Rattle.below.specs.Below.{list_below}
use Rattle.views.specs.declared.View.{View}
use Rattle.messages.specs.Messages.{of_view, of_word, of_sync}
use Rattle.endpoint.specs.declared.EndPoint.{EndPoint}
use Rattle.endpoint.specs.declared.Answer.{Answer}
use Rattle.endpoint.specs.Numbers.{accepted}
use Rattle.endpoint.specs.Fresh.{fresh}
use Rattle.endpoint.specs.Ready.{T, in_t, agreed}
use Rattle.endpoint.specs.Due.{due, owes}
use Rattle.endpoint.specs.Give.{batch}
use Rattle.endpoint.specs.Steps.{Event, send, block_ok, start_change, membership_view, receive, ask_to_block, declare, announce, pass_out, sync, give_out, install}
use Rattle.sessions.specs.Play.{Desk, desk, after, answers, numbers, view_of, cut_of}

-- a row: the session, what it gave, what it is to give
pub record Row : Type 0 where
  pub session : ℕ
  pub gave : List ℕ
  pub wanted : List ℕ

abbrev pub row : ℕ → List ℕ → List ℕ → Row
row n g w = record { session = n; gave = g; wanted = w }

-- the numbers that events give from a fresh end-point 0
unfoldable pub plays : List Event → List ℕ
plays evs = numbers (answers desk evs)

-- answer k of a session
unfoldable pub answer : ℕ → List Event → Answer
answer k evs = get_or (answers desk evs) k (accepted (fresh 0))

-- 1 for true
abbrev pub bit : Bool → ℕ
bit b = cond b 1 0

-- ---- the way into a view with others, and to a change

-- end-point 0 goes from its initial view into this one, alone of both
unfoldable pub enter : View → List Event
enter v = start_change 1 v.set ∷ ask_to_block ∷ block_ok ∷ declare ∷ sync ∷ membership_view v ∷ install ∷ declare ∷ announce ∷ []

-- n words 7 of member 2, whose view this is
unfoldable pub words : View → ℕ → List Event
words v n = receive 2 (of_view 1 v) ∷ replicate n (receive 2 (of_word 7))

-- the change of start number 2 into this view, up to end-point 0's sync
unfoldable pub leave : View → List Event
leave v = start_change 2 v.set ∷ ask_to_block ∷ block_ok ∷ declare ∷ sync ∷ membership_view v ∷ []

-- a sync of start number 2 from q, with this view and count for member 2
unfoldable pub synced : ℕ → View → ℕ → Event
synced q v n = receive q (of_sync 2 v (cut_of (0 ∷ 0 ∷ n ∷ 0 ∷ 0 ∷ 0 ∷ 0 ∷ 0 ∷ [])))

-- {0,1,2}, then {0,1}
abbrev pub three : View
three = view_of 1 7 (1 ∷ 1 ∷ 1 ∷ 0 ∷ 0 ∷ 0 ∷ 0 ∷ 0 ∷ [])

abbrev pub two : View
two = view_of 2 3 (2 ∷ 2 ∷ 0 ∷ 0 ∷ 0 ∷ 0 ∷ 0 ∷ 0 ∷ [])

-- {0,1,2,3}, then {0,1,3}
abbrev pub four : View
four = view_of 1 15 (1 ∷ 1 ∷ 1 ∷ 1 ∷ 0 ∷ 0 ∷ 0 ∷ 0 ∷ [])

abbrev pub others : View
others = view_of 2 11 (2 ∷ 2 ∷ 0 ∷ 2 ∷ 0 ∷ 0 ∷ 0 ∷ 0 ∷ [])

-- after the highest start number
unfoldable pub highest : EndPoint
highest = (after desk (start_change 4294967295 1 ∷ [])).ep

unfoldable pub seven : EndPoint
seven = (after desk (enter three ++ (words three 3 ++ (leave two ++ (synced 1 three 5 ∷ []))))).ep

unfoldable pub eight : EndPoint
eight = (after desk (enter four ++ (words four 2 ++ (leave others ++ (synced 1 four 5 ∷ synced 3 four 7 ∷ []))))).ep

unfoldable pub nine : Desk
nine = after desk (enter three ++ (leave two ++ (synced 1 three 0 ∷ [])))

-- a view that differs from `three` in one start number
abbrev pub almost : View
almost = view_of 1 7 (1 ∷ 2 ∷ 1 ∷ 0 ∷ 0 ∷ 0 ∷ 0 ∷ 0 ∷ [])

unfoldable pub ten : EndPoint
ten = (after desk (enter three ++ (leave two ++ (synced 1 almost 0 ∷ [])))).ep

unfoldable pub eleven : Desk
eleven = after desk (replicate 5 (send 7) ++ replicate 5 pass_out)

-- the words 1 to 8 of member 2 that p owes q
unfoldable pub owed : EndPoint → ℕ → ℕ → List ℕ
owed e p q = list_below (λ k. bit (due e p q 2 (k + 1))) 8

-- ---- the table

unfoldable pub table : List Row
table =
    row 1 (plays (give_out 0 ∷ install ∷ ask_to_block ∷ [])) (10 ∷ 4 ∷ 4 ∷ [])
    ∷ row 2 (plays (send 7 ∷ give_out 0 ∷ pass_out ∷ give_out 0 ∷ [])) (0 ∷ 10 ∷ 0 ∷ 0 ∷ [])
    ∷ row 2 ((answer 2 (send 7 ∷ give_out 0 ∷ pass_out ∷ give_out 0 ∷ [])).set ∷ (answer 3 (send 7 ∷ give_out 0 ∷ pass_out ∷ give_out 0 ∷ [])).word ∷ []) (0 ∷ 7 ∷ [])
    ∷ row 3 (plays (start_change 0 1 ∷ start_change 1 2 ∷ start_change 1 3 ∷ start_change 1 3 ∷ [])) (3 ∷ 2 ∷ 0 ∷ 3 ∷ [])
    ∷ row 4 (plays (membership_view (view_of 1 3 (1 ∷ 1 ∷ 0 ∷ 0 ∷ 0 ∷ 0 ∷ 0 ∷ 0 ∷ [])) ∷ start_change 1 3 ∷ membership_view (view_of 1 3 (1 ∷ 1 ∷ 0 ∷ 0 ∷ 0 ∷ 0 ∷ 0 ∷ 0 ∷ [])) ∷ [])) (4 ∷ 0 ∷ 0 ∷ [])
    ∷ row 5 (plays (start_change 4294967295 1 ∷ start_change 4294967295 1 ∷ start_change 1 255 ∷ [])) (0 ∷ 3 ∷ 3 ∷ [])
    ∷ row 6 (plays (replicate 128 (send 7) ++ (send 7 ∷ []))) (replicate 128 0 ++ (6 ∷ []))
    ∷ row 7 (T seven ∷ agreed seven 2 ∷ owed seven 1 0) (3 ∷ 5 ∷ 0 ∷ 0 ∷ 0 ∷ 1 ∷ 1 ∷ 0 ∷ 0 ∷ 0 ∷ [])
    ∷ row 8 (T eight ∷ agreed eight 2 ∷ owed eight 1 0) (11 ∷ 7 ∷ 0 ∷ 0 ∷ 1 ∷ 1 ∷ 1 ∷ 0 ∷ 0 ∷ 0 ∷ [])
    ∷ row 8 (owed eight 3 0 ++ owed eight 3 1) (0 ∷ 0 ∷ 0 ∷ 0 ∷ 0 ∷ 1 ∷ 1 ∷ 0 ∷ 0 ∷ 0 ∷ 0 ∷ 0 ∷ 0 ∷ 1 ∷ 1 ∷ 0 ∷ [])
    ∷ row 9 (T nine.ep ∷ bit (owes nine.ep) ∷ agreed nine.ep 2 ∷ numbers (answers nine (give_out 0 ∷ give_out 1 ∷ give_out 2 ∷ []))) (3 ∷ 0 ∷ 0 ∷ 10 ∷ 10 ∷ 10 ∷ [])
    ∷ row 10 (T ten ∷ bit (in_t ten 1) ∷ []) (1 ∷ 0 ∷ [])
    ∷ row 11 (length (batch eleven.ep eleven.area 0 3).words ∷ length (batch eleven.ep eleven.area 0 0).words ∷ []) (3 ∷ 0 ∷ [])
    ∷ []

-- every row gave what it was to give
pub data Agrees : List Row → Type 0 where
  none : Agrees []
  one : {r : Row} {rs : List Row} → r.gave ≡ r.wanted → Agrees rs → Agrees (r ∷ rs)
