-- The thirteen steps: for each event its table of checks, then what it answers and leaves in the word area. Assumes nothing.
use Rattle.std.specs.Prelude.{ℕ, not, List, [], ◌∷◌, leb}
use Rattle.views.specs.declared.View.{View}
use Rattle.messages.specs.declared.Message.{Message}
use Rattle.endpoint.specs.declared.EndPoint.{EndPoint}
use Rattle.endpoint.specs.declared.Answer.{Answer}
use Rattle.endpoint.specs.Numbers.{Check, check, accepted, declares, installs, settle, settle_area}
use Rattle.endpoint.specs.Fresh.{fresh}
use Rattle.endpoint.specs.Ready.{T}
use Rattle.endpoint.specs.Application.{send_checks, after_send, area_after_send, block_ok_checks, after_block_ok}
use Rattle.endpoint.specs.Membership.{start_checks, after_start, membership_checks, after_membership}
use Rattle.endpoint.specs.Receive.{receive_checks, after_receive, area_after_receive}
use Rattle.endpoint.specs.Change.{ask_checks, after_ask, declare_checks, declared_set, after_declare, announce_checks, announces, pass_checks, passes, sync_out_checks, syncs}
use Rattle.endpoint.specs.Forward.{forward_out_checks, forwards}
use Rattle.endpoint.specs.Give.{give_checks, gives_next}
use Rattle.endpoint.specs.Install.{install_checks, after_install}

pub data Event : Type 0 where
  send : ℕ → Event
  block_ok : Event
  start_change : ℕ → ℕ → Event
  membership_view : View → Event
  receive : ℕ → Message → Event
  ask_to_block : Event
  declare : Event
  announce : Event
  pass_out : Event
  sync : Event
  forward : ℕ → ℕ → Event
  give_out : ℕ → Event
  install : Event

-- the checks of a step, in rising order of numbers
unfoldable pub checks : Event → EndPoint → List ℕ → List Check
checks (send w) e area = send_checks e area
checks block_ok e area = block_ok_checks e
checks (start_change n s) e area = start_checks e n s
checks (membership_view v) e area = membership_checks e v
checks (receive q m) e area = receive_checks e area q m
checks ask_to_block e area = ask_checks e
checks declare e area = declare_checks e
checks announce e area = announce_checks e
checks pass_out e area = pass_checks e area
checks sync e area = sync_out_checks e
checks (forward q r) e area = forward_out_checks e area q r
checks (give_out q) e area = give_checks e area q
checks install e area = install_checks e

-- what it answers where none applies
unfoldable pub effect : Event → EndPoint → List ℕ → Answer
effect (send w) e area = accepted (after_send e)
effect block_ok e area = accepted (after_block_ok e)
effect (start_change n s) e area = accepted (after_start e n s)
effect (membership_view v) e area = accepted (after_membership e v)
effect (receive q m) e area = accepted (after_receive e q m)
effect ask_to_block e area = accepted (after_ask e)
effect declare e area = declares (after_declare e) (declared_set e)
effect announce e area = announces e
effect pass_out e area = passes e area
effect sync e area = syncs e
effect (forward q r) e area = forwards e area q r
effect (give_out q) e area = gives_next e area q
effect install e area = installs (after_install e) e.membership (T e)

-- and what it stores: only a send and a receive do
unfoldable pub stored : Event → EndPoint → List ℕ → List ℕ
stored (send w) e area = area_after_send e area w
stored block_ok e area = area
stored (start_change n s) e area = area
stored (membership_view v) e area = area
stored (receive q m) e area = area_after_receive e area q m
stored ask_to_block e area = area
stored declare e area = area
stored announce e area = area
stored pass_out e area = area
stored sync e area = area
stored (forward q r) e area = area
stored (give_out q) e area = area
stored install e area = area

-- a step: the answer, and the area after it
unfoldable pub step : Event → EndPoint → List ℕ → Answer
step ev e area = settle (checks ev e area) e (effect ev e area)

unfoldable pub area_after : Event → EndPoint → List ℕ → List ℕ
area_after ev e area = settle_area (checks ev e area) area (stored ev e area)

-- "Fresh end-point p (above 7: 1)"
unfoldable pub fresh_step : ℕ → Answer
fresh_step p = settle (check 1 (not (leb p 7)) ∷ []) (fresh p) (accepted (fresh p))
