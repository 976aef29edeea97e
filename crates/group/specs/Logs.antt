-- What demand 3 speaks of, written down beside the group as it goes and read by nothing in it: for each end-point the words accepted from its application and
-- the words given out in each view, and its moves from view to view. Views are told apart by all three parts. Assumes nothing.
use Rattle.std.specs.Prelude.{ℕ, Bool, false, cond, ◌&&◌, ◌||◌, List, [], ◌∷◌, ◌++◌, eqb}
use Rattle.std.proofs.Math.Option.{Option, none, some}
use Rattle.views.specs.declared.View.{View}
use Rattle.views.specs.Views.{same}
use Rattle.endpoint.specs.declared.EndPoint.{EndPoint}
use Rattle.endpoint.specs.declared.Answer.{Answer}
use Rattle.endpoint.specs.Give.{batch}
use Rattle.endpoint.specs.Steps.{Event, send, block_ok, start_change, membership_view, receive, ask_to_block, declare, announce, pass_out, sync, forward, give_out, install}
use Rattle.group.specs.Group.{Desk, Group, GroupStep, take, take_batch, receive_head, lose, put, answer, is_accepted, next}

-- in each view the words accepted from the application and those given out of each sender, first one first; whether it went straight from a view to another
pub record Log : Type 0 where
  pub accepted : View → List ℕ
  pub given : View → ℕ → List ℕ
  pub moved : View → View → Bool

abbrev pub Logs : Type 0
Logs = ℕ → Log

unfoldable pub no_logs : Logs
no_logs p = record { accepted = λ v. []; given = λ v r. []; moved = λ v v'. false }

-- ---- entries

-- in view v it accepted word w
unfoldable pub accepts : View → ℕ → Log → Log
accepts v w l =
    record {
      accepted = λ u. cond (same u v) (l.accepted u ++ (w ∷ [])) (l.accepted u);
      given = l.given;
      moved = l.moved;
    }

-- in view v it gave out these words of q
unfoldable pub gives_out : View → ℕ → List ℕ → Log → Log
gives_out v q words l =
    record {
      accepted = l.accepted;
      given = λ u r. cond (same u v && eqb r q) (l.given u r ++ words) (l.given u r);
      moved = l.moved;
    }

-- it moved from view v to view v'
unfoldable pub moves : View → View → Log → Log
moves v v' l =
    record {
      accepted = l.accepted;
      given = l.given;
      moved = λ u u'. same u v && same u' v' || l.moved u u';
    }

-- ---- what a step enters

-- an accepted step of e with its answer: a send, a give-out and an install enter something
unfoldable pub entry : Event → EndPoint → Answer → Log → Log
entry (send w) e a l = accepts e.current w l
entry block_ok e a l = l
entry (start_change n s) e a l = l
entry (membership_view v) e a l = l
entry (receive q m) e a l = l
entry ask_to_block e a l = l
entry declare e a l = l
entry announce e a l = l
entry pass_out e a l = l
entry sync e a l = l
entry (forward q r) e a l = l
entry (give_out q) e a l = gives_out e.current q (a.word ∷ []) l
entry install e a l = moves e.current a.view l

unfoldable pub log_step : Event → Desk → Log → Log
log_step ev d l = cond (is_accepted ev d) (entry ev d.ep (answer ev d) l) l

-- a batch enters the give-outs that it equals
unfoldable pub log_batch : ℕ → ℕ → Desk → Log → Log
log_batch q room d l = gives_out d.ep.current q (batch d.ep d.area q room).words l

-- p's log, where p takes part
unfoldable pub log_there : ℕ → Option Desk → (Desk → Log → Log) → Logs → Logs
log_there p none f ls = ls
log_there p (some d) f ls = put p (f d (ls p)) ls

-- the logs after one step of a group: what receiving and loss do is in no log
unfoldable pub log_next : GroupStep → Group → Logs → Logs
log_next (take p ev) g ls = log_there p (g.desks p) (log_step ev) ls
log_next (take_batch p q room) g ls = log_there p (g.desks p) (log_batch q room) ls
log_next (receive_head p q) g ls = ls
log_next (lose p q k) g ls = ls

-- the logs after these steps of a group, from these
unfoldable pub logs_from : List GroupStep → Group → Logs → Logs
logs_from [] g ls = ls
logs_from (s ∷ steps) g ls = logs_from steps (next s g) (log_next s g ls)

unfoldable pub logs : List GroupStep → Group → Logs
logs steps g = logs_from steps g no_logs
