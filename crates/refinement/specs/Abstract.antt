-- What the automaton sees of an end-point with its area and its logs, of a message and of a group. What an end-point does not remember is added: the words that
-- came since a sender's view message (for a spent view none are counted), the records that it made, the list of its moves. Assumes nothing.
use Rattle.std.specs.Prelude.{ℕ, ◌+◌, ◌-◌, cond, List, [], map, eqb, get_or}
use Rattle.std.proofs.Math.Option.{Option, none, some}
use Rattle.automaton.specs.State as Automaton
use Rattle.automaton.specs.Actions as Actions
use Rattle.automaton.specs.Group as Abstract
use Rattle.views.specs.Cuts.{count_of}
use Rattle.messages.specs.declared.Message.{Message}
use Rattle.records.specs.declared.Record.{Record}
use Rattle.records.specs.declared.Records.{Records}
use Rattle.records.specs.Records.{holds_record, the_record}
use Rattle.slots.specs.declared.Slots.{Slots}
use Rattle.slots.specs.Slots.{place, slot_of, held_word}
use Rattle.endpoint.specs.declared.EndPoint.{EndPoint}
use Rattle.endpoint.specs.declared.Answer.{Answer}
use Rattle.endpoint.specs.State.{is_pending, is_told}
use Rattle.endpoint.specs.Sound.{heard_from}
use Rattle.endpoint.specs.Fresh.{fresh}
use Rattle.endpoint.specs.Receive.{by_kind}
use Rattle.endpoint.specs.Steps.{Event, send, block_ok, start_change, membership_view, receive, ask_to_block, declare, announce, pass_out, sync, forward, give_out, install}
use Rattle.group.specs.Group.{Desk, sent_to}
use Rattle.group.specs.Group as Concrete
use Rattle.group.specs.Logs.{Log, Logs}
use Rattle.refinement.specs.Views.{Normal, normal, view_of, member, views}

-- the word of r in a view at a position, from 0
unfoldable pub word_in : Slots → List ℕ → Normal → ℕ → ℕ → Option ℕ
word_in ss area x r i = cond (held_word ss (view_of x) r (i + 1)) (some (get_or area (place (slot_of ss (view_of x)) r (i + 1)) 0)) none

-- a record, and the one of a member under a number
unfoldable pub seen : Record → Automaton.Record views
seen x = record { view = normal x.view; cut = λ r. count_of x.cut r }

unfoldable pub record_in : Records → ℕ → ℕ → Option (Automaton.Record views)
record_in rs m j = cond (holds_record rs m j) (some (seen (the_record rs m j))) none

unfoldable pub block_in : ℕ → Automaton.BlockStatus
block_in b = cond (eqb b 2) Automaton.blocked (cond (eqb b 0) Automaton.unblocked Automaton.requested)

-- what an end-point does not remember
pub record Ghost : Type 0 where
  pub came : ℕ → ℕ
  pub made : ℕ → Option (Automaton.Record views)
  pub moves : List (Automaton.Move views)

abbrev pub no_ghost : Ghost
no_ghost = record { came = λ q. 0; made = λ j. none; moves = [] }

abbrev pub state : EndPoint → List ℕ → Log → Ghost → Automaton.State views
state e area l g =
    record {
      current = normal e.current;
      membership = normal e.membership;
      latest = e.change.number;
      pending = is_pending e;
      block = block_in e.change.block;
      declared = λ q. member e.declared q;
      announced = is_told e;
      passed = e.passed;
      heard = λ q. normal (heard_from e q);
      received = g.came;
      given = λ r. get_or e.given r 0;
      records = record_in e.records;
      words = word_in e.slots area;
      accepted = λ x. l.accepted (view_of x);
      gave_out = λ x r. l.given (view_of x) r;
      made = g.made;
      moves = g.moves;
    }

unfoldable pub message : Message → Actions.Message views
message m =
    by_kind m.kind (Actions.view_msg (normal m.view)) (Actions.app_msg m.word) (Actions.sync_msg m.number (record { view = normal m.view; cut = λ r. count_of m.cut r }))
    (Actions.fwd_msg m.sender (normal m.view) (m.index - 1) m.word)

-- what a step does with the channels
abbrev pub sent : Answer → Actions.Label views
sent a = Actions.sends (sent_to a) (message a.message)

unfoldable pub label : Event → Answer → Actions.Label views
label (send w) a = Actions.quiet
label block_ok a = Actions.quiet
label (start_change n s) a = Actions.quiet
label (membership_view v) a = Actions.quiet
label (receive q m) a = Actions.receives q (message m)
label ask_to_block a = Actions.quiet
label declare a = Actions.quiet
label announce a = sent a
label pass_out a = sent a
label sync a = sent a
label (forward q r) a = sent a
label (give_out q) a = Actions.quiet
label install a = Actions.quiet

-- who takes no part is as if fresh, with no area
unfoldable pub desk_of : ℕ → Option Desk → Desk
desk_of p none = record { ep = fresh p; area = [] }
desk_of p (some d) = d

unfoldable pub group : Concrete.Group → Logs → (ℕ → Ghost) → Abstract.Group views
group g ls gs =
    record {
      member = λ p. state (desk_of p (g.desks p)).ep (desk_of p (g.desks p)).area (ls p) (gs p);
      channel = λ a b. map message (g.channel a b);
    }
