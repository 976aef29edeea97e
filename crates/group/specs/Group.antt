-- "The group of end-points and channels": at most eight end-points with different numbers, each with a word area that nobody else writes, the channels between
-- them, and what may happen there. The channels keep order, add nothing and lose only a tail; the membership service may say anything. Assumes nothing.
use Rattle.std.specs.Prelude.{ℕ, ◌-◌, Bool, true, false, not, cond, ◌&&◌, List, [], ◌∷◌, ◌++◌, eqb, leb, length, take as first_of}
use Rattle.std.proofs.Math.Option.{Option, none, some}
use Rattle.below.specs.Below.{all_below}
use Rattle.views.specs.Sets.{has}
use Rattle.messages.specs.declared.Message.{Message}
use Rattle.endpoint.specs.declared.EndPoint.{EndPoint}
use Rattle.endpoint.specs.declared.Answer.{Answer}
use Rattle.endpoint.specs.Fresh.{fresh}
use Rattle.endpoint.specs.Give.{batch}
use Rattle.endpoint.specs.Steps.{Event, send, block_ok, start_change, membership_view, receive, ask_to_block, declare, announce, pass_out, sync, forward, give_out, install, step, area_after}

-- an end-point and its word area
pub record Desk : Type 0 where
  pub ep : EndPoint
  pub area : List ℕ

-- for each number perhaps a desk; the channel from each to each, oldest message first
pub record Group : Type 0 where
  pub desks : ℕ → Option Desk
  pub channel : ℕ → ℕ → List Message

-- x at k, and elsewhere as it was
unfoldable pub put : {A : Type 0} → ℕ → A → (ℕ → A) → ℕ → A
put k x f n = cond (eqb n k) x (f n)

-- ---- the start

-- who takes part, with what area: for each number perhaps one
abbrev pub Areas : Type 0
Areas = ℕ → Option (List ℕ)

-- "a lent area of exactly 4,096 words", of any content
unfoldable pub fits : Option (List ℕ) → Bool
fits none = true
fits (some area) = eqb (length area) 4096

unfoldable pub all_fit : Areas → Bool
all_fit areas = all_below (λ p. fits (areas p)) 8

-- "Fresh end-point p", where p takes part
unfoldable pub fresh_desk : ℕ → Option (List ℕ) → Option Desk
fresh_desk p none = none
fresh_desk p (some area) = some (record { ep = fresh p; area = area })

-- numbers 0 to 7, nothing on its way
unfoldable pub start : Areas → Group
start areas = record { desks = λ p. cond (leb p 7) (fresh_desk p (areas p)) none; channel = λ p q. [] }

-- ---- what may happen

pub data GroupStep : Type 0 where
  -- p takes a step other than receive, with any input whatever
  take : ℕ → Event → GroupStep
  -- p gives out of q, as much as there is room for
  take_batch : ℕ → ℕ → ℕ → GroupStep
  -- p receives the head of the channel from q
  receive_head : ℕ → ℕ → GroupStep
  -- the channel from p to q loses its last so many messages
  lose : ℕ → ℕ → ℕ → GroupStep

unfoldable pub is_receive : Event → Bool
is_receive (send w) = false
is_receive block_ok = false
is_receive (start_change n s) = false
is_receive (membership_view v) = false
is_receive (receive q m) = true
is_receive ask_to_block = false
is_receive declare = false
is_receive announce = false
is_receive pass_out = false
is_receive sync = false
is_receive (forward q r) = false
is_receive (give_out q) = false
is_receive install = false

-- the desk's answer to a step, and the desk after it: where it is refused, the same
unfoldable pub answer : Event → Desk → Answer
answer ev d = step ev d.ep d.area

unfoldable pub desk_after : Event → Desk → Desk
desk_after ev d = record { ep = (answer ev d).ep; area = area_after ev d.ep d.area }

unfoldable pub is_accepted : Event → Desk → Bool
is_accepted ev d = eqb (answer ev d).number 0

-- an answer without a message has a blank one, of kind 0
unfoldable pub sent_to : Answer → ℕ → Bool
sent_to a q = not (eqb a.message.kind 0) && has a.set q

-- p's message at the end of the channel to each member of its destination set
unfoldable pub with_sent : ℕ → Answer → (ℕ → ℕ → List Message) → ℕ → ℕ → List Message
with_sent p a channel = put p (λ q. cond (sent_to a q) (channel p q ++ (a.message ∷ [])) (channel p q)) channel

-- the channel from p to q is now this
unfoldable pub with_channel : ℕ → ℕ → List Message → (ℕ → ℕ → List Message) → ℕ → ℕ → List Message
with_channel p q messages channel = put p (put q messages (channel p)) channel

-- p, whose desk is d, takes a step
unfoldable pub takes : ℕ → Event → Desk → Group → Group
takes p ev d g = record { desks = put p (some (desk_after ev d)) g.desks; channel = with_sent p (answer ev d) g.channel }

unfoldable pub takes_batch : ℕ → ℕ → ℕ → Desk → Group → Group
takes_batch p q room d g = record { desks = put p (some (record { ep = (batch d.ep d.area q room).ep; area = d.area })) g.desks; channel = g.channel }

-- it receives what stands first in the channel from q: "a refused message stays at the head of its channel"
unfoldable pub receives : ℕ → ℕ → List Message → Desk → Group → Group
receives p q [] d g = g
receives p q (m ∷ rest) d g =
    cond (is_accepted (receive q m) d) (record { desks = put p (some (desk_after (receive q m) d)) g.desks; channel = with_channel q p rest g.channel }) g

-- its channel to q loses the last k messages: only "towards someone outside the sender's declared set"
unfoldable pub loses : ℕ → ℕ → ℕ → Desk → Group → Group
loses p q k d g =
    cond (has d.ep.declared q) g
    (record { desks = g.desks; channel = with_channel p q (first_of (length (g.channel p q) - k) (g.channel p q)) g.channel })

-- what the desk there does: nothing where there is none
unfoldable pub if_there : Option Desk → (Desk → Group → Group) → Group → Group
if_there none f g = g
if_there (some d) f g = f d g

-- one step: one that may not be taken changes nothing
unfoldable pub next : GroupStep → Group → Group
next (take p ev) g = cond (is_receive ev) g (if_there (g.desks p) (takes p ev) g)
next (take_batch p q room) g = if_there (g.desks p) (takes_batch p q room) g
next (receive_head p q) g = if_there (g.desks p) (receives p q (g.channel q p)) g
next (lose p q k) g = if_there (g.desks p) (loses p q k) g

-- "steps in any order"
unfoldable pub run : List GroupStep → Group → Group
run [] g = g
run (s ∷ steps) g = run steps (next s g)
