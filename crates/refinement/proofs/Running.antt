-- The group's steps one by one: a step of an end-point, a batch, a receive, a loss; then any steps, from the start. Assumes nothing.
use Prim.Native.Nat.{ℕ, zero, suc, ◌+◌, ◌-◌, ◌≤◌}
use native.Mathlib.Omega.{arith}
use native.Mathlib.Decide.{ℕ_discrete}
use mathlib.Core.Bool.{Bool, true, false, cond}
use mathlib.Core.List.{List, [], ◌∷◌, ◌++◌, map}
use mathlib.Core.Option.{Option, none, some, some-injective, none-ne-some}
use mathlib.Core.Path.{◌≡◌, refl, sym, ap, ◌∙◌, subst}
use mathlib.Core.Logic.{⊎_elim}
use lib.Dec.{leb}
use lib.ListN.{length, get_or, replicate, take as first_of, drop, take-append-drop}
use borrow.Author.Tests.{eqb-true, leb-true, le-ltb}
use Rattle.below.proofs.Tests.{clash, side}
use Rattle.automaton.specs.Actions as Actions
use Rattle.automaton.specs.Group as Abstract
use Rattle.views.specs.declared.View.{View}
use Rattle.views.specs.Sets.{has, only}
use Rattle.views.proofs.Members.{only_has}
use Rattle.marks.specs.declared.Marks.{Marks}
use Rattle.marks.specs.Marks.{held_in, no_marks}
use Rattle.marks.proofs.Slot.{cleared_held}
use Rattle.messages.specs.declared.Message.{Message}
use Rattle.records.specs.Records.{no_records, record_count, find_record, holds_record}
use Rattle.records.proofs.Rule.{none_count, none_shaped}
use Rattle.records.proofs.Past.{count_past}
use Rattle.slots.specs.Slots.{marks_at, slot_of, held_word}
use Rattle.endpoint.specs.declared.EndPoint.{EndPoint}
use Rattle.endpoint.specs.declared.Answer.{Answer}
use Rattle.endpoint.specs.Fresh.{fresh, fresh_slots}
use Rattle.endpoint.specs.Give.{gives_next, batch}
use Rattle.endpoint.specs.Steps.{Event, send, block_ok, start_change, membership_view, receive, ask_to_block, declare, announce, pass_out, sync, forward, give_out, install, effect, step}
use Rattle.endpoint.proofs.Start.{fresh_sound, fresh_shaped}
use Rattle.endpoint.proofs.Verdicts.{accepted_effect}
use Rattle.group.specs.Group.{Desk, Group, Areas, GroupStep, take, take_batch, receive_head, lose, put, fresh_desk, start, is_receive, answer, desk_after, is_accepted, sent_to, with_sent, with_channel, takes, receives, loses, if_there, next, run}
use Rattle.group.specs.Logs.{Log, Logs, no_logs, entry, log_step, log_there, log_next, logs_from}
use Rattle.group.proofs.Refused.{refused_desk, refused_sends}
use Rattle.group.proofs.Batches.{give_outs, batch_run, batch_logs}
use Rattle.refinement.specs.Views.{Normal, normal, view_of, member, views}
use Rattle.refinement.specs.Abstract.{no_ghost, state, label, message, desk_of, group, word_in, record_in}
use Rattle.refinement.proofs.Sameness.{member_low, member_has, not_member}
use Rattle.refinement.proofs.Words.{word_none}
use Rattle.refinement.proofs.Records.{record_none}
use Rattle.refinement.proofs.Parts.{put_there, put_else}
use Rattle.refinement.proofs.Plain.{zero_at}
use Rattle.refinement.proofs.Simulation.{Good, Sim, sim_to, sim_act}

-- ---- tables and channels

put_same : {A : Type 0} (k : ℕ) (x : A) (f : ℕ → A) → f k ≡ x → put k x f ≡ f
put_same k x f h = λ i n. go n (ℕ_discrete n k) i
  where
    go : (n : ℕ) → Dec (n ≡ k) → put k x f n ≡ f n
    go n (yes e) = rw e (put_there k x f ∙ sym h)
    go n (no e) = put_else k x f n e

map_end : (xs : List Message) (m : Message) → map message (xs ++ (m ∷ [])) ≡ map message xs ++ (message m ∷ [])
map_end [] m = refl
map_end (x ∷ xs) m = ap (λ z. message x ∷ z) (map_end xs m)

map_both : (xs ys : List Message) → map message (xs ++ ys) ≡ map message xs ++ map message ys
map_both [] ys = refl
map_both (x ∷ xs) ys = ap (λ z. message x ∷ z) (map_both xs ys)

module _ (p : ℕ) (a : Answer) (c : ℕ → ℕ → List Message) where
  abbrev row : ℕ → List Message
  row q = cond (sent_to a q) (c p q ++ (a.message ∷ [])) (c p q)

  sent_own : (q : ℕ) → with_sent p a c p q ≡ row q
  unfolding with_sent
  sent_own q = ap (λ (f : ℕ → List Message). f q) (put_there p row c)

  sent_yes : (q : ℕ) → sent_to a q ≡ true → with_sent p a c p q ≡ c p q ++ (a.message ∷ [])
  sent_yes q t = sent_own q ∙ rw t refl

  sent_no : (q : ℕ) → sent_to a q ≡ false → with_sent p a c p q ≡ c p q
  sent_no q t = sent_own q ∙ rw t refl

  sent_else : (x y : ℕ) → (x ≡ p → ⊥) → with_sent p a c x y ≡ c x y
  unfolding with_sent
  sent_else x y ne = ap (λ (f : ℕ → List Message). f y) (put_else p row c x ne)

  sent_none : ((q : ℕ) → sent_to a q ≡ false) → (x y : ℕ) → with_sent p a c x y ≡ c x y
  sent_none n x y = go (ℕ_discrete x p)
    where
      go : Dec (x ≡ p) → with_sent p a c x y ≡ c x y
      go (yes e) = rw e (sent_no y (n y))
      go (no e) = sent_else x y e

  abbrev before : ℕ → ℕ → List (Actions.Message views)
  before x y = map message (c x y)

  abbrev after : ℕ → ℕ → List (Actions.Message views)
  after x y = map message (with_sent p a c x y)

  carried_quiet : ((q : ℕ) → sent_to a q ≡ false) → (x y : ℕ) → after x y ≡ before x y
  carried_quiet n x y = ap (map message) (sent_none n x y)

  carried_sent : Abstract.ChannelsAfter p (Actions.sends (sent_to a) (message a.message)) before after
  carried_sent = (λ y t. ap (map message) (sent_yes y t) ∙ map_end (c p y) a.message, λ y t. ap (map message) (sent_no y t), λ x y n. ap (map message) (sent_else x y n))

carried_step : (p : ℕ) (ev : Event) → is_receive ev ≡ false → (e : EndPoint) (area : List ℕ) (c : ℕ → ℕ → List Message)
    → Abstract.ChannelsAfter p (label ev (effect ev e area)) (λ x y. map message (c x y)) (λ x y. map message (with_sent p (effect ev e area) c x y))
unfolding is_receive label effect sent_to gives_next
carried_step p (send w) n e area c = carried_quiet p (effect (send w) e area) c (λ q. refl)
carried_step p block_ok n e area c = carried_quiet p (effect block_ok e area) c (λ q. refl)
carried_step p (start_change k s) n e area c = carried_quiet p (effect (start_change k s) e area) c (λ q. refl)
carried_step p (membership_view v) n e area c = carried_quiet p (effect (membership_view v) e area) c (λ q. refl)
carried_step p (receive q m) n e area c = clash {b = true} refl n
carried_step p ask_to_block n e area c = carried_quiet p (effect ask_to_block e area) c (λ q. refl)
carried_step p declare n e area c = carried_quiet p (effect declare e area) c (λ q. refl)
carried_step p announce n e area c = carried_sent p (effect announce e area) c
carried_step p pass_out n e area c = carried_sent p (effect pass_out e area) c
carried_step p sync n e area c = carried_sent p (effect sync e area) c
carried_step p (forward q r) n e area c = carried_sent p (effect (forward q r) e area) c
carried_step p (give_out q) n e area c = carried_quiet p (effect (give_out q) e area) c (λ r. refl)
carried_step p install n e area c = carried_quiet p (effect install e area) c (λ q. refl)

-- ---- a step of p

receive_enters : (ev : Event) (e : EndPoint) (a : Answer) (l : Log) → is_receive ev ≡ true → entry ev e a l ≡ l
unfolding is_receive entry
receive_enters (send w) e a l n = clash n refl
receive_enters block_ok e a l n = clash n refl
receive_enters (start_change k s) e a l n = clash n refl
receive_enters (membership_view v) e a l n = clash n refl
receive_enters (receive q m) e a l n = refl
receive_enters ask_to_block e a l n = clash n refl
receive_enters declare e a l n = clash n refl
receive_enters announce e a l n = clash n refl
receive_enters pass_out e a l n = clash n refl
receive_enters sync e a l n = clash n refl
receive_enters (forward q r) e a l n = clash n refl
receive_enters (give_out q) e a l n = clash n refl
receive_enters install e a l n = clash n refl

is_receive_lem : (q : ℕ) (m : Message) → is_receive (receive q m) ≡ true
unfolding is_receive
is_receive_lem q m = refl

labelled : {p : ℕ} {c : ℕ → ℕ → List (Actions.Message views)} (q : ℕ) (m : Message) (d : Desk) (channel' : ℕ → ℕ → List Message)
    → Abstract.ChannelsAfter p (Actions.receives q (message m)) c (λ a b. map message (channel' a b))
    → Abstract.ChannelsAfter p (label (receive q m) (effect (receive q m) d.ep d.area)) c (λ a b. map message (channel' a b))
unfolding label
labelled q m d channel' h = h

batch_none : (p q room : ℕ) (c : Group) (ls : Logs) → c.desks p ≡ none → Sim c ls → Sim (next (take_batch p q room) c) (log_next (take_batch p q room) c ls)
unfolding next log_next if_there log_there
batch_none p q room c ls e S = rw e S

module _ (c : Group) (ls : Logs) (S : Sim c ls) (p : ℕ) where
  accepted_zero : (ev : Event) (d : Desk) → is_accepted ev d ≡ true → (step ev d.ep d.area).number ≡ 0
  unfolding is_accepted answer
  accepted_zero ev d t = eqb-true (step ev d.ep d.area).number 0 t

  answer_is : (ev : Event) (d : Desk) → is_accepted ev d ≡ true → effect ev d.ep d.area ≡ answer ev d
  unfolding answer
  answer_is ev d t = sym (accepted_effect ev d.ep d.area (accepted_zero ev d t)).0

  log_kept : (ev : Event) (d : Desk) → log_step ev d (ls p) ≡ ls p → ls ≡ put p (log_step ev d (ls p)) ls
  log_kept ev d e = sym (put_same p (log_step ev d (ls p)) ls (sym e))

  takes_accepted : (ev : Event) (d : Desk) → c.desks p ≡ some d → is_receive ev ≡ false → is_accepted ev d ≡ true → Sim (takes p ev d c) (put p (log_step ev d (ls p)) ls)
  unfolding takes log_step
  takes_accepted ev d there n t =
      sim_to
      (λ i. record { desks = put p (some (desk_after ev d)) c.desks; channel = with_sent p (answer_is ev d t i) c.channel })
      (rw t (λ i. put p (entry ev d.ep (answer_is ev d t i) (ls p)) ls))
      (sim_act c ls S p d there ev (accepted_zero ev d t) (with_sent p (effect ev d.ep d.area) c.channel) (carried_step p ev n d.ep d.area c.channel))

  takes_refused : (ev : Event) (d : Desk) → c.desks p ≡ some d → is_accepted ev d ≡ false → Sim (takes p ev d c) (put p (log_step ev d (ls p)) ls)
  unfolding takes log_step
  takes_refused ev d there t =
      sim_to
      (sym (λ i. record { desks = put_same p (some (desk_after ev d)) c.desks (there ∙ ap some (sym (refused_desk ev d t))) i; channel = λ x y. sent_none p (answer ev d) c.channel (refused_sends ev d t) x y i }))
      (log_kept ev d (rw t refl))
      S

  kept_log : (ev : Event) (d : Desk) → is_receive ev ≡ true → log_step ev d (ls p) ≡ ls p
  unfolding log_step
  kept_log ev d r = rw (receive_enters ev d.ep (answer ev d) (ls p) r) (go (is_accepted ev d))
    where
      go : (b : Bool) → cond b (ls p) (ls p) ≡ ls p
      go true = refl
      go false = refl

  pub sim_take : (ev : Event) → Sim (next (take p ev) c) (log_next (take p ev) c ls)
  unfolding next log_next if_there log_there
  sim_take ev = go (is_receive ev) refl (c.desks p) refl
    where
      go : (b : Bool) → is_receive ev ≡ b → (o : Option Desk) → c.desks p ≡ o → Sim (cond (is_receive ev) c (if_there (c.desks p) (takes p ev) c)) (log_there p (c.desks p) (log_step ev) ls)
      go true r none e = rw (r, e) S
      go true r (some d) e = rw (r, e) (sim_to refl (log_kept ev d (kept_log ev d r)) S)
      go false r none e = rw (r, e) S
      go false r (some d) e = rw (r, e) (some_there (is_accepted ev d) refl)
        where
          some_there : (x : Bool) → is_accepted ev d ≡ x → Sim (takes p ev d c) (put p (log_step ev d (ls p)) ls)
          some_there true t = takes_accepted ev d e r t
          some_there false t = takes_refused ev d e t

  -- ---- a receive

  module _ (q : ℕ) where
    abbrev rest' : List Message → ℕ → ℕ → List Message
    rest' rest = with_channel q p rest c.channel

    carried_receive : (m : Message) (rest : List Message) → c.channel q p ≡ m ∷ rest
        → Abstract.ChannelsAfter p (Actions.receives q (message m)) (λ a b. map message (c.channel a b)) (λ a b. map message (rest' rest a b))
    unfolding with_channel
    carried_receive m rest h = (
      ap (map message) h ∙ sym (ap (λ z. message m ∷ map message z) (ap (λ (f : ℕ → List Message). f p) (put_there q (put p rest (c.channel q)) c.channel) ∙ put_there p rest (c.channel q))),
      λ a b ne. ap (map message) (else a b ne (ℕ_discrete a q) (ℕ_discrete b p)),
    )
      where
        else : (a b : ℕ) → (a ≡ q → b ≡ p → ⊥) → Dec (a ≡ q) → Dec (b ≡ p) → put q (put p rest (c.channel q)) c.channel a b ≡ c.channel a b
        else a b ne (yes x) (yes y) = absurd (ne x y)
        else a b ne (yes x) (no y) = rw x (ap (λ (f : ℕ → List Message). f b) (put_there q (put p rest (c.channel q)) c.channel) ∙ put_else p rest (c.channel q) b y)
        else a b ne (no x) y = ap (λ (f : ℕ → List Message). f b) (put_else q (put p rest (c.channel q)) c.channel a x)

    pub sim_receive : Sim (next (receive_head p q) c) (log_next (receive_head p q) c ls)
    unfolding next log_next if_there receives
    sim_receive = go (c.desks p) refl (c.channel q p) refl
      where
        go : (o : Option Desk) → c.desks p ≡ o → (ms : List Message) → c.channel q p ≡ ms → Sim (if_there (c.desks p) (receives p q (c.channel q p)) c) ls
        go none e ms h = rw e S
        go (some d) e [] h = rw (e, h) S
        go (some d) e (m ∷ rest) h = rw (e, h) (taken (is_accepted (receive q m) d) refl)
          where
            taken : (x : Bool) → is_accepted (receive q m) d ≡ x
                → Sim (cond (is_accepted (receive q m) d) (record { desks = put p (some (desk_after (receive q m) d)) c.desks; channel = rest' rest }) c) ls
            taken true t = rw t (sim_to refl (put_same p _ ls (sym (receive_enters (receive q m) d.ep (effect (receive q m) d.ep d.area) (ls p) (is_receive_lem q m))))
                (sim_act c ls S p d e (receive q m) (accepted_zero (receive q m) d t) (rest' rest) (labelled q m d (rest' rest) (carried_receive m rest h))))
            taken false t = rw t S

  -- ---- a loss

  module _ (q k : ℕ) where
    abbrev kept : List Message
    kept = first_of (length (c.channel p q) - k) (c.channel p q)

    abbrev channel' : ℕ → ℕ → List Message
    channel' = with_channel p q kept c.channel

    kept_there : channel' p q ≡ kept
    unfolding with_channel
    kept_there = ap (λ (f : ℕ → List Message). f q) (put_there p (put q kept (c.channel p)) c.channel) ∙ put_there q kept (c.channel p)

    kept_else : (a b : ℕ) → (a ≡ p → b ≡ q → ⊥) → channel' a b ≡ c.channel a b
    unfolding with_channel
    kept_else a b ne = go (ℕ_discrete a p) (ℕ_discrete b q)
      where
        go : Dec (a ≡ p) → Dec (b ≡ q) → put p (put q kept (c.channel p)) c.channel a b ≡ c.channel a b
        go (yes x) (yes y) = absurd (ne x y)
        go (yes x) (no y) = rw x (ap (λ (f : ℕ → List Message). f b) (put_there p (put q kept (c.channel p)) c.channel) ∙ put_else q kept (c.channel p) b y)
        go (no x) y = ap (λ (f : ℕ → List Message). f b) (put_else p (put q kept (c.channel p)) c.channel a x)

    abbrev less : Group
    less = record { desks = c.desks; channel = channel' }

    sim_less : (d : Desk) → c.desks p ≡ some d → has d.ep.declared q ≡ false → Sim less ls
    unfolding group desk_of
    sim_less d e u = record {
      ghosts = S.ghosts;
      reach = Abstract.then S.reach (Abstract.lose p q (map message (drop (length (c.channel p q) - k) (c.channel p q)))
          (rw e (not_member d.ep.declared q u)) (λ r. refl)
          (sym (ap (λ z. map message z ++ map message (drop (length (c.channel p q) - k) (c.channel p q))) kept_there
          ∙ sym (map_both kept (drop (length (c.channel p q) - k) (c.channel p q)))
          ∙ ap (map message) (take-append-drop (length (c.channel p q) - k) (c.channel p q))))
          (λ a b ne. ap (map message) (kept_else a b ne)));
      good = S.good;
      listed = S.listed;
      alike = S.alike;
    }

    pub sim_lose : Sim (next (lose p q k) c) (log_next (lose p q k) c ls)
    unfolding next log_next if_there loses
    sim_lose = go (c.desks p) refl
      where
        go : (o : Option Desk) → c.desks p ≡ o → Sim (if_there (c.desks p) (loses p q k) c) ls
        go none e = rw e S
        go (some d) e = rw e (out (has d.ep.declared q) refl)
          where
            out : (x : Bool) → has d.ep.declared q ≡ x → Sim (cond (has d.ep.declared q) c less) ls
            out true t = rw t S
            out false t = rw t (sim_less d e t)

-- ---- any steps

module _ (p q : ℕ) where
  sim_gives : (n : ℕ) (c : Group) (ls : Logs) → Sim c ls → Sim (run (give_outs p q n) c) (logs_from (give_outs p q n) c ls)
  unfolding run logs_from
  sim_gives zero c ls S = S
  sim_gives (suc n) c ls S = sim_gives n (next (take p (give_out q)) c) (log_next (take p (give_out q)) c ls) (sim_take c ls S p (give_out q))

  sim_batch : (room : ℕ) (c : Group) (ls : Logs) → Sim c ls → Sim (next (take_batch p q room) c) (log_next (take_batch p q room) c ls)
  sim_batch room c ls S = go (c.desks p) refl
    where
      go : (o : Option Desk) → c.desks p ≡ o → Sim (next (take_batch p q room) c) (log_next (take_batch p q room) c ls)
      go none e = batch_none p q room c ls e S
      go (some d) e = sim_to (batch_run p q room d c e) (batch_logs p q room d c ls e) (sim_gives (length (batch d.ep d.area q room).words) c ls S)

pub sim_next : (s : GroupStep) (c : Group) (ls : Logs) → Sim c ls → Sim (next s c) (log_next s c ls)
sim_next (take p ev) c ls S = sim_take c ls S p ev
sim_next (take_batch p q room) c ls S = sim_batch p q room c ls S
sim_next (receive_head p q) c ls S = sim_receive c ls S p q
sim_next (lose p q k) c ls S = sim_lose c ls S p q k

pub sim_run : (steps : List GroupStep) (c : Group) (ls : Logs) → Sim c ls → Sim (run steps c) (logs_from steps c ls)
unfolding run logs_from
sim_run [] c ls S = S
sim_run (s ∷ steps) c ls S = sim_run steps (next s c) (log_next s c ls) (sim_next s c ls S)

-- ---- the start

holds_none : (m j : ℕ) → record_count no_records m ≡ 0 → holds_record no_records m j ≡ false
unfolding holds_record
holds_none m j e = le-ltb (find_record no_records m j) (record_count no_records m) (omega arith)

no_record_lem : (m j : ℕ) → record_in no_records m j ≡ none
no_record_lem m j = record_none no_records m j (lacks (⊎_elim (λ l. none_count m l) (λ g. count_past no_records m none_shaped.counts_length g) (side m 8)))
  where
    lacks : record_count no_records m ≡ 0 → holds_record no_records m j ≡ false
    lacks e = holds_none m j e

marks_none : (n s : ℕ) → get_or (replicate n no_marks) s no_marks ≡ no_marks
marks_none zero s = refl
marks_none (suc n) zero = refl
marks_none (suc n) (suc s) = marks_none n s

fresh_held : (p : ℕ) (x : Normal) (r i : ℕ) → held_word (fresh_slots p) (view_of x) r (i + 1) ≡ false
unfolding held_word marks_at fresh_slots
fresh_held p x r i = ap (λ (m : Marks). held_in m r (i + 1)) (marks_none 4 (slot_of (fresh_slots p) (view_of x))) ∙ cleared_held r (i + 1)

only_one : (p q : ℕ) → member (only p) q ≡ true → q ≡ p
only_one p q h = eqb-true q p (sym (only_has p q (member_low (only p) q h)) ∙ member_has (only p) q h)

no_word : (p : ℕ) (area : List ℕ) (x : Normal) (r i : ℕ) → word_in (fresh_slots p) area x r i ≡ none
no_word p area x r i = word_none (fresh_slots p) area x r i (fresh_held p x r i)

fresh_begins : (p : ℕ) (area : List ℕ) → Abstract.Fresh views p (state (fresh p) area (no_logs p) no_ghost)
unfolding fresh no_logs normal
fresh_begins p area = record {
  alone = λ q h. only_one p q h;
  declared = λ q h. h;
  passed = refl;
  pending = refl;
  given = zero_at 8;
  records = no_record_lem;
  words = no_word p area;
  accepted = λ v. refl;
  gave_out = λ v q. refl;
  made = λ j. refl;
  moves = refl;
}

desk_begins : (p : ℕ) (o : Option (List ℕ)) → Abstract.Fresh views p (state (desk_of p (fresh_desk p o)).ep (desk_of p (fresh_desk p o)).area (no_logs p) no_ghost)
unfolding desk_of fresh_desk
desk_begins p none = fresh_begins p []
desk_begins p (some area) = fresh_begins p area

start_empty : (areas : Areas) (a b : ℕ) → (group (start areas) no_logs (λ q. no_ghost)).channel a b ≡ []
unfolding group start
start_empty areas a b = refl

fresh_good : (p : ℕ) (area : List ℕ) → p ≤ 7 → Good p (record { ep = fresh p; area = area }) no_ghost
unfolding fresh
fresh_good p area l = record { sound_now = fresh_sound p l; shaped = fresh_shaped p; own = refl; counts = λ q k. zero_at 8 q }

start_good : (areas : Areas) (p : ℕ) (d : Desk) → (start areas).desks p ≡ some d → Good p d no_ghost
unfolding start fresh_desk
start_good areas p d e = go (leb p 7) refl e
  where
    some_good : leb p 7 ≡ true → (o : Option (List ℕ)) → fresh_desk p o ≡ some d → Good p d no_ghost
    some_good l none k = absurd (none-ne-some d k)
    some_good l (some area) k = subst (λ (x : Desk). Good p x no_ghost) (some-injective (record { ep = fresh p; area = area }) d k) (fresh_good p area (leb-true p 7 l))

    go : (b : Bool) → leb p 7 ≡ b → cond b (fresh_desk p (areas p)) none ≡ some d → Good p d no_ghost
    go true l k = some_good l (areas p) k
    go false l k = absurd (none-ne-some d k)

no_moves : (p : ℕ) (u u' : View) → (no_logs p).moved u u' ≡ true → {A : Type 0} → A
unfolding no_logs
no_moves p u u' t = clash t refl

no_words : (p : ℕ) (u v : View) → (no_logs p).accepted u ≡ (no_logs p).accepted v
unfolding no_logs
no_words p u v = refl

no_given : (p : ℕ) (u v : View) (r : ℕ) → (no_logs p).given u r ≡ (no_logs p).given v r
unfolding no_logs
no_given p u v r = refl

-- at the start the end-point of each is fresh
start_fresh : (areas : Areas) (p : ℕ) → Abstract.Fresh views p ((group (start areas) no_logs (λ q. no_ghost)).member p)
unfolding group start desk_of
start_fresh areas p = go (leb p 7)
  where
    go : (b : Bool) → Abstract.Fresh views p (state (desk_of p (cond b (fresh_desk p (areas p)) none)).ep (desk_of p (cond b (fresh_desk p (areas p)) none)).area (no_logs p) no_ghost)
    go true = desk_begins p (areas p)
    go false = fresh_begins p []

pub sim_start : (areas : Areas) → Sim (start areas) no_logs
sim_start areas = record {
  ghosts = λ p. no_ghost;
  reach = Abstract.begin (start_fresh areas) (start_empty areas);
  good = start_good areas;
  listed = λ p u u' t. no_moves p u u' t;
  alike = λ p. record { accepted = λ u v t. no_words p u v; given = λ u v r t. no_given p u v r };
}
