-- The automaton goes along with the group: after any steps from the start it has reached what it sees of the group. Assumes nothing.
use Prim.Native.Nat.{ℕ, ◌<◌}
use native.Mathlib.Omega.{arith}
use native.Mathlib.Decide.{ℕ_discrete}
use mathlib.Core.Bool.{Bool, true, false, cond, ◌&&◌}
use mathlib.Core.List.{List, [], ◌∷◌, ◌++◌, map}
use mathlib.Core.Option.{some, some-injective}
use mathlib.Core.Path.{◌≡◌, refl, sym, ap, ◌∙◌, subst}
use lib.Dec.{eqb}
use lib.ListN.{set}
use Rattle.automaton.specs.State as Automaton
use Rattle.automaton.specs.Actions as Actions
use Rattle.automaton.specs.Group as Abstract
use Rattle.views.specs.declared.View.{View}
use Rattle.views.specs.Views.{same}
use Rattle.views.proofs.Sameness.{same_left}
use Rattle.messages.specs.declared.Message.{Message}
use Rattle.endpoint.specs.declared.EndPoint.{EndPoint}
use Rattle.endpoint.specs.declared.Answer.{Answer}
use Rattle.endpoint.specs.Sound.{sound, heard_from}
use Rattle.endpoint.specs.Receive.{live, next_word, store_word, after_view, after_word, after_sync, after_forward, after_receive}
use Rattle.endpoint.specs.State.{with_heard}
use Rattle.endpoint.specs.Application.{after_send, after_block_ok}
use Rattle.endpoint.specs.Membership.{after_start, after_membership}
use Rattle.endpoint.specs.Change.{after_ask, after_declare, announces, passes, syncs}
use Rattle.endpoint.specs.Forward.{forwards}
use Rattle.endpoint.specs.Give.{gives_next}
use Rattle.endpoint.specs.Install.{after_install}
use Rattle.endpoint.specs.Steps.{Event, send, block_ok, start_change, membership_view, receive, ask_to_block, declare, announce, pass_out, sync, forward, give_out, install, effect, stored, step}
use Rattle.endpoint.proofs.Parts.{Shaped, parts_of}
use Rattle.endpoint.proofs.Verdicts.{accepted_effect}
use Rattle.endpoint.proofs.Kept.{step_kept}
use Rattle.group.specs.Group.{Desk, Group, put, answer, desk_after}
use Rattle.group.specs.Logs.{Log, Logs, accepts, gives_out, moves, entry}
use Rattle.refinement.specs.Views.{views}
use Rattle.refinement.specs.Abstract.{Ghost, state, label, message, desk_of, group}
use Rattle.refinement.proofs.Parts.{put_there, put_else}
use Rattle.refinement.proofs.Plain.{Counts, Listed, Refined}
use Rattle.refinement.proofs.Steps.{step_refines}

-- a log tells views apart by sameness alone
pub record Alike (l : Log) : Type 0 where
  pub accepted : (u v : View) → same u v ≡ true → l.accepted u ≡ l.accepted v
  pub given : (u v : View) (r : ℕ) → same u v ≡ true → l.given u r ≡ l.given v r

entry_alike : (ev : Event) (e : EndPoint) (a : Answer) (l : Log) → Alike l → Alike (entry ev e a l)
unfolding entry accepts gives_out moves
entry_alike (send w) e a l k = record { accepted = λ u v t i. cond (same_left u v e.current t i) (k.accepted u v t i ++ (w ∷ [])) (k.accepted u v t i); given = k.given }
entry_alike block_ok e a l k = k
entry_alike (start_change n s) e a l k = k
entry_alike (membership_view v) e a l k = k
entry_alike (receive q m) e a l k = k
entry_alike ask_to_block e a l k = k
entry_alike declare e a l k = k
entry_alike announce e a l k = k
entry_alike pass_out e a l k = k
entry_alike sync e a l k = k
entry_alike (forward q r) e a l k = k
entry_alike (give_out q) e a l k = record { accepted = k.accepted; given = λ u v r t i. cond (same_left u v e.current t i && eqb r q) (k.given u v r t i ++ (a.word ∷ [])) (k.given u v r t i) }
entry_alike install e a l k = record { accepted = k.accepted; given = k.given }

-- a step leaves the number
effect_me : (ev : Event) (e : EndPoint) (area : List ℕ) → (effect ev e area).ep.me ≡ e.me
unfolding effect after_send after_block_ok after_start after_membership after_receive after_view after_word after_sync after_forward store_word after_ask after_declare announces passes syncs forwards gives_next after_install
effect_me (send n) e area = refl
effect_me block_ok e area = refl
effect_me (start_change n t) e area = refl
effect_me (membership_view u) e area = refl
effect_me (receive q m) e area = go (eqb m.kind 1) (eqb m.kind 2) (eqb m.kind 3) (live e q) (same m.view e.current)
  where
    go : (x y z a b : Bool) → (cond x (after_view e q m.view) (cond y (cond a (with_heard e.heard (set e.received q (next_word e q)) (store_word e (heard_from e q) q (next_word e q))) e) (cond z (after_sync e q m) (cond b (store_word e e.current m.sender m.index) e)))).me ≡ e.me
    go true y z a b = refl
    go false true z true b = refl
    go false true z false b = refl
    go false false true a b = refl
    go false false false a true = refl
    go false false false a false = refl
effect_me ask_to_block e area = refl
effect_me declare e area = refl
effect_me announce e area = refl
effect_me pass_out e area = refl
effect_me sync e area = refl
effect_me (forward q r) e area = refl
effect_me (give_out q) e area = refl
effect_me install e area = refl

-- the desk of p
pub record Good (p : ℕ) (d : Desk) (g : Ghost) : Type 0 where
  pub sound_now : sound d.ep ≡ true
  pub shaped : Shaped d.ep
  pub own : d.ep.me ≡ p
  pub counts : Counts d.ep g

-- the automaton reached what it sees of the group
pub record Sim (c : Group) (ls : Logs) : Type 0 where
  pub ghosts : ℕ → Ghost
  pub reach : Abstract.Reach views 8 (group c ls ghosts)
  pub good : (p : ℕ) (d : Desk) → c.desks p ≡ some d → Good p d (ghosts p)
  pub listed : (p : ℕ) → Listed (ls p) (ghosts p)
  pub alike : (p : ℕ) → Alike (ls p)

pub sim_to : {c c' : Group} {ls ls' : Logs} → c ≡ c' → ls ≡ ls' → Sim c ls → Sim c' ls'
sim_to {c} {c'} {ls} {ls'} a b s = subst (λ (x : Logs). Sim c' x) b (subst (λ (x : Group). Sim x ls) a s)

-- ---- an accepted step of p

module _ (c : Group) (ls : Logs) (S : Sim c ls) (p : ℕ) (d : Desk) (there : c.desks p ≡ some d) (ev : Event) (ok : (step ev d.ep d.area).number ≡ 0) (channel' : ℕ → ℕ → List Message) where
  abbrev E : Log
  E = entry ev d.ep (effect ev d.ep d.area) (ls p)

  abbrev lab : Actions.Label views
  lab = label ev (effect ev d.ep d.area)

  G : Good p d (S.ghosts p)
  G = S.good p d there

  R : Refined ev d.ep d.area (ls p) (S.ghosts p)
  R = step_refines ev d.ep d.area (ls p) (S.ghosts p) G.shaped G.sound_now G.counts (S.listed p) ok

  abbrev c' : Group
  c' = record { desks = put p (some (desk_after ev d)) c.desks; channel = channel' }

  abbrev ls' : Logs
  ls' = put p E ls

  gs' : ℕ → Ghost
  gs' = put p R.after S.ghosts

  abbrev now : Desk
  now = record { ep = (effect ev d.ep d.area).ep; area = stored ev d.ep d.area }

  after_is : desk_after ev d ≡ now
  unfolding desk_after answer
  after_is = let k = accepted_effect ev d.ep d.area ok in λ i. record { ep = (k.0 i).ep; area = k.1 i }

  desk_here : now ≡ desk_of p (put p (some (desk_after ev d)) c.desks p)
  unfolding desk_of
  desk_here = sym (ap (desk_of p) (put_there p (some (desk_after ev d)) c.desks) ∙ after_is)

  desk_was : d ≡ desk_of p (c.desks p)
  unfolding desk_of
  desk_was = sym (ap (desk_of p) there)

  member_here : state now.ep now.area E R.after ≡ (group c' ls' gs').member p
  unfolding group gs'
  member_here = λ i. state (desk_here i).ep (desk_here i).area (sym (put_there p E ls) i) (sym (put_there p R.after S.ghosts) i)

  member_was : state d.ep d.area (ls p) (S.ghosts p) ≡ (group c ls S.ghosts).member p
  unfolding group
  member_was = λ i. state (desk_was i).ep (desk_was i).area (ls p) (S.ghosts p)

  act : Actions.Action views 8 p ((group c ls S.ghosts).member p) ((group c' ls' gs').member p) lab
  act =
      subst (λ (z : Automaton.State views). Actions.Action views 8 p ((group c ls S.ghosts).member p) z lab) member_here
      (subst (λ (z : Automaton.State views). Actions.Action views 8 p z (state now.ep now.area E R.after) lab) member_was
      (subst (λ (z : ℕ). Actions.Action views 8 z (state d.ep d.area (ls p) (S.ghosts p)) (state now.ep now.area E R.after) lab) G.own R.action))

  others : (q : ℕ) → (q ≡ p → ⊥) → (group c' ls' gs').member q ≡ (group c ls S.ghosts).member q
  unfolding group gs'
  others q ne =
      let D = put_else p (some (desk_after ev d)) c.desks q ne in
      λ i. state (desk_of q (D i)).ep (desk_of q (D i)).area (put_else p E ls q ne i) (put_else p R.after S.ghosts q ne i)

  p_low : p < 8
  p_low = omega (arith, (parts_of d.ep G.sound_now).low, G.own)

  good_now : Good p (desk_after ev d) R.after
  good_now =
      let k = step_kept ev d.ep d.area G.shaped G.sound_now in
      subst (λ (x : Desk). Good p x R.after) (sym after_is)
      (record {
        sound_now = subst (λ (a : Answer). sound a.ep ≡ true) (accepted_effect ev d.ep d.area ok).0 k.0;
        shaped = subst (λ (a : Answer). Shaped a.ep) (accepted_effect ev d.ep d.area ok).0 k.1;
        own = effect_me ev d.ep d.area ∙ G.own;
        counts = R.counts;
      })

  module _ (carries : Abstract.ChannelsAfter p lab (λ a b. map message (c.channel a b)) (λ a b. map message (channel' a b))) where
    pub sim_act : Sim c' ls'
    unfolding group gs'
    sim_act = record {
      ghosts = gs';
      reach = Abstract.then S.reach (Abstract.act p lab p_low act others carries);
      good = λ q x e. good q x e (ℕ_discrete q p);
      listed = λ q. listed q (ℕ_discrete q p);
      alike = λ q. alike q (ℕ_discrete q p);
    }
      where
        good : (q : ℕ) (x : Desk) → put p (some (desk_after ev d)) c.desks q ≡ some x → Dec (q ≡ p) → Good q x (put p R.after S.ghosts q)
        good q x e (yes f) =
            let k : desk_after ev d ≡ x = some-injective (desk_after ev d) x (sym (put_there p (some (desk_after ev d)) c.desks) ∙ (rw f at e)) in
            rw (f, put_there p R.after S.ghosts) (subst (λ (y : Desk). Good p y R.after) k good_now)
        good q x e (no f) = rw (put_else p R.after S.ghosts q f) (S.good q x (sym (put_else p (some (desk_after ev d)) c.desks q f) ∙ e))

        listed : (q : ℕ) → Dec (q ≡ p) → Listed (put p E ls q) (put p R.after S.ghosts q)
        listed q (yes f) = rw (f, put_there p E ls, put_there p R.after S.ghosts) R.listed
        listed q (no f) = rw (put_else p E ls q f, put_else p R.after S.ghosts q f) (S.listed q)

        alike : (q : ℕ) → Dec (q ≡ p) → Alike (put p E ls q)
        alike q (yes f) = rw (f, put_there p E ls) (entry_alike ev d.ep (effect ev d.ep d.area) (ls p) (S.alike p))
        alike q (no f) = rw (put_else p E ls q f) (S.alike q)
