-- The group: n end-points, and between any two a channel, figure 3 of the source (Keidar and Khazan): it keeps order, adds nothing, and loses only a tail towards someone outside its sender's declared set.
-- End-points are numbered from 0, and those from n on take no step. A refused step is no action. Assumes nothing.
use Rattle.std.specs.Prelude.{◌≡◌, List, [], ◌∷◌, ◌++◌, true, false, ℕ, ◌<◌}
use Rattle.std.proofs.Math.Option.{none}
use Rattle.automaton.specs.Domain.{Domain}
use Rattle.automaton.specs.State.{State}
use Rattle.automaton.specs.Actions.{Message, Label, quiet, receives, sends, Covers, Action}

-- what is on its way from a to b, first to come first
abbrev pub Channels : Domain → Type 0
Channels D = ℕ → ℕ → List (Message D)

pub record Group (D : Domain) : Type 0 where
  pub member : ℕ → State D
  pub channel : Channels D

-- how the channels change at an action of p: none; the first message from q is taken; a message is put at the end of those to each of a set
abbrev pub ChannelsAfter : {D : Domain} → ℕ → Label D → Channels D → Channels D → Type 0
ChannelsAfter p quiet c c' = (a b : ℕ) → c' a b ≡ c a b
ChannelsAfter p (receives q m) c c' = (c q p ≡ m ∷ c' q p) × ((a b : ℕ) → (a ≡ q → b ≡ p → ⊥) → c' a b ≡ c a b)
ChannelsAfter p (sends d m) c c' = ((b : ℕ) → d b ≡ true → c' p b ≡ c p b ++ (m ∷ [])) × ((b : ℕ) → d b ≡ false → c' p b ≡ c p b) × ((a b : ℕ) → (a ≡ p → ⊥) → c' a b ≡ c a b)

pub data Step (D : Domain) (n : ℕ) (g g' : Group D) : Type 0 where
  -- one end-point acts, the others stay
  act : (p : ℕ) (l : Label D)
      → p < n
      → Action D n p (g.member p) (g'.member p) l
      → ((q : ℕ) → (q ≡ p → ⊥) → g'.member q ≡ g.member q)
      → ChannelsAfter p l g.channel g'.channel
      → Step D n g g'
  -- lose(p, q): "q ∉ reliable_set[p]"
  lose : (p q : ℕ) (tail : List (Message D))
      → (g.member p).declared q ≡ false
      → ((r : ℕ) → g'.member r ≡ g.member r)
      → g.channel p q ≡ g'.channel p q ++ tail
      → ((a b : ℕ) → (a ≡ p → b ≡ q → ⊥) → g'.channel a b ≡ g.channel a b)
      → Step D n g g'

-- p as it begins: alone in its view, nothing pending, held, made or done
pub record Fresh (D : Domain) (p : ℕ) (s : State D) : Type 0 where
  pub alone : (q : ℕ) → D.has s.current q ≡ true → q ≡ p
  pub declared : Covers D s.current s.declared
  pub passed : s.passed ≡ 0
  pub pending : s.pending ≡ false
  pub given : (q : ℕ) → s.given q ≡ 0
  pub records : (m j : ℕ) → s.records m j ≡ none
  pub words : (v : D.View) (q i : ℕ) → s.words v q i ≡ none
  pub accepted : (v : D.View) → s.accepted v ≡ []
  pub gave_out : (v : D.View) (q : ℕ) → s.gave_out v q ≡ []
  pub made : (j : ℕ) → s.made j ≡ none
  pub moves : s.moves ≡ []

pub data Reach (D : Domain) (n : ℕ) : Group D → Type 0 where
  begin : {g : Group D} → ((p : ℕ) → Fresh D p (g.member p)) → ((a b : ℕ) → g.channel a b ≡ []) → Reach D n g
  then : {g g' : Group D} → Reach D n g → Step D n g g' → Reach D n g'
