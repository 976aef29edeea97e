-- A stream of messages from one end-point to another, read from a place: the view announced last and the words that came since. What it is for a stream to be right,
-- relative to the words that all accepted (A) and the records that all made (M). Assumes nothing.
use mathlib.Core.Path.{◌≡◌, refl}
use mathlib.Core.List.{List, [], ◌∷◌, ◌++◌}
use mathlib.Core.Option.{some}
use Prim.Native.Nat.{ℕ, suc}
use Rattle.automaton.specs.Domain.{Domain}
use Rattle.automaton.specs.State.{Records, State}
use Rattle.automaton.specs.Actions.{Message, view_msg, app_msg, sync_msg, fwd_msg, Label, quiet, receives, sends}
use Rattle.automaton.proofs.Positions.{at}
use Rattle.automaton.proofs.Invariant.{Accepted, Grown}

pub record Place (D : Domain) : Type 0 where
  pub view : D.View
  pub count : ℕ

-- the place after a message, and after a stream
abbrev pub turn : {D : Domain} → Place D → Message D → Place D
turn o (view_msg v) = record { view = v; count = 0 }
turn o (app_msg w) = record { view = o.view; count = suc o.count }
turn o (sync_msg j x) = o
turn o (fwd_msg r v i w) = o

unfoldable pub ends : {D : Domain} → Place D → List (Message D) → Place D
ends o [] = o
ends o (m ∷ ms) = ends (turn o m) ms

-- a message of q at a place: a word is the one that q accepted there, a record is one that q made, a forwarded word is its sender's
abbrev pub Right : {D : Domain} → Accepted D → Records D → ℕ → Place D → Message D → Type 0
Right A M q o (view_msg v) = Unit {0}
Right A M q o (app_msg w) = at (A q o.view) o.count ≡ some w
Right A M q o (sync_msg j x) = M q j ≡ some x
Right A M q o (fwd_msg r v i w) = at (A r v) i ≡ some w

-- each message of a stream of q from a place
unfoldable pub AllRight : {D : Domain} → Accepted D → Records D → ℕ → Place D → List (Message D) → Type 0
AllRight A M q o [] = Unit {0}
AllRight A M q o (m ∷ ms) = Right A M q o m × AllRight A M q (turn o m) ms

-- where s stands in q's stream, and that what an action receives is right
abbrev pub place : {D : Domain} → State D → ℕ → Place D
place s q = record { view = s.heard q; count = s.received q }

abbrev pub RightIn : {D : Domain} → Accepted D → Records D → State D → Label D → Type 0
RightIn A M s quiet = Unit {0}
RightIn A M s (receives q m) = Right A M q (place s q) m
RightIn A M s (sends d m) = Unit {0}

pub ends_more : {D : Domain} (o : Place D) (ms : List (Message D)) (m : Message D) → ends o (ms ++ (m ∷ [])) ≡ turn (ends o ms) m
unfolding ends
ends_more o [] m = refl
ends_more o (x ∷ ms) m = ends_more (turn o x) ms m

module _ {D : Domain} {A A' : Accepted D} {M M' : Records D} (e : Grown D A A' M M') (q : ℕ) where
  right_lasts : (o : Place D) (m : Message D) → Right A M q o m → Right A' M' q o m
  right_lasts o (view_msg v) g = g
  right_lasts o (app_msg w) g = e.accepted q o.view o.count w g
  right_lasts o (sync_msg j x) g = e.made q j x g
  right_lasts o (fwd_msg r v i w) g = e.accepted r v i w g

  pub all_lasts : (o : Place D) (ms : List (Message D)) → AllRight A M q o ms → AllRight A' M' q o ms
  unfolding AllRight
  all_lasts o [] k = k
  all_lasts o (m ∷ ms) k = (right_lasts o m k.0, all_lasts (turn o m) ms k.1)

module _ {D : Domain} (A : Accepted D) (M : Records D) (q : ℕ) where
  pub all_more : (o : Place D) (ms : List (Message D)) (m : Message D) → AllRight A M q o ms → Right A M q (ends o ms) m → AllRight A M q o (ms ++ (m ∷ []))
  unfolding AllRight ends
  all_more o [] m k g = (g, tt)
  all_more o (x ∷ ms) m k g = (k.0, all_more (turn o x) ms m k.1 g)

  -- with a tail lost
  pub all_less : (o : Place D) (ms tail : List (Message D)) → AllRight A M q o (ms ++ tail) → AllRight A M q o ms
  unfolding AllRight
  all_less o [] tail k = tt
  all_less o (m ∷ ms) tail k = (k.0, all_less (turn o m) ms tail k.1)
