-- What holds of one end-point in a group, relative to the words that all accepted (A) and the records that all made (M): a record a subject, over just the parts of the state that it reads.
-- And that it lasts while A and M grow, which is why the acts of others do no harm. Assumes nothing.
use mathlib.Core.Path.{◌≡◌, sym, ◌∙◌}
use mathlib.Core.List.{List, [], Memᴰ}
use mathlib.Core.Bool.{Bool, true, false}
use mathlib.Core.Option.{Option, none, some}
use Prim.Native.Nat.{ℕ, ◌≤◌, ◌<◌}
use lib.ListN.{length}
use Rattle.automaton.specs.Domain.{Domain}
use Rattle.automaton.specs.State.{Record, Records, Move, Words, Log, OutLog, State, BlockStatus, blocked}
use Rattle.automaton.specs.Agreed.{agreed}
use Rattle.automaton.specs.Actions.{Covers}
use Rattle.automaton.proofs.Positions.{at, Prefix}
use Rattle.automaton.proofs.Agreed.{agreed_same}

-- the words accepted by each in each view
abbrev pub Accepted : Domain → Type 0
Accepted D = ℕ → Log D

-- A word held is the sender's. The own words held in the current view are those accepted; in a newer view there are none: a view is entered once.
pub record Holding (D : Domain) (p : ℕ) (A : Accepted D) (current : D.View) (words : Words D) (accepted : Log D) : Type 0 where
  pub held : (v : D.View) (r i : ℕ) (w : D.Word) → words v r i ≡ some w → at (A r v) i ≡ some w
  pub own : (i : ℕ) → words current p i ≡ at (accepted current) i
  pub own_ahead : (v : D.View) (i : ℕ) → D.id current < D.id v → words v p i ≡ none
  pub accepted_ahead : (v : D.View) → D.id current < D.id v → accepted v ≡ []

-- The words given out are the first so many of the sender's, of members alone, as many as counted, and none in a newer view.
pub record Giving (D : Domain) (A : Accepted D) (current : D.View) (given : ℕ → ℕ) (gave_out : OutLog D) : Type 0 where
  pub first : (v : D.View) (r : ℕ) → Prefix (gave_out v r) (A r v)
  pub members : (v : D.View) (r : ℕ) → D.has v r ≡ false → gave_out v r ≡ []
  pub count : (r : ℕ) → given r ≡ length (gave_out current r)
  pub out_ahead : (v : D.View) (r : ℕ) → D.id current < D.id v → gave_out v r ≡ []

-- what a record made for the change that is pending says: the current view, and all that was accepted in it, with no more to come
pub record Committed (D : Domain) (p : ℕ) (current : D.View) (block : BlockStatus) (accepted : Log D) (x : Record D) : Type 0 where
  pub view : x.view ≡ current
  pub all : x.cut p ≡ length (accepted current)
  pub silent : block ≡ blocked

-- A record held is its maker's. Each start number has one own record: none is above the latest, and the latest is held for as long as it is the latest.
pub record Recording (D : Domain) (p : ℕ) (M : Records D) (current : D.View) (latest : ℕ) (pending : Bool) (block : BlockStatus) (accepted : Log D) (records : Records D) (made : ℕ → Option (Record D)) : Type 0 where
  pub held : (m j : ℕ) (x : Record D) → records m j ≡ some x → M m j ≡ some x
  pub low : (j : ℕ) (x : Record D) → made j ≡ some x → j ≤ latest
  pub own : (x : Record D) → made latest ≡ some x → records p latest ≡ some x
  pub now : (x : Record D) → pending ≡ true → made latest ≡ some x → Committed D p current block accepted x

-- Nothing is passed out before the view is announced; from then on the current members are declared.
pub record Sending (D : Domain) (current : D.View) (declared : ℕ → Bool) (announced : Bool) (passed : ℕ) : Type 0 where
  pub unsent : announced ≡ false → passed ≡ 0
  pub safe : announced ≡ true → Covers D current declared

-- What a move from v to v' leaves for good, by the records that all made: p was in T, each named record of a member of both views was made,
-- as many words were given out of each member as agreed, and all that p accepted is as much as agreed of it.
pub record Settled (D : Domain) (n p : ℕ) (M : Records D) (current : D.View) (gave_out : OutLog D) (accepted : Log D) (v v' : D.View) : Type 0 where
  pub older : D.id v < D.id current
  pub was : D.has v p ≡ true
  pub is : D.has v' p ≡ true
  pub own : (x : Record D) × (M p (D.start v' p) ≡ some x) × (x.view ≡ v)
  pub named : (m : ℕ) → D.has v m ≡ true → D.has v' m ≡ true → (x : Record D) × (M m (D.start v' m) ≡ some x)
  pub given : (r : ℕ) → D.has v r ≡ true → length (gave_out v r) ≡ agreed D n M v v' r
  pub all : length (accepted v) ≡ agreed D n M v v' p

abbrev pub Moving : (D : Domain) → ℕ → ℕ → Records D → D.View → OutLog D → Log D → List (Move D) → Type 0
Moving D n p M current gave_out accepted moves = (v v' : D.View) → Memᴰ (record { left = v; entered = v' }) moves → Settled D n p M current gave_out accepted v v'

pub record Invariant (D : Domain) (n p : ℕ) (A : Accepted D) (M : Records D) (s : State D) : Type 0 where
  pub holding : Holding D p A s.current s.words s.accepted
  pub giving : Giving D A s.current s.given s.gave_out
  pub recording : Recording D p M s.current s.latest s.pending s.block s.accepted s.records s.made
  pub sending : Sending D s.current s.declared s.announced s.passed
  pub moving : Moving D n p M s.current s.gave_out s.accepted s.moves

-- what all accepted and recorded only grows
pub record Grown (D : Domain) (A A' : Accepted D) (M M' : Records D) : Type 0 where
  pub accepted : (r : ℕ) (v : D.View) → Prefix (A r v) (A' r v)
  pub made : (m j : ℕ) (x : Record D) → M m j ≡ some x → M' m j ≡ some x

module _ {D : Domain} {n p : ℕ} {A A' : Accepted D} {M M' : Records D} (e : Grown D A A' M M') where
  settled_lasts : {current : D.View} {gave_out : OutLog D} {accepted : Log D} {v v' : D.View}
      → Settled D n p M current gave_out accepted v v' → Settled D n p M' current gave_out accepted v v'
  settled_lasts {v = v} {v' = v'} h =
      let same : (r : ℕ) → agreed D n M v v' r ≡ agreed D n M' v v' r = λ r. agreed_same D n v v' M M' r (λ m a b. let x = h.named m a b in x.1 ∙ sym (e.made m (D.start v' m) x.0 x.1)) in
      record {
        older = h.older;
        was = h.was;
        is = h.is;
        own = (h.own.0, e.made p (D.start v' p) h.own.0 h.own.1, h.own.2);
        named = λ m a b. let x = h.named m a b in (x.0, e.made m (D.start v' m) x.0 x.1);
        given = λ r a. h.given r a ∙ same r;
        all = h.all ∙ same p;
      }

  pub lasts : {s : State D} → Invariant D n p A M s → Invariant D n p A' M' s
  lasts h =
      let k = h.holding in
      let o = h.giving in
      let c = h.recording in
      record {
        holding = record { held = λ v r i w f. e.accepted r v i w (k.held v r i w f); own = k.own; own_ahead = k.own_ahead; accepted_ahead = k.accepted_ahead };
        giving = record { first = λ v r i w f. e.accepted r v i w (o.first v r i w f); members = o.members; count = o.count; out_ahead = o.out_ahead };
        recording = record { held = λ m j x f. e.made m j x (c.held m j x f); low = c.low; own = c.own; now = c.now };
        sending = h.sending;
        moving = λ v v' m. settled_lasts (h.moving v v' m);
      }
