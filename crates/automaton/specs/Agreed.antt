-- The agreed count of a move from v to v' by a table of records: figure 10's T and its max over r ∈ T of sync_msg[r][v'.startId(r)].cut(q). Assumes nothing.
use Rattle.std.specs.Prelude.{Bool, false, cond, ◌&&◌, ℕ}
use Rattle.std.proofs.Math.Option.{Option, none, some}
use Rattle.below.specs.Below.{largest_below}
use Rattle.automaton.specs.Domain.{Domain}
use Rattle.automaton.specs.State.{Record, Records}

-- a record carries view v; none does not
unfoldable pub carries : (D : Domain) → Option (Record D) → D.View → Bool
carries D none v = false
carries D (some x) v = D.same x.view v

-- what a record commits to of sender r; none commits to nothing
unfoldable pub commits : (D : Domain) → Option (Record D) → ℕ → ℕ
commits D none r = 0
commits D (some x) r = x.cut r

-- the record of m that v' names
unfoldable pub named : (D : Domain) → Records D → D.View → ℕ → Option (Record D)
named D R v' m = R m (D.start v' m)

-- m is in T: a member of both views whose named record carries v
unfoldable pub in_t : (D : Domain) → D.View → D.View → Option (Record D) → ℕ → Bool
in_t D v v' x m = (D.has v m && D.has v' m) && carries D x v

-- the agreed count of sender r, among n end-points
unfoldable pub agreed : (D : Domain) → ℕ → Records D → D.View → D.View → ℕ → ℕ
agreed D n R v v' r = largest_below (λ m. cond (in_t D v v' (named D R v' m) m) (commits D (named D R v' m) r) 0) n
