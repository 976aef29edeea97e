-- Demand 3, the statement that the group's theorem has to prove: "after steps in any order, if two end-points went straight from the same view to the same next
-- view, then for each sender both gave out the same words in the first: the first so many that sender accepted from its application there; if the sender made that
-- same move, it is all of them". What may happen in the group is in Group, what is written down of it in Logs. Assumes nothing.
use Rattle.std.specs.Prelude.{ℕ, true, List, ◌≡◌, take as first_of}
use Rattle.views.specs.declared.View.{View}
use Rattle.group.specs.Group.{Areas, all_fit, start, GroupStep}
use Rattle.group.specs.Logs.{Logs, logs}

-- p went straight from view v to view v'
abbrev pub Moved : Logs → ℕ → View → View → Type 0
Moved l p v v' = (l p).moved v v' ≡ true

-- of sender r, what p and q gave out in view v, which both left for v'
pub record Agreed (l : Logs) (p q r : ℕ) (v v' : View) : Type 0 where
  -- "both gave out the same words"
  pub same : (l p).given v r ≡ (l q).given v r
  -- "the first so many that sender accepted from its application there"
  pub first : (k : ℕ) × ((l p).given v r ≡ first_of k ((l r).accepted v))
  -- "if the sender made that same move, it is all of them"
  pub all : Moved l r v v' → (l p).given v r ≡ (l r).accepted v

-- whoever takes part, whatever is in their areas, whatever happens in whatever order
unfoldable pub Demand3 : Type 0
Demand3 =
    (areas : Areas) → all_fit areas ≡ true
    → (steps : List GroupStep) (p q r : ℕ) (v v' : View)
    → Moved (logs steps (start areas)) p v v'
    → Moved (logs steps (start areas)) q v v'
    → Agreed (logs steps (start areas)) p q r v v'
