-- What is promised of a group: virtual synchrony and self delivery, sections 4.1.2 and 4.1.4 of the source (Keidar and Khazan), for members that moved straight from v to v'. Assumes nothing.
use Rattle.std.specs.Prelude.{◌≡◌, ℕ, take}
use mathlib.Core.List.{List, Memᴰ}
use Rattle.automaton.specs.Domain.{Domain}
use Rattle.automaton.specs.Group.{Group}

-- p moved straight from v to v'
abbrev pub Moved : {D : Domain} → Group D → ℕ → D.View → D.View → Type 0
Moved g p v v' = Memᴰ (record { left = v; entered = v' }) (g.member p).moves

-- the words that p gave out of r in v, and the words that r accepted in v
abbrev pub out_of : {D : Domain} → Group D → ℕ → D.View → ℕ → List D.Word
out_of g p v r = (g.member p).gave_out v r

abbrev pub accepted_by : {D : Domain} → Group D → ℕ → D.View → List D.Word
accepted_by g r v = (g.member r).accepted v

pub record SameWords (D : Domain) (g : Group D) (p q r : ℕ) (v v' : D.View) : Type 0 where
  -- p and q gave out the same words of r
  pub same : out_of g p v r ≡ out_of g q v r
  -- the first so many that r accepted
  pub first : (k : ℕ) × (out_of g p v r ≡ take k (accepted_by g r v))
  -- and all of them if r made the move too
  pub all : Moved g r v v' → out_of g p v r ≡ accepted_by g r v

-- for any two that moved and any sender
abbrev pub VirtualSynchrony : (D : Domain) → Group D → Type 0
VirtualSynchrony D g = (p q r : ℕ) (v v' : D.View) → Moved g p v v' → Moved g q v v' → SameWords D g p q r v v'
