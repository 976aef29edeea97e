-- A session played on the definitions: events one after the other, and the numbers that they give. Assumes nothing.
use Rattle.std.specs.Prelude.{ℕ, List, [], ◌∷◌, replicate}
use Rattle.views.specs.declared.View.{View}
use Rattle.views.specs.declared.Cut.{Cut}
use Rattle.endpoint.specs.declared.EndPoint.{EndPoint}
use Rattle.endpoint.specs.declared.Answer.{Answer}
use Rattle.endpoint.specs.Fresh.{fresh}
use Rattle.endpoint.specs.Steps.{Event, step, area_after}

-- an end-point and its word area
pub record Desk : Type 0 where
  pub ep : EndPoint
  pub area : List ℕ

-- end-point 0, fresh, with a word area of zeros
unfoldable pub desk : Desk
desk = record { ep = fresh 0; area = replicate 4096 0 }

unfoldable pub next : Desk → Event → Desk
next d ev = record { ep = (step ev d.ep d.area).ep; area = area_after ev d.ep d.area }

-- the desk after these events
unfoldable pub after : Desk → List Event → Desk
after d [] = d
after d (ev ∷ evs) = after (next d ev) evs

-- the answers to these events, one after the other
unfoldable pub answers : Desk → List Event → List Answer
answers d [] = []
answers d (ev ∷ evs) = step ev d.ep d.area ∷ answers (next d ev) evs

-- the number of each
unfoldable pub numbers : List Answer → List ℕ
numbers [] = []
numbers (a ∷ rest) = a.number ∷ numbers rest

-- a view of these members' start numbers
abbrev pub view_of : ℕ → ℕ → List ℕ → View
view_of id set starts = record { starts = starts; id = id; set = set }

abbrev pub cut_of : List ℕ → Cut
cut_of counts = record { counts = counts }
