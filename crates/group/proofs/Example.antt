-- The run in which 2 drops, by computation: 0 and 1 went together from the view of three to that of two and gave out the same words there, the forwarded one among
-- them, and 2 had accepted one more. So demand 3 speaks of this run, and what it says of it holds. Assumes nothing.
use Prim.Native.Nat.{ℕ}
use mathlib.Core.Bool.{true, false, true≢false}
use mathlib.Core.List.{[], ◌∷◌, ◌++◌}
use mathlib.Core.Path.{◌≡◌, refl, ap, sym, ◌∙◌}
use lib.ListN.{get_or, take as first_of}
use Rattle.group.specs.Group.{all_fit, start, run}
use Rattle.group.specs.Demand3.{Demand3, Moved, Agreed}
use Rattle.group.specs.WingRack.{told, rack_areas, rack_logs, three, two, all_enter, words_pass, wing_rack_drops, rack_dropped, not_forwarded, seen}
use Rattle.group.specs.Opened.{opened}

pub areas_fit : all_fit rack_areas ≡ true
unfolding opened
areas_fit = refl

-- both gave out 11 of 0, and 21 and 22 of 2; 2 accepted 23 as well; 0 and 1 moved to the view of two, 2 to its own
pub rack_drops :
    told (rack_logs wing_rack_drops)
    ≡ record {
      gave0 = (11 ∷ []) ∷ [] ∷ (21 ∷ 22 ∷ []) ∷ [];
      gave1 = (11 ∷ []) ∷ [] ∷ (21 ∷ 22 ∷ []) ∷ [];
      took = (11 ∷ []) ∷ [] ∷ (21 ∷ 22 ∷ 23 ∷ []) ∷ [];
      to_two = true ∷ true ∷ false ∷ [];
      to_alone = false ∷ false ∷ true ∷ [];
    }
unfolding opened
rack_drops = refl

-- before the forward: 0's cut has one word of 2 and 1's two, and nothing is on its way from 2 any more
pub before_forward :
    seen (run rack_dropped (start rack_areas))
    ≡ record { cut0 = 1 ∷ 0 ∷ 1 ∷ 0 ∷ 0 ∷ 0 ∷ 0 ∷ 0 ∷ []; cut1 = 1 ∷ 0 ∷ 2 ∷ 0 ∷ 0 ∷ 0 ∷ 0 ∷ 0 ∷ []; to0 = []; to1 = [] }
unfolding opened
before_forward = refl

-- what was, before 2 left and the tails were lost
pub on_its_way : (seen (run (all_enter ++ words_pass) (start rack_areas))).to0 ≡ 22 ∷ 23 ∷ []
unfolding opened
on_its_way = refl

-- with nothing forwarded 0 gives out 21 only, and neither installs
pub not_forwarded_lem :
    told (rack_logs not_forwarded)
    ≡ record {
      gave0 = (11 ∷ []) ∷ [] ∷ (21 ∷ []) ∷ [];
      gave1 = (11 ∷ []) ∷ [] ∷ (21 ∷ 22 ∷ []) ∷ [];
      took = (11 ∷ []) ∷ [] ∷ (21 ∷ 22 ∷ 23 ∷ []) ∷ [];
      to_two = false ∷ false ∷ false ∷ [];
      to_alone = false ∷ false ∷ true ∷ [];
    }
unfolding opened
not_forwarded_lem = refl

-- ---- what demand 3 says of the run

moved_0 : Moved (rack_logs wing_rack_drops) 0 three two
unfolding told
moved_0 = ap (λ t. get_or t.to_two 0 false) rack_drops

moved_1 : Moved (rack_logs wing_rack_drops) 1 three two
unfolding told
moved_1 = ap (λ t. get_or t.to_two 1 false) rack_drops

-- its premises hold of the run, so it says of every sender that 0 and 1 agree on it
pub by_demand3 : Demand3 → (r : ℕ) → Agreed (rack_logs wing_rack_drops) 0 1 r three two
unfolding Demand3 rack_logs
by_demand3 d r = d rack_areas areas_fit wing_rack_drops 0 1 r three two moved_0 moved_1

-- and that is so of 0, who moved with them, and of 2, who did not
pub agreed_of_0 : Agreed (rack_logs wing_rack_drops) 0 1 0 three two
unfolding told
agreed_of_0 =
    let gave : (rack_logs wing_rack_drops 0).given three 0 ≡ 11 ∷ [] = ap (λ t. get_or t.gave0 0 []) rack_drops in
    let gave' : (rack_logs wing_rack_drops 1).given three 0 ≡ 11 ∷ [] = ap (λ t. get_or t.gave1 0 []) rack_drops in
    let took : (rack_logs wing_rack_drops 0).accepted three ≡ 11 ∷ [] = ap (λ t. get_or t.took 0 []) rack_drops in
    record { same = gave ∙ sym gave'; first = (1, gave ∙ sym (ap (first_of 1) took)); all = λ m. gave ∙ sym took }

pub agreed_of_2 : Agreed (rack_logs wing_rack_drops) 0 1 2 three two
unfolding told
agreed_of_2 =
    let gave : (rack_logs wing_rack_drops 0).given three 2 ≡ 21 ∷ 22 ∷ [] = ap (λ t. get_or t.gave0 2 []) rack_drops in
    let gave' : (rack_logs wing_rack_drops 1).given three 2 ≡ 21 ∷ 22 ∷ [] = ap (λ t. get_or t.gave1 2 []) rack_drops in
    let took : (rack_logs wing_rack_drops 2).accepted three ≡ 21 ∷ 22 ∷ 23 ∷ [] = ap (λ t. get_or t.took 2 []) rack_drops in
    let stayed : (rack_logs wing_rack_drops 2).moved three two ≡ false = ap (λ t. get_or t.to_two 2 true) rack_drops in
    record { same = gave ∙ sym gave'; first = (2, gave ∙ sym (ap (first_of 2) took)); all = λ m. absurd (true≢false (sym m ∙ stayed)) }
