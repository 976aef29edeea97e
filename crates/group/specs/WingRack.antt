-- A run of three end-points. All enter the view of 0, 1 and 2; 2 sends three words; 1 receives two of them and 0 one; then 2 drops into a view of its own, and what was
-- still on its way is lost. 0 and 1 change together: their cuts differ, 1 forwards word 2 to 0, both give it out and both install. Sets are bytes. Assumes nothing.
use Rattle.std.specs.Prelude.{ℕ, ◌+◌, Bool, cond, List, [], ◌∷◌, ◌++◌, leb, replicate}
use Rattle.std.proofs.Math.Option.{Option, none, some}
use Rattle.views.specs.declared.View.{View}
use Rattle.messages.specs.declared.Message.{Message}
use Rattle.messages.specs.Messages.{of_word}
use Rattle.records.specs.Records.{the_record}
use Rattle.endpoint.specs.Steps.{Event, send, block_ok, start_change, membership_view, receive, ask_to_block, declare, announce, pass_out, sync, forward, give_out, install}
use Rattle.group.specs.Group.{Desk, Group, Areas, GroupStep, take, take_batch, receive_head, lose, start}
use Rattle.group.specs.Logs.{Logs, logs}

-- {0,1,2}, then {0,1} and {2}
abbrev pub three : View
three = record { starts = 1 ∷ 1 ∷ 1 ∷ 0 ∷ 0 ∷ 0 ∷ 0 ∷ 0 ∷ []; id = 1; set = 7 }

abbrev pub two : View
two = record { starts = 2 ∷ 2 ∷ 0 ∷ 0 ∷ 0 ∷ 0 ∷ 0 ∷ 0 ∷ []; id = 2; set = 3 }

abbrev pub alone : View
alone = record { starts = 0 ∷ 0 ∷ 2 ∷ 0 ∷ 0 ∷ 0 ∷ 0 ∷ 0 ∷ []; id = 2; set = 4 }

-- 0, 1 and 2 take part, with whatever is in their areas
unfoldable pub rack_areas : Areas
rack_areas p = cond (leb p 2) (some (replicate 4096 (p + 90))) none

-- p takes these steps, one after the other
unfoldable pub in_turn : ℕ → List Event → List GroupStep
in_turn p [] = []
in_turn p (ev ∷ evs) = take p ev ∷ in_turn p evs

-- p's change of this start number into this view, as far as its sync and the membership's word
unfoldable pub towards : ℕ → ℕ → View → List GroupStep
towards p n v = in_turn p (start_change n v.set ∷ ask_to_block ∷ block_ok ∷ declare ∷ sync ∷ membership_view v ∷ [])

-- and into it
unfoldable pub into : ℕ → List GroupStep
into p = in_turn p (install ∷ declare ∷ announce ∷ [])

-- all three enter, each on its own
unfoldable pub all_enter : List GroupStep
all_enter = towards 0 1 three ++ (into 0 ++ (towards 1 1 three ++ (into 1 ++ (towards 2 1 three ++ into 2))))

-- 2 sends 21, 22 and 23, 0 sends 11. 1 receives 2's sync, its view, 21 and 22, and 0's sync, view and 11; 0 receives 2's sync, view and 21.
-- Two things may not happen, and do not: a loss towards a member of the declared set, a word received that no channel holds
unfoldable pub words_pass : List GroupStep
words_pass =
    in_turn 2 (send 21 ∷ send 22 ∷ send 23 ∷ pass_out ∷ pass_out ∷ pass_out ∷ [])
    ++ (in_turn 0 (send 11 ∷ pass_out ∷ give_out 0 ∷ [])
    ++ (lose 0 1 1
    ∷ (replicate 4 (receive_head 1 2) ++ (replicate 3 (receive_head 1 0) ++ (replicate 3 (receive_head 0 2) ++ (take 0 (receive 2 (of_word 99)) ∷ []))))))

-- 2 gives out its own and leaves; 0 and 1 are then outside its declared set, and their channels lose a tail
unfoldable pub rack_leaves : List GroupStep
rack_leaves = take_batch 2 2 8 ∷ (towards 2 2 alone ++ (into 2 ++ (lose 2 0 2 ∷ lose 2 1 1 ∷ [])))

-- 0 and 1 change: 0 receives 1's first sync, its view and its second sync, 1 receives 0's second sync
unfoldable pub others_sync : List GroupStep
others_sync = towards 0 2 two ++ (towards 1 2 two ++ (replicate 3 (receive_head 0 1) ++ (receive_head 1 0 ∷ [])))

-- 1 forwards to 0 the word of 2 that 0 lacks
unfoldable pub forwarded : List GroupStep
forwarded = take 1 (forward 0 2) ∷ receive_head 0 1 ∷ []

-- both give out what they have and install
unfoldable pub others_move : List GroupStep
others_move = take_batch 1 2 8 ∷ take 1 (give_out 0) ∷ take 0 (give_out 2) ∷ take 0 (give_out 2) ∷ take 0 install ∷ take 1 install ∷ []

-- until the others' syncs are there
unfoldable pub rack_dropped : List GroupStep
rack_dropped = all_enter ++ (words_pass ++ (rack_leaves ++ others_sync))

unfoldable pub wing_rack_drops : List GroupStep
wing_rack_drops = rack_dropped ++ (forwarded ++ others_move)

-- the same, with nothing forwarded
unfoldable pub not_forwarded : List GroupStep
not_forwarded = rack_dropped ++ others_move

-- ---- what is seen of it

-- what is written down of a run of the three
unfoldable pub rack_logs : List GroupStep → Logs
rack_logs steps = logs steps (start rack_areas)

-- the logs' part in the statement: what 0 and 1 gave out in their view of each of the three, what the three accepted there, and who went straight from there to
-- the view of two, or to that of 2 alone
pub record Told : Type 0 where
  pub gave0 : List (List ℕ)
  pub gave1 : List (List ℕ)
  pub took : List (List ℕ)
  pub to_two : List Bool
  pub to_alone : List Bool

unfoldable pub told : Logs → Told
told l =
    record {
      gave0 = (l 0).given three 0 ∷ (l 0).given three 1 ∷ (l 0).given three 2 ∷ [];
      gave1 = (l 1).given three 0 ∷ (l 1).given three 1 ∷ (l 1).given three 2 ∷ [];
      took = (l 0).accepted three ∷ (l 1).accepted three ∷ (l 2).accepted three ∷ [];
      to_two = (l 0).moved three two ∷ (l 1).moved three two ∷ (l 2).moved three two ∷ [];
      to_alone = (l 0).moved three alone ∷ (l 1).moved three alone ∷ (l 2).moved three alone ∷ [];
    }

-- the cut of the desk's own second sync
unfoldable pub second_cut : Option Desk → List ℕ
second_cut none = []
second_cut (some d) = (the_record d.ep.records d.ep.me 2).cut.counts

-- the words of these messages
unfoldable pub words_in : List Message → List ℕ
words_in [] = []
words_in (m ∷ rest) = m.word ∷ words_in rest

-- in the group: the cuts of 0 and 1, and what is on its way to each of them from 2
pub record Seen : Type 0 where
  pub cut0 : List ℕ
  pub cut1 : List ℕ
  pub to0 : List ℕ
  pub to1 : List ℕ

unfoldable pub seen : Group → Seen
seen g = record { cut0 = second_cut (g.desks 0); cut1 = second_cut (g.desks 1); to0 = words_in (g.channel 2 0); to1 = words_in (g.channel 2 1) }
