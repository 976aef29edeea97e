-- The five slips are told apart: on the desk named, the definition and the slip give other answers. By computation. Assumes nothing.
use mathlib.Core.Bool.{true, false}
use mathlib.Core.Path.{◌≡◌, refl}
use Rattle.slots.specs.Slots.{place}
use Rattle.endpoint.specs.Ready.{ready, in_t, named_cut}
use Rattle.endpoint.specs.Steps.{step, forward}
use Rattle.sessions.specs.Sessions.{nine, ten}
use Rattle.sessions.specs.Slips.{in_t_by_id, ready_by_open, place_in_eight_bits, cut_of_newest, twice, dropped, kept}
use Rattle.sessions.specs.Opened.{opened}

-- first the definition's answer, then the slip's
pub by_id_alone : (in_t ten 1 ≡ false) × (in_t_by_id ten 1 ≡ true)
unfolding opened
by_id_alone = (refl, refl)

pub one_flag : (ready nine.ep ≡ true) × (ready_by_open nine.ep ≡ false)
unfolding opened
one_flag = (refl, refl)

-- word 3 is sent, or nothing ever is
pub marks_kept : ((step (forward 0 2) dropped.ep dropped.area).message.index ≡ 3) × ((step (forward 0 2) kept.ep kept.area).number ≡ 10)
unfolding opened
marks_kept = (refl, refl)

-- word 1 of sender 2 lands on word 1 of sender 0
pub eight_bits : (place 0 2 1 ≡ 256) × (place_in_eight_bits 0 2 1 ≡ place 0 0 1)
unfolding opened
eight_bits = (refl, refl)

pub newest_record : (named_cut twice 1 2 ≡ 5) × (cut_of_newest twice 1 2 ≡ 1)
unfolding opened
newest_record = (refl, refl)
