-- `give_place` meets its contract. Assumes nothing.
use native.Mathlib.Omega.{arith}
use Rattle.slots.proofs.Finding.{run_low}
use Rattle.endpoint.proofs.Planning.{given_low}
use Rattle.endpoint.proofs.EndPoint.give_place.Goals as goal

pub overflow_add-next : goal.overflow_add-next
overflow_add-next c =
    let e = c.args.self.now in
    omega (arith, given_low e c.in_ok-slot.ensures.sound_now c.args.q, run_low e.slots e.current c.args.q)
