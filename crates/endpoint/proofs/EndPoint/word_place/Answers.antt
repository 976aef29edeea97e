-- `word_place` meets its contract: an announced view that is neither initial nor spent has a slot. Assumes nothing.
use Prim.Native.Nat.{◌+◌, ◌<◌}
use native.Mathlib.Omega.{arith}
use mathlib.Core.Bool.{false}
use mathlib.Core.Path.{◌≡◌}
use lib.ListN.{get_or}
use Rattle.std.proofs.lemmas.Grind.{common_steps}
use Rattle.slots.proofs.Places.{place_low}
use Rattle.slots.specs.Slots.{slot_in}
use Rattle.endpoint.specs.Spent.{spent}
use Rattle.endpoint.proofs.Receiving.{received_low, announced_slot}
use Rattle.endpoint.proofs.EndPoint.word_place.Goals as goal

pub overflow_add-index : goal.overflow_add-index
overflow_add-index c = let l = received_low c.args.self.now c.args.area.now c.args.q c.requires in omega arith

pub unreachable-requires : goal.unreachable-requires
unfolding spent
unreachable-requires c =
    let e = c.args.self.now in
    let v = c.announced-heard.result in
    let n : spent e v ≡ false = grind (arith, common_steps) in
    let s : slot_in e.slots.tags v < 4 = announced_slot e c.args.area.now c.args.q c.requires v c.announced-heard.ensures c.if-heard-eq0.false n in
    grind (arith, common_steps)

pub returns-clause-within : goal.returns-clause-within
unfolding spent
returns-clause-within c =
    let e = c.args.self.now in
    let r = c.requires in
    let l = received_low e c.args.area.now c.args.q r in
    let s : c.in-Some.slot < 4 = grind (arith, common_steps) in
    let p = place_low c.in-Some.slot c.args.q (get_or e.received c.args.q 0 + 1) s r.low (omega arith) (omega arith) in
    omega (arith, p, r.whole)
