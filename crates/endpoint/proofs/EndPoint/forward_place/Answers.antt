-- `forward_place` meets its contract: the lowest word that one pass over the members found is the lowest that is due. Assumes nothing.
use Prim.Native.Nat.{◌<◌}
use native.Mathlib.Omega.{arith}
use mathlib.Core.Path.{◌≡◌}
use lib.ListN.{length}
use borrow.Author.Rules.{rules}
use Rattle.std.proofs.lemmas.Grind.{common_steps}
use Rattle.marks.specs.Marks.{row_of}
use Rattle.marks.proofs.Slot.{array_length}
use Rattle.slots.proofs.Elements.{any}
use Rattle.endpoint.specs.Forward.{forward_out_checks, due_index}
use Rattle.endpoint.specs.Numbers.{verdict}
use Rattle.endpoint.proofs.Agreed.{lowest_is}
use Rattle.endpoint.proofs.EndPoint.forward_place.Goals as goal

pub returns-in_default : goal.returns-in_default
unfolding forward_out_checks verdict row_of
returns-in_default c =
    let e = c.args.self.now in
    let f = c.in_ok-slot.ensures in
    let m = c.marks_in.result in
    let n : length m.rows ≡ 8 = search (rules, array_length) in
    let i : c.args.r < length m.rows = omega arith in
    let d = lowest_is e _ c.agreed-agreed.ensures.whole _ m _ c.args.q c.args.r _ f.me_low (omega arith) (omega arith) f.slot c.marks_in.ensures (any m.rows c.args.r _ _ i) c.lowest_due-lowest.ensures.value in
    grind (arith, common_steps)

pub returns : goal.returns
unfolding forward_out_checks verdict due_index row_of
returns c =
    let e = c.args.self.now in
    let f = c.in_ok-slot.ensures in
    let m = c.marks_in.result in
    let n : length m.rows ≡ 8 = search (rules, array_length) in
    let i : c.args.r < length m.rows = omega arith in
    let d = lowest_is e _ c.agreed-agreed.ensures.whole _ m _ c.args.q c.args.r _ f.me_low (omega arith) (omega arith) f.slot c.marks_in.ensures (any m.rows c.args.r _ _ i) c.lowest_due-lowest.ensures.value in
    grind (arith, common_steps)
