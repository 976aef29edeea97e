-- `copy_words` meets its contract: the words passed are at the front. Assumes nothing.
use native.Mathlib.Omega.{arith}
use mathlib.Core.Path.{refl, ◌∙◌}
use Prim.Native.Nat.{◌<◌}
use lib.ListN.{length, length-set}
use Rattle.endpoint.proofs.Batching.{copy_none, copy_more, copy_end}
use Rattle.endpoint.proofs.batches.copy_words.Goals as goal

pub loop-j-init : goal.loop-j-init
loop-j-init c = (refl, copy_none c.args.area.now c.args.out.now c.args.slot c.args.q c.args.given)

pub loop-j-preserved : goal.loop-j-preserved
loop-j-preserved c =
    let j = c.loop-j.j in
    let l : j < length c.args.out.now = omega (arith, c.requires.1.1.1.1, c.loop-j-test.true) in (
      length-set c.loop-j.out j _ ∙ c.loop-j.invariant.0,
      rw c.place-start.ensures (copy_more c.args.area.now c.args.out.now c.args.slot c.args.q c.args.given c.loop-j.out j l c.loop-j.invariant.1),
    )

pub returns : goal.returns
returns c = copy_end c.args.area.now c.args.out.now c.args.slot c.args.q c.args.given c.loop-j.out c.loop-j.j c.args.count c.loop-j.auto.j-end c.loop-j-test.false c.loop-j.invariant.1
