-- `give::give` meets its contract: the numbers passed are stored, and the three stores are the whole row. Assumes nothing.
use native.Mathlib.Omega.{arith}
use Rattle.messages.proofs.Rows.{copy_none, copy_more, copy_end, whole_row}
use Rattle.messages.proofs.give.give.Goals as goal

pub starts-init : goal.starts-init
starts-init c = copy_none 8 c.args.m.view.starts c.args.fields.now

pub starts-preserved : goal.starts-preserved
starts-preserved c = copy_more 8 c.args.m.view.starts c.args.fields.now c.starts.n _ c.starts.fields c.starts.invariant c.from.ensures

pub counts-init : goal.counts-init
counts-init c = copy_none 16 c.args.m.cut.counts c.starts.fields

pub counts-preserved : goal.counts-preserved
counts-preserved c = copy_more 16 c.args.m.cut.counts c.starts.fields c.counts.n _ c.counts.fields c.counts.invariant c.from-in-counts.ensures

pub returns : goal.returns
returns c =
    whole_row c.args.m c.args.fields.now c.starts.fields c.counts.fields _ c.told-fields
    (copy_end 8 c.args.m.view.starts c.args.fields.now c.starts.n c.starts.fields (omega arith) (omega arith) c.starts.invariant)
    (copy_end 16 c.args.m.cut.counts c.starts.fields c.counts.n c.counts.fields (omega arith) (omega arith) c.counts.invariant)
    c.give_numbers.ensures
