-- `put::put_starts` meets its contract: the numbers passed are stored. Assumes nothing.
use native.Mathlib.Omega.{arith}
use Rattle.messages.proofs.Stores.{row_none, row_more, row_end}
use Rattle.messages.proofs.put.put_starts.Goals as goal

pub loop-n-init : goal.loop-n-init
loop-n-init c = row_none 4 c.args.at c.args.starts.now c.args.area.now

pub loop-n-preserved : goal.loop-n-preserved
loop-n-preserved c = row_more 4 c.args.at c.args.starts.now c.args.area.now c.loop-n.n c.loop-n.area _ c.loop-n.invariant c.put_number.ensures

pub returns : goal.returns
returns c = row_end 4 c.args.at c.args.starts.now c.args.area.now c.loop-n.n c.loop-n.area (omega arith) (omega arith) c.loop-n.invariant
