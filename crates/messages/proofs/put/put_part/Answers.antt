-- `put::put_part` meets its contract: the part stands in its place. Assumes nothing.
use native.Mathlib.Omega.{arith}
use Rattle.messages.proofs.Parts.{part_stored}
use Rattle.messages.proofs.put.put_part.Goals as goal

pub returns : goal.returns
returns c = part_stored c.args.at _ c.args.area.now _ c.args.part.now c.copy_from_slice.ensures.after (omega arith) c.requires
