-- `get::cut_at` meets its contract: its counts are the bytes. Assumes nothing.
use Rattle.messages.specs.Bytes.{cut_at}
use Rattle.messages.proofs.Parts.{counts_taken}
use Rattle.messages.proofs.get.cut_at.Goals as goal

pub returns : goal.returns
unfolding cut_at
returns c = rw (← counts_taken c.args.at c.args.bytes.now c.requires, c.part_at.ensures)
