-- `get::number_at` meets its contract: four bytes, the lowest first. Assumes nothing.
use mathlib.Core.Path.{◌∙◌}
use Rattle.messages.proofs.Parts.{number_taken}
use Rattle.messages.proofs.get.number_at.Goals as goal

pub returns : goal.returns
returns c = rw c.part_at.ensures at c.from_le_bytes.ensures ∙ number_taken c.args.at c.args.bytes.now
