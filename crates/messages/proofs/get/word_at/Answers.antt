-- `get::word_at` meets its contract: eight bytes, the lowest first. Assumes nothing.
use mathlib.Core.Path.{◌∙◌}
use Rattle.messages.proofs.Parts.{word_taken}
use Rattle.messages.proofs.get.word_at.Goals as goal

pub returns : goal.returns
returns c = rw c.part_at.ensures at c.from_le_bytes.ensures ∙ word_taken c.args.at c.args.bytes.now
