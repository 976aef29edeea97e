-- `put::put_word` meets its contract: its bytes are stored. Assumes nothing.
use mathlib.Core.Path.{◌∙◌, ap}
use lib.Seq.{sets}
use Rattle.messages.proofs.Parts.{word_bytes}
use Rattle.messages.proofs.put.put_word.Goals as goal

pub returns : goal.returns
returns c = c.put_part.ensures ∙ ap (sets c.args.area.now c.args.at) (c.to_le_bytes.ensures ∙ word_bytes c.args.word)
