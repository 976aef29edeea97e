-- `Message::well_formed` meets its contract: a number that is no kind's is not well formed. Assumes nothing.
use mathlib.Core.Path.{sym}
use Rattle.messages.proofs.Tested.{kindless}
use Rattle.messages.proofs.Message.well_formed.Goals as goal

pub returns-in_default : goal.returns-in_default
returns-in_default c = sym (kindless c.args.self c.in_default.ensures.0)
