-- `starts::starts_zero` meets its contract: `==` of two rows. Assumes nothing.
use mathlib.Core.Path.{◌∙◌}
use Rattle.views.proofs.Sameness.{zero_tested}
use Rattle.views.proofs.starts.starts_zero.Goals as goal

pub returns : goal.returns
returns c = c.eq.ensures ∙ zero_tested c.args.starts.now c.told-starts
