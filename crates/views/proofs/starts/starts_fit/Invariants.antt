-- `ok` says that all start numbers so far passed.
use Rattle.std.proofs.Common.{◌≡◌, get_or}
use Rattle.below.specs.Below.{all_below}
use Rattle.views.specs.Sets.{has}
use Rattle.views.specs.Views.{start_fits}
use Rattle.views.proofs.starts.starts_fit.Given as goal

abbrev pub invariant-loop-n : goal.invariant-loop-n
invariant-loop-n l = l.ok ≡ all_below (λ k. start_fits (has l.set k) (get_or l.starts k 0)) l.n
