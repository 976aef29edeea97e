-- `check_message` meets its contract: a well formed message has a kind. Assumes nothing.
use Rattle.std.proofs.Common.{rules, ◌≡◌, true}
use native.Mathlib.Omega.{arith}
use Rattle.messages.specs.Layouts.{well_formed}
use Rattle.messages.proofs.Tested.{kind_fits}
use Rattle.endpoint.proofs.EndPoint.check_message.Goals as goal

pub unreachable-requires : goal.unreachable-requires
unreachable-requires c =
    let w : well_formed c.args.m ≡ true = search rules in
    omega (arith, kind_fits c.args.m w, c.in_default.ensures)
