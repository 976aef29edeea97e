-- `announced` meets its contract. Assumes nothing.
use lib.ListN.{length}
use mathlib.Core.Path.{◌≡◌}
use borrow.Author.Rules.{rules}
use Rattle.marks.proofs.Slot.{array_length}
use Rattle.endpoint.proofs.Receiving.{heard_is}
use Rattle.endpoint.proofs.EndPoint.announced.Goals as goal

pub returns : goal.returns
returns c =
    let e = c.args.self.now in
    let l : length e.heard ≡ 8 = search (rules, array_length) in
    heard_is e c.args.q _ l c.requires
