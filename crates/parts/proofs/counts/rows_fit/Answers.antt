-- `rows_fit` meets its contract: a loop that tests all. Assumes nothing.
use mathlib.Core.Path.{◌≡◌, ◌∙◌}
use lib.ListN.{length}
use Rattle.marks.proofs.Slot.{array_length}
use Rattle.below.proofs.All.{acc_none, acc_more, acc_end}
use Rattle.parts.proofs.Elements.{rows_any}
use borrow.Author.Rules.{rules}
use Rattle.parts.proofs.counts.rows_fit.Goals as goal

pub loop-row-init : goal.loop-row-init
loop-row-init c = acc_none _

pub loop-row-preserved : goal.loop-row-preserved
loop-row-preserved c = acc_more _ _ _ _ c.loop-row.invariant c.row_fits-ok.ensures

pub returns : goal.returns
returns c =
    let n : length c.args.rows.now ≡ 8 = search (rules, array_length) in
    acc_end _ 8 _ _ c.loop-row.auto.row-index-end c.loop-row-test.false c.loop-row.invariant ∙ rows_any c.args.rows.now n
