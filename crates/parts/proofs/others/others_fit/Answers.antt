-- `others_fit` meets its contract: the senders passed fit. Assumes nothing.
use mathlib.Core.Path.{◌≡◌, sym, ◌∙◌}
use lib.ListN.{length}
use Rattle.marks.proofs.Slot.{array_length}
use Rattle.below.proofs.All.{all_none, all_more, all_stop, all_done}
use Rattle.parts.proofs.Elements.{own_fits, one_fits, one_fails, others_any}
use borrow.Author.Rules.{rules}
use Rattle.parts.proofs.others.others_fit.Goals as goal
use Rattle.parts.proofs.others.others_fit.Goals.{else-q-at-via-then-q-at+else-not-other_fits, else-q-at-via-else-q-at}

pub loop-q-init : goal.loop-q-init
loop-q-init c = all_none _

pub returns-then-not-other_fits : goal.returns-then-not-other_fits
returns-then-not-other_fits c =
    let n : length c.args.heard.now ≡ 8 = search (rules, array_length) in
    sym (all_stop _ 8 c.loop-q.q c.loop-q-test.true (one_fails _ _ _ c.if-q-at.true _ c.other_fits.ensures c.if-not-other_fits.true)) ∙
    others_any _ _ _ _ _ c.args.heard.now c.args.received.now n

pub loop-q-preserved : goal.loop-q-preserved
loop-q-preserved c =
    elim c.else-q-at.branch [
      | else-q-at-via-then-q-at+else-not-other_fits w ↦ all_more _ _ c.loop-q.invariant (one_fits _ _ _ _ w.other_fits.ensures w.if-not-other_fits.false)
      | else-q-at-via-else-q-at w ↦ all_more _ _ c.loop-q.invariant (own_fits _ _ _ w.if-q-at.false)
    ]

pub returns : goal.returns
returns c =
    let n : length c.args.heard.now ≡ 8 = search (rules, array_length) in
    sym (all_done _ 8 c.loop-q.q c.loop-q.auto.q-end c.loop-q-test.false c.loop-q.invariant) ∙ others_any _ _ _ _ _ c.args.heard.now c.args.received.now n
