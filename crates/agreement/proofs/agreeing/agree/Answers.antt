-- `agreeing::agree` meets its contract: the members passed are in the four parts of the answer. Assumes nothing.
use Rattle.std.proofs.Common.{◌∙◌, ap, refl}
use Rattle.views.specs.Sets.{joined}
use Rattle.agreement.specs.Pass.{part_of}
use Rattle.agreement.proofs.Going.{going_start, going_outside, going_unnamed, going_agrees}
use Rattle.agreement.proofs.agreeing.agree.Goals as goal
use Rattle.agreement.proofs.agreeing.agree.Goals.{in-Outside, in-Unnamed, in-Agrees}

pub loop-m-init : goal.loop-m-init
loop-m-init c = going_start _ _ (rw (c.none.ensures, c.none-2.ensures) refl)

pub loop-m-preserved : goal.loop-m-preserved
loop-m-preserved c =
    let a = c.args in
    let l = c.loop-m in
    let f = part_of a.current a.membership a.records.now in
    let x = c.of in
    elim c.match-of.branch [
      | in-Outside w ↦ rw w.a-is (going_outside f l.a l.m x.result l.invariant c.loop-m-test.true x.ensures w.in-Outside.is)
      | in-Unnamed w ↦ rw w.a-is (going_unnamed f l.a l.m x.result l.invariant c.loop-m-test.true x.ensures w.in-Unnamed.is)
      | in-Agrees w ↦ rw w.a-is (going_agrees f l.a l.m x.result l.invariant c.loop-m-test.true x.ensures _ _ _ w.in-Agrees.is w.higher-a.ensures (w.joined.ensures ∙ ap (joined l.a.set) w.only.ensures))
    ]
