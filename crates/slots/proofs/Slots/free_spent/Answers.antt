-- `free_spent` meets its contract: the tags passed are freed. Assumes nothing.
use mathlib.Core.Path.{◌≡◌}
use lib.ListN.{length}
use Rattle.marks.proofs.Slot.{array_length}
use Rattle.below.proofs.Lists.{each_none}
use Rattle.slots.specs.Slots.{no_tag}
use Rattle.slots.specs.Spent.{spent_by}
use Rattle.slots.proofs.Branches.{turn_lowered, turn_kept, turn_end}
use borrow.Author.Rules.{rules}
use Rattle.slots.proofs.Slots.free_spent.Goals as goal
use Rattle.slots.proofs.Slots.free_spent.Goals.{then-is_spent, else-is_spent}

pub loop-tag-init : goal.loop-tag-init
loop-tag-init c = each_none no_tag _ _

pub loop-tag-preserved : goal.loop-tag-preserved
loop-tag-preserved c =
    let gone = spent_by c.args.at.now.me c.args.at.now.current c.args.at.now.latest c.args.at.now.pending in
    let n : length c.args.self.now.tags ≡ 4 = search (rules, array_length) in
    let m = c.loop-tag.tag-items in
    elim c.if-is_spent.branch [
      | then-is_spent w ↦ turn_lowered gone _ m n _ c.loop-tag-test.true c.loop-tag.invariant _ c.is_spent.ensures _ w.if-is_spent.true w.tag-items-is
      | else-is_spent w ↦ turn_kept gone _ m n _ c.loop-tag-test.true c.loop-tag.invariant _ c.is_spent.ensures _ w.if-is_spent.false w.tag-items-is
    ]

pub returns : goal.returns
returns c =
    turn_end (spent_by c.args.at.now.me c.args.at.now.current c.args.at.now.latest c.args.at.now.pending) c.args.self.now c.loop-tag.tag-items _
    c.loop-tag.auto.tag-index-end c.loop-tag-test.false c.loop-tag.invariant
