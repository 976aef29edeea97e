-- `differ` meets its contract: the slots passed differ from those below them. Assumes nothing.
use native.Mathlib.Omega.{arith}
use Prim.Native.Nat.{◌<◌, ◌≤◌}
use mathlib.Core.Path.{◌≡◌}
use lib.ListN.{length}
use Rattle.marks.proofs.Slot.{array_length}
use Rattle.below.proofs.All.{all_none}
use Rattle.slots.proofs.Branches.{differ_stop, differ_more, differ_next, differ_end, taken_length, taken_tag}
use borrow.Author.Rules.{rules}
use Rattle.slots.proofs.Slots.differ.Goals as goal

pub loop-s-init : goal.loop-s-init
loop-s-init c = all_none _

pub loop-other-init : goal.loop-other-init
loop-other-init c = all_none _

pub returns-then-is_like : goal.returns-then-is_like
returns-then-is_like c =
    let tags = c.args.self.now.tags in
    let n : length tags ≡ 4 = search (rules, array_length) in
    let l : c.loop-other.other-index < c.loop-s.s = omega (arith, taken_length tags c.loop-s.s n c.loop-s-test.true, c.loop-other-test.true) in
    differ_stop tags n c.loop-s.s c.loop-other.other-index _ c.loop-s-test.true l (rw (taken_tag tags c.loop-s.s c.loop-other.other-index l) at c.is_like.ensures) c.if-is_like.true

pub loop-other-preserved : goal.loop-other-preserved
loop-other-preserved c =
    let tags = c.args.self.now.tags in
    let n : length tags ≡ 4 = search (rules, array_length) in
    let l : c.loop-other.other-index < c.loop-s.s = omega (arith, taken_length tags c.loop-s.s n c.loop-s-test.true, c.loop-other-test.true) in
    differ_more tags c.loop-s.s c.loop-other.other-index _ (rw (taken_tag tags c.loop-s.s c.loop-other.other-index l) at c.is_like.ensures) c.if-is_like.false c.loop-other.invariant

pub loop-s-preserved : goal.loop-s-preserved
loop-s-preserved c =
    let tags = c.args.self.now.tags in
    let n : length tags ≡ 4 = search (rules, array_length) in
    let a : c.loop-other.other-index ≤ c.loop-s.s = omega (arith, taken_length tags c.loop-s.s n c.loop-s-test.true, c.loop-other.auto.other-index-end) in
    let b : c.loop-s.s ≤ c.loop-other.other-index = omega (arith, taken_length tags c.loop-s.s n c.loop-s-test.true, c.loop-other-test.false) in
    differ_next tags c.loop-s.s c.loop-other.other-index a b c.loop-other.invariant c.loop-s.invariant

pub returns : goal.returns
returns c =
    let n : length c.args.self.now.tags ≡ 4 = search (rules, array_length) in
    differ_end c.args.self.now.tags n c.loop-s.s (search rules) c.loop-s-test.false c.loop-s.invariant
