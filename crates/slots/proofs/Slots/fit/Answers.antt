-- `fit` meets its contract: the slots passed fit. Assumes nothing.
use mathlib.Core.Path.{◌≡◌}
use lib.ListN.{length}
use Rattle.marks.proofs.Slot.{array_length}
use Rattle.below.proofs.All.{all_none, loop_more}
use Rattle.slots.proofs.Branches.{fits_at, fit_stop, fit_end}
use borrow.Author.Rules.{rules}
use mathlib.Core.Path.{ap}
use mathlib.Core.Bool.{not}
use Rattle.slots.proofs.Slots.fit.Goals as goal

pub loop-s-init : goal.loop-s-init
loop-s-init c = all_none _

pub returns-then-not-fits : goal.returns-then-not-fits
returns-then-not-fits c =
    let at = c.args.at.now in
    let e : length c.args.self.now.tags ≡ 4 = search (rules, array_length) in
    let k : length c.args.self.now.marks ≡ 4 = search (rules, array_length) in
    fit_stop at.me at.current at.latest at.pending c.args.self.now e k c.loop-s.s c.fits.result c.loop-s-test.true c.fits.ensures (ap not c.if-not-fits.true)

pub loop-s-preserved : goal.loop-s-preserved
loop-s-preserved c =
    let at = c.args.at.now in
    loop_more (fits_at at.me at.current at.latest at.pending c.args.self.now) 4 c.loop-s.s c.fits.result (ap not c.if-not-fits.false) c.fits.ensures c.loop-s.invariant

pub returns : goal.returns
returns c =
    let at = c.args.at.now in
    let e : length c.args.self.now.tags ≡ 4 = search (rules, array_length) in
    let k : length c.args.self.now.marks ≡ 4 = search (rules, array_length) in
    fit_end at.me at.current at.latest at.pending c.args.self.now e k c.loop-s.s c.differ.result (search rules) c.loop-s-test.false c.loop-s.invariant c.differ.ensures
