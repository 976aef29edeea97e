-- `writer::test` meets its contract, by the test at which it stopped. Assumes nothing.
use mathlib.Core.Bool.{not}
use mathlib.Core.Path.{ap, ◌∙◌}
use Rattle.below.proofs.Tests.{told_not, told_so}
use Rattle.messages.proofs.Fits.{unfit, unroomed, fits}
use Rattle.messages.proofs.writer.test.Goals as goal

pub returns-then-not-fields_are-clause-err : goal.returns-then-not-fields_are-clause-err
returns-then-not-fields_are-clause-err c =
    unfit c.args.fields.now c.args.kind c.requires c.args.area.now c.told-fields
    (told_not _ _ (ap not c.if-not-fields_are.true) c.fields_are.ensures)

pub returns-then-not-has_room-clause-err : goal.returns-then-not-has_room-clause-err
returns-then-not-has_room-clause-err c =
    unroomed c.args.fields.now c.args.kind c.requires c.args.area.now c.told-fields
    (told_so _ _ (ap not c.if-not-fields_are.false) c.fields_are.ensures) (told_not _ _ (ap not c.if-not-has_room.true) c.has_room.ensures)

pub returns-clause-ok : goal.returns-clause-ok
returns-clause-ok c =
    fits c.args.fields.now c.args.kind c.requires c.args.area.now c.told-fields
    (told_so _ _ (ap not c.if-not-fields_are.false) c.fields_are.ensures) (told_so _ _ (ap not c.if-not-has_room.false) c.has_room.ensures)
