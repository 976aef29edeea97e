-- `reader::read_sync` meets its contract: the cut and the view are tested. Assumes nothing.
use native.Mathlib.Omega.{arith}
use mathlib.Core.Bool.{not, and-false}
use mathlib.Core.Path.{refl, ap, ◌∙◌}
use Rattle.below.proofs.Tests.{told_not, told_so, and_both}
use Rattle.messages.proofs.Arms.{at_sync, well_sync}
use Rattle.messages.proofs.Rows.{unread_malformed, read_row}
use Rattle.messages.proofs.Refused.{not_read, now_read}
use Rattle.messages.specs.Layouts.{length_of}
use Rattle.messages.specs.Messages.{of_sync}
use Rattle.messages.proofs.reader.read_sync.Goals as goal

pub number_at-number-requires : goal.number_at-number-requires
unfolding length_of
number_at-number-requires c = omega (arith, c.requires.long)

pub view_at-view-requires : goal.view_at-view-requires
unfolding length_of
view_at-view-requires c = omega (arith, c.requires.long)

pub cut_at-cut-requires : goal.cut_at-cut-requires
unfolding length_of
cut_at-cut-requires c = omega (arith, c.requires.long)

pub returns-then-not-well_formed : goal.returns-then-not-well_formed
returns-then-not-well_formed c =
    let bs = c.args.bytes.now in
    let fs = c.args.fields.now in
    let n = c.number_at-number.result in
    let v = c.view_at-view.result in
    let x = c.cut_at-cut.result in
    not_read bs fs c.told-fields
    (unread_malformed bs fs 3 (of_sync n v x) c.requires.first
    (at_sync bs 3 _ _ _ _ refl c.number_at-number.ensures c.view_at-view.ensures c.cut_at-cut.ensures refl)
    (well_sync _ n v x refl ∙ rw (told_not _ _ (ap not c.if-not-well_formed.true) c.well_formed-2.ensures) refl))

pub returns-then-not-well_formed-2 : goal.returns-then-not-well_formed-2
returns-then-not-well_formed-2 c =
    let bs = c.args.bytes.now in
    let fs = c.args.fields.now in
    let n = c.number_at-number.result in
    let v = c.view_at-view.result in
    let x = c.cut_at-cut.result in
    not_read bs fs c.told-fields
    (unread_malformed bs fs 3 (of_sync n v x) c.requires.first
    (at_sync bs 3 _ _ _ _ refl c.number_at-number.ensures c.view_at-view.ensures c.cut_at-cut.ensures refl)
    (well_sync _ n v x refl ∙ rw (told_not _ _ (ap not c.if-not-well_formed-2.true) c.well_formed-3.ensures, and-false) refl))

pub returns : goal.returns
returns c =
    let bs = c.args.bytes.now in
    let fs = c.args.fields.now in
    now_read bs fs c.give.new.fields
    (read_row bs fs 3 c.of_sync.result c.requires.first
    (at_sync bs 3 _ _ _ _ refl c.number_at-number.ensures c.view_at-view.ensures c.cut_at-cut.ensures c.of_sync.ensures)
    c.give.new.fields c.told-fields c.requires.long
    (well_sync _ c.number_at-number.result c.view_at-view.result c.cut_at-cut.result c.of_sync.ensures
    ∙ and_both (told_so _ _ (ap not c.if-not-well_formed.false) c.well_formed-2.ensures) (told_so _ _ (ap not c.if-not-well_formed-2.false) c.well_formed-3.ensures))
    c.give.ensures)
