-- `reader::read_forward` meets its contract: the place and the view are tested. Assumes nothing.
use native.Mathlib.Omega.{arith}
use mathlib.Core.Bool.{not, and-false}
use mathlib.Core.Path.{refl, ap, ◌∙◌}
use Rattle.below.proofs.Tests.{told_not, told_so, and_both}
use Rattle.messages.proofs.Arms.{at_forward, well_forward}
use Rattle.messages.proofs.Rows.{unread_malformed, read_row}
use Rattle.messages.proofs.Refused.{not_read, now_read}
use Rattle.messages.specs.Layouts.{length_of}
use Rattle.messages.specs.Messages.{of_forward}
use Rattle.messages.proofs.reader.read_forward.Goals as goal

pub byte_at-sender-requires : goal.byte_at-sender-requires
unfolding length_of
byte_at-sender-requires c = omega (arith, c.requires.long)

pub byte_at-index-requires : goal.byte_at-index-requires
unfolding length_of
byte_at-index-requires c = omega (arith, c.requires.long)

pub view_at-view-requires : goal.view_at-view-requires
unfolding length_of
view_at-view-requires c = omega (arith, c.requires.long)

pub word_at-word-requires : goal.word_at-word-requires
unfolding length_of
word_at-word-requires c = omega (arith, c.requires.long)

pub returns-then-not-place_fits : goal.returns-then-not-place_fits
returns-then-not-place_fits c =
    let bs = c.args.bytes.now in
    let fs = c.args.fields.now in
    let s = c.byte_at-sender.result in
    let i = c.byte_at-index.result in
    let v = c.view_at-view.result in
    let w = c.word_at-word.result in
    not_read bs fs c.told-fields
    (unread_malformed bs fs 4 (of_forward s i v w) c.requires.first
    (at_forward bs 4 _ _ _ _ _ refl c.byte_at-sender.ensures c.byte_at-index.ensures c.view_at-view.ensures c.word_at-word.ensures refl)
    (well_forward _ s i w v refl ∙ rw (told_not _ _ (ap not c.if-not-place_fits.true) (rw (c.from.ensures, c.from-2.ensures) at c.place_fits.ensures)) refl))

pub returns-then-not-well_formed : goal.returns-then-not-well_formed
returns-then-not-well_formed c =
    let bs = c.args.bytes.now in
    let fs = c.args.fields.now in
    let s = c.byte_at-sender.result in
    let i = c.byte_at-index.result in
    let v = c.view_at-view.result in
    let w = c.word_at-word.result in
    not_read bs fs c.told-fields
    (unread_malformed bs fs 4 (of_forward s i v w) c.requires.first
    (at_forward bs 4 _ _ _ _ _ refl c.byte_at-sender.ensures c.byte_at-index.ensures c.view_at-view.ensures c.word_at-word.ensures refl)
    (well_forward _ s i w v refl ∙ rw (told_not _ _ (ap not c.if-not-well_formed.true) c.well_formed-2.ensures, and-false) refl))

pub returns : goal.returns
returns c =
    let bs = c.args.bytes.now in
    let fs = c.args.fields.now in
    let s = c.byte_at-sender.result in
    let i = c.byte_at-index.result in
    now_read bs fs c.give.new.fields
    (read_row bs fs 4 c.of_forward.result c.requires.first
    (at_forward bs 4 _ _ _ _ _ refl c.byte_at-sender.ensures c.byte_at-index.ensures c.view_at-view.ensures c.word_at-word.ensures c.of_forward.ensures)
    c.give.new.fields c.told-fields c.requires.long
    (well_forward _ s i c.word_at-word.result c.view_at-view.result c.of_forward.ensures
    ∙ and_both (told_so _ _ (ap not c.if-not-place_fits.false) (rw (c.from.ensures, c.from-2.ensures) at c.place_fits.ensures)) (told_so _ _ (ap not c.if-not-well_formed.false) c.well_formed-2.ensures))
    c.give.ensures)
