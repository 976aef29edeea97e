-- `writer::write_sync` meets its contract: the kind, the number, the view and the cut are stored. Assumes nothing.
use native.Mathlib.Omega.{arith}
use Rattle.messages.proofs.Arms.{stored_sync}
use Rattle.messages.proofs.Fits.{fit_low, fit_written, counts_narrow, view_narrow}
use Rattle.messages.specs.Layouts.{length_of}
use Rattle.messages.specs.Fields.{message_of}
use Rattle.messages.proofs.writer.write_sync.Goals as goal

pub overflow_cast-number : goal.overflow_cast-number
overflow_cast-number c = record { fits = (fit_low c.args.fields.now c.in_ok-test.ensures.ok.fit).number_low }

pub view_of-view-requires : goal.view_of-view-requires
view_of-view-requires c = view_narrow c.args.fields.now (fit_low c.args.fields.now c.in_ok-test.ensures.ok.fit)

pub cut_of-cut-requires : goal.cut_of-cut-requires
cut_of-cut-requires c = counts_narrow c.args.fields.now (fit_low c.args.fields.now c.in_ok-test.ensures.ok.fit)

pub put_byte-requires : goal.put_byte-requires
unfolding length_of
put_byte-requires c = omega (arith, c.in_ok-test.ensures.ok.room)

pub put_number-requires : goal.put_number-requires
unfolding length_of
put_number-requires c = omega (arith, c.in_ok-test.ensures.ok.room)

pub put_view-requires : goal.put_view-requires
unfolding length_of
put_view-requires c = omega (arith, c.in_ok-test.ensures.ok.room)

pub put_cut-requires : goal.put_cut-requires
unfolding length_of
put_cut-requires c = omega (arith, c.in_ok-test.ensures.ok.room)

pub returns : goal.returns
unfolding message_of
returns c =
    let fs = c.args.fields.now in
    let t = c.in_ok-test.ensures.ok in
    fit_written fs c.args.area.now 3 c.put_byte.new.area c.put_cut.new.area t.fit c.told-fields c.requires t.room (rw c.into.ensures at c.put_byte.ensures)
    (stored_sync (message_of fs) c.put_byte.new.area c.put_number.new.area c.put_view.new.area c.put_cut.new.area c.requires c.put_number.ensures
    (rw c.view_of-view.ensures at c.put_view.ensures) (rw c.cut_of-cut.ensures at c.put_cut.ensures))
