-- `writer::write_forward` meets its contract: the kind, the place, the view and the word are stored. Assumes nothing.
use native.Mathlib.Omega.{arith}
use Rattle.messages.proofs.Arms.{stored_forward}
use Rattle.messages.proofs.Fits.{fit_low, fit_written, view_narrow}
use Rattle.messages.specs.Layouts.{length_of}
use Rattle.messages.specs.Fields.{message_of}
use Rattle.messages.proofs.writer.write_forward.Goals as goal

pub overflow_cast-sender : goal.overflow_cast-sender
overflow_cast-sender c = record { fits = (fit_low c.args.fields.now c.in_ok-test.ensures.ok.fit).sender_low }

pub overflow_cast-index : goal.overflow_cast-index
overflow_cast-index c = record { fits = (fit_low c.args.fields.now c.in_ok-test.ensures.ok.fit).index_low }

pub view_of-view-requires : goal.view_of-view-requires
view_of-view-requires c = view_narrow c.args.fields.now (fit_low c.args.fields.now c.in_ok-test.ensures.ok.fit)

pub put_byte-requires : goal.put_byte-requires
unfolding length_of
put_byte-requires c = omega (arith, c.in_ok-test.ensures.ok.room)

pub put_byte-requires-2 : goal.put_byte-requires-2
unfolding length_of
put_byte-requires-2 c = omega (arith, c.in_ok-test.ensures.ok.room)

pub put_byte-requires-3 : goal.put_byte-requires-3
unfolding length_of
put_byte-requires-3 c = omega (arith, c.in_ok-test.ensures.ok.room)

pub put_view-requires : goal.put_view-requires
unfolding length_of
put_view-requires c = omega (arith, c.in_ok-test.ensures.ok.room)

pub put_word-requires : goal.put_word-requires
unfolding length_of
put_word-requires c = omega (arith, c.in_ok-test.ensures.ok.room)

pub returns : goal.returns
unfolding message_of
returns c =
    let fs = c.args.fields.now in
    let t = c.in_ok-test.ensures.ok in
    fit_written fs c.args.area.now 4 c.put_byte.new.area c.put_word.new.area t.fit c.told-fields c.requires t.room (rw c.into.ensures at c.put_byte.ensures)
    (stored_forward (message_of fs) c.put_byte.new.area c.put_byte-2.new.area c.put_byte-3.new.area c.put_view.new.area c.put_word.new.area c.requires
    c.put_byte-2.ensures c.put_byte-3.ensures (rw c.view_of-view.ensures at c.put_view.ensures) c.put_word.ensures)
