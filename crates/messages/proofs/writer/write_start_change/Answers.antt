-- `writer::write_start_change` meets its contract: the kind, the number and the set are stored. Assumes nothing.
use native.Mathlib.Omega.{arith}
use Rattle.messages.proofs.Arms.{stored_start_change}
use Rattle.messages.proofs.Fits.{fit_low, fit_written}
use Rattle.messages.specs.Layouts.{length_of}
use Rattle.messages.specs.Fields.{message_of}
use Rattle.messages.proofs.writer.write_start_change.Goals as goal

pub overflow_cast-number : goal.overflow_cast-number
overflow_cast-number c = record { fits = (fit_low c.args.fields.now c.in_ok-test.ensures.ok.fit).number_low }

pub overflow_cast-set : goal.overflow_cast-set
overflow_cast-set c = record { fits = (fit_low c.args.fields.now c.in_ok-test.ensures.ok.fit).set_low }

pub put_byte-requires : goal.put_byte-requires
unfolding length_of
put_byte-requires c = omega (arith, c.in_ok-test.ensures.ok.room)

pub put_number-requires : goal.put_number-requires
unfolding length_of
put_number-requires c = omega (arith, c.in_ok-test.ensures.ok.room)

pub put_byte-requires-2 : goal.put_byte-requires-2
unfolding length_of
put_byte-requires-2 c = omega (arith, c.in_ok-test.ensures.ok.room)

pub returns : goal.returns
unfolding message_of
returns c =
    let fs = c.args.fields.now in
    let t = c.in_ok-test.ensures.ok in
    fit_written fs c.args.area.now 5 c.put_byte.new.area c.put_byte-2.new.area t.fit c.told-fields c.requires t.room (rw c.into.ensures at c.put_byte.ensures)
    (stored_start_change (message_of fs) c.put_byte.new.area c.put_number.new.area c.put_byte-2.new.area c.requires c.put_number.ensures c.put_byte-2.ensures)
