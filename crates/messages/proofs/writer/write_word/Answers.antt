-- `writer::write_word` meets its contract: the kind and the word are stored. Assumes nothing.
use native.Mathlib.Omega.{arith}
use Rattle.messages.proofs.Arms.{stored_word}
use Rattle.messages.proofs.Fits.{fit_written}
use Rattle.messages.specs.Layouts.{length_of}
use Rattle.messages.specs.Fields.{message_of}
use Rattle.messages.proofs.writer.write_word.Goals as goal

pub put_byte-requires : goal.put_byte-requires
unfolding length_of
put_byte-requires c = omega (arith, c.in_ok-test.ensures.ok.room)

pub put_word-requires : goal.put_word-requires
unfolding length_of
put_word-requires c = omega (arith, c.in_ok-test.ensures.ok.room)

pub returns : goal.returns
unfolding message_of
returns c =
    let fs = c.args.fields.now in
    let t = c.in_ok-test.ensures.ok in
    fit_written fs c.args.area.now 2 c.put_byte.new.area c.put_word.new.area t.fit c.told-fields c.requires t.room (rw c.into.ensures at c.put_byte.ensures)
    (stored_word (message_of fs) c.put_byte.new.area c.put_word.new.area c.requires c.put_word.ensures)
