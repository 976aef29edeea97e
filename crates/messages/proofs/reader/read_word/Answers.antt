-- `reader::read_word` meets its contract: a word has no test. Assumes nothing.
use native.Mathlib.Omega.{arith}
use mathlib.Core.Path.{refl}
use Rattle.messages.proofs.Arms.{at_word, well_word}
use Rattle.messages.proofs.Rows.{read_row}
use Rattle.messages.proofs.Refused.{now_read}
use Rattle.messages.specs.Layouts.{length_of}
use Rattle.messages.proofs.reader.read_word.Goals as goal

pub word_at-requires : goal.word_at-requires
unfolding length_of
word_at-requires c = omega (arith, c.requires.long)

pub returns : goal.returns
returns c =
    let bs = c.args.bytes.now in
    let fs = c.args.fields.now in
    now_read bs fs c.give.new.fields
    (read_row bs fs 2 c.of_word.result c.requires.first
    (at_word bs 2 _ _ refl c.word_at.ensures c.of_word.ensures)
    c.give.new.fields c.told-fields c.requires.long (well_word _ _ c.of_word.ensures) c.give.ensures)
