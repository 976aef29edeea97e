-- `reader::read_start_change` meets its contract: a start change has no test. Assumes nothing.
use native.Mathlib.Omega.{arith}
use mathlib.Core.Path.{refl}
use Rattle.messages.proofs.Arms.{at_start_change, well_start_change}
use Rattle.messages.proofs.Rows.{read_row}
use Rattle.messages.proofs.Refused.{now_read}
use Rattle.messages.specs.Layouts.{length_of}
use Rattle.messages.proofs.reader.read_start_change.Goals as goal

pub number_at-number-requires : goal.number_at-number-requires
unfolding length_of
number_at-number-requires c = omega (arith, c.requires.long)

pub byte_at-set-requires : goal.byte_at-set-requires
unfolding length_of
byte_at-set-requires c = omega (arith, c.requires.long)

pub returns : goal.returns
returns c =
    let bs = c.args.bytes.now in
    let fs = c.args.fields.now in
    now_read bs fs c.give.new.fields
    (read_row bs fs 5 c.of_start_change.result c.requires.first
    (at_start_change bs 5 _ _ _ refl c.number_at-number.ensures c.byte_at-set.ensures c.of_start_change.ensures)
    c.give.new.fields c.told-fields c.requires.long (well_start_change _ _ _ c.of_start_change.ensures) c.give.ensures)
