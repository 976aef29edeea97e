-- `put::put_view` meets its contract: three stores, one behind the other. Assumes nothing.
use Rattle.messages.proofs.Stores.{view_stored}
use Rattle.messages.proofs.put.put_view.Goals as goal

pub returns : goal.returns
returns c =
    let a = c.args in
    let the-put-number = c.put_number in
    let the-put-byte = c.put_byte in
    let the-put-starts = c.put_starts in
    view_stored a.v a.at a.area.now the-put-number.new.area the-put-byte.new.area
    the-put-starts.new.area the-put-number.ensures the-put-byte.ensures the-put-starts.ensures
