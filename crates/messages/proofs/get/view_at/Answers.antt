-- `get::view_at` meets its contract: its parts are those at the three places. Assumes nothing.
use Rattle.messages.specs.Bytes.{view_at}
use Rattle.messages.proofs.get.view_at.Goals as goal

pub returns : goal.returns
unfolding view_at
returns c = rw (c.starts_at.ensures, c.number_at.ensures, c.byte_at.ensures)
