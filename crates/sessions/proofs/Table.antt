-- The sessions at the edges, 1 to 11, as one theorem: the definitions compute to what the table wants, row by row. Assumes nothing.
use mathlib.Core.Path.{refl}
use Rattle.sessions.specs.Sessions.{Agrees, none, one, table}
use Rattle.sessions.specs.Opened.{opened}

pub sessions : Agrees table
unfolding opened
sessions = one refl (one refl (one refl (one refl (one refl (one refl (one refl (one refl (one refl (one refl (one refl (one refl (one refl none))))))))))))
