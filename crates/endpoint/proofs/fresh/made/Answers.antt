-- `made` meets its contract. Assumes nothing.
use Rattle.endpoint.specs.Fresh.{fresh}
use Rattle.endpoint.proofs.Start.{fresh_slots_lem}
use mathlib.Core.Path.{refl}
use Rattle.endpoint.proofs.fresh.made.Goals as goal

pub returns : goal.returns
unfolding fresh
returns c = rw (c.take.ensures, c.first_views.ensures, c.no_rows.ensures, c.none.ensures, c.none-slots.ensures, c.only.ensures, c.initial-first.ensures, fresh_slots_lem) refl
