-- "Spent." of an end-point: the rule is in the slots' crate. Assumes nothing.
use Rattle.std.specs.Prelude.{Bool}
use Rattle.views.specs.declared.View.{View}
use Rattle.slots.specs.Spent.{spent_by}
use Rattle.endpoint.specs.declared.EndPoint.{EndPoint}
use Rattle.endpoint.specs.State.{is_pending}

unfoldable pub spent : EndPoint → View → Bool
spent e v = spent_by e.me e.current e.change.number (is_pending e) v
