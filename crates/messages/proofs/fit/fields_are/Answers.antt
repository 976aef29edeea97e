-- `fit::fields_are` meets its contract: all three parts fit. Assumes nothing.
use mathlib.Core.Bool.{Bool, true, false, ◌&&◌}
use mathlib.Core.Path.{◌≡◌, refl}
use Rattle.messages.specs.Fits.{fields_are}
use Rattle.messages.proofs.fit.fields_are.Goals as goal

grouped : (x y z : Bool) → ((x && y) && z) ≡ (x && (y && z))
grouped true y z = refl
grouped false y z = refl

pub returns : goal.returns
unfolding fields_are
returns c = rw (grouped c.numbers_fit.result c.cut_fits.result c.view_fits.result, c.numbers_fit.ensures, c.cut_fits.ensures, c.view_fits.ensures)
