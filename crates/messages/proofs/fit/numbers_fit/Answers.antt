-- `fit::numbers_fit` meets its contract: each part is what its test says. Assumes nothing.
use mathlib.Core.Bool.{Bool, true, false, ◌&&◌}
use mathlib.Core.Path.{◌≡◌, refl}
use Rattle.messages.specs.Fits.{numbers_fit}
use Rattle.messages.proofs.fit.numbers_fit.Goals as goal

grouped : (x y z w : Bool) → (((x && y) && z) && w) ≡ (x && (y && (z && w)))
grouped true true true w = refl
grouped true true false w = refl
grouped true false z w = refl
grouped false y z w = refl

pub returns : goal.returns
unfolding numbers_fit
returns c =
    rw (
      grouped c.below_or_zero.result c.place_fits.result c.word_fits.result c.below_or_zero-2.result,
      c.below_or_zero.ensures,
      c.has_number.ensures,
      c.place_fits.ensures,
      c.word_fits.ensures,
      c.below_or_zero-2.ensures,
      c.has_set.ensures,
    )
