-- `formed::view_fits` meets its contract: a view that is no view is blank. Assumes nothing.
use mathlib.Core.Bool.{Bool, true, false, ◌&&◌}
use mathlib.Core.Path.{◌≡◌, refl, ◌∙◌}
use lib.Dec.{eqb}
use borrow.Author.Rules.{rules}
use Rattle.below.proofs.Tests.{told}
use Rattle.views.specs.Views.{all_zero}
use Rattle.views.proofs.Sameness.{zero_tested}
use Rattle.messages.specs.Layouts.{blank_view}
use Rattle.messages.proofs.formed.view_fits.Goals as goal

-- the parts in the order in which `==` has them
moved : (x y z : Bool) → (x && (y && z)) ≡ (y && (z && x))
moved true true true = refl
moved true true false = refl
moved true false z = refl
moved false true true = refl
moved false true false = refl
moved false false z = refl

pub returns-else-has_view : goal.returns-else-has_view
unfolding blank_view
returns-else-has_view c =
    let v = c.args.v in
    rw (told _ _ false c.if-has_view.false c.has_view.ensures)
    (rw (c.none.ensures, zero_tested v.starts (search rules)) at c.eq.ensures ∙ moved (all_zero v.starts) (eqb v.id 0) (eqb v.set 0))
