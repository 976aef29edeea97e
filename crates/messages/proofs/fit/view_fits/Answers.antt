-- `fit::view_fits` meets its contract, by the branch that was taken. Assumes nothing.
use mathlib.Core.Bool.{Bool, true, false, ◌&&◌}
use mathlib.Core.Path.{◌≡◌, refl, sym, ◌∙◌}
use lib.Dec.{eqb, ltb}
use lib.ListN.{get_or}
use Prim.Native.Nat.{ℕ}
use mathlib.Core.List.{List}
use Rattle.below.proofs.Tests.{told, pick_yes, pick_no, and_yes, and_no}
use Rattle.messages.specs.Fields.{narrow_starts}
use Rattle.messages.specs.Fits.{narrow_view, view_fields_fit, zero_row}
use Rattle.messages.proofs.Narrow.{zero_narrow}
use Rattle.messages.proofs.fit.view_fits.Goals as goal

grouped : (x y z : Bool) → ((x && y) && z) ≡ (x && (y && z))
grouped true y z = refl
grouped false y z = refl

-- the three tests together
narrow_is : (fs : List ℕ) (r : Bool) → r ≡ narrow_starts fs → ((ltb (get_or fs 6 0) 4294967296 && ltb (get_or fs 7 0) 256) && r) ≡ narrow_view fs
unfolding narrow_view
narrow_is fs r e = grouped (ltb (get_or fs 6 0) 4294967296) (ltb (get_or fs 7 0) 256) r ∙ rw e refl

pub view_of-requires : goal.view_of-requires
unfolding narrow_starts
view_of-requires c = sym (narrow_is c.args.fields.now c.narrow_row-starts.result c.narrow_row-starts.ensures) ∙ c.if-narrow.true

pub returns-then-narrow : goal.returns-then-narrow
unfolding view_fields_fit narrow_starts
returns-then-narrow c =
    pick_yes _ _ _ _ (told _ _ true c.if-has_view.true c.has_view.ensures)
    (and_yes (narrow_view c.args.fields.now) _ _ (sym (narrow_is c.args.fields.now c.narrow_row-starts.result c.narrow_row-starts.ensures) ∙ c.if-narrow.true)
    (rw (← c.view_of.ensures) c.well_formed-then-narrow.ensures))

pub returns-else-narrow : goal.returns-else-narrow
unfolding view_fields_fit narrow_starts
returns-else-narrow c =
    c.if-narrow.false ∙ pick_yes _ _ _ _ (told _ _ true c.if-has_view.true c.has_view.ensures)
    (and_no (narrow_view c.args.fields.now) _ (sym (narrow_is c.args.fields.now c.narrow_row-starts.result c.narrow_row-starts.ensures) ∙ c.if-narrow.false))

pub returns-else-has_view : goal.returns-else-has_view
unfolding view_fields_fit
returns-else-has_view c =
    let fs = c.args.fields.now in
    pick_no _ _ _ _ (told _ _ false c.if-has_view.false c.has_view.ensures)
    (rw (c.narrow_row-starts-else-has_view.ensures, zero_narrow fs 8) (grouped (eqb (get_or fs 6 0) 0) (eqb (get_or fs 7 0) 0) (zero_row fs 8)))
