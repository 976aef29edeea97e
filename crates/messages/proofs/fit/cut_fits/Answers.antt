-- `fit::cut_fits` meets its contract, by the branch that was taken. Assumes nothing.
use mathlib.Core.Bool.{true, false}
use mathlib.Core.Path.{refl, ◌∙◌, sym}
use borrow.Author.Rules.{rules}
use Rattle.below.proofs.Tests.{told, pick_no, picks}
use Rattle.messages.specs.Fields.{narrow_counts}
use Rattle.messages.specs.Fits.{cut_fields_fit}
use Rattle.messages.proofs.Narrow.{zero_narrow}
use Rattle.messages.proofs.fit.cut_fits.Goals as goal

pub cut_of-requires : goal.cut_of-requires
unfolding narrow_counts
cut_of-requires c = search (rules, picks)

pub returns-then-narrow_row : goal.returns-then-narrow_row
unfolding cut_fields_fit narrow_counts
returns-then-narrow_row c = rw (told _ _ true c.if-has_cut.true c.has_cut.ensures, sym c.narrow_row.ensures ∙ c.if-narrow_row.true, ← c.cut_of.ensures) c.well_formed-then-narrow_row.ensures

pub returns-else-narrow_row : goal.returns-else-narrow_row
unfolding cut_fields_fit narrow_counts
returns-else-narrow_row c = search (rules, picks)

pub returns-else-has_cut : goal.returns-else-has_cut
unfolding cut_fields_fit
returns-else-has_cut c = c.narrow_row-else-has_cut.ensures ∙ zero_narrow c.args.fields.now 16 ∙ pick_no _ _ _ _ (told _ _ false c.if-has_cut.false c.has_cut.ensures) refl
