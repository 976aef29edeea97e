-- `writer::write_view` meets its contract: the kind and the view are stored. Assumes nothing.
use native.Mathlib.Omega.{arith}
use mathlib.Core.Logic.{⊎_elim, inl, inr}
use mathlib.Core.Path.{◌∙◌}
use Rattle.messages.proofs.Arms.{view_kinds, stored_view}
use Rattle.messages.proofs.Fits.{fit_low, fit_written, view_narrow}
use Rattle.messages.specs.Layouts.{length_of}
use Rattle.messages.specs.Kinds.{code_of}
use Rattle.messages.specs.Fields.{message_of}
use Rattle.messages.proofs.writer.write_view.Goals as goal

pub view_of-view-requires : goal.view_of-view-requires
view_of-view-requires c = view_narrow c.args.fields.now (fit_low c.args.fields.now c.in_ok-test.ensures.ok.fit)

pub put_byte-requires : goal.put_byte-requires
unfolding length_of
put_byte-requires c = omega (arith, c.in_ok-test.ensures.ok.room)

pub put_view-requires : goal.put_view-requires
unfolding length_of
put_view-requires c = omega (arith, c.in_ok-test.ensures.ok.room)

pub returns : goal.returns
unfolding message_of length_of
returns c =
    let fs = c.args.fields.now in
    let k = view_kinds c.args.kind c.requires.is_view in
    let t = c.in_ok-test.ensures.ok in
    fit_written fs c.args.area.now (code_of c.args.kind) c.put_byte.new.area c.put_view.new.area t.fit c.told-fields c.requires.first
    (⊎_elim (λ e. rw e t.room) (λ e. rw e t.room) k)
    (rw c.into.ensures at c.put_byte.ensures)
    (stored_view (message_of fs) c.put_byte.new.area c.put_view.new.area
    (⊎_elim (λ e. inl (c.requires.first ∙ e)) (λ e. inr (c.requires.first ∙ e)) k)
    (rw c.view_of-view.ensures at c.put_view.ensures))
