-- `reader::read_view` meets its contract: only the view is tested. Assumes nothing.
use native.Mathlib.Omega.{arith}
use mathlib.Core.Bool.{not}
use mathlib.Core.Logic.{⊎_elim}
use mathlib.Core.Path.{◌≡◌, refl, ap, ◌∙◌}
use lib.ListN.{length}
use Rattle.below.proofs.Tests.{told_not, told_so}
use Rattle.messages.proofs.Arms.{view_kinds, room_of, at_views, well_view}
use Rattle.messages.proofs.Rows.{unread_malformed, read_row}
use Rattle.messages.proofs.Refused.{not_read, now_read}
use Rattle.messages.specs.Layouts.{length_of}
use Rattle.messages.specs.Kinds.{code_of}
use Rattle.messages.specs.Messages.{of_view}
use Rattle.messages.proofs.reader.read_view.Goals as goal

pub view_at-view-requires : goal.view_at-view-requires
unfolding length_of
view_at-view-requires c =
    let k = code_of c.args.kind in
    let n = length c.args.bytes.now in
    let h = c.requires.has_kind.long in
    ⊎_elim (λ e. omega (arith, room_of k 1 n e h)) (λ e. omega (arith, room_of k 6 n e h)) (view_kinds c.args.kind c.requires.is_view)

pub returns-then-not-well_formed : goal.returns-then-not-well_formed
returns-then-not-well_formed c =
    let bs = c.args.bytes.now in
    let fs = c.args.fields.now in
    let k = code_of c.args.kind in
    let e = view_kinds c.args.kind c.requires.is_view in
    let v = c.view_at-view.result in
    not_read bs fs c.told-fields
    (unread_malformed bs fs k (of_view k v) c.requires.has_kind.first
    (at_views bs k _ _ e c.view_at-view.ensures refl)
    (well_view _ k v e refl ∙ told_not _ _ (ap not c.if-not-well_formed.true) c.well_formed-2.ensures))

pub returns : goal.returns
returns c =
    let bs = c.args.bytes.now in
    let fs = c.args.fields.now in
    let k = code_of c.args.kind in
    let e = view_kinds c.args.kind c.requires.is_view in
    let v : c.of_view.result ≡ of_view k c.view_at-view.result = rw c.into.ensures at c.of_view.ensures in
    now_read bs fs c.give.new.fields
    (read_row bs fs k c.of_view.result c.requires.has_kind.first
    (at_views bs k _ _ e c.view_at-view.ensures v)
    c.give.new.fields c.told-fields c.requires.has_kind.long
    (well_view _ k c.view_at-view.result e v ∙ told_so _ _ (ap not c.if-not-well_formed.false) c.well_formed-2.ensures)
    c.give.ensures)
