-- `codec::put_body` meets its contract, kind by kind. Assumes nothing.
use mathlib.Core.Logic.{⊎_elim, inl, inr}
use mathlib.Core.Path.{ap, ◌∙◌}
use Rattle.messages.proofs.Arms.{view_kinds, stored_view, stored_word, stored_sync, stored_forward, stored_start_change}
use Rattle.messages.specs.Kinds.{code_of}
use Rattle.messages.proofs.codec.put_body.Goals as goal

pub returns-in-View : goal.returns-in-View
returns-in-View c =
    stored_view c.args.m c.args.area.now c.put_view.new.area
    (⊎_elim (λ e. inl (c.requires.named ∙ e)) (λ e. inr (c.requires.named ∙ e)) (view_kinds c.args.kind c.in-View.is)) c.put_view.ensures

pub returns-in-Word : goal.returns-in-Word
returns-in-Word c = stored_word c.args.m c.args.area.now c.put_word.new.area (c.requires.named ∙ ap code_of c.in-Word.is) c.put_word.ensures

pub returns-in-Sync : goal.returns-in-Sync
returns-in-Sync c =
    stored_sync c.args.m c.args.area.now c.put_number.new.area c.put_view-in-Sync.new.area c.put_cut.new.area (c.requires.named ∙ ap code_of c.in-Sync.is)
    c.put_number.ensures c.put_view-in-Sync.ensures c.put_cut.ensures

pub returns-in-Forward : goal.returns-in-Forward
returns-in-Forward c =
    stored_forward c.args.m c.args.area.now c.put_byte.new.area c.put_byte-in-Forward.new.area c.put_view-in-Forward.new.area c.put_word-in-Forward.new.area
    (c.requires.named ∙ ap code_of c.in-Forward.is) c.put_byte.ensures c.put_byte-in-Forward.ensures c.put_view-in-Forward.ensures c.put_word-in-Forward.ensures

pub returns-in-StartChange : goal.returns-in-StartChange
returns-in-StartChange c =
    stored_start_change c.args.m c.args.area.now c.put_number-in-StartChange.new.area c.put_byte-in-StartChange.new.area
    (c.requires.named ∙ ap code_of c.in-StartChange.is) c.put_number-in-StartChange.ensures c.put_byte-in-StartChange.ensures
