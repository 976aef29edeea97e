-- `codec::message_at` meets its contract, kind by kind. Assumes nothing.
use mathlib.Core.Path.{ap}
use Rattle.messages.proofs.Arms.{view_kinds, at_views, at_word, at_sync, at_forward, at_start_change}
use Rattle.messages.specs.Kinds.{code_of}
use Rattle.messages.proofs.codec.message_at.Goals as goal

pub returns-in-View : goal.returns-in-View
returns-in-View c =
    at_views c.args.bytes.now (code_of c.args.kind) _ _ (view_kinds c.args.kind c.in-View.is) c.view_at.ensures (rw c.into.ensures at c.of_view.ensures)

pub returns-in-Word : goal.returns-in-Word
returns-in-Word c = at_word c.args.bytes.now (code_of c.args.kind) _ _ (ap code_of c.in-Word.is) c.word_at.ensures c.of_word.ensures

pub returns-in-Sync : goal.returns-in-Sync
returns-in-Sync c = at_sync c.args.bytes.now (code_of c.args.kind) _ _ _ _ (ap code_of c.in-Sync.is) c.number_at.ensures c.view_at-in-Sync.ensures c.cut_at.ensures c.of_sync.ensures

pub returns-in-Forward : goal.returns-in-Forward
returns-in-Forward c =
    at_forward c.args.bytes.now (code_of c.args.kind) _ _ _ _ _ (ap code_of c.in-Forward.is) c.byte_at.ensures c.byte_at-in-Forward.ensures c.view_at-in-Forward.ensures c.word_at-in-Forward.ensures c.of_forward.ensures

pub returns-in-StartChange : goal.returns-in-StartChange
returns-in-StartChange c = at_start_change c.args.bytes.now (code_of c.args.kind) _ _ _ (ap code_of c.in-StartChange.is) c.number_at-in-StartChange.ensures c.byte_at-in-StartChange.ensures c.of_start_change.ensures
