-- `take` meets its contract: what each kind of message comes to is the step. Assumes nothing.
use mathlib.Core.Path.{ap, ◌∙◌}
use Rattle.messages.specs.Kinds.{code_of}
use Rattle.endpoint.proofs.Receiving.{receivable, forward_kind, forward_fits, takes_view, takes_word, takes_sync, takes_forward}
use Rattle.endpoint.proofs.EndPoint.take.Goals as goal

pub take_view-requires : goal.take_view-requires
take_view-requires c =
    let a = c.args in
    (receivable a.self.now a.area.now a.q a.m c.in_ok-slot.ensures.0).low

pub take_word-requires : goal.take_word-requires
take_word-requires c =
    let a = c.args in
    receivable a.self.now a.area.now a.q a.m c.in_ok-slot.ensures.0

pub take_forward-requires-clause-word : goal.take_forward-requires-clause-word
take_forward-requires-clause-word c =
    let a = c.args in
    let s = c.in_ok-slot in
    let n = c.in_default in
    let k = forward_kind a.self.now a.area.now a.q a.m s.ensures.0 s.kind s.ensures.2 n.not-View n.not-Word n.not-Sync in
    let f = forward_fits a.self.now a.area.now a.q a.m s.ensures.0 k in
    (f.0, f.1.0, f.1.1)

pub returns-in-View-clause-ep : goal.returns-in-View-clause-ep
returns-in-View-clause-ep c =
    let a = c.args in
    let s = c.in_ok-slot in
    (takes_view a.self.now a.area.now a.q a.m s.ensures.0 _ _ (s.ensures.2 ∙ ap code_of c.in-View.is) c.take_view.ensures).0

pub returns-in-View-clause-area : goal.returns-in-View-clause-area
returns-in-View-clause-area c =
    let a = c.args in
    let s = c.in_ok-slot in
    (takes_view a.self.now a.area.now a.q a.m s.ensures.0 _ _ (s.ensures.2 ∙ ap code_of c.in-View.is) c.take_view.ensures).1

pub returns-in-Word-clause-ep : goal.returns-in-Word-clause-ep
returns-in-Word-clause-ep c =
    let a = c.args in
    let s = c.in_ok-slot in
    (takes_word a.self.now a.area.now a.q a.m s.ensures.0 _ _ _ (s.ensures.2 ∙ ap code_of c.in-Word.is) c.take_word.ensures.ep c.take_word.ensures.area).0

pub returns-in-Word-clause-area : goal.returns-in-Word-clause-area
returns-in-Word-clause-area c =
    let a = c.args in
    let s = c.in_ok-slot in
    (takes_word a.self.now a.area.now a.q a.m s.ensures.0 _ _ _ (s.ensures.2 ∙ ap code_of c.in-Word.is) c.take_word.ensures.ep c.take_word.ensures.area).1

pub returns-in-Sync-clause-ep : goal.returns-in-Sync-clause-ep
returns-in-Sync-clause-ep c =
    let a = c.args in
    let s = c.in_ok-slot in
    (takes_sync a.self.now a.area.now a.q a.m s.ensures.0 _ _ (s.ensures.2 ∙ ap code_of c.in-Sync.is) c.take_sync.ensures).0

pub returns-in-Sync-clause-area : goal.returns-in-Sync-clause-area
returns-in-Sync-clause-area c =
    let a = c.args in
    let s = c.in_ok-slot in
    (takes_sync a.self.now a.area.now a.q a.m s.ensures.0 _ _ (s.ensures.2 ∙ ap code_of c.in-Sync.is) c.take_sync.ensures).1

pub returns-in_default-clause-ep : goal.returns-in_default-clause-ep
returns-in_default-clause-ep c =
    let a = c.args in
    let s = c.in_ok-slot in
    let n = c.in_default in
    let k = forward_kind a.self.now a.area.now a.q a.m s.ensures.0 s.kind s.ensures.2 n.not-View n.not-Word n.not-Sync in
    (takes_forward a.self.now a.area.now a.q a.m s.ensures.0 _ _ _ k c.take_forward.ensures.ep c.take_forward.ensures.area).0

pub returns-in_default-clause-area : goal.returns-in_default-clause-area
returns-in_default-clause-area c =
    let a = c.args in
    let s = c.in_ok-slot in
    let n = c.in_default in
    let k = forward_kind a.self.now a.area.now a.q a.m s.ensures.0 s.kind s.ensures.2 n.not-View n.not-Word n.not-Sync in
    (takes_forward a.self.now a.area.now a.q a.m s.ensures.0 _ _ _ k c.take_forward.ensures.ep c.take_forward.ensures.area).1
