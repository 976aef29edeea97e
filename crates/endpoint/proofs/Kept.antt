-- Every accepted step from a sound end-point, with any input, leaves a sound one; and a view that is spent stays so.
-- So an end-point reached from a fresh one is never refused for being unsound. First that an accepted step passed each of its checks. Assumes nothing.
use Prim.Native.Nat.{ℕ, ◌≤◌, ◌<◌}
use native.Mathlib.Omega.{arith}
use mathlib.Core.Bool.{Bool, true, false, not, cond, ◌&&◌, ◌||◌}
use mathlib.Core.List.{List, [], ◌∷◌}
use mathlib.Core.Path.{◌≡◌, refl, sym, ap, subst, ◌∙◌}
use lib.Dec.{eqb, ltb, leb}
use lib.ListN.{length, get_or, set}
use borrow.Author.Tests.{eqb-true, eqb-false, ltb-true, leb-true}
use Rattle.below.proofs.Tests.{clash, not_is, is_not, and_both, and_left, and_right}
use Rattle.views.specs.Sets.{has}
use Rattle.views.specs.Views.{start_of, view_ok, same}
use Rattle.views.specs.declared.View.{View}
use Rattle.messages.specs.declared.Message.{Message}
use Rattle.messages.specs.Layouts.{well_formed}
use Rattle.messages.proofs.Tested.{PartsFit, parts_fit}
use Rattle.records.specs.Records.{holds_record, newest, record_ok}
use Rattle.slots.specs.Slots.{held_word}
use Rattle.endpoint.specs.declared.EndPoint.{EndPoint}
use Rattle.endpoint.specs.declared.Answer.{Answer}
use Rattle.endpoint.specs.State.{with_heard, is_pending, is_blocked}
use Rattle.endpoint.specs.Fresh.{fresh}
use Rattle.endpoint.specs.Spent.{spent}
use Rattle.endpoint.specs.Numbers.{Check, verdict}
use Rattle.endpoint.specs.Sound.{heard_from, sound}
use Rattle.endpoint.specs.Application.{unfit, own_run, send_checks, after_send, after_block_ok}
use Rattle.endpoint.specs.Membership.{start_checks, membership_checks, after_start, after_membership}
use Rattle.endpoint.specs.Receive.{unreceivable, live, next_word, store_word, view_checks, word_checks, sync_checks, forward_checks, receive_checks, after_view, after_word, after_sync, after_forward, after_receive}
use Rattle.endpoint.specs.Ready.{ready}
use Rattle.endpoint.specs.Due.{lowest_due}
use Rattle.endpoint.specs.Change.{pass_checks, sync_out_checks, announces, passes, syncs, after_ask, after_declare}
use Rattle.endpoint.specs.Forward.{forward_out_checks, forwards}
use Rattle.endpoint.specs.Give.{next_given, nothing_next, give_checks, gives_next}
use Rattle.endpoint.specs.Install.{install_checks, after_install}
use Rattle.endpoint.specs.Steps.{Event, send, block_ok, start_change, membership_view, receive, ask_to_block, declare, announce, pass_out, sync, forward, give_out, install, checks, effect, step, area_after}
use Rattle.endpoint.proofs.Verdicts.{Rising, checks_rise, step_number, refused_keeps, accepted_effect}
use Rattle.endpoint.proofs.Spending.{spent_start, spent_install}
use Rattle.endpoint.proofs.Start.{fresh_sound, fresh_shaped}
use Rattle.endpoint.proofs.Parts.{neither, Parts, Shaped, parts_of, sound_of}
use Rattle.endpoint.proofs.Storing.{send_kept, word_kept, forward_kept, view_kept}
use Rattle.endpoint.proofs.Changing.{start_kept, membership_kept, install_kept}
use Rattle.endpoint.proofs.Plain.{block_ok_kept, ask_kept, declare_kept, announce_kept, pass_kept, synced_kept, sync_kept, forwarded_kept, given_kept}

-- ---- an accepted step passed each of its checks

abbrev pub Passed : List Check → Type 0
Passed [] = Unit {0}
Passed (c ∷ cs) = (c.applies ≡ false) × Passed cs

pub verdict_passed : (cs : List Check) (n : ℕ) → Rising n cs → verdict cs ≡ 0 → Passed cs
unfolding verdict
verdict_passed [] n r z = tt
verdict_passed (c ∷ cs) n r z = go c.applies refl z (verdict_passed cs c.number r.1)
  where
    go : (b : Bool) → c.applies ≡ b → cond b c.number (verdict cs) ≡ 0 → (verdict cs ≡ 0 → Passed cs) → (c.applies ≡ false) × Passed cs
    go true e q rest = absurd (omega (arith, r.0))
    go false e q rest = (e, rest q)

pub step_passed : (ev : Event) (e : EndPoint) (area : List ℕ) → (step ev e area).number ≡ 0 → Passed (checks ev e area)
step_passed ev e area z = verdict_passed (checks ev e area) 0 (checks_rise ev e area) (sym (step_number ev e area) ∙ z)

-- ---- what a passed test says

-- not unfit: sound
unfit_not : (e : EndPoint) (area : List ℕ) → unfit e area ≡ false → sound e ≡ true
unfolding unfit
unfit_not e area u = is_not (sound e) (neither (not (sound e)) (not (eqb (length area) 4096)) u).0

-- a false equation of numbers
differ : (a b : ℕ) → eqb a b ≡ false → a ≡ b → ⊥
differ a b e q = eqb-false a b e q

-- ---- receive, by the kind of its message

record Received (e : EndPoint) (area : List ℕ) (q : ℕ) (m : Message) : Type 0 where
  q_low : q < 8
  q_other : q ≡ e.me → ⊥
  well : well_formed m ≡ true

received : (e : EndPoint) (area : List ℕ) (q : ℕ) (m : Message) → unreceivable e area q m ≡ false → Received e area q m
unfolding unreceivable
received e area q m u =
    let a = neither (unfit e area) (not (leb q 7) || (eqb q e.me || (not (well_formed m) || not (leb m.kind 4)))) u in
    let b = neither (not (leb q 7)) (eqb q e.me || (not (well_formed m) || not (leb m.kind 4))) a.1 in
    let c = neither (eqb q e.me) (not (well_formed m) || not (leb m.kind 4)) b.1 in
    let d = neither (not (well_formed m)) (not (leb m.kind 4)) c.1 in
    record { q_low = omega (arith, leb-true q 7 (is_not (leb q 7) b.0)); q_other = differ q e.me c.0; well = is_not (well_formed m) d.0 }

-- of two that are not both, where the first holds the second does not
not_both : (a b : Bool) → (a && b) ≡ false → a ≡ true → b ≡ false
not_both true b e t = e
not_both false b e t = clash {b = false} t refl

receive_kept : (e : EndPoint) (area : List ℕ) (q : ℕ) (m : Message) → Shaped e → Parts e → Passed (receive_checks e area q m) → Parts (after_receive e q m) × Shaped (after_receive e q m)
unfolding receive_checks after_receive view_checks word_checks sync_checks forward_checks record_ok
receive_kept e area q m w p c = go (eqb m.kind 1) refl (eqb m.kind 2) (eqb m.kind 3) refl c.1
  where
    r : Received e area q m
    r = received e area q m c.0

    f : PartsFit m
    f = parts_fit m r.well

    go : (x : Bool) → eqb m.kind 1 ≡ x → (y z : Bool) → eqb m.kind 3 ≡ z
        → Passed (cond x (view_checks e q m.view) (cond y (word_checks e area q m.word) (cond z (sync_checks e q m) (forward_checks e area q m))))
        → Parts (cond x (after_view e q m.view) (cond y (after_word e q) (cond z (after_sync e q m) (after_forward e m))))
        × Shaped (cond x (after_view e q m.view) (cond y (after_word e q) (cond z (after_sync e q m) (after_forward e m))))
    go true x y z zz t = view_kept e q m.view w p r.q_low r.q_other (rw x at f.view_fit) t.1.1.0
    go false x true z zz t =
        word_kept e q w p r.q_low r.q_other (differ (heard_from e q).id 0 t.0)
        (λ l k. differ (get_or e.received q 0) 128 (not_both (live e q) (eqb (get_or e.received q 0) 128) t.1.0 l) k)
    go false x false true zz t =
        synced_kept e q m w p r.q_low r.q_other
        (and_both (rw (x, zz) at f.view_fit) (rw zz at f.cut_fit))
        (ltb-true (newest e.records q) m.number (is_not (ltb (newest e.records q) m.number) t.1.0))
    go false x false false zz t =
        let s = not (eqb m.sender e.me) in
        let a = has m.view.set e.me in
        let b = has m.view.set q in
        let d = has m.view.set m.sender in
        let u = is_not (a && (b && (d && s))) t.0 in
        forward_kept e m w p (differ m.sender e.me (not_is (eqb m.sender e.me) (and_right d s (and_right b (d && s) (and_right a (b && (d && s)) u)))))

-- ---- every accepted step

effect_kept : (ev : Event) (e : EndPoint) (area : List ℕ) → Shaped e → Parts e → Passed (checks ev e area) → Parts (effect ev e area).ep × Shaped (effect ev e area).ep
unfolding checks effect send_checks start_checks membership_checks pass_checks sync_out_checks forward_out_checks give_checks install_checks nothing_next
effect_kept (send n) e area w p c = send_kept e w p (differ (own_run e) 128 c.1.1.0)
effect_kept block_ok e area w p c = block_ok_kept e w p
effect_kept (start_change n s) e area w p c = start_kept e n s w p (ltb-true e.change.number n (is_not (ltb e.change.number n) c.1.1.0))
effect_kept (membership_view v) e area w p c =
    membership_kept e v w p (is_not (view_ok v) (neither (not (sound e)) (not (view_ok v)) c.0).1) (is_not (has v.set e.me) c.1.0)
effect_kept (receive q m) e area w p c = receive_kept e area q m w p c
effect_kept ask_to_block e area w p c = ask_kept e w p
effect_kept declare e area w p c = declare_kept e w p
effect_kept announce e area w p c = announce_kept e w p
effect_kept pass_out e area w p c = pass_kept e area w p (ltb-true e.passed (own_run e) (is_not (ltb e.passed (own_run e)) c.1.1.0))
effect_kept sync e area w p c =
    let h = holds_record e.records e.me e.change.number in
    sync_kept e w p
    (not_is h (and_right (is_blocked e) (not h) (and_right (is_pending e) (is_blocked e && not h) (is_not (is_pending e && (is_blocked e && not h)) c.1.0))))
effect_kept (forward q r) e area w p c =
    let u = (neither (unfit e area) (not (leb q 7) || not (leb r 7)) c.0).1 in
    let v = neither (not (leb q 7)) (not (leb r 7)) u in
    forwarded_kept e area q r w p (omega (arith, leb-true q 7 (is_not (leb q 7) v.0))) (omega (arith, leb-true r 7 (is_not (leb r 7) v.1)))
    (ltb-true (lowest_due e q r) 128 (is_not (ltb (lowest_due e q r) 128) c.1.1.1.0))
effect_kept (give_out q) e area w p c =
    let h = held_word e.slots e.current q (next_given e q) in
    given_kept e area q w p (omega (arith, leb-true q 7 (is_not (leb q 7) (neither (unfit e area) (not (leb q 7)) c.0).1)))
    (is_not h (neither (not h) (eqb q e.me && ltb e.passed (next_given e q)) c.1.1.0).0)
effect_kept install e area w p c = install_kept e w p (is_not (ready e) c.1.0)

-- the step, refused or accepted, leaves a sound end-point of the code's types
pub step_kept : (ev : Event) (e : EndPoint) (area : List ℕ) → Shaped e → sound e ≡ true → (sound (step ev e area).ep ≡ true) × Shaped (step ev e area).ep
step_kept ev e area w s = go (eqb (step ev e area).number 0) refl
  where
    go : (b : Bool) → eqb (step ev e area).number 0 ≡ b → (sound (step ev e area).ep ≡ true) × Shaped (step ev e area).ep
    go true t =
        let z : (step ev e area).number ≡ 0 = eqb-true (step ev e area).number 0 t in
        let k = effect_kept ev e area w (parts_of e s) (step_passed ev e area z) in
        let q : (effect ev e area).ep ≡ (step ev e area).ep = ap (λ (a : Answer). a.ep) (sym (accepted_effect ev e area z).0) in
        subst (λ (x : EndPoint). (sound x ≡ true) × Shaped x) q (sound_of (effect ev e area).ep k.0, k.1)
    go false t =
        let q : e ≡ (step ev e area).ep = sym (refused_keeps ev e area (eqb-false (step ev e area).number 0 t)).0 in
        subst (λ (x : EndPoint). (sound x ≡ true) × Shaped x) q (s, w)

-- ---- a view that is spent stays so

effect_spent : (ev : Event) (e : EndPoint) (area : List ℕ) (v : View) → e.me < 8 → Passed (checks ev e area) → spent e v ≡ true → spent (effect ev e area).ep v ≡ true
unfolding checks effect start_checks install_checks after_send after_block_ok after_start after_membership after_receive after_view after_word after_sync after_forward store_word after_ask after_declare announces passes syncs forwards gives_next after_install ready spent
effect_spent (send n) e area v l c s = s
effect_spent block_ok e area v l c s = s
effect_spent (start_change n t) e area v l c s =
    spent_start e.me e.current e.change.number n (is_pending e) v (ltb-true e.change.number n (is_not (ltb e.change.number n) c.1.1.0)) s
effect_spent (membership_view u) e area v l c s = s
effect_spent (receive q m) e area v l c s = go (eqb m.kind 1) (eqb m.kind 2) (eqb m.kind 3) (live e q) (same m.view e.current)
  where
    go : (x y z a b : Bool) → spent (cond x (after_view e q m.view) (cond y (cond a (with_heard e.heard (set e.received q (next_word e q)) (store_word e (heard_from e q) q (next_word e q))) e) (cond z (after_sync e q m) (cond b (store_word e e.current m.sender m.index) e)))) v ≡ true
    go true y z a b = s
    go false true z true b = s
    go false true z false b = s
    go false false true a b = s
    go false false false a true = s
    go false false false a false = s
effect_spent ask_to_block e area v l c s = s
effect_spent declare e area v l c s = s
effect_spent announce e area v l c s = s
effect_spent pass_out e area v l c s = s
effect_spent sync e area v l c s = s
effect_spent (forward q r) e area v l c s = s
effect_spent (give_out q) e area v l c s = s
effect_spent install e area v l c s =
    let a = is_pending e in
    let b = ltb e.current.id e.membership.id in
    let d = eqb (start_of e.membership e.me) e.change.number in
    let r : (a && (b && d)) ≡ true = is_not (ready e) c.1.0 in
    let x = and_right a (b && d) r in
    spent_install e.me e.current e.membership e.change.number v l
    (ltb-true e.current.id e.membership.id (and_left b d x))
    (eqb-true (start_of e.membership e.me) e.change.number (and_right b d x))
    (rw (and_left a (b && d) r) at s)

pub spent_stays : (ev : Event) (e : EndPoint) (area : List ℕ) (v : View) → sound e ≡ true → spent e v ≡ true → spent (step ev e area).ep v ≡ true
spent_stays ev e area v q s = go (eqb (step ev e area).number 0) refl
  where
    go : (b : Bool) → eqb (step ev e area).number 0 ≡ b → spent (step ev e area).ep v ≡ true
    go true t =
        let z : (step ev e area).number ≡ 0 = eqb-true (step ev e area).number 0 t in
        let k : (effect ev e area).ep ≡ (step ev e area).ep = ap (λ (a : Answer). a.ep) (sym (accepted_effect ev e area z).0) in
        subst (λ (x : EndPoint). spent x v ≡ true) k (effect_spent ev e area v (omega (arith, (parts_of e q).low)) (step_passed ev e area z) s)
    go false t = subst (λ (x : EndPoint). spent x v ≡ true) (sym (refused_keeps ev e area (eqb-false (step ev e area).number 0 t)).0) s

-- ---- reached from a fresh end-point

-- an end-point and its area, after any steps from fresh p and any area
pub data Reached (p : ℕ) : EndPoint → List ℕ → Type 0 where
  start : (area : List ℕ) → Reached p (fresh p) area
  more : {e : EndPoint} {area : List ℕ} (ev : Event) → Reached p e area → Reached p (step ev e area).ep (area_after ev e area)

-- is sound, whatever the inputs were
pub reached_sound : (p : ℕ) → p ≤ 7 → {e : EndPoint} {area : List ℕ} → Reached p e area → (sound e ≡ true) × Shaped e
reached_sound p l (start area) = (fresh_sound p l, fresh_shaped p)
reached_sound p l (more {e} {area} ev r) = let k = reached_sound p l r in step_kept ev e area k.1 k.0
