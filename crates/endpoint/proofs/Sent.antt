-- Every message that a step sends is well formed, so writing it is accepted and what arrives reads back as it was sent (messages: `reads_back`).
-- A step that sends nothing gives a message of no kind. Assumes nothing.
use Prim.Native.Nat.{ℕ, ◌≤◌, ◌<◌}
use native.Mathlib.Omega.{arith}
use mathlib.Core.Bool.{Bool, true, false, not, ◌||◌}
use mathlib.Core.List.{List}
use mathlib.Core.Path.{◌≡◌, refl, sym, ap, subst, ◌∙◌}
use lib.Dec.{eqb, ltb, leb}
use borrow.Author.Tests.{eqb-true, ltb-true, leb-true, le-leb}
use Rattle.below.proofs.Tests.{is_not, and_both, and_left}
use Rattle.below.specs.Below.{all_below}
use Rattle.below.specs.Bits.{bit}
use Rattle.views.specs.Sets.{has}
use Rattle.views.specs.Cuts.{cut_ok, no_cut}
use Rattle.views.specs.Views.{all_zero, view_ok}
use Rattle.views.specs.declared.View.{View}
use Rattle.views.specs.declared.Cut.{Cut}
use Rattle.messages.specs.Messages.{of_view, of_word, of_sync, of_forward}
use Rattle.messages.specs.Layouts.{blank_view, fields_fit, well_formed}
use Rattle.endpoint.specs.declared.EndPoint.{EndPoint}
use Rattle.endpoint.specs.Numbers.{verdict, settle}
use Rattle.endpoint.specs.Sound.{views_ok, sound}
use Rattle.endpoint.specs.Application.{unfit}
use Rattle.endpoint.specs.Due.{lowest_due}
use Rattle.endpoint.specs.Change.{announce_checks, pass_checks, sync_out_checks, announces, passes, own_cut, syncs}
use Rattle.endpoint.specs.Forward.{due_index, forward_out_checks, forwards}
use Rattle.endpoint.specs.Give.{gives_next}
use Rattle.endpoint.specs.Steps.{Event, send, block_ok, start_change, membership_view, receive, ask_to_block, declare, announce, pass_out, sync, forward, give_out, install, checks, effect, step}
use Rattle.endpoint.proofs.Verdicts.{accepted_effect, step_number}
use Rattle.endpoint.proofs.Parts.{neither, parts_of}
use Rattle.endpoint.proofs.Plain.{own_cut_ok}
use Rattle.endpoint.proofs.Kept.{Passed, step_passed}

-- ---- a message of each kind that steps send, from its parts

no_cut_lem : cut_ok 0 no_cut ≡ true
unfolding cut_ok all_below has bit
no_cut_lem = refl

view_formed : (v : View) → view_ok v ≡ true → well_formed (of_view 1 v) ≡ true
unfolding well_formed fields_fit
view_formed v h = and_both {a = cut_ok 0 no_cut} no_cut_lem h

word_formed : (w : ℕ) → well_formed (of_word w) ≡ true
unfolding well_formed fields_fit blank_view all_zero all_below
word_formed w = and_both {a = cut_ok 0 no_cut} no_cut_lem refl

sync_formed : (n : ℕ) (v : View) (c : Cut) → view_ok v ≡ true → cut_ok v.set c ≡ true → well_formed (of_sync n v c) ≡ true
unfolding well_formed fields_fit
sync_formed n v c h k = and_both {a = cut_ok v.set c} k h

forward_formed : (r i : ℕ) (v : View) (w : ℕ) → r ≤ 7 → 1 ≤ i → i ≤ 128 → view_ok v ≡ true → well_formed (of_forward r i v w) ≡ true
unfolding well_formed fields_fit
forward_formed r i v w a b c h =
    rw (le-leb r 7 a, le-leb 1 i b, le-leb i 128 c) (and_both {a = cut_ok 0 no_cut} no_cut_lem h)

-- ---- the steps

-- where the end-point passed for sound, its current view is well formed
current_formed : (e : EndPoint) → not (sound e) ≡ false → view_ok e.current ≡ true
unfolding views_ok
current_formed e s = and_left (view_ok e.current) _ (parts_of e (is_not (sound e) s)).views

effect_formed : (ev : Event) (e : EndPoint) (area : List ℕ) → Passed (checks ev e area) → ((effect ev e area).message.kind ≡ 0 → ⊥) → well_formed (effect ev e area).message ≡ true
unfolding checks effect announce_checks pass_checks sync_out_checks forward_out_checks announces passes syncs forwards gives_next unfit due_index
effect_formed (send w) e area c h = absurd (h refl)
effect_formed block_ok e area c h = absurd (h refl)
effect_formed (start_change n s) e area c h = absurd (h refl)
effect_formed (membership_view v) e area c h = absurd (h refl)
effect_formed (receive q m) e area c h = absurd (h refl)
effect_formed ask_to_block e area c h = absurd (h refl)
effect_formed declare e area c h = absurd (h refl)
effect_formed announce e area c h = view_formed e.current (current_formed e c.0)
effect_formed pass_out e area c h = word_formed _
effect_formed sync e area c h = sync_formed e.change.number e.current (own_cut e) (current_formed e c.0) (own_cut_ok e)
effect_formed (forward q r) e area c h =
    let a = neither (unfit e area) (not (leb q 7) || not (leb r 7)) c.0 in
    let b = neither (not (leb q 7)) (not (leb r 7)) a.1 in
    let d : lowest_due e q r < 128 = ltb-true (lowest_due e q r) 128 (is_not (ltb (lowest_due e q r) 128) c.1.1.1.0) in
    forward_formed r (due_index e q r) e.current _ (leb-true r 7 (is_not (leb r 7) b.1)) (omega arith) (omega (arith, d))
    (current_formed e (neither (not (sound e)) _ a.0).0)
effect_formed (give_out q) e area c h = absurd (h refl)
effect_formed install e area c h = absurd (h refl)

pub sent_formed : (ev : Event) (e : EndPoint) (area : List ℕ) → ((step ev e area).message.kind ≡ 0 → ⊥) → well_formed (step ev e area).message ≡ true
unfolding step settle
sent_formed ev e area = go (eqb (verdict (checks ev e area)) 0) refl
  where
    go : (b : Bool) → eqb (verdict (checks ev e area)) 0 ≡ b → ((step ev e area).message.kind ≡ 0 → ⊥) → well_formed (step ev e area).message ≡ true
    go false t h = absurd (h (rw t refl))
    go true t h =
        let z : (step ev e area).number ≡ 0 = step_number ev e area ∙ eqb-true (verdict (checks ev e area)) 0 t in
        let s = (accepted_effect ev e area z).0 in
        subst (λ a. well_formed a.message ≡ true) (sym s)
        (effect_formed ev e area (step_passed ev e area z) (λ k. h (ap (λ a. a.message.kind) s ∙ k)))
