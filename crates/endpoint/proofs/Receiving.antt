-- What receive's changes need of the definitions, in the shape in which the code has it. In order: a table's number and effect together with the area;
-- what soundness says; a message that passed the first check; a view, a word, a sync, a forward; the four together. Assumes nothing.
use Prim.Native.Nat.{ℕ, ◌≤◌, ◌<◌}
use native.Mathlib.Omega.{arith}
use mathlib.Core.Bool.{Bool, true, false, not, ◌&&◌, ◌||◌}
use mathlib.Core.List.{List}
use mathlib.Core.Path.{◌≡◌, refl, ap, ◌∙◌}
use lib.Dec.{eqb, leb}
use lib.ListN.{length, get_or}
use borrow.Author.Tests.{leb-true, eqb-false, ne_eqb}
use Rattle.below.specs.Below.{all_below}
use Rattle.below.proofs.Tests.{clash, is_not, not_is, and_left, and_right}
use Rattle.views.specs.declared.View.{View}
use Rattle.views.specs.Views.{initial, same}
use Rattle.messages.specs.declared.Message.{Message}
use Rattle.messages.specs.Layouts.{well_formed}
use Rattle.messages.specs.Kinds.{code_of}
use Rattle.messages.specs.declared.kind.Kind.{Kind}
use Rattle.messages.specs.declared.kind.Kind.TheVariants.{View as ViewKind, Word, Sync, Forward, StartChange, MembershipView}
use Rattle.messages.proofs.Tested.{parts_fit}
use Rattle.slots.specs.Slots.{slot_in, slot_of, has_slot}
use Rattle.slots.proofs.Elements.{any}
use Rattle.slots.proofs.Finding.{slot_of_lem, slot_same}
use Rattle.slots.proofs.Tags.{slot_in_lem}
use Rattle.agreement.specs.Due.{forward_mark}
use Rattle.endpoint.specs.declared.EndPoint.{EndPoint}
use Rattle.endpoint.specs.Spent.{spent}
use Rattle.endpoint.specs.Numbers.{Check, verdict}
use Rattle.endpoint.specs.Sound.{heard_from, all_others, counts_ok, heard_ok}
use Rattle.endpoint.specs.Application.{unfit}
use Rattle.endpoint.specs.Receive.{unreceivable, view_checks, after_view, live, word_checks, after_word, area_after_word, sync_checks, after_sync, forward_checks, after_forward, area_after_forward, by_kind, receive_checks, after_receive, area_after_receive}
use Rattle.endpoint.specs.Pass.{Receivable}
use Rattle.endpoint.specs.declared.refusal.Refusal.{Refusal}
use Rattle.endpoint.specs.Refusals.{Changes}
use Rattle.std.specs.Prelude.{Result, Ok, Err}
use Rattle.endpoint.proofs.Parts.{neither, parts_of, others_each}
use Rattle.endpoint.proofs.Planning.{first_not, fit_of, current_slot}

-- ---- a message that passed the first check

-- a kind after the first three
late_kind : (k : Kind) → (k ≡ ViewKind → ⊥) → (k ≡ Word → ⊥) → (k ≡ Sync → ⊥) → 4 ≤ code_of k
late_kind ViewKind a b c = absurd (a refl)
late_kind Word a b c = absurd (b refl)
late_kind Sync a b c = absurd (c refl)
late_kind Forward a b c = omega arith
late_kind StartChange a b c = omega arith
late_kind MembershipView a b c = omega arith

module _ (e : EndPoint) (area : List ℕ) (q : ℕ) (m : Message) (u : unreceivable e area q m ≡ false) where
  passed : (Receivable e area q) × ((well_formed m ≡ true) × (m.kind ≤ 4))
  unfolding unreceivable
  passed =
      let a = neither (unfit e area) _ u in
      let b = neither (not (leb q 7)) _ a.1 in
      let c = neither (eqb q e.me) _ b.1 in
      let d = neither (not (well_formed m)) (not (leb m.kind 4)) c.1 in
      let f = fit_of e area a.0 in (
        record {
          sound_now = f.0;
          whole = f.1;
          low = omega (arith, leb-true q 7 (is_not (leb q 7) b.0));
          other = eqb-false q e.me c.0;
        },
        (is_not (well_formed m) d.0, leb-true m.kind 4 (is_not (leb m.kind 4) d.1)),
      )

  pub receivable : Receivable e area q
  receivable = passed.0

  -- of no other kind, it is a forward
  pub forward_kind : (k : Kind) → m.kind ≡ code_of k → (k ≡ ViewKind → ⊥) → (k ≡ Word → ⊥) → (k ≡ Sync → ⊥) → m.kind ≡ 4
  forward_kind k e a b c = omega (arith, e, late_kind k a b c, passed.1.1)

  -- a forward's sender and index
  pub forward_fits : m.kind ≡ 4 → (m.sender < 8) × ((1 ≤ m.index) × (m.index ≤ 128))
  forward_fits k =
      let f : (leb m.sender 7 && (leb 1 m.index && leb m.index 128)) ≡ true = rw k at (parts_fit m passed.1.0).place_fit in
      let g = and_right (leb m.sender 7) (leb 1 m.index && leb m.index 128) f in (
        omega (arith, leb-true m.sender 7 (and_left (leb m.sender 7) (leb 1 m.index && leb m.index 128) f)),
        (leb-true 1 m.index (and_left (leb 1 m.index) (leb m.index 128) g), leb-true m.index 128 (and_right (leb 1 m.index) (leb m.index 128) g)),
      )

-- ---- the announced view and the received count of q

-- whatever the code takes to stand past the end
pub heard_is : (e : EndPoint) (q : ℕ) (d : View) → length e.heard ≡ 8 → q < 8 → get_or e.heard q d ≡ heard_from e q
unfolding heard_from
heard_is e q d n l = any e.heard q d (initial q) (omega arith)

module _ (e : EndPoint) (area : List ℕ) (q : ℕ) (r : Receivable e area q) where
  pub received_low : get_or e.received q 0 ≤ 128
  unfolding counts_ok
  received_low =
      let a = leb e.passed 128 in
      let b = all_others e (λ k. leb (get_or e.received k 0) 128) in
      let c = all_below (λ k. leb (get_or e.given k 0) 128) 8 && all_below (λ k. all_below (λ r. leb (forward_mark e.forwarded k r) 128) 8) 8 in
      leb-true (get_or e.received q 0) 128
      (others_each e (λ k. leb (get_or e.received k 0) 128) (and_left b c (and_right a (b && c) (parts_of e r.sound_now).counts)) q r.low r.other)

  -- not initial and not spent, it has a slot
  pub heard_slot : eqb (heard_from e q).id 0 ≡ false → live e q ≡ true → slot_of e.slots (heard_from e q) < 4
  unfolding live heard_ok
  heard_slot a b =
      go (eqb (heard_from e q).id 0) (same (heard_from e q) e.current) (spent e (heard_from e q)) (has_slot e.slots (heard_from e q)) a refl (not_is _ b) refl
      (others_each e (λ q. eqb (heard_from e q).id 0 || (same (heard_from e q) e.current || (spent e (heard_from e q) || has_slot e.slots (heard_from e q)))) (parts_of e r.sound_now).heard q r.low r.other)
    where
      go : (i c s h : Bool) → i ≡ false → same (heard_from e q) e.current ≡ c → s ≡ false → has_slot e.slots (heard_from e q) ≡ h → (i || (c || (s || h))) ≡ true
          → slot_of e.slots (heard_from e q) < 4
      go true c s h x y z t w = clash refl x
      go false true s h x y z t w = rw (slot_same e.slots (heard_from e q) e.current y) (current_slot e r.sound_now)
      go false false true h x y z t w = clash refl z
      go false false false h x y z t w = (slot_of_lem e.slots (heard_from e q) (t ∙ w)).0

  -- v is the view that q announced last
  pub announced_slot : (v : View) → v ≡ heard_from e q → (v.id ≡ 0 → ⊥) → spent e v ≡ false → slot_in e.slots.tags v < 4
  unfolding live
  announced_slot v h i n =
      let a : eqb (heard_from e q).id 0 ≡ false = rw (← h) (ne_eqb v.id 0 i) in
      let b : live e q ≡ true = rw (← h) (ap not n) in
      rw (slot_in_lem e.slots v, h) (heard_slot a b)

-- ---- the four together, by the message's kind

changes_same : {T A : Type 0} (cs ds : List Check) (was next now : A) (r : Result T Refusal) → verdict ds ≡ verdict cs → Changes cs was next now r → Changes ds was next now r
changes_same cs ds was next now (Ok x) k h = (k ∙ h.0, h.1)
changes_same cs ds was next now (Err x) k h = (k ∙ h.0, h.1)

-- what is not written is as it was, refused or not
changes_kept : {T A B : Type 0} (cs : List Check) (was next now : A) (b : B) (r : Result T Refusal) → Changes cs was next now r → Changes cs b b b r
changes_kept cs was next now b (Ok x) h = (h.0, refl)
changes_kept cs was next now b (Err x) h = (h.0, refl)

module _ {A : Type 0} (n : ℕ) (v w s f : A) where
  one : n ≡ 1 → by_kind n v w s f ≡ v
  one e = rw e

  two : n ≡ 2 → by_kind n v w s f ≡ w
  two e = rw e

  three : n ≡ 3 → by_kind n v w s f ≡ s
  three e = rw e

  four : n ≡ 4 → by_kind n v w s f ≡ f
  four e = rw e

-- y and l are the end-point and the area after it, r what is answered
module _ {T : Type 0} (e : EndPoint) (area : List ℕ) (q : ℕ) (m : Message) (u : unreceivable e area q m ≡ false) (y : EndPoint) (l : List ℕ) (r : Result T Refusal) where
  abbrev table : List Check
  table = by_kind m.kind (view_checks e q m.view) (word_checks e area q m.word) (sync_checks e q m) (forward_checks e area q m)

  -- cs, x and next are the checks, the end-point after and the area after of its kind
  takes : (cs : List Check) (x : EndPoint) (next : List ℕ) → table ≡ cs → after_receive e q m ≡ x → area_after_receive e area q m ≡ next
      → Changes cs e x y r → Changes cs area next l r
      → Changes (receive_checks e area q m) e (after_receive e q m) y r × Changes (receive_checks e area q m) area (area_after_receive e area q m) l r
  unfolding receive_checks
  takes cs x next a b c h k =
      let v : verdict (receive_checks e area q m) ≡ verdict cs = first_not 1 (unreceivable e area q m) table u ∙ ap verdict a in
      rw (b, c) (changes_same cs (receive_checks e area q m) e x y r v h, changes_same cs (receive_checks e area q m) area next l r v k)

  pub takes_word : m.kind ≡ 2 → Changes (word_checks e area q m.word) e (after_word e q) y r
      → Changes (word_checks e area q m.word) area (area_after_word e area q m.word) l r
      → Changes (receive_checks e area q m) e (after_receive e q m) y r × Changes (receive_checks e area q m) area (area_after_receive e area q m) l r
  unfolding after_receive area_after_receive
  takes_word k = takes (word_checks e area q m.word) (after_word e q) (area_after_word e area q m.word) (two _ _ _ _ _ k) (two _ _ _ _ _ k) (two _ _ _ _ _ k)

  pub takes_forward : m.kind ≡ 4 → Changes (forward_checks e area q m) e (after_forward e m) y r
      → Changes (forward_checks e area q m) area (area_after_forward e area m) l r
      → Changes (receive_checks e area q m) e (after_receive e q m) y r × Changes (receive_checks e area q m) area (area_after_receive e area q m) l r
  unfolding after_receive area_after_receive
  takes_forward k = takes (forward_checks e area q m) (after_forward e m) (area_after_forward e area m) (four _ _ _ _ _ k) (four _ _ _ _ _ k) (four _ _ _ _ _ k)

-- a view and a sync leave the area as it was
module _ {T : Type 0} (e : EndPoint) (area : List ℕ) (q : ℕ) (m : Message) (u : unreceivable e area q m ≡ false) (y : EndPoint) (r : Result T Refusal) where
  pub takes_view : m.kind ≡ 1 → Changes (view_checks e q m.view) e (after_view e q m.view) y r
      → Changes (receive_checks e area q m) e (after_receive e q m) y r × Changes (receive_checks e area q m) area (area_after_receive e area q m) area r
  unfolding after_receive area_after_receive
  takes_view k h =
      takes e area q m u y area r (view_checks e q m.view) (after_view e q m.view) area (one _ _ _ _ _ k) (one _ _ _ _ _ k) (one _ _ _ _ _ k) h
      (changes_kept (view_checks e q m.view) e (after_view e q m.view) y area r h)

  pub takes_sync : m.kind ≡ 3 → Changes (sync_checks e q m) e (after_sync e q m) y r
      → Changes (receive_checks e area q m) e (after_receive e q m) y r × Changes (receive_checks e area q m) area (area_after_receive e area q m) area r
  unfolding after_receive area_after_receive
  takes_sync k h =
      takes e area q m u y area r (sync_checks e q m) (after_sync e q m) area (three _ _ _ _ _ k) (three _ _ _ _ _ k) (three _ _ _ _ _ k) h
      (changes_kept (sync_checks e q m) e (after_sync e q m) y area r h)
