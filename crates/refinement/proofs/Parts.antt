-- What the steps' refinement takes of a sound end-point and of passed tests; sets as the automaton sees them; a table with one entry anew. Assumes nothing.
use Prim.Native.Nat.{ℕ, ◌≤◌, ◌<◌}
use native.Mathlib.Omega.{arith}
use mathlib.Core.Bool.{Bool, true, false, not, ◌&&◌, ◌||◌}
use mathlib.Core.List.{List}
use mathlib.Core.Path.{◌≡◌, refl, sym, ◌∙◌}
use mathlib.Core.Logic.{⊎_elim}
use lib.Dec.{eqb, leb}
use lib.ListN.{length}
use borrow.Author.Tests.{eqb-true, eqb-false, eq-eqb, ne_eqb, leb-true}
use Rattle.below.specs.Below.{all_below}
use Rattle.below.proofs.Tests.{clash, is_not, and_left, and_right, side}
use Rattle.below.proofs.All.{all_each}
use Rattle.views.specs.Sets.{has, within, joined, less}
use Rattle.views.proofs.Members.{has_above, set_low, less_has, joined_has, within_has}
use Rattle.messages.specs.declared.Message.{Message}
use Rattle.messages.specs.Layouts.{fields_fit, well_formed}
use Rattle.messages.proofs.Tested.{parts_fit}
use Rattle.records.specs.Records.{records_rise, records_well_formed, records_at_most}
use Rattle.slots.specs.Slots.{has_slot, no_gaps, slots_differ, all_used}
use Rattle.endpoint.specs.declared.EndPoint.{EndPoint}
use Rattle.endpoint.specs.Application.{unfit}
use Rattle.endpoint.specs.Receive.{unreceivable}
use Rattle.endpoint.specs.Sound.{sound, own_member, records_ok, slots_ok, heard_ok, heard_from}
use Rattle.endpoint.specs.Spent.{spent}
use Rattle.views.specs.Views.{same}
use Rattle.endpoint.proofs.Parts.{Parts, others_each}
use Rattle.group.specs.Group.{put}
use Rattle.refinement.specs.Views.{member}
use Rattle.refinement.proofs.Sameness.{member_low, member_has, member_of}

-- ---- tests

pub or_neither : (a b : Bool) → (a || b) ≡ false → (a ≡ false) × (b ≡ false)
or_neither true b e = clash {b = true} refl e
or_neither false b e = (refl, e)

pub not_both : (a b : Bool) → (a && b) ≡ false → a ≡ true → b ≡ false
not_both true b e t = e
not_both false b e t = clash {b = false} t refl

pub contra : (a b : Bool) → (a ≡ true → b ≡ true) → b ≡ false → a ≡ false
contra true b f e = clash (f refl) e
contra false b f e = refl

pub whole : (e : EndPoint) (area : List ℕ) → unfit e area ≡ false → length area ≡ 4096
unfolding unfit
whole e area u = eqb-true (length area) 4096 (is_not (eqb (length area) 4096) (or_neither (not (sound e)) (not (eqb (length area) 4096)) u).1)

-- ---- a sound end-point

module _ (e : EndPoint) (p : Parts e) where
  pub in_current : has e.current.set e.me ≡ true
  unfolding own_member
  in_current = and_left (has e.current.set e.me) (has e.membership.set e.me) p.member

  pub in_membership : has e.membership.set e.me ≡ true
  unfolding own_member
  in_membership = and_right (has e.current.set e.me) (has e.membership.set e.me) p.member

  pub current_has : has_slot e.slots e.current ≡ true
  unfolding slots_ok
  current_has =
      and_right (all_used (λ v. not (spent e v)) e.slots) (has_slot e.slots e.current)
      (and_right (slots_differ e.slots) (all_used (λ v. not (spent e v)) e.slots && has_slot e.slots e.current)
      (and_right (no_gaps e.slots e.me) (slots_differ e.slots && (all_used (λ v. not (spent e v)) e.slots && has_slot e.slots e.current)) p.slots))

  pub all_rise : all_below (records_rise e.records) 8 ≡ true
  unfolding records_ok
  all_rise =
      and_left (all_below (records_rise e.records) 8) (records_at_most e.records e.me e.change.number)
      (and_right (all_below (records_well_formed e.records) 8) (all_below (records_rise e.records) 8 && records_at_most e.records e.me e.change.number) p.records)

  pub at_most : records_at_most e.records e.me e.change.number ≡ true
  unfolding records_ok
  at_most =
      and_right (all_below (records_rise e.records) 8) (records_at_most e.records e.me e.change.number)
      (and_right (all_below (records_well_formed e.records) 8) (all_below (records_rise e.records) 8 && records_at_most e.records e.me e.change.number) p.records)

  pub rises : (m : ℕ) → m < 8 → records_rise e.records m ≡ true
  rises m l = all_each (records_rise e.records) 8 m l all_rise

  -- an announced view that is neither initial nor spent has a slot
  pub heard_has : (q : ℕ) → q < 8 → (q ≡ e.me → ⊥) → eqb (heard_from e q).id 0 ≡ false → spent e (heard_from e q) ≡ false
      → (same (heard_from e q) e.current ≡ true → has_slot e.slots (heard_from e q) ≡ true) → has_slot e.slots (heard_from e q) ≡ true
  unfolding heard_ok
  heard_has q l ne a b c =
      go (eqb (heard_from e q).id 0) (same (heard_from e q) e.current) (spent e (heard_from e q)) (has_slot e.slots (heard_from e q)) a b c
      (others_each e (λ q. eqb (heard_from e q).id 0 || (same (heard_from e q) e.current || (spent e (heard_from e q) || has_slot e.slots (heard_from e q)))) p.heard q l ne)
    where
      go : (w x y z : Bool) → w ≡ false → y ≡ false → (x ≡ true → z ≡ true) → (w || (x || (y || z))) ≡ true → z ≡ true
      go true x y z i j k h = clash {b = true} refl i
      go false true y z i j k h = k refl
      go false false true z i j k h = clash {b = true} refl j
      go false false false z i j k h = h

-- ---- a message that may be received

pub record Received (e : EndPoint) (area : List ℕ) (q : ℕ) (m : Message) : Type 0 where
  pub q_low : q < 8
  pub q_other : q ≡ e.me → ⊥
  pub well : well_formed m ≡ true
  pub kind_low : m.kind ≤ 4
  pub long : length area ≡ 4096

pub received : (e : EndPoint) (area : List ℕ) (q : ℕ) (m : Message) → unreceivable e area q m ≡ false → Received e area q m
unfolding unreceivable
received e area q m u =
    let a = or_neither (unfit e area) (not (leb q 7) || (eqb q e.me || (not (well_formed m) || not (leb m.kind 4)))) u in
    let b = or_neither (not (leb q 7)) (eqb q e.me || (not (well_formed m) || not (leb m.kind 4))) a.1 in
    let c = or_neither (eqb q e.me) (not (well_formed m) || not (leb m.kind 4)) b.1 in
    let d = or_neither (not (well_formed m)) (not (leb m.kind 4)) c.1 in
    record {
      q_low = omega (arith, leb-true q 7 (is_not (leb q 7) b.0));
      q_other = eqb-false q e.me c.0;
      well = is_not (well_formed m) d.0;
      kind_low = leb-true m.kind 4 (is_not (leb m.kind 4) d.1);
      long = whole e area a.0;
    }

-- of the four kinds the one that is none of the first three has a place
pub kind_four : (m : Message) → well_formed m ≡ true → m.kind ≤ 4 → eqb m.kind 1 ≡ false → eqb m.kind 2 ≡ false → eqb m.kind 3 ≡ false → m.kind ≡ 4
unfolding well_formed fields_fit
kind_four m w l a b c =
    let one : 1 ≤ m.kind = leb-true 1 m.kind (and_left (leb 1 m.kind) (leb m.kind 6) (and_left (leb 1 m.kind && leb m.kind 6) _ (and_left (fields_fit m.kind m.number m.sender m.index m.word m.set) _ w))) in
    omega (arith, eqb-false m.kind 1 a, eqb-false m.kind 2 b, eqb-false m.kind 3 c)

pub place_of : (m : Message) → well_formed m ≡ true → m.kind ≡ 4 → (m.sender < 8) × ((1 ≤ m.index) × (m.index ≤ 128))
place_of m w k =
    let f : (leb m.sender 7 && (leb 1 m.index && leb m.index 128)) ≡ true = rw k at (parts_fit m w).place_fit in
    let g = and_right (leb m.sender 7) (leb 1 m.index && leb m.index 128) f in (
      omega (arith, leb-true m.sender 7 (and_left (leb m.sender 7) (leb 1 m.index && leb m.index 128) f)),
      (leb-true 1 m.index (and_left (leb 1 m.index) (leb m.index 128) g), leb-true m.index 128 (and_right (leb 1 m.index) (leb m.index 128) g)),
    )

-- ---- sets

pub less_in : (s n k : ℕ) → has (less s n) k ≡ true → member s k ≡ true
unfolding less
less_in s n k h =
    ⊎_elim
    (λ (l : k < 8). member_of s k l (and_left (has s k) (not (eqb k n)) (sym (less_has s n k l) ∙ h)))
    (λ g. clash h (has_above (less s n) k (set_low (λ j. has s j && not (eqb j n))) g))
    (side k 8)

pub less_of : (s n k : ℕ) → member s k ≡ true → (k ≡ n → ⊥) → has (less s n) k ≡ true
less_of s n k h ne = less_has s n k (member_low s k h) ∙ rw (member_has s k h, ne_eqb k n ne) refl

pub within_member : (a b k : ℕ) → within a b ≡ true → member a k ≡ true → member b k ≡ true
within_member a b k w h = let l = member_low a k h in member_of b k l (within_has a b k w l (member_has a k h))

pub joined_member : (a b k : ℕ) → member a k ≡ true → member (joined a b) k ≡ true
joined_member a b k h = let l = member_low a k h in member_of (joined a b) k l (joined_has a b k l ∙ rw (member_has a k h) refl)

-- ---- one entry anew

module _ {A : Type 0} (k : ℕ) (x : A) (f : ℕ → A) where
  pub put_there : put k x f k ≡ x
  unfolding put
  put_there = rw (eq-eqb k k refl)

  pub put_else : (n : ℕ) → (n ≡ k → ⊥) → put k x f n ≡ f n
  unfolding put
  put_else n ne = rw (ne_eqb n k ne)
