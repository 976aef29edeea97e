-- The laws of `with_slot`: v's own slot, or a new one. In order: which of the two it is; v's slot; what is said of each slot in use; the other views.
-- Assumes Shaped, and that v has a slot or there is a free one.
use Prim.Native.Nat.{ℕ}
use mathlib.Core.Bool.{Bool, true, false, cond}
use mathlib.Core.Path.{◌≡◌, refl}
use mathlib.Core.Logic.{◌⊎◌, ⊎_elim}
use Rattle.below.proofs.Tests.{clash}
use Rattle.views.specs.declared.View.{View}
use Rattle.views.specs.Views.{same}
use Rattle.slots.specs.declared.Slots.{Slots}
use Rattle.slots.specs.Slots.{slot_of, has_slot, held_word, run, has_free, taken, with_slot, all_used, slots_differ, no_gaps}
use Rattle.slots.proofs.Finding.{Shaped, flags}
use Rattle.slots.proofs.Taking.{taken_shaped, taken_flags, taken_has, taken_has_apart, taken_all_used, taken_gaps, taken_differ, taken_other, taken_run_other, taken_held_other}

-- ---- which of the two it is

pub with_kept : (v : View) (ss : Slots) → has_slot ss v ≡ true → with_slot v ss ≡ ss
unfolding with_slot
with_kept v ss h = rw h

pub with_new : (v : View) (ss : Slots) → has_slot ss v ≡ false → with_slot v ss ≡ taken v ss
unfolding with_slot
with_new v ss h = rw h

module _ (v : View) (ss : Slots) (shape : Shaped ss) (room : (has_slot ss v ≡ true) ⊎ (has_free ss ≡ true)) where
  either : (P : Slots → Type 0) → (has_slot ss v ≡ true → P ss) → (has_free ss ≡ true → has_slot ss v ≡ false → P (taken v ss)) → P (with_slot v ss)
  unfolding with_slot
  either P kept new = go (has_slot ss v) refl
    where
      go : (b : Bool) → has_slot ss v ≡ b → P (cond b ss (taken v ss))
      go true e = kept e
      go false e = new (⊎_elim (λ h. clash h e) (λ f. f) room) e

  -- ---- v's slot

  pub with_has : has_slot (with_slot v ss) v ≡ true
  with_has = either (λ x. has_slot x v ≡ true) (λ h. h) (λ f n. taken_has v ss shape f)

  pub with_shaped : Shaped (with_slot v ss)
  with_shaped = either Shaped (λ h. shape) (λ f n. taken_shaped v ss shape f)

  -- ---- what is said of each slot in use

  pub with_flags : flags ss ≡ true → flags (with_slot v ss) ≡ true
  with_flags e = either (λ x. flags x ≡ true) (λ h. e) (λ f n. taken_flags v ss shape f e)

  pub with_all_used : (f : View → Bool) → all_used f ss ≡ true → f v ≡ true → all_used f (with_slot v ss) ≡ true
  with_all_used g e t = either (λ x. all_used g x ≡ true) (λ h. e) (λ f n. taken_all_used v ss shape f g e t)

  pub with_differ : slots_differ ss ≡ true → slots_differ (with_slot v ss) ≡ true
  with_differ e = either (λ x. slots_differ x ≡ true) (λ h. e) (λ f n. taken_differ v ss shape f n e)

  pub with_gaps : (p : ℕ) → no_gaps ss p ≡ true → no_gaps (with_slot v ss) p ≡ true
  with_gaps p g = either (λ x. no_gaps x p ≡ true) (λ h. g) (λ f n. taken_gaps v ss shape f p g)

  -- ---- the other views

  pub with_has_apart : (w : View) → same v w ≡ false → has_slot (with_slot v ss) w ≡ has_slot ss w
  with_has_apart w a = either (λ x. has_slot x w ≡ has_slot ss w) (λ h. refl) (λ f n. taken_has_apart v ss shape f w a)

  module _ (w : View) (h : has_slot ss w ≡ true) where
    pub with_other : (slot_of (with_slot v ss) w ≡ slot_of ss w) × (has_slot (with_slot v ss) w ≡ true)
    with_other =
        either (λ x. (slot_of x w ≡ slot_of ss w) × (has_slot x w ≡ true)) (λ q. (refl, h)) (λ f n. taken_other v ss shape f n w h)

    pub with_run_other : (r : ℕ) → run (with_slot v ss) w r ≡ run ss w r
    with_run_other r = either (λ x. run x w r ≡ run ss w r) (λ q. refl) (λ f n. taken_run_other v ss shape f n w h r)

    pub with_held_other : (r i : ℕ) → held_word (with_slot v ss) w r i ≡ held_word ss w r i
    with_held_other r i = either (λ x. held_word x w r i ≡ held_word ss w r i) (λ q. refl) (λ f n. taken_held_other v ss shape f n w h r i)
