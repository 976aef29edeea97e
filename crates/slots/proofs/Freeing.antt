-- The laws of `freed`: the slots of the views that are gone become free, and nothing else changes. In order: each slot after it;
-- what is said of each slot in use; the views that are not gone keep their slot and its words; the views that are gone have none, and leave a free one.
-- Assumes Shaped, and of a view's own slot that `gone` respects sameness.
use Prim.Native.Nat.{ℕ, ◌<◌}
use native.Mathlib.Omega.{arith}
use mathlib.Core.Bool.{Bool, true, false, ◌&&◌, not, cond, and-false}
use mathlib.Core.Path.{◌≡◌, refl, sym, ap, ◌∙◌}
use lib.Dec.{eqb, leb}
use lib.ListN.{get_or}
use borrow.Author.Tests.{lt-ltb}
use Rattle.below.specs.Below.{each_below}
use Rattle.below.proofs.Tests.{clash, and_left, and_right, both, not_is}
use Rattle.below.proofs.All.{all_each, all_of}
use Rattle.below.proofs.Lists.{fill_length, fill_below_lem}
use Rattle.views.specs.declared.View.{View}
use Rattle.views.specs.Views.{same}
use Rattle.slots.specs.declared.Slots.{Slots}
use Rattle.slots.specs.Slots.{no_tag, tag_at, marks_at, used, is_for, slot_of, has_slot, held_word, run, freed_tag, freed, free_slot, has_free, all_used, slots_differ, no_gaps}
use Rattle.below.proofs.First.{first_find, first_same}
use Rattle.slots.proofs.Finding.{Shaped, Respects, flags, for_used, for_same, slot_of_lem, used_each, used_of, differ_each, differ_of, gaps_each, gaps_of}

module _ (gone : View → Bool) (ss : Slots) (shape : Shaped ss) where
  -- ---- each slot after it

  pub freed_shaped : Shaped (freed gone ss)
  unfolding freed each_below marks_at
  freed_shaped = record {
    tags_length = fill_length (λ k. freed_tag gone (get_or ss.tags k no_tag)) ss.tags 4 ∙ shape.tags_length;
    marks_length = shape.marks_length;
    rows_length = shape.rows_length;
  }

  pub freed_tag_lem : (s : ℕ) → s < 4 → tag_at (freed gone ss) s ≡ freed_tag gone (tag_at ss s)
  unfolding freed each_below tag_at
  freed_tag_lem s l = fill_below_lem (λ k. freed_tag gone (get_or ss.tags k no_tag)) ss.tags 4 s no_tag l (omega (arith, shape.tags_length))

  pub freed_view : (s : ℕ) → s < 4 → (tag_at (freed gone ss) s).view ≡ (tag_at ss s).view
  freed_view s l = rw (freed_tag_lem s l) (go (gone (tag_at ss s).view))
    where
      go : (b : Bool) → (cond b (record { view = (tag_at ss s).view; used = 0 }) (tag_at ss s)).view ≡ (tag_at ss s).view
      go true = refl
      go false = refl

  pub freed_used : (s : ℕ) → s < 4 → used (freed gone ss) s ≡ (used ss s && not (gone (tag_at ss s).view))
  unfolding used
  freed_used s l = rw (freed_tag_lem s l) (go (gone (tag_at ss s).view) (eqb (tag_at ss s).used 1) refl)
    where
      go : (b u : Bool) → eqb (tag_at ss s).used 1 ≡ u → eqb (cond b (record { view = (tag_at ss s).view; used = 0 }) (tag_at ss s)).used 1 ≡ (u && not b)
      go true true e = refl
      go true false e = refl
      go false true e = e
      go false false e = e

  pub freed_was : (s : ℕ) → s < 4 → used (freed gone ss) s ≡ true → used ss s ≡ true
  freed_was s l u = and_left (used ss s) (not (gone (tag_at ss s).view)) (rw (freed_used s l) at u)

  pub freed_not_gone : (s : ℕ) → s < 4 → used (freed gone ss) s ≡ true → gone (tag_at ss s).view ≡ false
  freed_not_gone s l u = not_is (gone (tag_at ss s).view) (and_right (used ss s) (not (gone (tag_at ss s).view)) (rw (freed_used s l) at u))

  pub freed_marks : (s : ℕ) → marks_at (freed gone ss) s ≡ marks_at ss s
  unfolding freed marks_at
  freed_marks s = refl

  -- ---- what is said of each slot in use

  pub freed_flags : flags ss ≡ true → flags (freed gone ss) ≡ true
  freed_flags e = all_of (λ s. leb (tag_at (freed gone ss) s).used 1) 4 (λ s l. rw (freed_tag_lem s l) (go s l (gone (tag_at ss s).view)))
    where
      go : (s : ℕ) → s < 4 → (b : Bool) → leb (cond b (record { view = (tag_at ss s).view; used = 0 }) (tag_at ss s)).used 1 ≡ true
      go s l true = refl
      go s l false = all_each (λ s. leb (tag_at ss s).used 1) 4 s l e

  pub freed_all_used : (f : View → Bool) → all_used f ss ≡ true → all_used f (freed gone ss) ≡ true
  freed_all_used f e = used_of f (freed gone ss) (λ s l u. rw (freed_view s l) (used_each f ss e s l (freed_was s l u)))

  pub freed_gone : all_used (λ v. not (gone v)) (freed gone ss) ≡ true
  freed_gone = used_of (λ v. not (gone v)) (freed gone ss) (λ s l u. rw (freed_view s l) (ap not (freed_not_gone s l u)))

  pub freed_differ : slots_differ ss ≡ true → slots_differ (freed gone ss) ≡ true
  freed_differ e =
      differ_of (freed gone ss)
      (λ s t l m u w. let k : t < 4 = omega arith in rw (freed_view s l, freed_view t k) (differ_each ss e s t l m (freed_was s l u) (freed_was t k w)))

  pub freed_gaps : (p : ℕ) → no_gaps ss p ≡ true → no_gaps (freed gone ss) p ≡ true
  freed_gaps p g = gaps_of (freed gone ss) p (λ s l u. rw (freed_marks s) (gaps_each ss p g s l (freed_was s l u)))

  -- ---- a view that is not gone

  module _ (respects : Respects gone) (v : View) where
    freed_for : gone v ≡ false → (s : ℕ) → s < 4 → is_for (freed gone ss) v s ≡ is_for ss v s
    unfolding is_for
    freed_for n s l =
        rw (freed_used s l, freed_view s l) (go (used ss s) (gone (tag_at ss s).view) (same (tag_at ss s).view v) (λ t. respects (tag_at ss s).view v t ∙ n))
      where
        go : (u b e : Bool) → (e ≡ true → b ≡ false) → ((u && not b) && e) ≡ (u && e)
        go false b e f = refl
        go true b true f = rw (f refl)
        go true true false f = refl
        go true false false f = refl

    pub freed_slot : gone v ≡ false → slot_of (freed gone ss) v ≡ slot_of ss v
    unfolding slot_of
    freed_slot n = first_same (is_for (freed gone ss) v) (is_for ss v) 4 (freed_for n)

    pub freed_has : gone v ≡ false → has_slot (freed gone ss) v ≡ has_slot ss v
    unfolding has_slot
    freed_has n = rw (freed_slot n)

    pub freed_run : gone v ≡ false → (r : ℕ) → run (freed gone ss) v r ≡ run ss v r
    unfolding run
    freed_run n r = rw (freed_slot n, freed_marks (slot_of ss v))

    pub freed_held : gone v ≡ false → (r i : ℕ) → held_word (freed gone ss) v r i ≡ held_word ss v r i
    unfolding held_word
    freed_held n r i = rw (freed_slot n, freed_marks (slot_of ss v))

    -- ---- a view that is gone

    pub freed_has_not : has_slot (freed gone ss) v ≡ true → gone v ≡ false
    freed_has_not h =
        let s = slot_of (freed gone ss) v in
        let p = slot_of_lem (freed gone ss) v h in
        let t : same (tag_at ss s).view v ≡ true = rw (freed_view s p.0) at (for_same (freed gone ss) v s p.1) in
        sym (respects (tag_at ss s).view v t) ∙ freed_not_gone s p.0 (for_used (freed gone ss) v s p.1)

    pub freed_none : gone v ≡ true → has_slot (freed gone ss) v ≡ false
    freed_none g = both (has_slot (freed gone ss) v) false (λ h. clash g (freed_has_not h)) (λ h. clash h refl)

    pub free_after : has_slot ss v ≡ true → gone v ≡ true → has_free (freed gone ss) ≡ true
    unfolding has_free free_slot
    free_after h g =
        let s = slot_of ss v in
        let p = slot_of_lem ss v h in
        let l : s < 4 = p.0 in
        let q : gone (tag_at ss s).view ≡ true = respects (tag_at ss s).view v (for_same ss v s p.1) ∙ g in
        let n : not (used (freed gone ss) s) ≡ true = rw (freed_used s l, q, and-false) refl in
        lt-ltb (free_slot (freed gone ss)) 4 (omega (arith, first_find (λ s. not (used (freed gone ss) s)) 4 s n))
