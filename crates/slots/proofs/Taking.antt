-- The laws of `taken`: v takes the lowest free slot, its marks cleared. In order: that slot; each slot after it; what is said of each slot in use;
-- a view apart from v; v's own slot, where it had none, and the views that had one.
-- Assumes Shaped, and that there is a free slot. v's own slot or a new one is in With.
use Prim.Native.Nat.{ℕ, ◌<◌}
use native.Mathlib.Omega.{arith}
use mathlib.Core.Bool.{Bool, true, false, not}
use mathlib.Core.Path.{◌≡◌, refl, sym, ◌∙◌}
use mathlib.Core.Logic.{◌⊎◌, inl, inr, ⊎_elim}
use lib.Dec.{leb}
use lib.ListN.{length-set}
use lib.Seq.{get_or-set_same, get_or-set_other}
use borrow.Author.Tests.{ltb-true, lt-ltb}
use Rattle.below.proofs.Tests.{clash, both, not_is}
use Rattle.below.proofs.All.{all_each, all_of}
use Rattle.views.specs.declared.View.{View}
use Rattle.views.specs.Views.{same}
use Rattle.views.proofs.Sameness.{same_refl}
use Rattle.marks.specs.Marks.{no_marks}
use Rattle.marks.proofs.Slot.{cleared_length, cleared_held, cleared_run, cleared_gap}
use Rattle.slots.specs.declared.Slots.{Slots}
use Rattle.slots.specs.Slots.{no_tag, tag_for, tag_at, marks_at, used, is_for, slot_of, has_slot, held_word, run, free_slot, has_free, taken, all_used, slots_differ, no_gaps}
use Rattle.views.proofs.Sameness.{same_sym}
use Rattle.below.proofs.First.{first_here, first_is, first_same}
use Rattle.slots.proofs.Finding.{Shaped, flags, at_or_not, for_used, for_same, for_of, slot_of_lem, slot_find, no_slot_at, has_same, used_each, used_of, differ_each, differ_of, gaps_each, gaps_of}

-- ---- the lowest free slot

module _ (ss : Slots) (free : has_free ss ≡ true) where
  pub free_low : free_slot ss < 4
  unfolding has_free
  free_low = ltb-true (free_slot ss) 4 free

  pub free_unused : used ss (free_slot ss) ≡ false
  unfolding free_slot
  free_unused = not_is (used ss (free_slot ss)) (first_here (λ s. not (used ss s)) 4 free_low)

  used_elsewhere : (s : ℕ) → used ss s ≡ true → s ≡ free_slot ss → ⊥
  used_elsewhere s u q = clash u (rw q free_unused)

module _ (v : View) (ss : Slots) (shape : Shaped ss) (free : has_free ss ≡ true) where
  -- ---- each slot after it

  pub taken_tag : tag_at (taken v ss) (free_slot ss) ≡ tag_for v
  unfolding taken tag_at
  taken_tag = get_or-set_same ss.tags (free_slot ss) (tag_for v) no_tag (omega (arith, free_low ss free, shape.tags_length))

  pub taken_marks : marks_at (taken v ss) (free_slot ss) ≡ no_marks
  unfolding taken marks_at
  taken_marks = get_or-set_same ss.marks (free_slot ss) no_marks no_marks (omega (arith, free_low ss free, shape.marks_length))

  pub taken_used : used (taken v ss) (free_slot ss) ≡ true
  unfolding used
  taken_used = rw taken_tag

  module _ (s : ℕ) (d : s ≡ free_slot ss → ⊥) where
    pub taken_tag_other : tag_at (taken v ss) s ≡ tag_at ss s
    unfolding taken tag_at
    taken_tag_other = get_or-set_other ss.tags (free_slot ss) s (tag_for v) no_tag d

    pub taken_marks_other : marks_at (taken v ss) s ≡ marks_at ss s
    unfolding taken marks_at
    taken_marks_other = get_or-set_other ss.marks (free_slot ss) s no_marks no_marks d

    pub taken_used_other : used (taken v ss) s ≡ used ss s
    unfolding used
    taken_used_other = rw taken_tag_other

  pub taken_shaped : Shaped (taken v ss)
  unfolding taken
  taken_shaped = record {
    tags_length = length-set ss.tags (free_slot ss) (tag_for v) ∙ shape.tags_length;
    marks_length = length-set ss.marks (free_slot ss) no_marks ∙ shape.marks_length;
    rows_length = λ s l. ⊎_elim (λ (q : s ≡ free_slot ss). rw (q, taken_marks) cleared_length) (λ d. rw (taken_marks_other s d) (shape.rows_length s l)) (at_or_not s (free_slot ss));
  }

  -- ---- what is said of each slot in use

  pub taken_flags : flags ss ≡ true → flags (taken v ss) ≡ true
  taken_flags e =
      all_of (λ s. leb (tag_at (taken v ss) s).used 1) 4
      (λ s l. ⊎_elim (λ (q : s ≡ free_slot ss). rw (q, taken_tag)) (λ d. rw (taken_tag_other s d) (all_each (λ s. leb (tag_at ss s).used 1) 4 s l e)) (at_or_not s (free_slot ss)))

  pub taken_all_used : (f : View → Bool) → all_used f ss ≡ true → f v ≡ true → all_used f (taken v ss) ≡ true
  taken_all_used f e t =
      used_of f (taken v ss)
      (λ s l u. ⊎_elim
      (λ (q : s ≡ free_slot ss). rw (q, taken_tag) t)
      (λ d. rw (taken_tag_other s d) (used_each f ss e s l (rw (taken_used_other s d) at u)))
      (at_or_not s (free_slot ss)))

  pub taken_gaps : (p : ℕ) → no_gaps ss p ≡ true → no_gaps (taken v ss) p ≡ true
  taken_gaps p g =
      gaps_of (taken v ss) p
      (λ s l u. ⊎_elim
      (λ (q : s ≡ free_slot ss). rw (q, taken_marks) (cleared_gap p))
      (λ d. rw (taken_marks_other s d) (gaps_each ss p g s l (rw (taken_used_other s d) at u)))
      (at_or_not s (free_slot ss)))

  -- ---- v has a slot

  taken_for : is_for (taken v ss) v (free_slot ss) ≡ true
  taken_for = for_of (taken v ss) v (free_slot ss) taken_used (rw taken_tag (same_refl v))

  pub taken_has : has_slot (taken v ss) v ≡ true
  taken_has = slot_find (taken v ss) v (free_slot ss) (free_low ss free) taken_for

  -- ---- a view w apart from v

  module _ (w : View) (apart : same v w ≡ false) where
    taken_for_apart : (s : ℕ) → s < 4 → is_for (taken v ss) w s ≡ is_for ss w s
    unfolding is_for
    taken_for_apart s l =
        ⊎_elim
        (λ (q : s ≡ free_slot ss). rw (q, taken_used, taken_tag, free_unused ss free, apart))
        (λ d. rw (taken_used_other s d, taken_tag_other s d))
        (at_or_not s (free_slot ss))

    pub taken_slot_apart : slot_of (taken v ss) w ≡ slot_of ss w
    unfolding slot_of
    taken_slot_apart = first_same (is_for (taken v ss) w) (is_for ss w) 4 taken_for_apart

    pub taken_has_apart : has_slot (taken v ss) w ≡ has_slot ss w
    unfolding has_slot
    taken_has_apart = rw taken_slot_apart

    taken_marks_apart : marks_at (taken v ss) (slot_of (taken v ss) w) ≡ marks_at ss (slot_of ss w)
    unfolding has_slot
    taken_marks_apart =
        rw taken_slot_apart (taken_marks_other (slot_of ss w)
        (λ q. let p = slot_of_lem ss w (lt-ltb (slot_of ss w) 4 (rw q (free_low ss free))) in used_elsewhere ss free (slot_of ss w) (for_used ss w (slot_of ss w) p.1) q))

    pub taken_run_apart : (r : ℕ) → run (taken v ss) w r ≡ run ss w r
    unfolding run
    taken_run_apart r = rw taken_marks_apart

    pub taken_held_apart : (r i : ℕ) → held_word (taken v ss) w r i ≡ held_word ss w r i
    unfolding held_word
    taken_held_apart r i = rw taken_marks_apart

  -- ---- v had no slot

  module _ (none : has_slot ss v ≡ false) where
    none_for : (s : ℕ) → s < 4 → used ss s ≡ true → same (tag_at ss s).view v ≡ false
    none_for s l u =
        both (same (tag_at ss s).view v) false (λ e. clash (for_of ss v s u e) (no_slot_at ss v none s l)) (λ e. clash e refl)

    pub taken_differ : slots_differ ss ≡ true → slots_differ (taken v ss) ≡ true
    taken_differ e =
        differ_of (taken v ss)
        (λ s t l m u w. go s t l (omega arith) m u w (at_or_not s (free_slot ss)) (at_or_not t (free_slot ss)))
      where
        flip : (a : View) → same a v ≡ false → same v a ≡ false
        flip a n = both (same v a) false (λ q. clash (same_sym v a q) n) (λ q. clash q refl)

        go : (s t : ℕ) → s < 4 → t < 4 → t < s → used (taken v ss) s ≡ true → used (taken v ss) t ≡ true
            → ((s ≡ free_slot ss) ⊎ (s ≡ free_slot ss → ⊥)) → ((t ≡ free_slot ss) ⊎ (t ≡ free_slot ss → ⊥))
            → same (tag_at (taken v ss) s).view (tag_at (taken v ss) t).view ≡ false
        go s t l k m u w (inl p) (inl q) = absurd (omega arith)
        go s t l k m u w (inl p) (inr q) =
            rw (p, taken_tag, taken_tag_other t q) (flip (tag_at ss t).view (none_for t k (rw (taken_used_other t q) at w)))
        go s t l k m u w (inr p) (inl q) = rw (q, taken_tag, taken_tag_other s p) (none_for s l (rw (taken_used_other s p) at u))
        go s t l k m u w (inr p) (inr q) =
            rw (taken_tag_other s p, taken_tag_other t q)
            (differ_each ss e s t l m (rw (taken_used_other s p) at u) (rw (taken_used_other t q) at w))

    pub taken_slot : slot_of (taken v ss) v ≡ free_slot ss
    unfolding slot_of
    taken_slot =
        first_is (is_for (taken v ss) v) 4 (free_slot ss) (omega (arith, free_low ss free))
        (λ j l. let d : j ≡ free_slot ss → ⊥ = omega arith in before j (omega (arith, free_low ss free)) d)
        (λ l. taken_for)
      where
        before : (j : ℕ) → j < 4 → (j ≡ free_slot ss → ⊥) → is_for (taken v ss) v j ≡ false
        before j l d =
            both (is_for (taken v ss) v j) false
            (λ e. clash (for_of ss v j (rw (taken_used_other j d) at (for_used (taken v ss) v j e)) (rw (taken_tag_other j d) at (for_same (taken v ss) v j e)))
            (no_slot_at ss v none j l))
            (λ e. clash e refl)

    pub taken_run : (r : ℕ) → run (taken v ss) v r ≡ 0
    unfolding run
    taken_run r = rw (taken_slot, taken_marks) (cleared_run r)

    pub taken_held : (r i : ℕ) → held_word (taken v ss) v r i ≡ false
    unfolding held_word
    taken_held r i = rw (taken_slot, taken_marks) (cleared_held r i)

    -- each view that had a slot is apart from v
    module _ (w : View) (h : has_slot ss w ≡ true) where
      taken_apart : same v w ≡ false
      taken_apart = both (same v w) false (λ e. clash h (sym (has_same ss v w e) ∙ none)) (λ e. clash e refl)

      pub taken_other : (slot_of (taken v ss) w ≡ slot_of ss w) × (has_slot (taken v ss) w ≡ true)
      taken_other = (taken_slot_apart w taken_apart, taken_has_apart w taken_apart ∙ h)

      pub taken_run_other : (r : ℕ) → run (taken v ss) w r ≡ run ss w r
      taken_run_other = taken_run_apart w taken_apart

      pub taken_held_other : (r i : ℕ) → held_word (taken v ss) w r i ≡ held_word ss w r i
      taken_held_other = taken_held_apart w taken_apart
