-- The laws of `mark_word`, over the steps that store a word. In order: what the tags say, which it leaves as they were; the marks of each slot;
-- the runs, and no gap. Word i of sender r in view v is marked.
-- Assumes Shaped where a slot's marks are written.
use Prim.Native.Nat.{ℕ, ◌+◌, ◌≤◌, ◌<◌}
use native.Mathlib.Omega.{arith}
use mathlib.Core.Bool.{Bool, true, cond}
use mathlib.Core.Path.{◌≡◌, refl, sym, ◌∙◌}
use mathlib.Core.Logic.{◌⊎◌, inl, inr, ⊎_elim}
use lib.ListN.{length, length-set}
use lib.Seq.{set_out, get_or-set_same, get_or-set_other}
use Rattle.below.proofs.Tests.{side}
use Rattle.below.proofs.All.{all_same}
use Rattle.views.specs.declared.View.{View}
use Rattle.marks.specs.Marks.{no_gap_in, marked_in, no_marks}
use Rattle.marks.proofs.Slot.{marks_length as rows_kept, held_in_new, held_in_kept, run_in_grows, run_in_other, run_in_next, gap_in_other, gap_in_next}
use Rattle.slots.specs.declared.Slots.{Slots}
use Rattle.slots.specs.Slots.{tag_at, marks_at, used, is_for, slot_of, has_slot, held_word, run, mark_word, all_used, slots_differ, no_gaps}
use Rattle.slots.proofs.Finding.{Shaped, flags, at_or_not, slot_of_lem, for_used, gaps_each, gaps_of}

module _ (ss : Slots) (v : View) (r i : ℕ) where
  -- ---- what the tags say

  pub mark_tag : (s : ℕ) → tag_at (mark_word ss v r i) s ≡ tag_at ss s
  unfolding mark_word tag_at
  mark_tag s = refl

  pub mark_used : (s : ℕ) → used (mark_word ss v r i) s ≡ used ss s
  unfolding mark_word used tag_at
  mark_used s = refl

  pub mark_slot : (w : View) → slot_of (mark_word ss v r i) w ≡ slot_of ss w
  unfolding mark_word slot_of is_for used tag_at
  mark_slot w = refl

  pub mark_has : (w : View) → has_slot (mark_word ss v r i) w ≡ has_slot ss w
  unfolding has_slot
  mark_has w = rw mark_slot

  pub mark_all_used : (f : View → Bool) → all_used f (mark_word ss v r i) ≡ all_used f ss
  unfolding mark_word all_used used tag_at
  mark_all_used f = refl

  pub mark_differ : slots_differ (mark_word ss v r i) ≡ slots_differ ss
  unfolding mark_word slots_differ used tag_at
  mark_differ = refl

  pub mark_flags : flags (mark_word ss v r i) ≡ flags ss
  unfolding mark_word tag_at
  mark_flags = refl

  -- ---- the marks of each slot

  pub mark_own : Shaped ss → has_slot ss v ≡ true → marks_at (mark_word ss v r i) (slot_of ss v) ≡ marked_in (marks_at ss (slot_of ss v)) r i
  unfolding mark_word marks_at
  mark_own shape h =
      get_or-set_same ss.marks (slot_of ss v) (marked_in (marks_at ss (slot_of ss v)) r i) no_marks (omega (arith, (slot_of_lem ss v h).0, shape.marks_length))

  pub mark_other : (s : ℕ) → (s ≡ slot_of ss v → ⊥) → marks_at (mark_word ss v r i) s ≡ marks_at ss s
  unfolding mark_word marks_at
  mark_other s d = get_or-set_other ss.marks (slot_of ss v) s (marked_in (marks_at ss (slot_of ss v)) r i) no_marks d

  -- each slot's marks are as they were, or have word i of r marked
  pub mark_after : (s : ℕ) → (marks_at (mark_word ss v r i) s ≡ marks_at ss s) ⊎ (marks_at (mark_word ss v r i) s ≡ marked_in (marks_at ss s) r i)
  unfolding mark_word marks_at
  mark_after s =
      ⊎_elim
      (λ e. ⊎_elim
      (λ l. inr (rw e (get_or-set_same ss.marks (slot_of ss v) (marked_in (marks_at ss (slot_of ss v)) r i) no_marks l)))
      (λ l. inl (rw (set_out ss.marks (slot_of ss v) (marked_in (marks_at ss (slot_of ss v)) r i) l)))
      (side (slot_of ss v) (length ss.marks)))
      (λ d. inl (mark_other s d))
      (at_or_not s (slot_of ss v))

  pub mark_shaped : Shaped ss → Shaped (mark_word ss v r i)
  unfolding mark_word
  mark_shaped shape = record {
    tags_length = shape.tags_length;
    marks_length = length-set ss.marks (slot_of ss v) (marked_in (marks_at ss (slot_of ss v)) r i) ∙ shape.marks_length;
    rows_length = λ s l. ⊎_elim (λ e. rw e (shape.rows_length s l)) (λ e. rw e (rows_kept (marks_at ss s) r i ∙ shape.rows_length s l)) (mark_after s);
  }

  -- ---- which words are held, and the runs

  pub mark_kept : (w : View) (s j : ℕ) → held_word ss w s j ≡ true → held_word (mark_word ss v r i) w s j ≡ true
  unfolding held_word
  mark_kept w s j t =
      rw (mark_slot w) (⊎_elim (λ e. rw e t) (λ e. rw e (held_in_kept (marks_at ss (slot_of ss w)) r i s j t)) (mark_after (slot_of ss w)))

  pub mark_new : Shaped ss → has_slot ss v ≡ true → r < 8 → 1 ≤ i → i ≤ 128 → held_word (mark_word ss v r i) v r i ≡ true
  unfolding held_word
  mark_new shape h l a b =
      let n = shape.rows_length (slot_of ss v) (slot_of_lem ss v h).0 in
      rw (mark_slot v, mark_own shape h) (held_in_new (marks_at ss (slot_of ss v)) r i (rw n l) a b)

  pub mark_run : (w : View) (s : ℕ) → run ss w s ≤ run (mark_word ss v r i) w s
  unfolding run
  mark_run w s =
      rw (mark_slot w) (⊎_elim (λ e. rw e (omega arith)) (λ e. rw e (run_in_grows (marks_at ss (slot_of ss w)) r i s)) (mark_after (slot_of ss w)))

  pub mark_run_other : (w : View) (s : ℕ) → (s ≡ r → ⊥) → run (mark_word ss v r i) w s ≡ run ss w s
  unfolding run
  mark_run_other w s d =
      rw (mark_slot w) (⊎_elim (λ e. rw e) (λ e. rw e (run_in_other (marks_at ss (slot_of ss w)) r i s d)) (mark_after (slot_of ss w)))

  -- ---- no gap

  pub mark_gaps_other : (p : ℕ) → (r ≡ p → ⊥) → no_gaps (mark_word ss v r i) p ≡ no_gaps ss p
  unfolding no_gaps
  mark_gaps_other p d =
      all_same (λ s. cond (used (mark_word ss v r i) s) (no_gap_in (marks_at (mark_word ss v r i) s) p) true) (λ s. cond (used ss s) (no_gap_in (marks_at ss s) p) true) 4
      (λ s l. rw (mark_used s, at s))
    where
      at : (s : ℕ) → no_gap_in (marks_at (mark_word ss v r i) s) p ≡ no_gap_in (marks_at ss s) p
      at s = ⊎_elim (λ e. rw e) (λ e. rw e (gap_in_other (marks_at ss s) r i p (λ q. d (sym q)))) (mark_after s)

-- word i is p's own next one
module _ (ss : Slots) (v : View) (p i : ℕ) (shape : Shaped ss) (l : p < 8) (g : no_gaps ss p ≡ true) (e : i ≡ run ss v p + 1) (b : i ≤ 128) (h : has_slot ss v ≡ true) where
  own_gap : no_gap_in (marks_at ss (slot_of ss v)) p ≡ true
  own_gap = gaps_each ss p g (slot_of ss v) (slot_of_lem ss v h).0 (for_used ss v (slot_of ss v) (slot_of_lem ss v h).1)

  own_row : p < length (marks_at ss (slot_of ss v)).rows
  own_row = rw (shape.rows_length (slot_of ss v) (slot_of_lem ss v h).0) l

  pub mark_run_own : run (mark_word ss v p i) v p ≡ i
  unfolding run
  mark_run_own = rw (mark_slot ss v p i v, mark_own ss v p i shape h) (run_in_next (marks_at ss (slot_of ss v)) p i own_row own_gap e b)

  pub mark_gaps_own : no_gaps (mark_word ss v p i) p ≡ true
  unfolding run
  mark_gaps_own =
      gaps_of (mark_word ss v p i) p
      (λ s m u. ⊎_elim
      (λ (q : s ≡ slot_of ss v). rw (q, mark_own ss v p i shape h) (gap_in_next (marks_at ss (slot_of ss v)) p i own_row own_gap e b))
      (λ d. rw (mark_other ss v p i s d) (gaps_each ss p g s m (rw (mark_used ss v p i s) at u)))
      (at_or_not s (slot_of ss v)))
