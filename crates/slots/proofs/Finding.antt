-- What the laws of slots assume (Shaped, Respects, flags), then the laws of finding a slot. In order: which slots are for a view; a view's slot;
-- two views that are the same; runs and held words; what is said of each slot in use: of its view, of two of them, of its marks.
-- Assumes nothing else. What the steps do to slots is in Marking, Freeing, Taking and With.
use Prim.Native.Nat.{ℕ, ◌≤◌, ◌<◌}
use native.Mathlib.Nat.{eq-or-lt_of_le}
use native.Mathlib.Omega.{arith}
use mathlib.Core.Bool.{Bool, true, false, ◌&&◌, not, cond}
use mathlib.Core.Path.{◌≡◌, refl, sym, ap, ◌∙◌}
use mathlib.Core.Logic.{◌⊎◌, inl, inr, ⊎_elim}
use lib.Dec.{eqb, leb}
use lib.ListN.{length, get_or-eq_default}
use borrow.Author.Tests.{eqb-true, eqb-false, ltb-true, ltb-false, lt-ltb}
use Rattle.below.specs.Below.{all_below}
use Rattle.below.proofs.Tests.{clash, and_both, and_left, and_right, not_is}
use Rattle.below.proofs.All.{all_each, all_of}
use Rattle.views.specs.declared.View.{View}
use Rattle.views.specs.Views.{same}
use Rattle.marks.specs.Marks.{no_gap_in, no_marks}
use Rattle.marks.proofs.Slot.{run_in_low, cleared_held, cleared_run}
use Rattle.slots.specs.declared.Slots.{Slots}
use Rattle.slots.specs.Slots.{tag_at, marks_at, used, is_for, slot_of, has_slot, held_word, run, all_used, slots_differ, no_gaps}
use Rattle.views.proofs.Sameness.{same_sym, same_trans, same_alike}
use Rattle.below.proofs.First.{first_low, first_here, first_before, first_find, first_same}

-- four slots of eight rows: what owning the arrays tells
pub record Shaped (ss : Slots) : Type 0 where
  pub tags_length : length ss.tags ≡ 4
  pub marks_length : length ss.marks ≡ 4
  pub rows_length : (s : ℕ) → s < 4 → length (marks_at ss s).rows ≡ 8

-- f says the same of views that are the same
abbrev pub Respects : (View → Bool) → Type 0
Respects f = (v w : View) → same v w ≡ true → f v ≡ f w

-- each flag is 0 or 1, as flags_ok says it
abbrev pub flags : Slots → Bool
flags ss = all_below (λ s. leb (tag_at ss s).used 1) 4

-- slot s is slot k, or not
pub at_or_not : (s k : ℕ) → (s ≡ k) ⊎ (s ≡ k → ⊥)
at_or_not s k = go (eqb s k) refl
  where
    go : (b : Bool) → eqb s k ≡ b → (s ≡ k) ⊎ (s ≡ k → ⊥)
    go true e = inl (eqb-true s k e)
    go false e = inr (eqb-false s k e)

-- ---- which slots are for a view

module _ (ss : Slots) (v : View) (s : ℕ) where
  pub for_used : is_for ss v s ≡ true → used ss s ≡ true
  unfolding is_for
  for_used e = and_left (used ss s) (same (tag_at ss s).view v) e

  pub for_same : is_for ss v s ≡ true → same (tag_at ss s).view v ≡ true
  unfolding is_for
  for_same e = and_right (used ss s) (same (tag_at ss s).view v) e

  pub for_of : used ss s ≡ true → same (tag_at ss s).view v ≡ true → is_for ss v s ≡ true
  unfolding is_for
  for_of u e = and_both u e

-- ---- a view's slot

module _ (ss : Slots) (v : View) where
  pub slot_le : slot_of ss v ≤ 4
  unfolding slot_of
  slot_le = first_low (is_for ss v) 4

  pub slot_of_lem : has_slot ss v ≡ true → (slot_of ss v < 4) × (is_for ss v (slot_of ss v) ≡ true)
  unfolding has_slot slot_of
  slot_of_lem h = let l : slot_of ss v < 4 = ltb-true (slot_of ss v) 4 h in (l, first_here (is_for ss v) 4 l)

  -- a slot for v is no lower than v's
  pub slot_first : (s : ℕ) → is_for ss v s ≡ true → slot_of ss v ≤ s
  unfolding slot_of
  slot_first s e = first_find (is_for ss v) 4 s e

  pub slot_find : (s : ℕ) → s < 4 → is_for ss v s ≡ true → has_slot ss v ≡ true
  unfolding has_slot
  slot_find s l e = lt-ltb (slot_of ss v) 4 (omega (arith, slot_first s e))

  pub no_slot : has_slot ss v ≡ false → slot_of ss v ≡ 4
  unfolding has_slot
  no_slot h = omega (arith, ltb-false (slot_of ss v) 4 h, slot_le)

  pub no_slot_at : has_slot ss v ≡ false → (s : ℕ) → s < 4 → is_for ss v s ≡ false
  unfolding slot_of
  no_slot_at h s l = first_before (is_for ss v) 4 s (rw (no_slot h) l)

-- ---- two views that are the same have the same slot

module _ (ss : Slots) (v w : View) (e : same v w ≡ true) where
  pub slot_same : slot_of ss v ≡ slot_of ss w
  unfolding slot_of is_for
  slot_same = first_same (is_for ss v) (is_for ss w) 4 (λ s l. rw (same_alike (tag_at ss s).view v w e))

  pub has_same : has_slot ss v ≡ has_slot ss w
  unfolding has_slot
  has_same = rw slot_same

  pub run_same : (r : ℕ) → run ss v r ≡ run ss w r
  unfolding run
  run_same r = rw slot_same

  pub held_same : (r i : ℕ) → held_word ss v r i ≡ held_word ss w r i
  unfolding held_word
  held_same r i = rw slot_same

-- ---- runs and held words

module _ (ss : Slots) (v : View) (r : ℕ) where
  pub run_low : run ss v r ≤ 128
  unfolding run
  run_low = run_in_low (marks_at ss (slot_of ss v)) r

-- without a slot there are none
module _ (ss : Slots) (v : View) (shape : Shaped ss) (h : has_slot ss v ≡ false) where
  none_marks : marks_at ss (slot_of ss v) ≡ no_marks
  unfolding marks_at
  none_marks = get_or-eq_default ss.marks no_marks (omega (arith, no_slot ss v h, shape.marks_length))

  pub run_none : (r : ℕ) → run ss v r ≡ 0
  unfolding run
  run_none r = rw none_marks (cleared_run r)

  pub held_none : (r i : ℕ) → held_word ss v r i ≡ false
  unfolding held_word
  held_none r i = rw none_marks (cleared_held r i)

-- ---- what is said of each slot in use

-- a test asked of the slots in use
asked : (u b : Bool) → cond u b true ≡ true → u ≡ true → b ≡ true
asked true b e q = e
asked false b e q = clash q refl

asks : (u b : Bool) → (u ≡ true → b ≡ true) → cond u b true ≡ true
asks true b f = f refl
asks false b f = refl

module _ (f : View → Bool) (ss : Slots) where
  pub used_each : all_used f ss ≡ true → (s : ℕ) → s < 4 → used ss s ≡ true → f (tag_at ss s).view ≡ true
  unfolding all_used
  used_each e s l u =
      asked (used ss s) (f (tag_at ss s).view) (all_each (λ s. cond (used ss s) (f (tag_at ss s).view) true) 4 s l e) u

  pub used_of : ((s : ℕ) → s < 4 → used ss s ≡ true → f (tag_at ss s).view ≡ true) → all_used f ss ≡ true
  unfolding all_used
  used_of h = all_of (λ s. cond (used ss s) (f (tag_at ss s).view) true) 4 (λ s l. asks (used ss s) (f (tag_at ss s).view) (h s l))

  -- so of each view that has one
  pub used_slot : all_used f ss ≡ true → Respects f → (v : View) → has_slot ss v ≡ true → f v ≡ true
  used_slot e g v h =
      let p = slot_of_lem ss v h in
      let s = slot_of ss v in
      sym (g (tag_at ss s).view v (for_same ss v s p.1)) ∙ used_each e s p.0 (for_used ss v s p.1)

module _ (ss : Slots) where
  -- both in use, for one view
  abbrev alike : ℕ → ℕ → Bool
  alike s t = used ss s && (used ss t && same (tag_at ss s).view (tag_at ss t).view)

  -- slots s and t, t the lower, are for different views
  pub differ_each : slots_differ ss ≡ true → (s t : ℕ) → s < 4 → t < s → used ss s ≡ true → used ss t ≡ true
      → same (tag_at ss s).view (tag_at ss t).view ≡ false
  unfolding slots_differ
  differ_each e s t l m u w =
      rw (u, w) at (not_is (alike s t) (all_each (λ t. not (alike s t)) s t m (all_each (λ s. all_below (λ t. not (alike s t)) s) 4 s l e)))

  pub differ_of : ((s t : ℕ) → s < 4 → t < s → used ss s ≡ true → used ss t ≡ true → same (tag_at ss s).view (tag_at ss t).view ≡ false)
      → slots_differ ss ≡ true
  unfolding slots_differ
  differ_of h =
      all_of (λ s. all_below (λ t. not (alike s t)) s) 4 (λ s l. all_of (λ t. not (alike s t)) s (λ t m. go (used ss s) (used ss t) (h s t l m)))
    where
      go : (a b : Bool) {c : Bool} → (a ≡ true → b ≡ true → c ≡ false) → not (a && (b && c)) ≡ true
      go true true f = ap not (f refl refl)
      go true false f = refl
      go false b f = refl

  -- the one slot of a view
  pub slot_only : slots_differ ss ≡ true → (v : View) (s : ℕ) → s < 4 → is_for ss v s ≡ true → slot_of ss v ≡ s
  slot_only e v s l q =
      let p = slot_of_lem ss v (slot_find ss v s l q) in
      let t = slot_of ss v in
      ⊎_elim
      (λ i. i)
      (λ i. clash (same_trans (tag_at ss s).view v (tag_at ss t).view (for_same ss v s q) (same_sym (tag_at ss t).view v (for_same ss v t p.1)))
      (differ_each e s t l i (for_used ss v s q) (for_used ss v t p.1)))
      (eq-or-lt_of_le (slot_first ss v s q))

module _ (ss : Slots) (p : ℕ) where
  pub gaps_each : no_gaps ss p ≡ true → (s : ℕ) → s < 4 → used ss s ≡ true → no_gap_in (marks_at ss s) p ≡ true
  unfolding no_gaps
  gaps_each e s l u = asked (used ss s) (no_gap_in (marks_at ss s) p) (all_each (λ s. cond (used ss s) (no_gap_in (marks_at ss s) p) true) 4 s l e) u

  pub gaps_of : ((s : ℕ) → s < 4 → used ss s ≡ true → no_gap_in (marks_at ss s) p ≡ true) → no_gaps ss p ≡ true
  unfolding no_gaps
  gaps_of h = all_of (λ s. cond (used ss s) (no_gap_in (marks_at ss s) p) true) 4 (λ s l. asks (used ss s) (no_gap_in (marks_at ss s) p) (h s l))
