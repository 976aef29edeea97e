-- The laws of a slot's marks that callers cite. In order: the rows, past the last, cleared and after a mark; which words are held; the runs, and no gap;
-- rows of which nothing is held.
-- Each is Sender's law at a row. That r is a row is r < length m.rows, and a mark keeps that length.
-- Assumes nothing.
use Prim.Native.Nat.{ℕ, ◌+◌, ◌≤◌, ◌<◌}
use native.Mathlib.Omega.{arith}
use mathlib.Core.Bool.{Bool, true, false, ◌||◌}
use mathlib.Core.List.{List, map}
use mathlib.Core.Path.{◌≡◌, refl, sym, ◌∙◌}
use mathlib.Core.Logic.{◌⊎◌, inl, inr, ⊎_elim}
use lib.Dec.{eqb}
use lib.ListN.{length, length-map, length-set, get_or-replicate, get_or-eq_default}
use lib.Seq.{set_out, get_or-set_same, get_or-set_other}
use borrow.Author.Tests.{eqb-true, eqb-false}
use Rattle.below.proofs.Tests.{side}
use Rattle.marks.specs.declared.Marks.{Marks}
use Rattle.marks.specs.Held.{marked, none_held}
use Rattle.marks.specs.Marks.{row_of, held_in, run_in, no_gap_in, marked_in, no_marks}
use Rattle.marks.proofs.Sender.{held_zero, held_out, held_none, held_marked, held_new, held_kept, run_low, run_each, run_end, run_only, run_grows, run_next, gap_each, gap_of, gap_next, none_run, none_gap}

-- ---- the rows

-- what owning an array of structs tells of its list
pub array_length : (X Y : Type 0) (f : X → Y) (l : List X) (n : ℕ) → length (map f l) ≡ n → length l ≡ n
array_length X Y f l n e = sym (length-map l f) ∙ e

pub row_past : (m : Marks) (r : ℕ) → length m.rows ≤ r → row_of m r ≡ none_held
unfolding row_of
row_past m r l = get_or-eq_default m.rows none_held l

pub row_cleared : (r : ℕ) → row_of no_marks r ≡ none_held
unfolding row_of
row_cleared r = ⊎_elim (λ l. get_or-replicate 8 r none_held none_held l) (λ l. row_past no_marks r l) (side r 8)

module _ (m : Marks) (r i : ℕ) where
  pub marks_length : length (marked_in m r i).rows ≡ length m.rows
  unfolding marked_in
  marks_length = length-set m.rows r (marked (row_of m r) i)

  pub marks_past : length m.rows ≤ r → marked_in m r i ≡ m
  unfolding marked_in
  marks_past l = rw (set_out m.rows r (marked (row_of m r) i) l)

  pub row_marked : r < length m.rows → row_of (marked_in m r i) r ≡ marked (row_of m r) i
  unfolding row_of marked_in
  row_marked l = get_or-set_same m.rows r (marked (row_of m r) i) none_held l

  pub row_other : (s : ℕ) → (s ≡ r → ⊥) → row_of (marked_in m r i) s ≡ row_of m s
  unfolding row_of marked_in
  row_other s d = get_or-set_other m.rows r s (marked (row_of m r) i) none_held d

  -- each row is as it was, or has word i marked
  row_after : (s : ℕ) → (row_of (marked_in m r i) s ≡ row_of m s) ⊎ (row_of (marked_in m r i) s ≡ marked (row_of m s) i)
  row_after s = go (eqb s r) refl
    where
      go : (b : Bool) → eqb s r ≡ b → (row_of (marked_in m r i) s ≡ row_of m s) ⊎ (row_of (marked_in m r i) s ≡ marked (row_of m s) i)
      go false e = inl (row_other s (eqb-false s r e))
      go true e =
          ⊎_elim
          (λ l. inr (rw (eqb-true s r e) (row_marked l)))
          (λ l. inl (rw (marks_past l)))
          (side r (length m.rows))

-- ---- which words are held

module _ (m : Marks) (r : ℕ) where
  pub held_in_zero : held_in m r 0 ≡ false
  unfolding held_in
  held_in_zero = held_zero (row_of m r)

  pub held_in_out : (i : ℕ) → 128 < i → held_in m r i ≡ false
  unfolding held_in
  held_in_out i l = held_out (row_of m r) i l

module _ (m : Marks) (r i : ℕ) where
  pub held_in_marked : r < length m.rows → 1 ≤ i → i ≤ 128 → (j : ℕ) → held_in (marked_in m r i) r j ≡ (eqb j i || held_in m r j)
  unfolding held_in
  held_in_marked l a b j = rw (row_marked m r i l) (held_marked (row_of m r) i a b j)

  pub held_in_new : r < length m.rows → 1 ≤ i → i ≤ 128 → held_in (marked_in m r i) r i ≡ true
  unfolding held_in
  held_in_new l a b = rw (row_marked m r i l) (held_new (row_of m r) i a b)

  pub held_in_other : (s j : ℕ) → (s ≡ r → ⊥) → held_in (marked_in m r i) s j ≡ held_in m s j
  unfolding held_in
  held_in_other s j d = rw (row_other m r i s d)

  pub held_in_kept : (s j : ℕ) → held_in m s j ≡ true → held_in (marked_in m r i) s j ≡ true
  unfolding held_in
  held_in_kept s j t = ⊎_elim (λ e. rw e t) (λ e. rw e (held_kept (row_of m s) i j t)) (row_after m r i s)

-- ---- the runs, and no gap

module _ (m : Marks) (r : ℕ) where
  pub run_in_low : run_in m r ≤ 128
  unfolding run_in
  run_in_low = run_low (row_of m r)

  pub run_in_each : (i : ℕ) → 1 ≤ i → i ≤ run_in m r → held_in m r i ≡ true
  unfolding run_in held_in
  run_in_each i a b = run_each (row_of m r) i a b

  pub run_in_end : held_in m r (run_in m r + 1) ≡ false
  unfolding run_in held_in
  run_in_end = run_end (row_of m r)

  pub run_in_only : (k : ℕ) → ((i : ℕ) → 1 ≤ i → i ≤ k → held_in m r i ≡ true) → held_in m r (k + 1) ≡ false → run_in m r ≡ k
  unfolding run_in held_in
  run_in_only k each stop = run_only (row_of m r) k each stop

  pub gap_in_each : no_gap_in m r ≡ true → (i : ℕ) → run_in m r < i → held_in m r i ≡ false
  unfolding no_gap_in run_in held_in
  gap_in_each g i l = gap_each (row_of m r) g i l

  pub gap_in_of : ((i : ℕ) → run_in m r < i → held_in m r i ≡ false) → no_gap_in m r ≡ true
  unfolding no_gap_in run_in held_in
  gap_in_of f = gap_of (row_of m r) f

module _ (m : Marks) (r i : ℕ) where
  pub run_in_grows : (s : ℕ) → run_in m s ≤ run_in (marked_in m r i) s
  unfolding run_in
  run_in_grows s = ⊎_elim (λ e. rw e (omega arith)) (λ e. rw e (run_grows (row_of m s) i)) (row_after m r i s)

  pub run_in_other : (s : ℕ) → (s ≡ r → ⊥) → run_in (marked_in m r i) s ≡ run_in m s
  unfolding run_in
  run_in_other s d = rw (row_other m r i s d)

  pub gap_in_other : (s : ℕ) → (s ≡ r → ⊥) → no_gap_in (marked_in m r i) s ≡ no_gap_in m s
  unfolding no_gap_in
  gap_in_other s d = rw (row_other m r i s d)

  pub run_in_next : r < length m.rows → no_gap_in m r ≡ true → i ≡ run_in m r + 1 → i ≤ 128 → run_in (marked_in m r i) r ≡ i
  unfolding run_in no_gap_in
  run_in_next l g e b = rw (row_marked m r i l) (run_next (row_of m r) i g e b)

  pub gap_in_next : r < length m.rows → no_gap_in m r ≡ true → i ≡ run_in m r + 1 → i ≤ 128 → no_gap_in (marked_in m r i) r ≡ true
  unfolding no_gap_in run_in
  gap_in_next l g e b = rw (row_marked m r i l) (gap_next (row_of m r) i g e b)

-- ---- a row of which no word is held: past the last, and of cleared marks

module _ (m : Marks) (r : ℕ) (none : row_of m r ≡ none_held) where
  pub none_held_in : (i : ℕ) → held_in m r i ≡ false
  unfolding held_in
  none_held_in i = rw none (held_none i)

  pub none_run_in : run_in m r ≡ 0
  unfolding run_in
  none_run_in = rw none none_run

  pub none_gap_in : no_gap_in m r ≡ true
  unfolding no_gap_in
  none_gap_in = rw none none_gap

pub cleared_length : length no_marks.rows ≡ 8
cleared_length = refl

module _ (r : ℕ) where
  pub cleared_held : (i : ℕ) → held_in no_marks r i ≡ false
  cleared_held = none_held_in no_marks r (row_cleared r)

  pub cleared_run : run_in no_marks r ≡ 0
  cleared_run = none_run_in no_marks r (row_cleared r)

  pub cleared_gap : no_gap_in no_marks r ≡ true
  cleared_gap = none_gap_in no_marks r (row_cleared r)
