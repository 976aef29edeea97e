-- The laws of one sender's marks that callers cite: no law here or above opens the packing. In order: which words are held, after none and after a mark;
-- the run, by what is held; no gap; what a mark does to the run and to the gap.
-- Assumes nothing. The same for a slot's rows is in Slot.
use Prim.Native.Nat.{ℕ, ◌+◌, ◌-◌, ◌≤◌, ◌<◌}
use native.Mathlib.Nat.{eq-or-lt_of_le}
use native.Mathlib.Omega.{arith}
use mathlib.Core.Bool.{true, false, or-true}
use mathlib.Core.Path.{◌≡◌, refl, ◌∙◌}
use mathlib.Core.Logic.{◌⊎◌, inl, inr, ⊎_elim}
use borrow.Author.Tests.{eq-eqb, ne_eqb}
use Rattle.below.proofs.Tests.{clash, side}
use Rattle.below.proofs.Run.{run_is, run_only as run_one}
use Rattle.marks.specs.declared.Held.{Held}
use Rattle.marks.specs.Held.{held_at, marked, run_of, no_gap, none_held}
use Rattle.marks.proofs.Beyond.{none_of, none_each}
pub use Rattle.marks.proofs.Packing.{held_zero, held_out, held_none, held_marked, marked_zero, marked_out}

-- ---- which words are held

module _ (h : Held) (i : ℕ) where
  -- there is a word i, or marking it changes nothing
  word_or_same : ((1 ≤ i) × (i ≤ 128)) ⊎ (marked h i ≡ h)
  word_or_same =
      ⊎_elim
      (λ l. let z : i ≡ 0 = omega arith in inr (rw z (marked_zero h)))
      (λ l. ⊎_elim (λ m. inl (l, (omega arith))) (λ m. inr (marked_out h i (omega arith))) (side i 129))
      (side i 1)

  pub held_new : 1 ≤ i → i ≤ 128 → held_at (marked h i) i ≡ true
  held_new a b = held_marked h i a b i ∙ rw (eq-eqb i i refl)

  pub held_other : (j : ℕ) → (j ≡ i → ⊥) → held_at (marked h i) j ≡ held_at h j
  held_other j d = ⊎_elim (λ w. held_marked h i w.0 w.1 j ∙ rw (ne_eqb j i d)) (λ e. rw e) word_or_same

  pub held_kept : (j : ℕ) → held_at h j ≡ true → held_at (marked h i) j ≡ true
  held_kept j t = ⊎_elim (λ w. held_marked h i w.0 w.1 j ∙ rw (t, or-true)) (λ e. rw e t) word_or_same

-- ---- the run

module _ (h : Held) where
  pub run_low : run_of h ≤ 128
  unfolding run_of
  run_low = (run_is (λ k. held_at h (k + 1)) 128).low

  pub run_each : (i : ℕ) → 1 ≤ i → i ≤ run_of h → held_at h i ≡ true
  unfolding run_of
  run_each i a b = let e : i - 1 + 1 ≡ i = omega arith in rw e at ((run_is (λ k. held_at h (k + 1)) 128).each (i - 1) (omega arith))

  pub run_end : held_at h (run_of h + 1) ≡ false
  unfolding run_of
  run_end = ⊎_elim (λ l. (run_is (λ k. held_at h (k + 1)) 128).stop l) (λ l. held_out h (run_of h + 1) (omega arith)) (side (run_of h) 128)

  -- the one number with each word up to it held and the next not
  pub run_only : (k : ℕ) → ((i : ℕ) → 1 ≤ i → i ≤ k → held_at h i ≡ true) → held_at h (k + 1) ≡ false → run_of h ≡ k
  unfolding run_of
  run_only k each stop = run_one (λ k. held_at h (k + 1)) 128 k (record {
    low = ⊎_elim (λ l. clash (each 129 (omega arith) l) (held_out h 129 (omega arith))) (λ l. omega arith) (side 128 k);
    each = λ j l. each (j + 1) (omega arith) (omega arith);
    stop = λ l. stop;
  })

  -- ---- no gap

  pub gap_each : no_gap h ≡ true → (i : ℕ) → run_of h < i → held_at h i ≡ false
  unfolding no_gap
  gap_each g i l =
      let e : i - 1 + 1 ≡ i = omega arith in
      ⊎_elim
      (λ m. rw e at (none_each (λ k. held_at h (k + 1)) (run_of h) 128 g (i - 1) (omega arith) (omega arith)))
      (λ m. held_out h i (omega arith))
      (side i 129)

  pub gap_of : ((i : ℕ) → run_of h < i → held_at h i ≡ false) → no_gap h ≡ true
  unfolding no_gap
  gap_of f = none_of (λ k. held_at h (k + 1)) (run_of h) 128 (λ k l m. f (k + 1) (omega arith))

pub none_run : run_of none_held ≡ 0
none_run = run_only none_held 0 (λ i a b. absurd (omega arith)) (held_none 1)

pub none_gap : no_gap none_held ≡ true
none_gap = gap_of none_held (λ i l. held_none i)

-- ---- what a mark does to the run and to the gap

module _ (h : Held) (i : ℕ) where
  pub run_grows : run_of h ≤ run_of (marked h i)
  run_grows =
      ⊎_elim
      (λ l. clash (held_kept h i (run_of (marked h i) + 1) (run_each h (run_of (marked h i) + 1) (omega arith) (omega arith))) (run_end (marked h i)))
      (λ l. l)
      (side (run_of (marked h i)) (run_of h))

  -- word i is the next one
  module _ (g : no_gap h ≡ true) (e : i ≡ run_of h + 1) (b : i ≤ 128) where
    beyond : (j : ℕ) → i < j → held_at (marked h i) j ≡ false
    beyond j l = held_other h i j (λ q. omega arith) ∙ gap_each h g j (omega arith)

    pub run_next : run_of (marked h i) ≡ i
    run_next =
        run_only (marked h i) i
        (λ j p q. ⊎_elim (λ s. rw s (held_new h i (omega arith) b)) (λ s. held_kept h i j (run_each h j p (omega arith))) (eq-or-lt_of_le q))
        (beyond (i + 1) (omega arith))

    pub gap_next : no_gap (marked h i) ≡ true
    gap_next = gap_of (marked h i) (λ j l. beyond j (rw run_next at l))
