-- The laws of `count_below` and `largest_below`: at none, at one more, and what bounds them.
-- Assumes nothing.
use Prim.Native.Nat.{ℕ, zero, suc, ◌+◌, ◌≤◌, ◌<◌, max, zero-le}
use native.Mathlib.Nat.{eq-or-lt_of_le}
use native.Mathlib.Numerals.{add-one}
use native.Mathlib.Omega.{arith}
use mathlib.Core.Bool.{Bool, true, false, cond}
use mathlib.Core.Path.{◌≡◌, refl}
use mathlib.Core.Logic.{⊎_elim}
use Rattle.below.specs.Below.{count_below, largest_below}

module _ (f : ℕ → Bool) where
  pub count_none : count_below f 0 ≡ 0
  unfolding count_below
  count_none = refl

  pub count_more : (i : ℕ) → count_below f (i + 1) ≡ count_below f i + cond (f i) 1 0
  unfolding count_below
  count_more i = rw add-one

  pub count_le : (n : ℕ) → count_below f n ≤ n
  unfolding count_below
  count_le zero = zero-le
  count_le (suc n) = go (f n) (count_le n)
    where
      go : (b : Bool) → count_below f n ≤ n → count_below f n + cond b 1 0 ≤ suc n
      go true h = omega arith
      go false h = omega arith

module _ (f : ℕ → ℕ) where
  pub largest_none : largest_below f 0 ≡ 0
  unfolding largest_below
  largest_none = refl

  pub largest_more : (i : ℕ) → largest_below f (i + 1) ≡ max (largest_below f i) (f i)
  unfolding largest_below
  largest_more i = rw add-one

  -- each is at most the largest
  pub largest_each : (n i : ℕ) → i < n → f i ≤ largest_below f n
  unfolding largest_below
  largest_each zero i l = absurd (omega arith)
  largest_each (suc n) i l =
      ⊎_elim (λ q. rw q (omega arith)) (λ q. omega (arith, largest_each n i q)) (eq-or-lt_of_le (let h : i ≤ n = omega arith in h))

  -- what bounds each bounds the largest
  pub largest_under : (n k : ℕ) → ((i : ℕ) → i < n → f i ≤ k) → largest_below f n ≤ k
  unfolding largest_below
  largest_under zero k h = zero-le
  largest_under (suc n) k h = omega (arith, largest_under n k (λ i l. h i (omega arith)), h n (omega arith))
