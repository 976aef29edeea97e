-- The laws of `first_below` by what it finds: what it says of itself, of the numbers before it and of a number at which g holds.
-- Assumes nothing.
use Prim.Native.Nat.{ℕ, ◌≤◌, ◌<◌}
use native.Mathlib.Omega.{arith}
use mathlib.Core.Bool.{Bool, true, false, not}
use mathlib.Core.Path.{◌≡◌, ap, ◌∙◌}
use mathlib.Core.Logic.{⊎_elim}
use Rattle.below.specs.Below.{first_below}
use Rattle.below.proofs.Tests.{clash, not_is, is_not, side}
use Rattle.below.proofs.Run.{run_is, run_only}

module _ (g : ℕ → Bool) (n : ℕ) where
  pub first_low : first_below g n ≤ n
  unfolding first_below
  first_low = (run_is (λ k. not (g k)) n).low

  pub first_here : first_below g n < n → g (first_below g n) ≡ true
  unfolding first_below
  first_here l = is_not (g (first_below g n)) ((run_is (λ k. not (g k)) n).stop l)

  pub first_before : (k : ℕ) → k < first_below g n → g k ≡ false
  unfolding first_below
  first_before k l = not_is (g k) ((run_is (λ k. not (g k)) n).each k l)

  -- where g holds, the first is no later
  pub first_find : (k : ℕ) → g k ≡ true → first_below g n ≤ k
  first_find k e = ⊎_elim (λ l. clash e (first_before k l)) (λ l. l) (side k (first_below g n))

  -- the one number before which g holds at none, and at which it holds
  pub first_is : (k : ℕ) → k ≤ n → ((j : ℕ) → j < k → g j ≡ false) → (k < n → g k ≡ true) → first_below g n ≡ k
  unfolding first_below
  first_is k l before here =
      run_only (λ k. not (g k)) n k (record { low = l; each = λ j m. ap not (before j m); stop = λ m. ap not (here m) })

-- two tests that agree below n
pub first_same : (f g : ℕ → Bool) (n : ℕ) → ((i : ℕ) → i < n → f i ≡ g i) → first_below f n ≡ first_below g n
first_same f g n h =
    first_is f n (first_below g n) (first_low g n)
    (λ j l. h j (omega (arith, first_low g n)) ∙ first_before g n j l)
    (λ l. h (first_below g n) l ∙ first_here g n l)
