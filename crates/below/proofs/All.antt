-- The laws of `all_below` and `none_below`: at none, at one more, where one fails, what each says; and the needs of the loops that test all.
-- `alls` serves a loop with no way out but its end, `while i < n { ok = ok & g(..); i += 1; } ok`; `loops` one that returns false at the first that fails.
-- Assumes nothing.
use Prim.Native.Nat.{ℕ, zero, suc, ◌+◌, ◌≤◌, ◌<◌}
use native.Mathlib.Nat.{eq-or-lt_of_le, le_of_suc-le-suc, not-suc-le-zero, le_antisymm}
use native.Mathlib.Numerals.{add-one}
use native.Mathlib.Omega.{arith}
use mathlib.Core.Bool.{Bool, true, false, ◌&&◌, not, and-false}
use mathlib.Core.Path.{◌≡◌, refl, sym, ◌∙◌}
use mathlib.Core.Logic.{⊎_elim}
use Rattle.below.specs.Below.{all_below}
use Rattle.below.proofs.Tests.{clash, not_is, is_not}

module _ (f : ℕ → Bool) where
  pub all_none : all_below f 0 ≡ true
  unfolding all_below
  all_none = refl

  pub all_more : (i : ℕ) → all_below f i ≡ true → f i ≡ true → all_below f (i + 1) ≡ true
  unfolding all_below
  all_more i a b = rw (add-one, a, b)

  all_less : (n : ℕ) → all_below f n ≡ false → all_below f (suc n) ≡ false
  unfolding all_below
  all_less n e = rw e

  pub all_stop : (n i : ℕ) → i < n → f i ≡ false → all_below f n ≡ false
  unfolding all_below
  all_stop zero i l e = absurd (not-suc-le-zero l)
  all_stop (suc n) i l e = ⊎_elim (λ q. rw (← q, e, and-false)) (λ q. all_less n (all_stop n i q e)) (eq-or-lt_of_le (le_of_suc-le-suc l))

  -- what all say, each says
  pub all_each : (n i : ℕ) → i < n → all_below f n ≡ true → f i ≡ true
  all_each n i l e = go (f i) refl
    where
      go : (b : Bool) → f i ≡ b → f i ≡ true
      go true q = q
      go false q = clash e (all_stop n i l q)

  -- what each says, all say
  pub all_of : (n : ℕ) → ((k : ℕ) → k < n → f k ≡ true) → all_below f n ≡ true
  unfolding all_below
  all_of zero h = refl
  all_of (suc n) h = rw (all_of n (λ k l. h k (omega arith)), h n (omega arith))

  -- a loop that ran to its end
  pub all_done : (n i : ℕ) → i ≤ n → n ≤ i → all_below f i ≡ true → all_below f n ≡ true
  all_done n i a b e = rw (le_antisymm a b) at e

-- two tests that agree below n
pub all_same : (f g : ℕ → Bool) (n : ℕ) → ((i : ℕ) → i < n → f i ≡ g i) → all_below f n ≡ all_below g n
unfolding all_below
all_same f g zero h = refl
all_same f g (suc n) h =
    let p : all_below f n ≡ all_below g n = all_same f g n (λ i l. h i (omega arith)) in
    let q : f n ≡ g n = h n (omega arith) in
    rw (p, q)

-- ---- `while i < n { ok = ok & g(..); i += 1; } ok`

module _ (f : ℕ → Bool) where
  pub acc_none : true ≡ all_below f 0
  acc_none = sym (all_none f)

  pub acc_more : (i : ℕ) (ok r : Bool) → ok ≡ all_below f i → r ≡ f i → (ok && r) ≡ all_below f (i + 1)
  unfolding all_below
  acc_more i ok r a b = rw (add-one, a, b)

  pub acc_end : (n i : ℕ) (ok : Bool) → i ≤ n → n ≤ i → ok ≡ all_below f i → ok ≡ all_below f n
  acc_end n i ok a b e = rw (le_antisymm a b) at e

pub ruleset alls = (acc_none, acc_more, acc_end)

-- ---- `while i < n { if !g(..) { return false; } i += 1; } true`: r is what g gave

module _ (f : ℕ → Bool) (n : ℕ) where
  pub loop_stop : (i : ℕ) (r : Bool) → not r ≡ true → r ≡ f i → i < n → false ≡ all_below f n
  loop_stop i r t e l = sym (all_stop f n i l (sym e ∙ not_is r t))

  pub loop_more : (i : ℕ) (r : Bool) → not r ≡ false → r ≡ f i → all_below f i ≡ true → all_below f (i + 1) ≡ true
  loop_more i r t e a = all_more f i a (sym e ∙ is_not r t)

  pub loop_end : (i : ℕ) → i ≤ n → n ≤ i → all_below f i ≡ true → true ≡ all_below f n
  loop_end i a b e = sym (all_done f n i a b e)

pub ruleset loops = (all_none, loop_stop, loop_more, loop_end)
