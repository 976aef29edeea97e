-- The laws of `run_below` and `first_below`: the run is the one number with f at each below it and not at itself; and the needs of the loops that look for it.
-- Assumes nothing.
use Prim.Native.Nat.{ℕ, zero, suc, ◌+◌, ◌≤◌, ◌<◌}
use native.Mathlib.Nat.{eq-or-lt_of_le, le_antisymm}
use native.Mathlib.Omega.{arith}
use mathlib.Core.Bool.{Bool, true, false, not, cond}
use mathlib.Core.Path.{◌≡◌, refl, sym, ap, ◌∙◌}
use mathlib.Core.Logic.{⊎_elim}
use Rattle.below.specs.Below.{all_below, none_below, run_from, run_below, first_below}
use Rattle.below.proofs.Tests.{not_is, is_not}
use Rattle.below.proofs.All.{all_none, all_more, all_each, all_done}

-- m is f's run up to n
pub record Run (f : ℕ → Bool) (n m : ℕ) : Type 0 where
  pub low : m ≤ n
  pub each : (k : ℕ) → k < m → f k ≡ true
  pub stop : m < n → f m ≡ false

from_is : (f : ℕ → Bool) (k i : ℕ) → ((j : ℕ) → j < i → f j ≡ true) → Run f (i + k) (run_from f k i)
unfolding run_from
from_is f zero i h = record { low = omega arith; each = h; stop = λ l. absurd (omega arith) }
from_is f (suc k) i h =
    go (f i) refl (λ e. from_is f k (suc i) (λ j l. ⊎_elim (λ q. rw q e) (λ q. h j q) (eq-or-lt_of_le (omega arith))))
  where
    go : (b : Bool) → f i ≡ b → (f i ≡ true → Run f (suc i + k) (run_from f k (suc i))) → Run f (i + suc k) (cond b (run_from f k (suc i)) i)
    go true e ih = let r = ih e in record { low = omega (arith, r.low); each = r.each; stop = λ l. r.stop (omega arith) }
    go false e ih = record { low = omega arith; each = h; stop = λ l. e }

pub run_is : (f : ℕ → Bool) (n : ℕ) → Run f n (run_below f n)
unfolding run_below
run_is f n =
    let r = from_is f n 0 (λ j l. absurd (omega arith)) in
    record { low = omega (arith, r.low); each = r.each; stop = λ l. r.stop (omega arith) }

-- two runs of one f are one
pub run_only : (f : ℕ → Bool) (n m : ℕ) → Run f n m → run_below f n ≡ m
run_only f n m r = go (run_is f n)
  where
    no_less : (a b : ℕ) → Run f n a → Run f n b → a < b → ⊥
    no_less a b p q l =
        let z : ◌≡◌ {A = Bool} true false = sym (q.each a l) ∙ p.stop (omega (arith, q.low)) in
        let u : ◌≡◌ {A = ℕ} 0 1 = cc in
        omega arith

    go : Run f n (run_below f n) → run_below f n ≡ m
    go p = omega (arith, no_less (run_below f n) m p r, no_less m (run_below f n) r p)

pub run_full : (f : ℕ → Bool) (n : ℕ) → all_below f n ≡ true → run_below f n ≡ n
run_full f n e = run_only f n n (record { low = omega arith; each = λ k l. all_each f n k l e; stop = λ l. absurd (omega arith) })

pub run_stop : (f : ℕ → Bool) (n i : ℕ) → i < n → all_below f i ≡ true → f i ≡ false → run_below f n ≡ i
run_stop f n i l a e = run_only f n i (record { low = omega arith; each = λ k m. all_each f i k m a; stop = λ m. e })

-- ---- a loop that ends at the first i at which f fails, and returns i

module _ (f : ℕ → Bool) (n : ℕ) where
  pub run_loop_stop : (i : ℕ) (r : Bool) → all_below f i ≡ true → not r ≡ true → r ≡ f i → i < n → i ≡ run_below f n
  run_loop_stop i r a t e l = sym (run_stop f n i l a (sym e ∙ not_is r t))

  pub run_loop_more : (i : ℕ) (r : Bool) → all_below f i ≡ true → not r ≡ false → r ≡ f i → all_below f (i + 1) ≡ true
  run_loop_more i r a t e = all_more f i a (sym e ∙ is_not r t)

  pub run_loop_end : (i : ℕ) → all_below f i ≡ true → i ≤ n → n ≤ i → i ≡ run_below f n
  run_loop_end i a b c = le_antisymm b c ∙ sym (run_full f n (all_done f n i b c a))

-- ---- a search: g is what is looked for, r what the code's test of it gave

module _ (g : ℕ → Bool) (n : ℕ) where
  pub find_none : none_below g 0 ≡ true
  unfolding none_below
  find_none = all_none (λ k. not (g k))

  pub find_stop : (i : ℕ) (r : Bool) → none_below g i ≡ true → r ≡ true → r ≡ g i → i < n → i ≡ first_below g n
  unfolding none_below first_below
  find_stop i r a t e l = sym (run_stop (λ k. not (g k)) n i l a (ap not (sym e ∙ t)))

  pub find_more : (i : ℕ) (r : Bool) → none_below g i ≡ true → r ≡ false → r ≡ g i → none_below g (i + 1) ≡ true
  unfolding none_below
  find_more i r a t e = all_more (λ k. not (g k)) i a (ap not (sym e ∙ t))

  pub find_end : (i : ℕ) → none_below g i ≡ true → i ≤ n → n ≤ i → i ≡ first_below g n
  unfolding none_below first_below
  find_end i a b c = run_loop_end (λ k. not (g k)) n i a b c

pub ruleset runs = (all_none, run_loop_stop, run_loop_more, run_loop_end, find_none, find_stop, find_more, find_end)
