-- A test t in two halves, of any widths: f's a numbers first, then g's b. Its run is the low half's, or goes on into the high half;
-- none from r on is none in either half.
-- Assumes nothing.
use Prim.Native.Nat.{ℕ, ◌+◌, ◌-◌, ◌≤◌, ◌<◌}
use native.Mathlib.Omega.{arith}
use mathlib.Core.Bool.{Bool, ◌&&◌}
use mathlib.Core.Path.{◌≡◌, sym, ◌∙◌}
use mathlib.Core.Logic.{⊎_elim}
use Rattle.below.specs.Below.{run_below}
use Rattle.below.proofs.Tests.{side, both, and_both, and_left, and_right}
use Rattle.below.proofs.Run.{run_is, run_only}
use Rattle.marks.specs.Beyond.{none_from}
use Rattle.marks.proofs.Beyond.{none_of, none_each}

module _ (a b : ℕ) (f g t : ℕ → Bool) (low : (k : ℕ) → k < a → t k ≡ f k) (high : (k : ℕ) → k < b → t (a + k) ≡ g k) where
  -- a number past the low half, as the high half counts it
  high_at : (k : ℕ) → a ≤ k → k < a + b → t k ≡ g (k - a)
  high_at k l m = let e : a + (k - a) ≡ k = omega arith in rw e at (high (k - a) (omega arith))

  pub run_low_half : run_below f a < a → run_below t (a + b) ≡ run_below f a
  run_low_half l =
      let r = run_is f a in
      run_only t (a + b) (run_below f a) (record {
        low = omega arith;
        each = λ k m. low k (omega arith) ∙ r.each k m;
        stop = λ m. low (run_below f a) l ∙ r.stop l;
      })

  pub run_both_halves : run_below f a ≡ a → run_below t (a + b) ≡ a + run_below g b
  run_both_halves e =
      let r = run_is f a in
      let s = run_is g b in
      run_only t (a + b) (a + run_below g b) (record {
        low = omega (arith, s.low);
        each = λ k m. ⊎_elim
            (λ q. low k q ∙ r.each k (omega arith))
            (λ q. high_at k q (omega (arith, s.low)) ∙ s.each (k - a) (omega arith))
            (side k a);
        stop = λ m. high (run_below g b) (omega arith) ∙ s.stop (omega arith);
      })

  pub none_halves : (r : ℕ) → none_from t r (a + b) ≡ (none_from f r a && none_from g (r - a) b)
  none_halves r =
      both (none_from t r (a + b)) (none_from f r a && none_from g (r - a) b)
      (λ e. and_both
      (none_of f r a (λ k m l. sym (low k l) ∙ none_each t r (a + b) e k m (omega arith)))
      (none_of g (r - a) b (λ k m l. sym (high k l) ∙ none_each t r (a + b) e (a + k) (omega arith) (omega arith))))
      (λ e. none_of t r (a + b) (λ k m l. ⊎_elim
      (λ q. low k q ∙ none_each f r a (and_left (none_from f r a) (none_from g (r - a) b) e) k m q)
      (λ q. high_at k q l ∙ none_each g (r - a) b (and_right (none_from f r a) (none_from g (r - a) b) e) (k - a) (omega arith) (omega arith))
      (side k a)))
