-- The laws of `none_from`: what makes it hold, what it says of each number, and that nothing stands past the end.
-- Assumes nothing.
use Prim.Native.Nat.{ℕ, ◌≤◌, ◌<◌}
use native.Mathlib.Omega.{arith}
use mathlib.Core.Bool.{Bool, true, false, not, ◌||◌}
use mathlib.Core.Path.{◌≡◌}
use mathlib.Core.Logic.{⊎_elim}
use lib.Dec.{ltb}
use borrow.Author.Tests.{lt-ltb, le-ltb}
use Rattle.below.proofs.Tests.{side, not_is}
use Rattle.below.proofs.All.{all_of, all_each}
use Rattle.marks.specs.Beyond.{none_from}

module _ (f : ℕ → Bool) (r n : ℕ) where
  pub none_of : ((k : ℕ) → r ≤ k → k < n → f k ≡ false) → none_from f r n ≡ true
  unfolding none_from
  none_of h = all_of (λ k. ltb k r || not (f k)) n (λ k l. ⊎_elim (λ m. rw (lt-ltb k r m)) (λ m. rw (le-ltb k r m, h k m l)) (side k r))

  pub none_each : none_from f r n ≡ true → (k : ℕ) → r ≤ k → k < n → f k ≡ false
  unfolding none_from
  none_each e k m l = not_is (f k) (rw (le-ltb k r m) at (all_each (λ k. ltb k r || not (f k)) n k l e))

  pub none_past : n ≤ r → none_from f r n ≡ true
  none_past l = none_of (λ k a b. absurd (omega arith))
