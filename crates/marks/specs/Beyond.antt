-- Nothing from a number on, for any test and any numbers.
-- Assumes nothing. The laws are in proofs/.
use Rattle.std.specs.Prelude.{ℕ, Bool, not, ◌||◌, ltb}
use Rattle.below.specs.Below.{all_below}

-- of the numbers below n, f holds at none from r on
unfoldable pub none_from : (ℕ → Bool) → ℕ → ℕ → Bool
none_from f r n = all_below (λ k. ltb k r || not (f k)) n
