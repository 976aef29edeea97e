-- A number as a row of bits, for any width: what a set of members and a row of marks are made of.
-- Assumes nothing.
use Rattle.std.specs.Prelude.{ℕ, ◌/◌, ◌%◌, ◌^◌, Bool, eqb}

-- bit k of x is set
unfoldable pub bit : ℕ → ℕ → Bool
bit x k = eqb (x / 2 ^ k % 2) 1
