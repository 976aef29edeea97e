-- A number with one more bit set. What a bit is, and its laws, are in the crate `below`.
-- Assumes nothing.
use Rattle.std.specs.Prelude.{ℕ, ◌^◌}
use Rattle.std.specs.Int.Bits.{bit_or}

-- x with bit k set besides
unfoldable pub with_bit : ℕ → ℕ → ℕ
with_bit x k = bit_or (2 ^ k) x
