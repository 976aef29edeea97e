-- Bytes in one number: a row of counts as code tests it. Private functions alone cite it.
-- Assumes nothing.
use Rattle.std.specs.Prelude.{ℕ, zero, suc, ◌+◌, ◌*◌}

-- the first n of f's values as the bytes of a number, the lowest first
unfoldable pub word : (ℕ → ℕ) → ℕ → ℕ
word f zero = 0
word f (suc n) = word (λ k. f (suc k)) n * 256 + f 0
