-- "A set is a byte, bit n for member n." Members are numbered 0 to 7.
-- Assumes nothing; the byte's range is the code's type.
use Rattle.std.specs.Prelude.{ℕ, ◌+◌, ◌^◌, Bool, true, cond, not, ◌&&◌, ◌||◌, eqb, ltb}
use Rattle.below.specs.Below.{all_below, count_below, fold_below}
use Rattle.below.specs.Bits.{bit}

-- n is a member of s: above 7 there is none
unfoldable pub has : ℕ → ℕ → Bool
has s n = bit s n

-- each member of a is a member of b
unfoldable pub within : ℕ → ℕ → Bool
within a b = all_below (λ n. cond (has a n) (has b n) true) 8

-- how many members s has
unfoldable pub size : ℕ → ℕ
size s = count_below (has s) 8

-- the set {n}: empty above 7
unfoldable pub only : ℕ → ℕ
only n = cond (ltb n 8) (2 ^ n) 0

-- the set of the members that f names
unfoldable pub set_of : (ℕ → Bool) → ℕ
set_of f = fold_below (λ s n. s + cond (f n) (2 ^ n) 0) 0 8

-- a joined with b
unfoldable pub joined : ℕ → ℕ → ℕ
joined a b = set_of (λ n. has a n || has b n)

-- a less member n
unfoldable pub less : ℕ → ℕ → ℕ
less a n = set_of (λ k. has a k && not (eqb k n))

-- a, joined with {n} where f holds
unfoldable pub with_if : ℕ → ℕ → Bool → ℕ
with_if a n f = cond f (joined a (only n)) a
