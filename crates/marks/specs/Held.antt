-- The marks of one sender's words in one slot. Words are numbered from 1, and a slot has 128 of each sender.
-- Assumes nothing; that low and high are below 2 ^ 64 is the code's type.
use Rattle.std.specs.Prelude.{ℕ, ◌+◌, ◌-◌, Bool, cond, ◌&&◌, leb}
use Rattle.below.specs.Below.{run_below}
use Rattle.below.specs.Bits.{bit}
use Rattle.marks.specs.Beyond.{none_from}
use Rattle.marks.specs.Bits.{with_bit}
use Rattle.marks.specs.declared.Held.{Held}

-- words are numbered 1 to 128
unfoldable pub is_word : ℕ → Bool
is_word i = leb 1 i && leb i 128

-- word i is held: it is marked, at bit i - 1 of low up to word 64, at bit i - 65 of high after it
unfoldable pub held_at : Held → ℕ → Bool
held_at h i = is_word i && cond (leb i 64) (bit h.low (i - 1)) (bit h.high (i - 65))

-- h with word i held besides; h itself where there is no word i
unfoldable pub marked : Held → ℕ → Held
marked h i =
    cond (is_word i)
    (cond (leb i 64)
    (record { low = with_bit h.low (i - 1); high = h.high })
    (record { low = h.low; high = with_bit h.high (i - 65) }))
    h

-- "The run .. is the longest k with words 1 to k all held."
unfoldable pub run_of : Held → ℕ
run_of h = run_below (λ k. held_at h (k + 1)) 128

-- "held words have no gap from word 1": no word beyond the run is held
unfoldable pub no_gap : Held → Bool
no_gap h = none_from (λ k. held_at h (k + 1)) (run_of h) 128

-- no word is held
abbrev pub none_held : Held
none_held = record { low = 0; high = 0 }
