-- The laws of `place`: a word's place is one of the area's 4096, and no other word's. Slots 0 to 3, senders 0 to 7, words 1 to 128.
-- That a place is no other word's asks no bound of the slot. Assumes nothing.
use Prim.Native.Nat.{ℕ, ◌≤◌, ◌<◌}
use native.Mathlib.Omega.{arith}
use mathlib.Core.Path.{◌≡◌}
use Rattle.slots.specs.Slots.{place}

pub place_low : (s r i : ℕ) → s < 4 → r < 8 → 1 ≤ i → i ≤ 128 → place s r i < 4096
unfolding place
place_low s r i a b c d = omega arith

pub place_only : (s r i s' r' i' : ℕ) → r < 8 → 1 ≤ i → i ≤ 128 → r' < 8 → 1 ≤ i' → i' ≤ 128 → place s r i ≡ place s' r' i'
    → (s ≡ s') × ((r ≡ r') × (i ≡ i'))
unfolding place
place_only s r i s' r' i' a b c a' b' c' e = omega arith
