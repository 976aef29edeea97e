-- What marks need of a number's bits besides the laws of `below`, for any width w: the run of the lowest, by the zeros that the complement ends in;
-- when none is set from r on; what setting one does to each; the shift by which code makes a bit.
-- Assumes nothing. What two numbers are as the halves of one test is in Halves.
use Prim.Native.Nat.{ℕ, zero, suc, ◌+◌, ◌-◌, ◌*◌, ◌/◌, ◌%◌, ◌^◌, ◌≤◌, ◌<◌}
use native.Mathlib.Nat.{one-mul, pow-suc}
use native.Mathlib.Omega.{arith}
use mathlib.Core.Bool.{Bool, true, false, cond, ◌||◌}
use mathlib.Core.Path.{◌≡◌, refl, sym, ◌∙◌}
use lib.Dec.{eqb}
use lib.Pow.{pow_pos, shl_exact, shr_lt, shr-shr}
use lib.Count.{count_trailing_zeros, under}
use borrow.Author.Tests.{eq-eqb, eqb-true}
use Rattle.below.specs.Below.{run_below, run_from}
use Rattle.below.specs.Bits.{bit}
use Rattle.below.proofs.Tests.{both}
use Rattle.below.proofs.Bits.{bit_first, bit_next, bit_none, bits_same, bit_pow, bit_or_lem}
use Rattle.marks.specs.Bits.{with_bit}
use Rattle.marks.specs.Beyond.{none_from}
use Rattle.marks.proofs.Beyond.{none_of, none_each}

-- ---- the run of the lowest bits

-- one bit off the low end
from_next : (x k i : ℕ) → run_from (bit x) k (suc i) ≡ suc (run_from (bit (x / 2)) k i)
unfolding run_from
from_next x zero i = refl
from_next x (suc k) i = rw bit_next (go (bit (x / 2) i) (from_next x k (suc i)))
  where
    go : (b : Bool) → run_from (bit x) k (suc (suc i)) ≡ suc (run_from (bit (x / 2)) k (suc i))
        → cond b (run_from (bit x) k (suc (suc i))) (suc i) ≡ suc (cond b (run_from (bit (x / 2)) k (suc i)) i)
    go true e = e
    go false e = refl

pub run_zeros : (w x : ℕ) → x < 2 ^ w → count_trailing_zeros w (2 ^ w - 1 - x) ≡ run_below (bit x) w
unfolding count_trailing_zeros run_from run_below
run_zeros zero x h = refl
run_zeros (suc w) x h =
    let l : x < 2 ^ w * 2 = rw pow-suc at h in
    let a : (2 ^ w * 2 - 1 - x) / 2 ≡ 2 ^ w - 1 - x / 2 = omega arith in
    let b : (2 ^ w * 2 - 1 - x) % 2 ≡ 1 - x % 2 = omega arith in
    rw (pow-suc, a, b, bit_first, from_next x w 0, run_zeros w (x / 2) (omega arith)) (go (x % 2) (omega arith))
  where
    go : (r : ℕ) → r < 2 → under (1 - r) (run_from (bit (x / 2)) w 0) ≡ cond (eqb r 1) (suc (run_from (bit (x / 2)) w 0)) 0
    go zero m = refl
    go (suc zero) m = refl
    go (suc (suc r)) m = absurd (omega arith)

-- ---- none set from r on

bit_shifted : (x r k : ℕ) → bit (x / 2 ^ r) k ≡ bit x (r + k)
unfolding bit
bit_shifted x r k = rw shr-shr

pub none_bits : (w r x : ℕ) → r ≤ w → x < 2 ^ w → none_from (bit x) r w ≡ eqb (x / 2 ^ r) 0
none_bits w r x l h =
    both (none_from (bit x) r w) (eqb (x / 2 ^ r) 0)
    (λ e. eq-eqb (x / 2 ^ r) 0
    (bits_same (w - r) (x / 2 ^ r) 0 (shr_lt (w - r) r (rw whole h)) (pow_pos (w - r))
    (λ k m. bit_shifted x r k ∙ none_each (bit x) r w e (r + k) (omega arith) (omega arith) ∙ sym (bit_none k))))
    (λ e. none_of (bit x) r w (λ k m n. let s : r + (k - r) ≡ k = omega arith in
    rw s at (sym (bit_shifted x r (k - r))) ∙ rw (eqb-true (x / 2 ^ r) 0 e) (bit_none (k - r))))
  where
    whole : w - r + r ≡ w
    whole = omega arith

-- ---- a bit set besides

pub bit_with : (x k j : ℕ) → bit (with_bit x k) j ≡ (eqb j k || bit x j)
unfolding with_bit
bit_with x k j = bit_or_lem (2 ^ k) x j ∙ rw bit_pow

-- `1 << k` in w bits
pub shift_one : (w k : ℕ) → k < w → 1 * 2 ^ k % 2 ^ w ≡ 2 ^ k
shift_one w k l = shl_exact 1 k w (omega arith) (omega arith) ∙ one-mul (2 ^ k)
