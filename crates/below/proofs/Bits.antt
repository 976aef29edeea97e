-- The laws of a number's bits, over its width w: the lowest and the next, those above the width, two numbers with the same bits;
-- a bit alone, two numbers' bits joined; how many are set. Assumes nothing. The packing of marks is in the crate `marks`.
use Prim.Native.Nat.{ℕ, zero, suc, ◌+◌, ◌*◌, ◌/◌, ◌%◌, ◌^◌, ◌≤◌, ◌<◌, max}
use native.Mathlib.Nat.{mul-mod_left, mul-div_cancel, zero-lt-suc, div-one, div-div-eq-div-mul, pow-suc, pow-succ', div-eq_of_lt, lt_of_lt_of_le}
use native.Mathlib.Omega.{arith}
use mathlib.Core.Bool.{false, ◌||◌, cond}
use mathlib.Core.Path.{◌≡◌, refl, sym, ap, ◌∙◌}
use lib.Dec.{eqb, eqb-suc-suc, eqb-zero-suc, eqb-suc-zero}
use lib.Pow.{pow_mono}
use lib.Bits.{bit_or, or_shr, or_step}
use lib.Count.{ones, ones_in, ones_step}
use Rattle.below.specs.Below.{count_below}
use Rattle.below.specs.Bits.{bit}
use Rattle.below.proofs.Tests.{clash}

pub bit_next : (x k : ℕ) → bit x (suc k) ≡ bit (x / 2) k
unfolding bit
bit_next x k = rw (pow-succ' 2 k, ← div-div-eq-div-mul x 2 (2 ^ k))

pub bit_first : (x : ℕ) → bit x 0 ≡ eqb (x % 2) 1
unfolding bit
bit_first x = rw div-one

pub bit_above : (x r k : ℕ) → x < 2 ^ r → r ≤ k → bit x k ≡ false
unfolding bit
bit_above x r k h l = rw (div-eq_of_lt (lt_of_lt_of_le h (pow_mono l)))

pub bit_none : (k : ℕ) → bit 0 k ≡ false
bit_none k = bit_above 0 0 k (omega arith) (omega arith)

-- the lowest bit says the remainder
first_same : (x y : ℕ) → bit x 0 ≡ bit y 0 → x % 2 ≡ y % 2
first_same x y e = go (x % 2) (y % 2) (omega arith) (omega arith) (sym (bit_first x) ∙ e ∙ bit_first y)
  where
    go : (p q : ℕ) → p < 2 → q < 2 → eqb p 1 ≡ eqb q 1 → p ≡ q
    go zero zero a b t = refl
    go (suc zero) (suc zero) a b t = refl
    go zero (suc zero) a b t = clash {b = false} t refl
    go (suc zero) zero a b t = clash {b = false} (sym t) refl
    go (suc (suc p)) q a b t = absurd (omega arith)
    go zero (suc (suc q)) a b t = absurd (omega arith)
    go (suc zero) (suc (suc q)) a b t = absurd (omega arith)

-- two numbers of w bits with the same bits are the same
pub bits_same : (w x y : ℕ) → x < 2 ^ w → y < 2 ^ w → ((k : ℕ) → k < w → bit x k ≡ bit y k) → x ≡ y
bits_same zero x y a b h = omega arith
bits_same (suc w) x y a b h =
    let p : x < 2 ^ w * 2 = rw pow-suc at a in
    let q : y < 2 ^ w * 2 = rw pow-suc at b in
    omega (
      arith,
      first_same x y (h 0 (omega arith)),
      bits_same w (x / 2) (y / 2) (omega arith) (omega arith)
          (λ k l. sym (bit_next x k) ∙ h (suc k) (omega arith) ∙ bit_next y k),
    )

-- ---- a bit alone, and two numbers' bits joined

pub bit_pow : (k j : ℕ) → bit (2 ^ k) j ≡ eqb j k
bit_pow zero zero = bit_first 1
bit_pow zero (suc j) = bit_next 1 j ∙ bit_none j ∙ sym (eqb-suc-zero j)
bit_pow (suc k) zero = bit_first (2 ^ suc k) ∙ rw (pow-suc, mul-mod_left (2 ^ k) 2) (sym (eqb-zero-suc k))
bit_pow (suc k) (suc j) = bit_next (2 ^ suc k) j ∙ rw (pow-suc, mul-div_cancel (2 ^ k) (zero-lt-suc 1), eqb-suc-suc) (bit_pow k j)

pub bit_or_lem : (x y j : ℕ) → bit (bit_or x y) j ≡ (bit x j || bit y j)
unfolding bit
bit_or_lem x y j =
    let p = x / 2 ^ j in
    let q = y / 2 ^ j in
    let e : bit_or p q % 2 ≡ max (p % 2) (q % 2) = rw (or_step p q) (omega arith) in
    rw (or_shr x y j, e) (go (p % 2) (q % 2) (omega arith) (omega arith))
  where
    go : (p q : ℕ) → p < 2 → q < 2 → eqb (max p q) 1 ≡ (eqb p 1 || eqb q 1)
    go zero zero a b = refl
    go zero (suc zero) a b = refl
    go (suc zero) zero a b = refl
    go (suc zero) (suc zero) a b = refl
    go (suc (suc p)) q a b = absurd (omega arith)
    go zero (suc (suc q)) a b = absurd (omega arith)
    go (suc zero) (suc (suc q)) a b = absurd (omega arith)

-- ---- how many bits are set

-- the lowest bit counted first
count_first : (x w : ℕ) → count_below (bit x) (suc w) ≡ x % 2 + count_below (bit (x / 2)) w
unfolding count_below
count_first x zero = rw bit_first (go (x % 2) (omega arith))
  where
    go : (r : ℕ) → r < 2 → 0 + cond (eqb r 1) 1 0 ≡ r + 0
    go zero l = refl
    go (suc zero) l = refl
    go (suc (suc r)) l = absurd (omega arith)
count_first x (suc w) = rw (count_first x w, bit_next) (omega arith)

ones_none : ones 0 ≡ count_below (bit 0) 0
unfolding ones ones_in count_below
ones_none = refl

pub count_ones : (w x : ℕ) → x < 2 ^ w → ones x ≡ count_below (bit x) w
count_ones zero x h = let e : x ≡ 0 = omega arith in rw e ones_none
count_ones (suc w) x h =
    let p : x < 2 ^ w * 2 = rw pow-suc at h in
    rw (ones_step x, count_first x w) (ap (λ n. x % 2 + n) (count_ones w (x / 2) (omega arith)))
