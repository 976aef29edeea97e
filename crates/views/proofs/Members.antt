-- The laws of sets: no member above 7; `within` as the two bytes joined; `size` as the byte's count of ones;
-- the members of a set that is made; `only`, `joined`, `less` as operations on bits; the needs of a loop that makes a set. Assumes nothing.
use Prim.Native.Nat.{ℕ, zero, suc, ◌+◌, ◌-◌, ◌*◌, ◌/◌, ◌%◌, ◌^◌, ◌≤◌, ◌<◌, min}
use native.Mathlib.Nat.{eq-or-lt_of_le, le_antisymm, lt_of_lt_of_le, pow-suc}
use native.Mathlib.Omega.{arith}
use mathlib.Core.Bool.{Bool, true, false, not, ◌&&◌, ◌||◌, cond, or-false}
use mathlib.Core.Logic.{⊎_elim}
use mathlib.Core.Path.{◌≡◌, refl, sym, ap, ◌∙◌}
use lib.Dec.{eqb}
use lib.Bits.{bit_and, bit_or, and_lt, and_shr, and_step, or_lt, or_shifted_r}
use lib.Count.{ones}
use lib.Pow.{pow-lt, pow_mono, shl_exact}
use borrow.Author.Tests.{eq-eqb, ne_eqb, eqb-true, lt-ltb, le-ltb}
use Rattle.below.specs.Below.{fold_below}
use Rattle.below.specs.Bits.{bit}
use Rattle.below.proofs.Bits.{bit_above, bit_none, bit_next, bit_first, bit_pow, bit_or_lem, bits_same, count_ones}
use Rattle.below.proofs.Lists.{fold_none, fold_more}
use Rattle.below.proofs.Tests.{both, side}
use Rattle.below.proofs.All.{all_each, all_of}
use Rattle.views.specs.Sets.{has, within, size, only, set_of, joined, less, with_if}

pub has_above : (s n : ℕ) → s < 256 → 8 ≤ n → has s n ≡ false
unfolding has
has_above s n h l = bit_above s 8 n h l

-- what a member of a within b means, and back
pub within_has : (a b n : ℕ) → within a b ≡ true → n < 8 → has a n ≡ true → has b n ≡ true
unfolding within
within_has a b n e l p = rw p at (all_each (λ k. cond (has a k) (has b k) true) 8 n l e)

pub within_of : (a b : ℕ) → ((n : ℕ) → n < 8 → has a n ≡ true → has b n ≡ true) → within a b ≡ true
unfolding within
within_of a b h = all_of (λ k. cond (has a k) (has b k) true) 8 (λ n l. go (has a n) (h n l))
  where
    go : (p : Bool) {q : Bool} → (p ≡ true → q ≡ true) → cond p q true ≡ true
    go true f = f refl
    go false f = refl

pub within_or : (a b : ℕ) → a < 256 → b < 256 → eqb (bit_or a b) b ≡ within a b
unfolding has
within_or a b p q =
    both (eqb (bit_or a b) b) (within a b)
    (λ e. within_of a b (λ n l t. joined (eqb-true (bit_or a b) b e) n t))
    (λ e. eq-eqb (bit_or a b) b (bits_same 8 (bit_or a b) b (or_lt 8 a b p q) q (λ n l. bit_or_lem a b n ∙ member (has a n) (has b n) (within_has a b n e l))))
  where
    joined : bit_or a b ≡ b → (n : ℕ) → has a n ≡ true → has b n ≡ true
    joined e n t = sym (ap (λ x. bit x n) e) ∙ bit_or_lem a b n ∙ rw t refl

    member : (x y : Bool) → (x ≡ true → y ≡ true) → (x || y) ≡ y
    member true y f = sym (f refl)
    member false y f = refl

pub size_ones : (s : ℕ) → s < 256 → ones s ≡ size s
unfolding size has
size_ones s h = count_ones 8 s h

-- ---- the bits that two numbers share, and those that a number has not

bit_and_lem : (x y j : ℕ) → bit (bit_and x y) j ≡ (bit x j && bit y j)
unfolding bit
bit_and_lem x y j =
    let p = x / 2 ^ j in
    let q = y / 2 ^ j in
    let e : bit_and p q % 2 ≡ min (p % 2) (q % 2) = rw (and_step p q) (omega arith) in
    rw (and_shr x y j, e) (go (p % 2) (q % 2) (omega arith) (omega arith))
  where
    go : (p q : ℕ) → p < 2 → q < 2 → eqb (min p q) 1 ≡ (eqb p 1 && eqb q 1)
    go zero zero a b = refl
    go zero (suc zero) a b = refl
    go (suc zero) zero a b = refl
    go (suc zero) (suc zero) a b = refl
    go (suc (suc p)) q a b = absurd (omega arith)
    go zero (suc (suc q)) a b = absurd (omega arith)
    go (suc zero) (suc (suc q)) a b = absurd (omega arith)

bit_not : (w x k : ℕ) → x < 2 ^ w → k < w → bit (2 ^ w - 1 - x) k ≡ not (bit x k)
bit_not zero x k h l = absurd (omega arith)
bit_not (suc w) x zero h l =
    let p : x < 2 ^ w * 2 = rw pow-suc at h in
    let e : (2 ^ suc w - 1 - x) % 2 ≡ 1 - x % 2 = rw pow-suc (omega arith) in
    rw (bit_first (2 ^ suc w - 1 - x), bit_first x, e) (go (x % 2) (omega arith))
  where
    go : (r : ℕ) → r < 2 → eqb (1 - r) 1 ≡ not (eqb r 1)
    go zero a = refl
    go (suc zero) a = refl
    go (suc (suc r)) a = absurd (omega arith)
bit_not (suc w) x (suc k) h l =
    let p : x < 2 ^ w * 2 = rw pow-suc at h in
    let e : (2 ^ suc w - 1 - x) / 2 ≡ 2 ^ w - 1 - x / 2 = rw pow-suc (omega arith) in
    bit_next (2 ^ suc w - 1 - x) k ∙ ap (λ y. bit y k) e ∙ bit_not w (x / 2) k (omega arith) (omega arith) ∙ ap not (sym (bit_next x k))

-- ---- a set made

-- the set of the members below n that f names: all of `set_of f` at 8
unfoldable pub set_below : (ℕ → Bool) → ℕ → ℕ
set_below f n = fold_below (λ s k. s + cond (f k) (2 ^ k) 0) 0 n

-- a number of n bits and bit n
bit_up : (s n : ℕ) → s < 2 ^ n → s + 2 ^ n ≡ bit_or s (2 ^ n)
bit_up s n l = let e = or_shifted_r 1 n s l in let o : 1 * 2 ^ n ≡ 2 ^ n = omega arith in sym (ap (bit_or s) (sym o) ∙ e ∙ omega arith)

made_low : (f : ℕ → Bool) (n : ℕ) → set_below f n < 2 ^ n
unfolding set_below fold_below
made_low f zero = omega arith
made_low f (suc n) = rw pow-suc (go (f n) (set_below f n) (made_low f n))
  where
    go : (b : Bool) (s : ℕ) → s < 2 ^ n → s + cond b (2 ^ n) 0 < 2 ^ n * 2
    go true s l = omega arith
    go false s l = omega arith

made_has : (f : ℕ → Bool) (n k : ℕ) → k < n → bit (set_below f n) k ≡ f k
unfolding set_below fold_below
made_has f zero k l = absurd (omega arith)
made_has f (suc n) k l = ⊎_elim (λ q. rw q (top (f n) (set_below f n) (made_low f n))) (λ q. low (f n) (set_below f n) (made_low f n) q ∙ made_has f n k q) (eq-or-lt_of_le (let g : k ≤ n = omega arith in g))
  where
    top : (b : Bool) (s : ℕ) → s < 2 ^ n → bit (s + cond b (2 ^ n) 0) n ≡ b
    top true s l = rw (bit_up s n l, bit_or_lem, bit_above s n n l (omega arith), bit_pow) (eq-eqb n n refl)
    top false s l = bit_above (s + 0) n n (omega arith) (omega arith)

    low : (b : Bool) (s : ℕ) → s < 2 ^ n → k < n → bit (s + cond b (2 ^ n) 0) k ≡ bit s k
    low true s l q = rw (bit_up s n l, bit_or_lem, bit_pow, ne_eqb k n (λ e. omega arith)) (or-false (bit s k))
    low false s l q = let e : s + 0 ≡ s = omega arith in ap (λ x. bit x k) e

pub set_low : (f : ℕ → Bool) → set_of f < 256
unfolding set_of set_below
set_low f = made_low f 8

pub set_has : (f : ℕ → Bool) (n : ℕ) → n < 8 → has (set_of f) n ≡ f n
unfolding set_of set_below has
set_has f n l = made_has f 8 n l

-- a byte with the bits that f names is the set of them
pub set_is : (f : ℕ → Bool) (s : ℕ) → s < 256 → ((n : ℕ) → n < 8 → has s n ≡ f n) → s ≡ set_of f
unfolding has
set_is f s l h = bits_same 8 s (set_of f) l (set_low f) (λ n q. h n q ∙ sym (set_has f n q))

-- ---- the set of one, two sets joined, a set less one

pub only_none : (n : ℕ) → 8 ≤ n → 0 ≡ only n
unfolding only
only_none n l = rw (le-ltb n 8 l)

pub only_pow : (n : ℕ) → n < 8 → only n ≡ 2 ^ n
unfolding only
only_pow n l = rw (lt-ltb n 8 l)

pub only_shift : (n : ℕ) → n < 8 → 1 * 2 ^ n % 2 ^ 8 ≡ only n
only_shift n l = shl_exact 1 n 8 (omega arith) (omega arith) ∙ (let e : 1 * 2 ^ n ≡ 2 ^ n = omega arith in e) ∙ sym (only_pow n l)

pub only_low : (n : ℕ) → only n < 256
only_low n = ⊎_elim (λ q. rw (only_pow n q) (pow-lt q)) (λ q. rw (← only_none n q) (omega arith)) (side n 8)

pub only_has : (n k : ℕ) → k < 8 → has (only n) k ≡ eqb k n
unfolding has
only_has n k l =
    ⊎_elim
    (λ q. rw (only_pow n q) (bit_pow n k))
    (λ q. rw (← only_none n q) (bit_none k ∙ sym (ne_eqb k n (λ e. omega arith))))
    (side n 8)

pub joined_has : (a b k : ℕ) → k < 8 → has (joined a b) k ≡ (has a k || has b k)
unfolding joined
joined_has a b k l = set_has (λ n. has a n || has b n) k l

pub less_has : (a n k : ℕ) → k < 8 → has (less a n) k ≡ (has a k && not (eqb k n))
unfolding less
less_has a n k l = set_has (λ j. has a j && not (eqb j n)) k l

pub joined_or : (a b : ℕ) → a < 256 → b < 256 → bit_or a b ≡ joined a b
unfolding joined has
joined_or a b p q = set_is (λ n. has a n || has b n) (bit_or a b) (or_lt 8 a b p q) (λ n l. bit_or_lem a b n)

pub less_and : (a n : ℕ) → a < 256 → bit_and a (255 - only n) ≡ less a n
unfolding less has
less_and a n p =
    set_is (λ k. has a k && not (eqb k n)) (bit_and a (255 - only n))
    (and_lt 8 a (255 - only n) p (omega arith))
    (λ k l. bit_and_lem a (255 - only n) k ∙ ap (λ b. bit a k && b) (bit_not 8 (only n) k (only_low n) l ∙ ap not (only_has n k l)))

-- ---- `let mut t = 0; while n < 8 { let b = g(..); t = sets::with_if(t, n, b); n += 1; } t`: t is the set after n turns, r after one more

module _ (f : ℕ → Bool) where
  pub set_loop_none : 0 ≡ set_below f 0
  unfolding set_below
  set_loop_none = fold_none (λ s k. s + cond (f k) (2 ^ k) 0) 0

  pub set_loop_with : (n t : ℕ) (b : Bool) → n < 8 → t ≡ set_below f n → b ≡ f n → with_if t n b ≡ set_below f (n + 1)
  unfolding with_if set_below
  set_loop_with n t b l e q = go b ∙ sym (fold_more (λ s k. s + cond (f k) (2 ^ k) 0) 0 n ∙ rw (← e, ← q))
    where
      h : t < 2 ^ n
      h = rw e (made_low f n)

      go : (b : Bool) → cond b (joined t (only n)) t ≡ t + cond b (2 ^ n) 0
      go true = sym (joined_or t (only n) (lt_of_lt_of_le h (pow_mono {j = 8} (omega arith))) (only_low n)) ∙ rw (only_pow n l) (sym (bit_up t n h))
      go false = omega arith

  pub set_loop_more : (n t r : ℕ) (b : Bool) → r ≡ with_if t n b → t ≡ set_below f n → b ≡ f n → n < 8 → r ≡ set_below f (n + 1)
  set_loop_more n t r b p e q l = p ∙ set_loop_with n t b l e q

  pub set_loop_end : (n t : ℕ) → n ≤ 8 → 8 ≤ n → t ≡ set_below f n → t ≡ set_of f
  unfolding set_of set_below
  set_loop_end n t a b e = rw (le_antisymm a b) at e

pub ruleset sets-made = (set_loop_none, set_loop_with, set_loop_more, set_loop_end)
