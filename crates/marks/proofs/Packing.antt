-- Where a word stands in `low` and `high`: the one file that opens `held_at` and `marked`. First word i by its half; then what a mark does to each word;
-- then the run and the gap by halves, in the shape in which the code has them.
-- Assumes nothing. What callers cite is in Sender.
use Prim.Native.Nat.{ℕ, zero, suc, ◌+◌, ◌-◌, ◌^◌, ◌≤◌, ◌<◌}
use native.Mathlib.Nat.{div-one}
use native.Mathlib.Omega.{arith}
use mathlib.Core.Bool.{Bool, false, ◌&&◌, ◌||◌, and-true, and-false}
use mathlib.Core.Path.{◌≡◌, refl, sym, ◌∙◌}
use mathlib.Core.Logic.{⊎_elim}
use lib.Dec.{eqb}
use borrow.Author.Tests.{eq-eqb, ne_eqb, le-leb, lt-leb, eqb-true}
use Rattle.below.specs.Below.{run_below}
use Rattle.below.specs.Bits.{bit}
use Rattle.below.proofs.Bits.{bit_none}
use Rattle.below.proofs.Tests.{both, side}
use Rattle.marks.specs.declared.Held.{Held}
use Rattle.marks.specs.Bits.{with_bit}
use Rattle.marks.specs.Beyond.{none_from}
use Rattle.marks.specs.Held.{is_word, held_at, marked, run_of, no_gap, none_held}
use Rattle.marks.proofs.Beyond.{none_of, none_past}
use Rattle.marks.proofs.Bits.{bit_with, none_bits}
use Rattle.marks.proofs.Halves.{run_low_half, run_both_halves, none_halves}

-- ---- word i by its half

module _ (h : Held) where
  pub held_zero : held_at h 0 ≡ false
  unfolding held_at is_word
  held_zero = refl

  pub held_under : (i : ℕ) → i < 1 → held_at h i ≡ false
  held_under zero l = held_zero
  held_under (suc i) l = absurd (omega arith)

  pub held_low : (i : ℕ) → 1 ≤ i → i ≤ 64 → held_at h i ≡ bit h.low (i - 1)
  unfolding held_at is_word
  held_low i a b = rw (le-leb 1 i a, le-leb i 128 (omega arith), le-leb i 64 b)

  pub held_high : (i : ℕ) → 64 < i → i ≤ 128 → held_at h i ≡ bit h.high (i - 65)
  unfolding held_at is_word
  held_high i a b = rw (le-leb 1 i (omega arith), le-leb i 128 b, lt-leb i 64 a)

  pub held_out : (i : ℕ) → 128 < i → held_at h i ≡ false
  unfolding held_at is_word
  held_out i l = rw (le-leb 1 i (omega arith), lt-leb i 128 l)

  pub marked_zero : marked h 0 ≡ h
  unfolding marked is_word
  marked_zero = refl

  pub marked_under : (i : ℕ) → i < 1 → marked h i ≡ h
  marked_under zero l = marked_zero
  marked_under (suc i) l = absurd (omega arith)

  pub marked_low : (i : ℕ) → 1 ≤ i → i ≤ 64 → marked h i ≡ record { low = with_bit h.low (i - 1); high = h.high }
  unfolding marked is_word
  marked_low i a b = rw (le-leb 1 i a, le-leb i 128 (omega arith), le-leb i 64 b)

  pub marked_high : (i : ℕ) → 64 < i → i ≤ 128 → marked h i ≡ record { low = h.low; high = with_bit h.high (i - 65) }
  unfolding marked is_word
  marked_high i a b = rw (le-leb 1 i (omega arith), le-leb i 128 b, lt-leb i 64 a)

  pub marked_out : (i : ℕ) → 128 < i → marked h i ≡ h
  unfolding marked is_word
  marked_out i l = rw (le-leb 1 i (omega arith), lt-leb i 128 l)

-- every number is 0, a word of the low half, a word of the high half, or above them
module _ (P : ℕ → Type 0) (none : P 0) (low : (i : ℕ) → 1 ≤ i → i ≤ 64 → P i) (high : (i : ℕ) → 64 < i → i ≤ 128 → P i) (out : (i : ℕ) → 128 < i → P i) where
  by_half : (i : ℕ) → P i
  by_half zero = none
  by_half (suc i) =
      ⊎_elim
      (λ l. low (suc i) (omega arith) (omega arith))
      (λ l. ⊎_elim (λ m. high (suc i) (omega arith) (omega arith)) (λ m. out (suc i) (omega arith)) (side (suc i) 129))
      (side (suc i) 65)

-- ---- what is marked

pub held_none : (i : ℕ) → held_at none_held i ≡ false
held_none =
    by_half (λ i. held_at none_held i ≡ false)
    (held_zero none_held)
    (λ i a b. held_low none_held i a b ∙ bit_none (i - 1))
    (λ i a b. held_high none_held i a b ∙ bit_none (i - 65))
    (held_out none_held)

-- two words are one word where they are one bit
same_bit : (a i j : ℕ) → a ≤ i → a ≤ j → eqb (j - a) (i - a) ≡ eqb j i
same_bit a i j p q =
    both (eqb (j - a) (i - a)) (eqb j i)
    (λ e. eq-eqb j i (omega (arith, eqb-true (j - a) (i - a) e)))
    (λ e. eq-eqb (j - a) (i - a) (omega (arith, eqb-true j i e)))

module _ (h : Held) (i : ℕ) where
  abbrev Law : ℕ → Type 0
  Law j = held_at (marked h i) j ≡ (eqb j i || held_at h j)

  -- a word that is not word i is held as before
  apart : (j : ℕ) → (j ≡ i → ⊥) → held_at (marked h i) j ≡ held_at h j → Law j
  apart j d e = rw (ne_eqb j i d) e

  module _ (a : 1 ≤ i) (b : i ≤ 128) where
    each_word : ((j : ℕ) → 1 ≤ j → j ≤ 64 → Law j) → ((j : ℕ) → 64 < j → j ≤ 128 → Law j) → (j : ℕ) → Law j
    each_word low high =
        by_half Law
        (apart 0 (λ e. omega arith) (held_zero (marked h i) ∙ sym (held_zero h)))
        low
        high
        (λ j p. apart j (λ e. omega arith) (held_out (marked h i) j p ∙ sym (held_out h j p)))

    mark_low : i ≤ 64 → (j : ℕ) → Law j
    mark_low c =
        each_word
        (λ j p q. held_low (marked h i) j p q ∙ rw (marked_low h i a c, held_low h j p q, ← same_bit 1 i j a p) (bit_with h.low (i - 1) (j - 1)))
        (λ j p q. apart j (λ e. omega arith) (held_high (marked h i) j p q ∙ rw (marked_low h i a c) (sym (held_high h j p q))))

    mark_high : 64 < i → (j : ℕ) → Law j
    mark_high c =
        each_word
        (λ j p q. apart j (λ e. omega arith) (held_low (marked h i) j p q ∙ rw (marked_high h i c b) (sym (held_low h j p q))))
        (λ j p q. held_high (marked h i) j p q ∙ rw (marked_high h i c b, held_high h j p q, ← same_bit 65 i j c p) (bit_with h.high (i - 65) (j - 65)))

    pub held_marked : (j : ℕ) → held_at (marked h i) j ≡ (eqb j i || held_at h j)
    held_marked j = ⊎_elim (λ l. mark_low (omega arith) j) (λ l. mark_high (omega arith) j) (side i 65)

-- ---- the run and the gap, by halves

module _ (h : Held) where
  low_half : (k : ℕ) → k < 64 → held_at h (k + 1) ≡ bit h.low k
  low_half k l = let e : k + 1 - 1 ≡ k = omega arith in held_low h (k + 1) (omega arith) (omega arith) ∙ rw e

  high_half : (k : ℕ) → k < 64 → held_at h (64 + k + 1) ≡ bit h.high k
  high_half k l = let e : 64 + k + 1 - 65 ≡ k = omega arith in held_high h (64 + k + 1) (omega arith) (omega arith) ∙ rw e

  pub run_within_low : (n : ℕ) → n ≡ run_below (bit h.low) 64 → n < 64 → n ≡ run_of h
  unfolding run_of
  run_within_low n e l = e ∙ sym (run_low_half 64 64 (bit h.low) (bit h.high) (λ k. held_at h (k + 1)) low_half high_half (omega arith))

  pub run_into_high : (n m : ℕ) → n ≡ run_below (bit h.low) 64 → n ≤ 64 → 64 ≤ n → m ≡ run_below (bit h.high) 64 → 64 + m ≡ run_of h
  unfolding run_of
  run_into_high n m e u l q = rw q (sym (run_both_halves 64 64 (bit h.low) (bit h.high) (λ k. held_at h (k + 1)) low_half high_half (omega arith)))

  gap_halves : (r : ℕ) → r ≡ run_of h → no_gap h ≡ (none_from (bit h.low) r 64 && none_from (bit h.high) (r - 64) 64)
  unfolding no_gap
  gap_halves r e = rw (← e) (none_halves 64 64 (bit h.low) (bit h.high) (λ k. held_at h (k + 1)) low_half high_half r)

  pub gap_both : (r : ℕ) (b : Bool) → r ≡ run_of h → 64 ≤ r → b ≡ none_from (bit h.high) (r - 64) 64 → b ≡ no_gap h
  gap_both r b e l q = rw (gap_halves r e, none_past (bit h.low) r 64 l) q

  pub gap_high : (r : ℕ) → r ≡ run_of h → r < 64 → (h.high ≡ 0 → ⊥) → h.high < 2 ^ 64 → false ≡ no_gap h
  gap_high r e l d f =
      let z : r - 64 ≡ 0 = omega arith in
      rw (gap_halves r e, z, none_bits 64 0 h.high (omega arith) f, div-one, ne_eqb h.high 0 d, and-false)

  pub gap_low : (r : ℕ) (b : Bool) → r ≡ run_of h → h.high ≡ 0 → b ≡ none_from (bit h.low) r 64 → b ≡ no_gap h
  gap_low r b e z q = rw (gap_halves r e, z, none_of (bit 0) (r - 64) 64 (λ k l m. bit_none k), and-true) q
