-- The laws of `word`, byte by byte: what two words share, have together and sum to, a word's complement, when a word is 0.
-- Then the test that a cut makes of all its counts at once, from the test of one byte, which is tried at each value. Assumes nothing.
use Prim.Native.Nat.{ℕ, zero, suc, ◌+◌, ◌-◌, ◌*◌, ◌<◌}
use native.Mathlib.Omega.{arith}
use mathlib.Core.Bool.{Bool, true, false, beq, cond}
use mathlib.Core.Path.{◌≡◌, refl, ap, ◌∙◌}
use lib.Dec.{eqb}
use lib.Bits.{bit_and, bit_or, and_block, or_block, and_lt, or_lt, and_le_r}
use borrow.Author.Tests.{eq-eqb, eqb-true}
use Rattle.below.specs.Below.{all_below}
use Rattle.below.specs.Bits.{bit}
use Rattle.below.proofs.All.{all_each, all_of, all_same}
use Rattle.below.proofs.Tests.{both, clash}
use Rattle.views.specs.Sets.{has}
use Rattle.views.specs.Cuts.{count_fits}
use Rattle.views.specs.Words.{word}

-- f's values are bytes
abbrev Bytes : (ℕ → ℕ) → Type 0
Bytes f = (k : ℕ) → f k < 256

word_and : (f g : ℕ → ℕ) (n : ℕ) → Bytes f → Bytes g → bit_and (word f n) (word g n) ≡ word (λ k. bit_and (f k) (g k)) n
unfolding word
word_and f g zero a b = refl
word_and f g (suc n) a b =
    and_block 8 (word (λ k. f (suc k)) n) (word (λ k. g (suc k)) n) (f 0) (g 0) (a 0) (b 0)
    ∙ ap (λ x. x * 256 + bit_and (f 0) (g 0)) (word_and (λ k. f (suc k)) (λ k. g (suc k)) n (λ k. a (suc k)) (λ k. b (suc k)))

word_or : (f g : ℕ → ℕ) (n : ℕ) → Bytes f → Bytes g → bit_or (word f n) (word g n) ≡ word (λ k. bit_or (f k) (g k)) n
unfolding word
word_or f g zero a b = refl
word_or f g (suc n) a b =
    or_block 8 (word (λ k. f (suc k)) n) (word (λ k. g (suc k)) n) (f 0) (g 0) (a 0) (b 0)
    ∙ ap (λ x. x * 256 + bit_or (f 0) (g 0)) (word_or (λ k. f (suc k)) (λ k. g (suc k)) n (λ k. a (suc k)) (λ k. b (suc k)))

word_add : (f g : ℕ → ℕ) (n : ℕ) → word f n + word g n ≡ word (λ k. f k + g k) n
unfolding word
word_add f g zero = refl
word_add f g (suc n) = omega (arith, word_add (λ k. f (suc k)) (λ k. g (suc k)) n)

-- the complement, from the word of all bits
word_not : (f : ℕ → ℕ) (n : ℕ) → Bytes f → word (λ k. 255) n - word f n ≡ word (λ k. 255 - f k) n
unfolding word
word_not f n a = let e = word_add f (λ k. 255 - f k) n ∙ whole f n a in omega arith
  where
    whole : (f : ℕ → ℕ) (n : ℕ) → Bytes f → word (λ k. f k + (255 - f k)) n ≡ word (λ k. 255) n
    whole f zero a = refl
    whole f (suc n) a = omega (arith, a 0, whole (λ k. f (suc k)) n (λ k. a (suc k)))

each_none : (f : ℕ → ℕ) (n : ℕ) → word f n ≡ 0 → (k : ℕ) → k < n → f k ≡ 0
unfolding word
each_none f zero e k l = absurd (omega arith)
each_none f (suc n) e zero l = omega arith
each_none f (suc n) e (suc k) l = each_none (λ j. f (suc j)) n (omega arith) k (omega arith)

all_none : (f : ℕ → ℕ) (n : ℕ) → ((k : ℕ) → k < n → f k ≡ 0) → word f n ≡ 0
unfolding word
all_none f zero h = refl
all_none f (suc n) h = omega (arith, h 0 (omega arith), all_none (λ k. f (suc k)) n (λ k l. h (suc k) (omega arith)))

word_none : (f : ℕ → ℕ) (n : ℕ) → eqb (word f n) 0 ≡ all_below (λ k. eqb (f k) 0) n
word_none f n =
    both (eqb (word f n) 0) (all_below (λ k. eqb (f k) 0) n)
    (λ e. all_of (λ k. eqb (f k) 0) n (λ k l. eq-eqb (f k) 0 (each_none f n (eqb-true (word f n) 0 e) k l)))
    (λ e. eq-eqb (word f n) 0 (all_none f n (λ k l. eqb-true (f k) 0 (all_each (λ j. eqb (f j) 0) n k l e))))

-- ---- the members of a set, each as the top bit of a byte

-- the code's way to them, from the set
abbrev tops_of : ℕ → ℕ
tops_of s = bit_and (bit_and (s * 0x0101010101010101) 0x8040201008040201 + 0x7f7f7f7f7f7f7f7f) 0x8080808080808080

tops_tried : all_below (λ s. eqb (tops_of s) (word (λ k. cond (has s k) 128 0) 8)) 256 ≡ true
unfolding word has bit all_below
tops_tried = refl

pub tops_word : (s : ℕ) → s < 256 → tops_of s ≡ word (λ k. cond (has s k) 128 0) 8
tops_word s l = eqb-true (tops_of s) (word (λ k. cond (has s k) 128 0) 8) (all_each (λ s. eqb (tops_of s) (word (λ k. cond (has s k) 128 0) 8)) 256 s l tops_tried)

-- ---- all counts of a cut at once

-- the code's test, of a byte or of a word of bytes: low has all bits of each byte but the top one, full has all, top the top one
abbrev bad_of : ℕ → ℕ → ℕ → ℕ → ℕ → ℕ
bad_of low full top c h = let t = bit_and c low + low in bit_and (bit_or (bit_and t c) (bit_and (bit_or t c) (full - h))) top

lows : word (λ k. 127) 8 ≡ 0x7f7f7f7f7f7f7f7f
unfolding word
lows = refl

fulls : word (λ k. 255) 8 ≡ 0xffffffffffffffff
unfolding word
fulls = refl

tops : word (λ k. 128) 8 ≡ 0x8080808080808080
unfolding word
tops = refl

byte_tried : (m : Bool) → all_below (λ c. beq (eqb (bad_of 127 255 128 c (cond m 128 0)) 0) (count_fits m c)) 256 ≡ true
unfolding all_below
byte_tried true = refl
byte_tried false = refl

byte_fits : (m : Bool) (c : ℕ) → c < 256 → eqb (bad_of 127 255 128 c (cond m 128 0)) 0 ≡ count_fits m c
byte_fits m c l =
    same (eqb (bad_of 127 255 128 c (cond m 128 0)) 0) (count_fits m c)
    (all_each (λ c. beq (eqb (bad_of 127 255 128 c (cond m 128 0)) 0) (count_fits m c)) 256 c l (byte_tried m))
  where
    same : (a b : Bool) → beq a b ≡ true → a ≡ b
    same true true e = refl
    same false false e = refl
    same true false e = clash e refl
    same false true e = clash e refl

word_bad : (f h : ℕ → ℕ) (n : ℕ) → Bytes f → Bytes h
    → bad_of (word (λ k. 127) n) (word (λ k. 255) n) (word (λ k. 128) n) (word f n) (word h n) ≡ word (λ k. bad_of 127 255 128 (f k) (h k)) n
word_bad f h n a b =
    let t : ℕ → ℕ = λ k. bit_and (f k) 127 + 127 in
    let g : ℕ → ℕ = λ k. 255 - h k in
    let low : Bytes (λ k. 127) = λ k. omega arith in
    let p : Bytes t = λ k. omega (arith, and_le_r (f k) 127) in
    let q : Bytes g = λ k. omega arith in
    let x : Bytes (λ k. bit_and (t k) (f k)) = λ k. and_lt 8 (t k) (f k) (p k) (a k) in
    let y : Bytes (λ k. bit_or (t k) (f k)) = λ k. or_lt 8 (t k) (f k) (p k) (a k) in
    let z : Bytes (λ k. bit_and (bit_or (t k) (f k)) (g k)) = λ k. and_lt 8 (bit_or (t k) (f k)) (g k) (y k) (q k) in
    rw (
      word_and f (λ k. 127) n a low,
      word_add (λ k. bit_and (f k) 127) (λ k. 127) n,
      word_not h n b,
      word_and t f n p a,
      word_or t f n p a,
      word_and (λ k. bit_or (t k) (f k)) g n y q,
      word_or (λ k. bit_and (t k) (f k)) (λ k. bit_and (bit_or (t k) (f k)) (g k)) n x z,
      word_and (λ k. bit_or (bit_and (t k) (f k)) (bit_and (bit_or (t k) (f k)) (g k))) (λ k. 128) n
          (λ k. or_lt 8 (bit_and (t k) (f k)) (bit_and (bit_or (t k) (f k)) (g k)) (x k) (z k)) (λ k. omega arith),
    ) refl

pub word_fits_lem : (m : ℕ → Bool) (f : ℕ → ℕ) → Bytes f
    → eqb (bad_of 0x7f7f7f7f7f7f7f7f 0xffffffffffffffff 0x8080808080808080 (word f 8) (word (λ k. cond (m k) 128 0) 8)) 0 ≡ all_below (λ k. count_fits (m k) (f k)) 8
word_fits_lem m f a =
    ap (λ x. eqb x 0) (whole ∙ word_bad f (λ k. cond (m k) 128 0) 8 a (λ k. top (m k)))
    ∙ word_none (λ k. bad_of 127 255 128 (f k) (cond (m k) 128 0)) 8
    ∙ all_same (λ k. eqb (bad_of 127 255 128 (f k) (cond (m k) 128 0)) 0) (λ k. count_fits (m k) (f k)) 8 (λ k l. byte_fits (m k) (f k) (a k))
  where
    top : (b : Bool) → cond b 128 0 < 256
    top true = omega arith
    top false = omega arith

    whole : bad_of 0x7f7f7f7f7f7f7f7f 0xffffffffffffffff 0x8080808080808080 (word f 8) (word (λ k. cond (m k) 128 0) 8)
        ≡ bad_of (word (λ k. 127) 8) (word (λ k. 255) 8) (word (λ k. 128) 8) (word f 8) (word (λ k. cond (m k) 128 0) 8)
    whole = rw (lows, fulls, tops) refl
