-- Parts of bytes as std's `from_le_bytes` and `to_le_bytes` have them: a part taken out, a number's bytes, eight counts; a part stored. Assumes nothing.
use Prim.Native.Nat.{ℕ, zero, suc, ◌+◌, ◌*◌, ◌/◌, ◌^◌, ◌≤◌, ◌<◌}
use native.Mathlib.Nat.{pow-zero, pow-suc, div-one, div-div-eq-div-mul, one-mul, add-zero}
use native.Mathlib.Omega.{arith}
use mathlib.Core.List.{List, ◌++◌}
use mathlib.Core.Path.{◌≡◌, refl, sym, ap, ◌∙◌}
use lib.ListN.{length, get_or, take, drop}
use lib.Seq.{ext_get_or, sets, sets-eq}
use borrow.Rule.Slice.PartMut.{put_mid}
use Rattle.std.proofs.lemmas.Slice.{put_mid-paste}
use Rattle.std.specs.Int.{w32, w64, from_le_bytes, to_le_bytes, bytes_low_first}
use Rattle.std.proofs.lemmas.List.{get_or-take, get_or-drop, length-take-le, length-drop}
use Rattle.std.proofs.Math.Seq.{take-length}
use Rattle.below.specs.Below.{list_below}
use Rattle.below.proofs.Lists.{list_length, list_at}
use Rattle.messages.specs.Bytes.{le, number_at, row, row_at}
use Rattle.messages.proofs.Numbers.{AreBytes, row_length, row_stands, stands_whole}

-- the w bytes of bs from at on
part_byte : (w at i : ℕ) (bs : List ℕ) → i < w → get_or (take w (drop at bs)) i 0 ≡ get_or bs (at + i) 0
part_byte w at i bs l = get_or-take w (drop at bs) i 0 l ∙ get_or-drop at bs i 0

part_length : (w at : ℕ) (bs : List ℕ) → at + w ≤ length bs → length (take w (drop at bs)) ≡ w
part_length w at bs h = length-take-le w (drop at bs) (omega (arith, length-drop at bs))

-- ---- a number read

number_same : (w a b : ℕ) (xs ys : List ℕ) → ((i : ℕ) → i < w → get_or xs (a + i) 0 ≡ get_or ys (b + i) 0) → number_at w xs a ≡ number_at w ys b
unfolding number_at
number_same zero a b xs ys h = refl
number_same (suc w) a b xs ys h =
    let first : get_or xs a 0 ≡ get_or ys b 0 = rw (add-zero, add-zero) at (h 0 (omega arith)) in
    let e : (x i : ℕ) → x + suc i ≡ x + 1 + i = λ x i. omega arith in
    let rest = number_same w (a + 1) (b + 1) xs ys (λ i l. rw (e a i, e b i) at (h (suc i) (omega arith))) in
    rw (first, rest) refl

number_part : (w at : ℕ) (bs : List ℕ) → number_at w (take w (drop at bs)) 0 ≡ number_at w bs at
number_part w at bs = number_same w 0 at (take w (drop at bs)) bs (λ i l. let z : 0 + i ≡ i = omega arith in rw z (part_byte w at i bs l))

-- the code's sums
four : (bs : List ℕ) → from_le_bytes w32 bs ≡ number_at 4 bs 0
unfolding number_at
four bs = omega arith

eight : (bs : List ℕ) → from_le_bytes w64 bs ≡ number_at 8 bs 0
unfolding number_at
eight bs = omega arith

pub number_taken : (at : ℕ) (bs : List ℕ) → from_le_bytes w32 (take 4 (drop at bs)) ≡ number_at 4 bs at
number_taken at bs = four (take 4 (drop at bs)) ∙ number_part 4 at bs

pub word_taken : (at : ℕ) (bs : List ℕ) → from_le_bytes w64 (take 8 (drop at bs)) ≡ number_at 8 bs at
word_taken at bs = eight (take 8 (drop at bs)) ∙ number_part 8 at bs

pub counts_taken : (at : ℕ) (bs : List ℕ) → at + 8 ≤ length bs → take 8 (drop at bs) ≡ row_at 1 bs at
unfolding row_at number_at
counts_taken at bs h =
    let f : ℕ → ℕ = λ n. number_at 1 bs (at + 1 * n) in
    ext_get_or 0 (take 8 (drop at bs)) (list_below f 8) (part_length 8 at bs h ∙ sym (list_length f 8))
    (λ i l. let g : i < 8 = rw (part_length 8 at bs h) at l in
    part_byte 8 at i bs g ∙ sym (list_at f 8 i 0 g ∙ rw one-mul (omega arith)))

-- ---- a number's bytes

bytes_le : (w i n : ℕ) → bytes_low_first i w n ≡ le w (n / 256 ^ i)
unfolding le
bytes_le zero i n = refl
bytes_le (suc w) zero n = rw (pow-zero, div-one, bytes_le w 1 n) refl
bytes_le (suc w) (suc i) n = rw (bytes_le w (suc (suc i)) n, div-div-eq-div-mul n (256 ^ suc i) 256, ← pow-suc) refl

pub number_bytes : (n : ℕ) → to_le_bytes w32 n ≡ le 4 n
number_bytes n = bytes_le 4 0 n ∙ rw (pow-zero, div-one) refl

pub word_bytes : (n : ℕ) → to_le_bytes w64 n ≡ le 8 n
word_bytes n = bytes_le 8 0 n ∙ rw (pow-zero, div-one) refl

pub counts_bytes : (xs : List ℕ) → length xs ≡ 8 → AreBytes xs → row 1 xs ≡ xs
counts_bytes xs e h =
    let p : xs ≡ row_at 1 xs 0 = sym (ap (λ n. take n xs) (sym e) ∙ take-length xs) ∙ counts_taken 0 xs (omega arith) in
    stands_whole (row 1 xs) xs (row_length 1 xs ∙ sym e) (rw (← p) at (row_stands 1 0 xs h))

-- ---- a part stored by `copy_from_slice`

pub part_stored : (at k : ℕ) (l ys xs : List ℕ) → ys ≡ xs → k ≡ length xs → at + length xs ≤ length l → put_mid at k l ys ≡ sets l at xs
part_stored at k l ys xs e n h =
    put_mid-paste at k l ys xs (length xs) e (sym n) refl ∙ ap (λ m. take at l ++ m ++ drop (at + length xs) l) (take-length xs) ∙ sym (sets-eq xs l at h)
