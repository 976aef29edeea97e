-- Numbers in bytes: where bytes stand in a longer list; a number's bytes read back; what is read has those bytes; a row and a view the same.
-- In order: `Stands`, its laws; numbers; rows; views and cuts; lengths. Assumes nothing. The six kinds are in Trip.
use Prim.Native.Nat.{ℕ, zero, suc, ◌+◌, ◌*◌, ◌/◌, ◌%◌, ◌^◌, ◌≤◌, ◌<◌}
use native.Mathlib.Nat.{add-zero, zero-add, suc-add, pow-zero, pow-suc, pow-succ', one-mul, mul_assoc, div-one, div-div-eq-div-mul, mod-eq_of_lt, eq-or-lt_of_le}
use native.Mathlib.Omega.{arith}
use mathlib.Core.List.{List, [], ◌∷◌, ◌++◌}
use mathlib.Core.Path.{◌≡◌, refl, sym, ap, ◌∙◌}
use mathlib.Core.Logic.{⊎_elim}
use lib.ListN.{length, get_or, length-append}
use lib.Seq.{ext_get_or}
use Rattle.below.specs.Below.{join_below, list_below}
use Rattle.below.proofs.Lists.{join_length, list_length, list_at}
use Rattle.views.specs.declared.View.{View}
use Rattle.views.specs.declared.Cut.{Cut}
use Rattle.messages.specs.Bytes.{le, number_at, row, row_at, view_body, view_at, cut_bytes, cut_at}

-- each is a byte
abbrev pub AreBytes : List ℕ → Type 0
AreBytes bs = (i : ℕ) → get_or bs i 0 < 256

-- ---- xs stands in bs from at on

abbrev pub Stands : List ℕ → List ℕ → ℕ → Type 0
Stands [] bs at = Unit {0}
Stands (x ∷ xs) bs at = (get_or bs at 0 ≡ x) × Stands xs bs (at + 1)

pub stands_join : (xs ys bs : List ℕ) (at : ℕ) → Stands xs bs at → Stands ys bs (at + length xs) → Stands (xs ++ ys) bs at
stands_join [] ys bs at a b = rw add-zero at b
stands_join (x ∷ xs) ys bs at a b =
    (a.0, stands_join xs ys bs (at + 1) a.1 (let e : at + suc (length xs) ≡ at + 1 + length xs = omega arith in rw e at b))

pub stands_left : (xs ys bs : List ℕ) (at : ℕ) → Stands (xs ++ ys) bs at → Stands xs bs at
stands_left [] ys bs at a = tt
stands_left (x ∷ xs) ys bs at a = (a.0, stands_left xs ys bs (at + 1) a.1)

pub stands_right : (xs ys bs : List ℕ) (at : ℕ) → Stands (xs ++ ys) bs at → Stands ys bs (at + length xs)
stands_right [] ys bs at a = rw add-zero a
stands_right (x ∷ xs) ys bs at a =
    let e : at + suc (length xs) ≡ at + 1 + length xs = omega arith in
    rw e (stands_right xs ys bs (at + 1) a.1)

stands_at : (xs bs : List ℕ) (at i : ℕ) → Stands xs bs at → i < length xs → get_or bs (at + i) 0 ≡ get_or xs i 0
stands_at [] bs at i a l = absurd (omega arith)
stands_at (x ∷ xs) bs at zero a l = rw add-zero a.0
stands_at (x ∷ xs) bs at (suc i) a l =
    let e : at + suc i ≡ at + 1 + i = omega arith in
    rw e (stands_at xs bs (at + 1) i a.1 (omega arith))

-- what stands in a list of its own length is the list
pub stands_whole : (xs bs : List ℕ) → length xs ≡ length bs → Stands xs bs 0 → xs ≡ bs
stands_whole xs bs e a =
    ext_get_or 0 xs bs e (λ i l. sym (let z : 0 + i ≡ i = omega arith in rw z at (stands_at xs bs 0 i a l)))

-- and a list stands in itself
pub stands_self : (xs : List ℕ) → Stands xs xs 0
stands_self xs = go xs 0 (λ i l. let z : 0 + i ≡ i = omega arith in rw z refl)
  where
    go : (ys : List ℕ) (at : ℕ) → ((i : ℕ) → i < length ys → get_or xs (at + i) 0 ≡ get_or ys i 0) → Stands ys xs at
    go [] at h = tt
    go (y ∷ ys) at h =
        (rw add-zero at (h 0 (omega arith)), go ys (at + 1) (λ i l. let e : at + 1 + i ≡ at + suc i = omega arith in rw e (h (suc i) (omega arith))))

-- ---- numbers

pub le_length : (w x : ℕ) → length (le w x) ≡ w
unfolding le
le_length zero x = refl
le_length (suc w) x = ap suc (le_length w (x / 256))

pub le_byte : (x : ℕ) → x < 256 → le 1 x ≡ x ∷ []
unfolding le
le_byte x h = rw (mod-eq_of_lt h) refl

-- a number's bytes read back
pub le_reads : (w x at : ℕ) (bs : List ℕ) → x < 256 ^ w → Stands (le w x) bs at → number_at w bs at ≡ x
unfolding le number_at
le_reads zero x at bs h a = omega arith
le_reads (suc w) x at bs h a =
    let l : x < 256 ^ w * 256 = rw pow-suc at h in
    rw (a.0, le_reads w (x / 256) (at + 1) bs (omega arith) a.1) (omega arith)

-- what is read has those bytes
pub le_stands : (w at : ℕ) (bs : List ℕ) → AreBytes bs → Stands (le w (number_at w bs at)) bs at
unfolding le number_at
le_stands zero at bs h = tt
le_stands (suc w) at bs h =
    let n = number_at w bs (at + 1) in
    let b = get_or bs at 0 in
    let p : (b + 256 * n) % 256 ≡ b = omega (arith, h at) in
    let q : (b + 256 * n) / 256 ≡ n = omega (arith, h at) in
    (sym p, rw q (le_stands w (at + 1) bs h))

pub number_low : (w at : ℕ) (bs : List ℕ) → AreBytes bs → number_at w bs at < 256 ^ w
unfolding number_at
number_low zero at bs h = omega arith
number_low (suc w) at bs h = rw pow-suc (omega (arith, h at, number_low w (at + 1) bs h))

-- a number of a + b bytes is one of a and one of b
pub number_split : (a b at : ℕ) (bs : List ℕ) → number_at (a + b) bs at ≡ number_at a bs at + 256 ^ a * number_at b bs (at + a)
unfolding number_at
number_split zero b at bs = rw (zero-add b, add-zero, pow-zero, one-mul) (omega arith)
number_split (suc a) b at bs =
    let e : at + 1 + a ≡ at + suc a = omega arith in
    let p : 256 ^ suc a * number_at b bs (at + suc a) ≡ 256 * (256 ^ a * number_at b bs (at + suc a)) = rw pow-succ' (mul_assoc 256 (256 ^ a) (number_at b bs (at + suc a))) in
    rw (suc-add, number_split a b (at + 1) bs, e) (omega arith)

pub le_split : (a b x : ℕ) → le (a + b) x ≡ le a x ++ le b (x / 256 ^ a)
unfolding le
le_split zero b x = rw (zero-add, pow-zero, div-one)
le_split (suc a) b x = rw (suc-add, le_split a b (x / 256), pow-succ', ← div-div-eq-div-mul x 256 (256 ^ a))

-- ---- rows

module _ (f : ℕ → List ℕ) (w : ℕ) (each : (i : ℕ) → length (f i) ≡ w) (bs : List ℕ) (at : ℕ) where
  join_stands : (n : ℕ) → ((i : ℕ) → i < n → Stands (f i) bs (at + w * i)) → Stands (join_below f n) bs at
  unfolding join_below
  join_stands zero h = tt
  join_stands (suc n) h =
      stands_join (join_below f n) (f n) bs at (join_stands n (λ i l. h i (omega arith))) (rw (join_length f w each n) (h n (omega arith)))

  stands_each : (n i : ℕ) → i < n → Stands (join_below f n) bs at → Stands (f i) bs (at + w * i)
  unfolding join_below
  stands_each zero i l a = absurd (omega arith)
  stands_each (suc n) i l a =
      ⊎_elim
      (λ q. rw q (rw (join_length f w each n) at (stands_right (join_below f n) (f n) bs at a)))
      (λ q. stands_each n i q (stands_left (join_below f n) (f n) bs at a))
      (eq-or-lt_of_le (let g : i ≤ n = omega arith in g))

pub row_length : (w : ℕ) (xs : List ℕ) → length (row w xs) ≡ w * 8
unfolding row
row_length w xs = join_length (λ n. le w (get_or xs n 0)) w (λ n. le_length w (get_or xs n 0)) 8

pub row_reads : (w at : ℕ) (bs xs : List ℕ) → length xs ≡ 8 → ((n : ℕ) → get_or xs n 0 < 256 ^ w) → Stands (row w xs) bs at → row_at w bs at ≡ xs
unfolding row row_at
row_reads w at bs xs e h a =
    let f : ℕ → ℕ = λ n. number_at w bs (at + w * n) in
    ext_get_or 0 (list_below f 8) xs (list_length f 8 ∙ sym e)
    (λ i l. let g : i < 8 = rw (list_length f 8) at l in
    list_at f 8 i 0 g ∙ le_reads w (get_or xs i 0) (at + w * i) bs (h i) (stands_each (λ n. le w (get_or xs n 0)) w (λ n. le_length w (get_or xs n 0)) bs at 8 i g a))

pub row_stands : (w at : ℕ) (bs : List ℕ) → AreBytes bs → Stands (row w (row_at w bs at)) bs at
unfolding row row_at
row_stands w at bs h =
    let f : ℕ → ℕ = λ n. number_at w bs (at + w * n) in
    join_stands (λ n. le w (get_or (list_below f 8) n 0)) w (λ n. le_length w (get_or (list_below f 8) n 0)) bs at 8
    (λ i l. rw (list_at f 8 i 0 l) (le_stands w (at + w * i) bs h))

-- ---- views and cuts

-- a view of the code's type
pub record ViewRange (v : View) : Type 0 where
  pub eight : length v.starts ≡ 8
  pub starts_low : (n : ℕ) → get_or v.starts n 0 < 256 ^ 4
  pub id_low : v.id < 256 ^ 4
  pub set_low : v.set < 256 ^ 1

pub record CutRange (c : Cut) : Type 0 where
  pub eight : length c.counts ≡ 8
  pub counts_low : (n : ℕ) → get_or c.counts n 0 < 256 ^ 1

pub view_length : (v : View) → length (view_body v) ≡ 37
unfolding view_body
view_length v = simp (length-append, le_length, row_length)

pub cut_length : (c : Cut) → length (cut_bytes c) ≡ 8
unfolding cut_bytes
cut_length c = row_length 1 c.counts

module _ (bs : List ℕ) (at : ℕ) where
  -- behind the id, and behind the set
  second : (v : View) → Stands (view_body v) bs at → Stands (le 1 v.set ++ row 4 v.starts) bs (at + 4)
  unfolding view_body
  second v a = rw (le_length 4 v.id) at (stands_right (le 4 v.id) (le 1 v.set ++ row 4 v.starts) bs at a)

  third : (v : View) → Stands (view_body v) bs at → Stands (row 4 v.starts) bs (at + 5)
  third v a =
      let e : at + 4 + 1 ≡ at + 5 = omega arith in
      rw (le_length 1 v.set, e) at (stands_right (le 1 v.set) (row 4 v.starts) bs (at + 4) (second v a))

  pub view_reads : (v : View) → ViewRange v → Stands (view_body v) bs at → view_at bs at ≡ v
  unfolding view_at view_body
  view_reads v r a =
      let p : row_at 4 bs (at + 5) ≡ v.starts = row_reads 4 (at + 5) bs v.starts r.eight r.starts_low (third v a) in
      let q : number_at 4 bs at ≡ v.id = le_reads 4 v.id at bs r.id_low (stands_left (le 4 v.id) (le 1 v.set ++ row 4 v.starts) bs at a) in
      let s : number_at 1 bs (at + 4) ≡ v.set = le_reads 1 v.set (at + 4) bs r.set_low (stands_left (le 1 v.set) (row 4 v.starts) bs (at + 4) (second v a)) in
      λ j. record { starts = p j; id = q j; set = s j }

  pub view_stands : AreBytes bs → Stands (view_body (view_at bs at)) bs at
  unfolding view_at view_body
  view_stands h =
      let v = view_at bs at in
      let e : at + 5 ≡ at + 4 + 1 = omega arith in
      stands_join (le 4 v.id) (le 1 v.set ++ row 4 v.starts) bs at (le_stands 4 at bs h)
      (rw (le_length 4 v.id)
      (stands_join (le 1 v.set) (row 4 v.starts) bs (at + 4) (le_stands 1 (at + 4) bs h)
      (rw (le_length 1 v.set, ← e) (row_stands 4 (at + 5) bs h))))

  pub cut_reads : (c : Cut) → CutRange c → Stands (cut_bytes c) bs at → cut_at bs at ≡ c
  unfolding cut_at cut_bytes
  cut_reads c r a =
      let p : row_at 1 bs at ≡ c.counts = row_reads 1 at bs c.counts r.eight r.counts_low a in
      λ j. record { counts = p j }

  pub cut_stands : AreBytes bs → Stands (cut_bytes (cut_at bs at)) bs at
  unfolding cut_at cut_bytes
  cut_stands h = row_stands 1 at bs h
