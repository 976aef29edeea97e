-- The laws of what is done at each number below n: `times`, `fold_below`, and the lists that are filled, changed in each place, joined and made.
-- At none, at one more, lengths, places. Assumes nothing.
use Prim.Native.Nat.{ℕ, zero, suc, ◌+◌, ◌*◌, ◌≤◌, ◌<◌}
use native.Mathlib.Nat.{eq-or-lt_of_le, le_antisymm}
use native.Mathlib.Numerals.{add-one}
use native.Mathlib.Omega.{arith}
use mathlib.Core.List.{List, [], ◌∷◌, ◌++◌}
use mathlib.Core.Path.{◌≡◌, refl, sym, ap, ◌∙◌}
use mathlib.Core.Logic.{⊎_elim}
use lib.ListN.{length, set, get_or, replicate, length-set, length-append, length-replicate, get_or-append}
use lib.Seq.{get_or-set_same, get_or-set_other, get_or_at, ext_get_or}
use Rattle.below.specs.Below.{times, fold_below, fill_below, each_below, join_below, list_below}

pub times_none : {A : Type 0} (f : A → A) (a : A) → a ≡ times f a 0
unfolding times
times_none f a = refl

pub times_more : {A : Type 0} (f : A → A) (a : A) (n : ℕ) → times f a (n + 1) ≡ f (times f a n)
unfolding times
times_more f a n = rw add-one

pub fold_none : {A : Type 0} (f : A → ℕ → A) (a : A) → a ≡ fold_below f a 0
unfolding fold_below
fold_none f a = refl

pub fold_more : {A : Type 0} (f : A → ℕ → A) (a : A) (n : ℕ) → fold_below f a (n + 1) ≡ f (fold_below f a n) n
unfolding fold_below
fold_more f a n = rw add-one

-- ---- the first n places written

module _ {A : Type 0} (f : ℕ → A) (l : List A) where
  pub fill_none : l ≡ fill_below f l 0
  unfolding fill_below
  fill_none = fold_none _ l

  pub fill_more : (n : ℕ) → fill_below f l (n + 1) ≡ set (fill_below f l n) n (f n)
  unfolding fill_below
  fill_more n = fold_more _ l n

  pub fill_step : (m : List A) (n : ℕ) (v : A) → m ≡ fill_below f l n → v ≡ f n → set m n v ≡ fill_below f l (n + 1)
  fill_step m n v a b = rw (fill_more, ← a, ← b) refl

  pub fill_length : (n : ℕ) → length (fill_below f l n) ≡ length l
  unfolding fill_below fold_below
  fill_length zero = refl
  fill_length (suc n) = length-set (fill_below f l n) n (f n) ∙ fill_length n

  -- the places from n on are as they were
  pub fill_above : (n i : ℕ) (d : A) → n ≤ i → get_or (fill_below f l n) i d ≡ get_or l i d
  unfolding fill_below fold_below
  fill_above zero i d h = refl
  fill_above (suc n) i d h = get_or-set_other (fill_below f l n) n i (f n) d (λ q. omega arith) ∙ fill_above n i d (omega arith)

  -- and those below n are f's values
  pub fill_below_lem : (n i : ℕ) (d : A) → i < n → n ≤ length l → get_or (fill_below f l n) i d ≡ f i
  unfolding fill_below fold_below
  fill_below_lem zero i d h m = absurd (omega arith)
  fill_below_lem (suc n) i d h m =
      ⊎_elim
      (λ q. rw q (get_or-set_same (fill_below f l n) n (f n) d (rw (fill_length n) (omega arith))))
      (λ q. get_or-set_other (fill_below f l n) n i (f n) d (λ e. omega arith) ∙ fill_below_lem n i d q (omega arith))
      (eq-or-lt_of_le (let g : i ≤ n = omega arith in g))

-- ---- each of the first n elements changed

module _ {A : Type 0} (d : A) (f : A → A) (l : List A) where
  pub each_none : l ≡ each_below d f l 0
  unfolding each_below
  each_none = fill_none _ l

  pub each_step : (m : List A) (n : ℕ) (v : A) → m ≡ each_below d f l n → v ≡ f (get_or m n d) → set m n v ≡ each_below d f l (n + 1)
  unfolding each_below
  each_step m n v a b = fill_step (λ k. f (get_or l k d)) l m n v a (b ∙ ap f (rw a (fill_above (λ k. f (get_or l k d)) l n n d (omega arith))))

-- ---- joined and made

module _ {A : Type 0} (f : ℕ → List A) where
  pub join_none : join_below f 0 ≡ []
  unfolding join_below
  join_none = refl

  pub join_more : (n : ℕ) → join_below f (n + 1) ≡ join_below f n ++ f n
  unfolding join_below
  join_more n = rw add-one

  -- parts of one length
  pub join_length : (k : ℕ) → ((i : ℕ) → length (f i) ≡ k) → (n : ℕ) → length (join_below f n) ≡ k * n
  unfolding join_below
  join_length k h zero = omega arith
  join_length k h (suc n) = length-append (join_below f n) (f n) ∙ rw (join_length k h n, h n) (sym (native.Mathlib.Nat.mul-suc k n))

module _ {A : Type 0} (f : ℕ → A) where
  pub list_length : (n : ℕ) → length (list_below f n) ≡ n
  unfolding list_below
  list_length n = join_length (λ k. f k ∷ []) 1 (λ i. refl) n ∙ native.Mathlib.Nat.one-mul n

  pub list_at : (n i : ℕ) (d : A) → i < n → get_or (list_below f n) i d ≡ f i
  unfolding list_below join_below
  list_at zero i d h = absurd (omega arith)
  list_at (suc n) i d h =
      ⊎_elim
      (λ q. rw q (get_or_at (list_below f n) (f n) [] d n (list_length n)))
      (λ q. get_or-append (list_below f n) (f n ∷ []) d i (rw (list_length n) q) ∙ list_at n i d q)
      (eq-or-lt_of_le (let g : i ≤ n = omega arith in g))

  -- a list whose every place was filled is the list of f's values
  pub fill_list : (d : A) (l : List A) (n : ℕ) → length l ≡ n → fill_below f l n ≡ list_below f n
  fill_list d l n e =
      ext_get_or d (fill_below f l n) (list_below f n)
      (fill_length f l n ∙ e ∙ sym (list_length n))
      (λ i h. let g : i < n = omega (arith, fill_length f l n) in fill_below_lem f l n i d g (omega arith) ∙ sym (list_at n i d g))

-- ---- `let mut l = [0; n]; while i < n { l[i] = g(..); i += 1; } l`: m is l after i turns

module _ {A : Type 0} (f : ℕ → A) (z : A) (n : ℕ) where
  pub filled_none : replicate n z ≡ fill_below f (replicate n z) 0
  filled_none = fill_none f (replicate n z)

  pub filled_more : (m : List A) (i : ℕ) (v : A) → m ≡ fill_below f (replicate n z) i → v ≡ f i → set m i v ≡ fill_below f (replicate n z) (i + 1)
  filled_more m i v a b = fill_step f (replicate n z) m i v a b

  pub filled_end : (m : List A) (i : ℕ) → i ≤ n → n ≤ i → m ≡ fill_below f (replicate n z) i → m ≡ list_below f n
  filled_end m i a b e =
      (rw (le_antisymm a b) at e) ∙ fill_list f z (replicate n z) n (length-replicate n z)

pub ruleset fills = (filled_none, filled_more, filled_end)
