-- What holds of the numbers below n, for any n: all, none, how many, the largest, the run, the first, what a search found; a thing done n times; a list filled, made or joined.
-- Each takes what it asks of a number as a function. The laws are in proofs/. Assumes nothing.
use Rattle.std.specs.Prelude.{ℕ, zero, suc, ◌+◌, max, Bool, true, ◌&&◌, not, cond, ltb, List, [], ◌∷◌, ◌++◌, set, get_or, Option, Some, None}

-- f holds at each number below n
unfoldable pub all_below : (ℕ → Bool) → ℕ → Bool
all_below f zero = true
all_below f (suc n) = all_below f n && f n

-- f holds at no number below n
unfoldable pub none_below : (ℕ → Bool) → ℕ → Bool
none_below f n = all_below (λ k. not (f k)) n

-- at how many numbers below n f holds
unfoldable pub count_below : (ℕ → Bool) → ℕ → ℕ
count_below f zero = 0
count_below f (suc n) = count_below f n + cond (f n) 1 0

-- the largest of f's values below n, 0 where there are none
unfoldable pub largest_below : (ℕ → ℕ) → ℕ → ℕ
largest_below f zero = 0
largest_below f (suc n) = max (largest_below f n) (f n)

-- from i on, at most k numbers further: where f first fails
unfoldable pub run_from : (ℕ → Bool) → ℕ → ℕ → ℕ
run_from f zero i = i
run_from f (suc k) i = let r = run_from f k (suc i) in cond (f i) r i

-- the longest k up to n with f at each number below k
unfoldable pub run_below : (ℕ → Bool) → ℕ → ℕ
run_below f n = run_from f n 0

-- the least number below n at which f holds, n where it holds at none
unfoldable pub first_below : (ℕ → Bool) → ℕ → ℕ
first_below f n = run_below (λ k. not (f k)) n

-- what a search below n found, which came to k: nothing where it came to the end
abbrev pub found : ℕ → ℕ → Option ℕ
found n k = cond (ltb k n) (Some k) None

-- f done n times, from a
unfoldable pub times : {A : Type 0} → (A → A) → A → ℕ → A
times f a zero = a
times f a (suc n) = f (times f a n)

-- f done at each number below n in turn, from a
unfoldable pub fold_below : {A : Type 0} → (A → ℕ → A) → A → ℕ → A
fold_below f a zero = a
fold_below f a (suc n) = f (fold_below f a n) n

-- the first n places of l written with f's values
unfoldable pub fill_below : {A : Type 0} → (ℕ → A) → List A → ℕ → List A
fill_below f l n = fold_below (λ m k. set m k (f k)) l n

-- f done to each of the first n elements of l
unfoldable pub each_below : {A : Type 0} → A → (A → A) → List A → ℕ → List A
each_below d f l n = fill_below (λ k. f (get_or l k d)) l n

-- f's values below n joined, lowest first
unfoldable pub join_below : {A : Type 0} → (ℕ → List A) → ℕ → List A
join_below f zero = []
join_below f (suc n) = join_below f n ++ f n

-- the list of f's values below n
unfoldable pub list_below : {A : Type 0} → (ℕ → A) → ℕ → List A
list_below f n = join_below (λ k. f k ∷ []) n
