-- Laws over any test, any numbers and any n: those of at least i are none where the largest is below i; a span below n is empty where its ends say so;
-- what agrees below n has one list and one largest. Assumes nothing.
use Prim.Native.Nat.{ℕ, zero, suc, ◌+◌, ◌≤◌, ◌<◌, max, min}
use native.Mathlib.Omega.{arith}
use mathlib.Core.Bool.{Bool, true, false, not, cond, ◌&&◌}
use mathlib.Core.Path.{◌≡◌, refl, sym, ap, ◌∙◌}
use mathlib.Core.Logic.{⊎_elim}
use lib.Dec.{ltb, leb}
use borrow.Author.Tests.{le-leb, lt-leb, lt-ltb, le-ltb, ltb-true, leb-true}
use Rattle.below.specs.Below.{all_below, none_below, largest_below, join_below, list_below}
use Rattle.below.proofs.Tests.{both, clash, side, and_both, and_left, and_right, not_is}
use Rattle.below.proofs.All.{all_same, all_each, all_of}

-- ---- the largest

pub not_leb : (a b : ℕ) → not (leb a b) ≡ ltb b a
not_leb a b = ⊎_elim (λ l. rw (lt-leb a b l, lt-ltb b a l)) (λ l. rw (le-leb a b l, le-ltb b a l)) (side b a)

pub ltb_max : (a b i : ℕ) → ltb (max a b) i ≡ (ltb a i && ltb b i)
ltb_max a b i =
    both (ltb (max a b) i) (ltb a i && ltb b i)
    (λ e. and_both (lt-ltb a i (omega (arith, ltb-true (max a b) i e))) (lt-ltb b i (omega (arith, ltb-true (max a b) i e))))
    (λ e. lt-ltb (max a b) i (omega (arith, ltb-true a i (and_left (ltb a i) (ltb b i) e), ltb-true b i (and_right (ltb a i) (ltb b i) e))))

all_under : (f : ℕ → ℕ) (i n : ℕ) → 0 < i → all_below (λ k. ltb (f k) i) n ≡ ltb (largest_below f n) i
unfolding all_below largest_below
all_under f i zero l = sym (lt-ltb 0 i l)
all_under f i (suc n) l = rw (all_under f i n l, ltb_max (largest_below f n) (f n) i)

-- of those below n that f names, none is at least i where the largest of them is below i
pub none_largest : (f : ℕ → Bool) (g : ℕ → ℕ) (i n : ℕ) → 0 < i → none_below (λ k. f k && leb i (g k)) n ≡ ltb (largest_below (λ k. cond (f k) (g k) 0) n) i
unfolding none_below
none_largest f g i n l =
    all_same (λ k. not (f k && leb i (g k))) (λ k. ltb (cond (f k) (g k) 0) i) n (λ k m. go (f k) (g k))
    ∙ all_under (λ k. cond (f k) (g k) 0) i n l
  where
    go : (b : Bool) (x : ℕ) → not (b && leb i x) ≡ ltb (cond b x 0) i
    go true x = not_leb i x
    go false x = sym (lt-ltb 0 i l)

-- ---- a span

-- no number from lo on and below hi stands below n
pub none_span : (lo hi n : ℕ) → none_below (λ k. ltb lo (k + 1) && leb (k + 1) hi) n ≡ leb (min hi n) lo
unfolding none_below
none_span lo hi n = both (all_below (λ k. not (ltb lo (k + 1) && leb (k + 1) hi)) n) (leb (min hi n) lo) empty none
  where
    first : all_below (λ k. not (ltb lo (k + 1) && leb (k + 1) hi)) n ≡ true → lo < min hi n → leb (min hi n) lo ≡ true
    first e l =
        clash (and_both (lt-ltb lo (lo + 1) (omega arith)) (le-leb (lo + 1) hi (omega arith)))
        (not_is (ltb lo (lo + 1) && leb (lo + 1) hi) (all_each (λ k. not (ltb lo (k + 1) && leb (k + 1) hi)) n lo (omega arith) e))

    empty : all_below (λ k. not (ltb lo (k + 1) && leb (k + 1) hi)) n ≡ true → leb (min hi n) lo ≡ true
    empty e = ⊎_elim (first e) (λ l. le-leb (min hi n) lo l) (side lo (min hi n))

    past : (k : ℕ) → k < n → min hi n ≤ lo → (b : Bool) → (ltb lo (k + 1) && leb (k + 1) hi) ≡ b → not b ≡ true
    past k m l false e = refl
    past k m l true e =
        absurd (omega (arith, ltb-true lo (k + 1) (and_left (ltb lo (k + 1)) (leb (k + 1) hi) e), leb-true (k + 1) hi (and_right (ltb lo (k + 1)) (leb (k + 1) hi) e)))

    none : leb (min hi n) lo ≡ true → all_below (λ k. not (ltb lo (k + 1) && leb (k + 1) hi)) n ≡ true
    none e = all_of (λ k. not (ltb lo (k + 1) && leb (k + 1) hi)) n (λ k m. past k m (leb-true (min hi n) lo e) (ltb lo (k + 1) && leb (k + 1) hi) refl)

-- ---- what agrees below n

pub none_same : (f g : ℕ → Bool) (n : ℕ) → ((i : ℕ) → i < n → f i ≡ g i) → none_below f n ≡ none_below g n
unfolding none_below
none_same f g n h = all_same (λ k. not (f k)) (λ k. not (g k)) n (λ i l. ap not (h i l))

pub largest_same : (f g : ℕ → ℕ) (n : ℕ) → ((i : ℕ) → i < n → f i ≡ g i) → largest_below f n ≡ largest_below g n
unfolding largest_below
largest_same f g zero h = refl
largest_same f g (suc n) h = rw (largest_same f g n (λ i l. h i (omega arith)), h n (omega arith))

pub list_same : {A : Type 0} (f g : ℕ → A) (n : ℕ) → ((i : ℕ) → i < n → f i ≡ g i) → list_below f n ≡ list_below g n
unfolding list_below join_below
list_same f g zero h = refl
list_same f g (suc n) h =
    let p : list_below f n ≡ list_below g n = list_same f g n (λ i l. h i (omega arith)) in
    let q : f n ≡ g n = h n (omega arith) in
    rw (p, q)

-- a number that is at most n is at most the lesser of h and n where it is at most h
pub leb_min : (i h n : ℕ) → i ≤ n → leb i (min h n) ≡ leb i h
leb_min i h n l = ⊎_elim (λ m. rw (lt-leb i h m, lt-leb i (min h n) (omega arith))) (λ m. rw (le-leb i h m, le-leb i (min h n) (omega arith))) (side h i)
