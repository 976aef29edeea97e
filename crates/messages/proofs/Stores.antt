-- Stores one after the other: what is stored behind a store is one store of both; a store at the start is the front;
-- a loop that stores a row; a view. Assumes nothing.
use Prim.Native.Nat.{ℕ, suc, ◌+◌, ◌*◌, ◌≤◌}
use native.Mathlib.Nat.{zero-add, le_antisymm}
use native.Mathlib.Omega.{arith}
use mathlib.Core.List.{List, [], ◌∷◌, ◌++◌}
use mathlib.Core.Path.{◌≡◌, refl, sym, ap, ◌∙◌}
use lib.ListN.{length, drop, set, get_or}
use lib.Seq.{sets, sets-eq}
use Rattle.below.specs.Below.{join_below}
use Rattle.below.proofs.Lists.{join_none, join_more, join_length}
use Rattle.views.specs.declared.View.{View}
use Rattle.messages.specs.Bytes.{le, row, view_body}
use Rattle.messages.proofs.Numbers.{le_length}

pub sets_join : (xs ys l : List ℕ) (at n : ℕ) → at + length xs ≡ n → sets (sets l at xs) n ys ≡ sets l at (xs ++ ys)
sets_join [] ys l at n e = let q : n ≡ at = omega arith in rw q refl
sets_join (x ∷ xs) ys l at n e = sets_join xs ys (set l at x) (suc at) n (omega arith)

pub sets_front : (xs l : List ℕ) → length xs ≤ length l → sets l 0 xs ≡ xs ++ drop (length xs) l
sets_front xs l h = sets-eq xs l 0 (rw zero-add h) ∙ rw zero-add

-- ---- `for n in 0..end { put(area, at + w * n, x n); }`: each x n is stored as the w numbers of f n, m is what stands after n turns

module _ (f : ℕ → List ℕ) (w : ℕ) (each : (i : ℕ) → length (f i) ≡ w) (at : ℕ) (l : List ℕ) where
  pub stores_none : l ≡ sets l at (join_below f 0)
  stores_none = rw join_none refl

  pub stores_more : (n : ℕ) (m next : List ℕ) → m ≡ sets l at (join_below f n) → next ≡ sets m (at + w * n) (f n) → next ≡ sets l at (join_below f (n + 1))
  stores_more n m next p q =
      q ∙ ap (λ k. sets k (at + w * n) (f n)) p
      ∙ sets_join (join_below f n) (f n) l at (at + w * n) (ap (λ k. at + k) (join_length f w each n))
      ∙ ap (sets l at) (sym (join_more f n))

  pub stores_end : (n end : ℕ) (m : List ℕ) → n ≤ end → end ≤ n → m ≡ sets l at (join_below f n) → m ≡ sets l at (join_below f end)
  stores_end n end m a b e = rw (le_antisymm a b) at e

-- a row of eight numbers of w bytes
module _ (w at : ℕ) (xs l : List ℕ) where
  pub row_none : l ≡ sets l at (join_below (λ k. le w (get_or xs k 0)) 0)
  row_none = stores_none (λ k. le w (get_or xs k 0)) w (λ k. le_length w (get_or xs k 0)) at l

  pub row_more : (n : ℕ) (m next : List ℕ) → m ≡ sets l at (join_below (λ k. le w (get_or xs k 0)) n) → next ≡ sets m (at + w * n) (le w (get_or xs n 0))
      → next ≡ sets l at (join_below (λ k. le w (get_or xs k 0)) (n + 1))
  row_more n m next p q = stores_more (λ k. le w (get_or xs k 0)) w (λ k. le_length w (get_or xs k 0)) at l n m next p q

  pub row_end : (n : ℕ) (m : List ℕ) → n ≤ 8 → 8 ≤ n → m ≡ sets l at (join_below (λ k. le w (get_or xs k 0)) n) → m ≡ sets l at (row w xs)
  unfolding row
  row_end n m a b e = stores_end (λ k. le w (get_or xs k 0)) w (λ k. le_length w (get_or xs k 0)) at l n 8 m a b e

-- the id, the set and the start numbers of a view
pub view_stored : (v : View) (at : ℕ) (l m n k : List ℕ) → m ≡ sets l at (le 4 v.id) → n ≡ sets m (at + 4) (le 1 v.set) → k ≡ sets n (at + 5) (row 4 v.starts)
    → k ≡ sets l at (view_body v)
unfolding view_body
view_stored v at l m n k p q r =
    r ∙ ap (λ a. sets a (at + 5) (row 4 v.starts)) q
    ∙ sets_join (le 1 v.set) (row 4 v.starts) m (at + 4) (at + 5) (rw (le_length 1 v.set) (omega arith))
    ∙ ap (λ a. sets a (at + 4) (le 1 v.set ++ row 4 v.starts)) p
    ∙ sets_join (le 4 v.id) (le 1 v.set ++ row 4 v.starts) l at (at + 4) (rw (le_length 4 v.id) refl)
