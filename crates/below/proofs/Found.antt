-- A search over a list by `position` comes to what `first_below` comes to over its places.
-- Assumes nothing.
use Prim.Native.Nat.{ℕ}
use lib.Dec.{ltb}
use mathlib.Core.Bool.{Bool, cond}
use mathlib.Core.Path.{◌≡◌, ap}
use mathlib.Core.List.{List}
use lib.ListN.{get_or, length}
use Rattle.std.specs.Prelude.{Some, None}
use Rattle.std.specs.List.{position, position_or_len}
use Rattle.std.proofs.lemmas.List.Sums.{position_or_len_is}
use Rattle.below.specs.Below.{first_below, found}
use Rattle.below.proofs.First.{first_low, first_here, first_before}

module _ {X : Type 0} (p : X → Bool) (d : X) where
  pub first_of_list : (xs : List X) → position_or_len p xs ≡ first_below (λ k. p (get_or xs k d)) (length xs)
  first_of_list xs =
      let f : ℕ → Bool = λ k. p (get_or xs k d) in
      let n : ℕ = length xs in
      position_or_len_is p xs (first_below f n) d (first_low f n) (first_before f n) (first_here f n)

  pub found_in_list : (xs : List X) → position p xs ≡ found (length xs) (first_below (λ k. p (get_or xs k d)) (length xs))
  found_in_list xs = ap (λ k. cond (ltb k (length xs)) (Some k) None) (first_of_list xs)
