-- Eight fields below 1 are eight that are 0. Assumes nothing.
use Prim.Native.Nat.{ℕ, ◌+◌}
use native.Mathlib.Omega.{arith}
use mathlib.Core.List.{List}
use mathlib.Core.Path.{◌≡◌}
use lib.Dec.{eqb, ltb}
use lib.ListN.{get_or}
use borrow.Author.Tests.{eq-eqb, eqb-true, lt-ltb, ltb-true}
use Rattle.below.proofs.All.{all_same}
use Rattle.below.proofs.Tests.{both}
use Rattle.messages.specs.Fields.{narrow_row}
use Rattle.messages.specs.Fits.{zero_row}

zero_below : (x : ℕ) → ltb x 1 ≡ eqb x 0
zero_below x = both (ltb x 1) (eqb x 0)
    (λ e. let l = ltb-true x 1 e in eq-eqb x 0 (omega arith))
    (λ e. let z = eqb-true x 0 e in lt-ltb x 1 (omega arith))

pub zero_narrow : (fs : List ℕ) (at : ℕ) → narrow_row fs at 1 ≡ zero_row fs at
unfolding zero_row
zero_narrow fs at = all_same (λ n. ltb (get_or fs (at + n) 0) 1) (λ n. eqb (get_or fs (at + n) 0) 0) 8 (λ n l. zero_below (get_or fs (at + n) 0))
