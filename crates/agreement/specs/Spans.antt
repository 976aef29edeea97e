-- The words due as a span: word i is due above the mark where `apt` holds and `floor` < i ≤ p's cut. Assumes nothing.
use Rattle.std.specs.Prelude.{ℕ, ◌+◌, max, min, Bool, true, not, cond, ◌&&◌, List, eqb, ltb, leb, get_or}
use Rattle.below.specs.Below.{all_below, largest_below, list_below}
use Rattle.views.specs.declared.Cut.{Cut}
use Rattle.views.specs.Sets.{has}
use Rattle.views.specs.Cuts.{count_of}
use Rattle.agreement.specs.declared.Row.{Row}
use Rattle.agreement.specs.Due.{forward_mark}

-- whether words of r may be due from p to q at all
unfoldable pub apt : (ℕ → Bool) → ℕ → ℕ → ℕ → ℕ → Bool
apt in_t members p q r = (has members r && not (in_t r)) && (in_t p && (in_t q && not (eqb p q)))

-- the largest count for r among the members of T below p
unfoldable pub lower : (ℕ → Bool) → (ℕ → ℕ → ℕ) → ℕ → ℕ → ℕ
lower in_t cut p r = largest_below (λ k. cond (in_t k) (cut k r) 0) p

-- up to here no word of r is due from p to q above the mark
unfoldable pub floor : (ℕ → Bool) → (ℕ → ℕ → ℕ) → ℕ → List Row → ℕ → ℕ → ℕ
floor in_t cut p rows q r = max (max (lower in_t cut p r) (cut q r)) (forward_mark rows q r)

-- a member's count for each sender r of which words may be due, no more than 128: 0 for another
unfoldable pub highs : ℕ → ℕ → Cut → Cut
highs set members own = record { counts = list_below (λ r. cond (has members r && not (has set r)) (min (count_of own r) 128) 0) 8 }

-- no word is due from p to q above q's marks, by the counts that p's words must exceed, p's own, and q's cut
unfoldable pub none_to : ℕ → ℕ → Cut → Cut → ℕ → Cut → Row → Bool
none_to set p low high q cut row =
    cond (has set q && not (eqb p q))
    (all_below (λ r. leb (count_of high r) (max (max (count_of low r) (count_of cut r)) (get_or row.marks r 0))) 8)
    true

-- word k + 1 is held and in the span
unfoldable pub spanned : ℕ → ℕ → (ℕ → Bool) → ℕ → Bool
spanned low high held k = (ltb low (k + 1) && leb (k + 1) high) && held (k + 1)
