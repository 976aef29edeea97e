-- "Due.": over who is in T and each member's cut. And the forward marks. Assumes nothing.
use Rattle.std.specs.Prelude.{ℕ, ◌+◌, Bool, not, ◌&&◌, List, eqb, ltb, leb, get_or, replicate}
use Rattle.below.specs.Below.{all_below, none_below, first_below}
use Rattle.views.specs.Sets.{has}
use Rattle.agreement.specs.declared.Row.{Row}

-- "Word i of r (r in the current view, not in T) is due from p to q (both in T, not the same) when q's cut for r is below i, p's is at least i, and no lower-numbered member of T has a cut of at least i."
unfoldable pub due : (ℕ → Bool) → (ℕ → ℕ → ℕ) → ℕ → ℕ → ℕ → ℕ → ℕ → Bool
due in_t cut members p q r i =
    (has members r && not (in_t r))
    && ((in_t p && (in_t q && not (eqb p q)))
    && (ltb (cut q r) i && (leb i (cut p r) && none_below (λ k. in_t k && leb i (cut k r)) p)))

-- forward marks all 0
abbrev pub no_marks : Row
no_marks = record { marks = replicate 8 0 }

-- "a table of eight rows of eight forward marks": destination by sender
unfoldable pub forward_mark : List Row → ℕ → ℕ → ℕ
forward_mark rows q r = get_or (get_or rows q no_marks).marks r 0

-- word i of r is due from p to q, above the mark
unfoldable pub due_above : (ℕ → Bool) → (ℕ → ℕ → ℕ) → ℕ → ℕ → List Row → ℕ → ℕ → ℕ → Bool
due_above in_t cut members p rows q r i = due in_t cut members p q r i && ltb (forward_mark rows q r) i

-- the lowest held one, less 1: 128 where there is none
unfoldable pub lowest_due : (ℕ → Bool) → (ℕ → ℕ → ℕ) → ℕ → ℕ → List Row → (ℕ → Bool) → ℕ → ℕ → ℕ
lowest_due in_t cut members p rows held q r = first_below (λ k. due_above in_t cut members p rows q r (k + 1) && held (k + 1)) 128

-- 12: "a due word has not been forwarded"
unfoldable pub owes : (ℕ → Bool) → (ℕ → ℕ → ℕ) → ℕ → ℕ → List Row → Bool
owes in_t cut members p rows = not (all_below (λ q. all_below (λ r. none_below (λ k. due_above in_t cut members p rows q r (k + 1)) 128) 8) 8)
