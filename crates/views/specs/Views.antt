-- "A view is an id, a set and eight start numbers (ids and numbers 32 bits)."
-- Assumes nothing; the ranges are the code's types.
use Rattle.std.specs.Prelude.{ℕ, Bool, not, cond, ◌&&◌, List, eqb, get_or, replicate}
use Rattle.below.specs.Below.{all_below}
use Rattle.views.specs.Sets.{has, size, only}
use Rattle.views.specs.declared.View.{View}

-- no view: what stands where there is none
abbrev pub no_view : View
no_view = record { starts = replicate 8 0; id = 0; set = 0 }

-- "that member's initial view": id 0, exactly one member, all start numbers 0
abbrev pub initial : ℕ → View
initial p = record { starts = replicate 8 0; id = 0; set = only p }

-- the start number of member n in a view
unfoldable pub start_of : View → ℕ → ℕ
start_of v n = get_or v.starts n 0

-- "all start numbers 0"
unfoldable pub all_zero : List ℕ → Bool
all_zero xs = all_below (λ n. eqb (get_or xs n 0) 0) 8

-- a member's start number is at least 1, a non-member's 0
abbrev pub start_fits : Bool → ℕ → Bool
start_fits member start = cond member (not (eqb start 0)) (eqb start 0)

-- "each member's start number at least 1", and "non-members have start number 0"
unfoldable pub starts_fit : ℕ → List ℕ → Bool
starts_fit set starts = all_below (λ n. start_fits (has set n) (get_or starts n 0)) 8

-- "Well formed: either id 0, exactly one member, all start numbers 0 (that member's initial view); or id at least 1, a non-empty set, each member's start number at least 1."
unfoldable pub view_ok : View → Bool
view_ok v = cond (eqb v.id 0) (eqb (size v.set) 1 && all_zero v.starts) (not (eqb v.set 0) && starts_fit v.set v.starts)

unfoldable pub starts_same : List ℕ → List ℕ → Bool
starts_same a b = all_below (λ n. eqb (get_or a n 0) (get_or b n 0)) 8

-- "Two views are the same only if all three parts are."
unfoldable pub same : View → View → Bool
same a b = eqb a.id b.id && (eqb a.set b.set && starts_same a.starts b.starts)
