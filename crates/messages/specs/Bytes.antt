-- Numbers in bytes, "little-endian", of any width; rows of eight; the view body; a cut's counts.
-- Assumes nothing.
use Rattle.std.specs.Prelude.{ℕ, zero, suc, ◌+◌, ◌*◌, ◌/◌, ◌%◌, List, [], ◌∷◌, ◌++◌, get_or}
use Rattle.below.specs.Below.{join_below, list_below}
use Rattle.views.specs.declared.View.{View}
use Rattle.views.specs.declared.Cut.{Cut}

-- the w bytes of x, lowest first
unfoldable pub le : ℕ → ℕ → List ℕ
le zero x = []
le (suc w) x = x % 256 ∷ le w (x / 256)

-- the number in the w bytes from at on
unfoldable pub number_at : ℕ → List ℕ → ℕ → ℕ
number_at zero bs at = 0
number_at (suc w) bs at = get_or bs at 0 + 256 * number_at w bs (at + 1)

-- eight numbers of w bytes each
unfoldable pub row : ℕ → List ℕ → List ℕ
row w xs = join_below (λ n. le w (get_or xs n 0)) 8

unfoldable pub row_at : ℕ → List ℕ → ℕ → List ℕ
row_at w bs at = list_below (λ n. number_at w bs (at + w * n)) 8

-- "View body: id 4, set 1, start numbers 8 × 4, so 37 bytes."
unfoldable pub view_body : View → List ℕ
view_body v = le 4 v.id ++ (le 1 v.set ++ row 4 v.starts)

unfoldable pub view_at : List ℕ → ℕ → View
view_at bs at = record { starts = row_at 4 bs (at + 5); id = number_at 4 bs at; set = number_at 1 bs (at + 4) }

-- "eight one-byte cuts"
unfoldable pub cut_bytes : Cut → List ℕ
cut_bytes c = row 1 c.counts

unfoldable pub cut_at : List ℕ → ℕ → Cut
cut_at bs at = record { counts = row_at 1 bs at }
