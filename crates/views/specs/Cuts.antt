-- "A cut holds, per sender, a count 0 to 128."
-- Assumes nothing.
use Rattle.std.specs.Prelude.{ℕ, Bool, cond, eqb, leb, get_or, replicate}
use Rattle.below.specs.Below.{all_below}
use Rattle.views.specs.Sets.{has}
use Rattle.views.specs.declared.Cut.{Cut}

-- no cut: what stands where there is none
abbrev pub no_cut : Cut
no_cut = record { counts = replicate 8 0 }

-- the count of sender n in a cut
unfoldable pub count_of : Cut → ℕ → ℕ
count_of c n = get_or c.counts n 0

-- a member's count is 0 to 128, a non-member's 0
abbrev pub count_fits : Bool → ℕ → Bool
count_fits member count = cond member (leb count 128) (eqb count 0)

-- a cut is well formed for its view's set
unfoldable pub cut_ok : ℕ → Cut → Bool
cut_ok set c = all_below (λ n. count_fits (has set n) (get_or c.counts n 0)) 8
