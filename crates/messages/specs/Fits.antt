-- Whether a field area is a message of a kind, part by part, as the writer tests it: a part that the kind has fits its fields and passes its own test, one that it does not have is 0.
-- That this is `narrow` and `well_formed` is proved in proofs/Fits. Assumes nothing.
use Rattle.std.specs.Prelude.{ℕ, ◌+◌, ◌%◌, ◌^◌, Bool, cond, ◌&&◌, List, eqb, ltb, get_or}
use Rattle.below.specs.Below.{all_below}
use Rattle.views.specs.Views.{view_ok}
use Rattle.views.specs.Cuts.{cut_ok}
use Rattle.messages.specs.Layouts.{has_number, has_view, has_cut, has_set, place_fits, word_fits}
use Rattle.messages.specs.Fields.{message_of, narrow_starts, narrow_counts}

-- a number that must be below top where the kind has it, and 0 where not
abbrev pub below_or_zero : Bool → ℕ → ℕ → Bool
below_or_zero has top x = cond has (ltb x top) (eqb x 0)

-- number, place, word and set
unfoldable pub numbers_fit : List ℕ → ℕ → Bool
numbers_fit fs k =
    below_or_zero (has_number k) (2 ^ 32) (get_or fs 1 0)
    && (place_fits k (get_or fs 3 0) (get_or fs 4 0) && (word_fits k (get_or fs 5 0) && below_or_zero (has_set k) 256 (get_or fs 2 0)))

-- eight fields that are 0
unfoldable pub zero_row : List ℕ → ℕ → Bool
zero_row fs at = all_below (λ n. eqb (get_or fs (at + n) 0) 0) 8

unfoldable pub cut_fields_fit : List ℕ → ℕ → Bool
cut_fields_fit fs k = cond (has_cut k) (narrow_counts fs && cut_ok (get_or fs 7 0 % 256) (message_of fs).cut) (zero_row fs 16)

-- the view's numbers fit their fields
unfoldable pub narrow_view : List ℕ → Bool
narrow_view fs = ltb (get_or fs 6 0) (2 ^ 32) && (ltb (get_or fs 7 0) 256 && narrow_starts fs)

unfoldable pub view_fields_fit : List ℕ → ℕ → Bool
view_fields_fit fs k = cond (has_view k) (narrow_view fs && view_ok (message_of fs).view) (eqb (get_or fs 6 0) 0 && (eqb (get_or fs 7 0) 0 && zero_row fs 8))

-- all parts: the fields are a message of kind k
unfoldable pub fields_are : List ℕ → ℕ → Bool
fields_are fs k = numbers_fit fs k && (cut_fields_fit fs k && view_fields_fit fs k)
