-- What sound asks of the other senders: their announced views and received counts. Assumes nothing.
use Rattle.std.specs.Prelude.{ℕ, Bool, ◌&&◌, ◌||◌, List, eqb, ltb, leb, get_or}
use Rattle.below.specs.Below.{all_below}
use Rattle.views.specs.declared.View.{View}
use Rattle.views.specs.Views.{initial, view_ok, same}
use Rattle.slots.specs.declared.Tag.{Tag}
use Rattle.slots.specs.Slots.{slot_in}
use Rattle.slots.specs.Spent.{spent_by}

-- an announced view of positive id that is neither current nor spent has a slot
unfoldable pub placed : ℕ → View → ℕ → Bool → List Tag → View → Bool
placed p current latest pending tags v =
    eqb v.id 0 || (same v current || (spent_by p current latest pending v || ltb (slot_in tags v) 4))

-- what is asked of another sender's announced view and received count
unfoldable pub other_fits : ℕ → View → ℕ → Bool → List Tag → View → ℕ → Bool
other_fits p current latest pending tags v count = view_ok v && (leb count 128 && placed p current latest pending tags v)

unfoldable pub others_fit : ℕ → View → ℕ → Bool → List Tag → List View → List ℕ → Bool
others_fit p current latest pending tags heard received =
    all_below (λ q. eqb q p || other_fits p current latest pending tags (get_or heard q (initial q)) (get_or received q 0)) 8
