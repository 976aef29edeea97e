-- "Spent." Assumes nothing.
use Rattle.std.specs.Prelude.{ℕ, Bool, not, ◌&&◌, ◌||◌, eqb, ltb, leb}
use Rattle.views.specs.declared.View.{View}
use Rattle.views.specs.Views.{start_of, same}
use Rattle.slots.specs.declared.spending.Standing.{Standing}

-- "A view that isn't current is spent when its id is at most the current id, or its start number for p is below the latest, or equal to it with no change pending."
unfoldable pub spent_by : ℕ → View → ℕ → Bool → View → Bool
spent_by p current latest pending v =
    not (same v current)
    && (leb v.id current.id || (ltb (start_of v p) latest || (eqb (start_of v p) latest && not pending)))

-- the same of what the code holds a view against
abbrev pub spent_at : Standing → View → Bool
spent_at at v = spent_by at.me at.current at.latest at.pending v
