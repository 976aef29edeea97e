-- What the current view's outcome says of a view that is the same: it is as well formed, and it is not spent.
-- Assumes nothing.
use Prim.Native.Nat.{ℕ}
use mathlib.Core.Bool.{Bool, true, false, not, ◌&&◌, and-true}
use mathlib.Core.Path.{◌≡◌, sym, ap, ◌∙◌}
use lib.Dec.{eqb}
use lib.ListN.{get_or}
use Rattle.below.proofs.All.{all_same}
use Rattle.views.specs.declared.View.{View}
use Rattle.views.specs.Sets.{has}
use Rattle.views.specs.Views.{start_of, all_zero, start_fits, starts_fit, view_ok, same}
use Rattle.views.proofs.Sameness.{Same, same_parts}
use Rattle.slots.specs.Spent.{spent_by}

module _ (a b : View) (p : Same a b) where
  zero_same : all_zero a.starts ≡ all_zero b.starts
  unfolding all_zero start_of
  zero_same = all_same (λ n. eqb (get_or a.starts n 0) 0) (λ n. eqb (get_or b.starts n 0) 0) 8 (λ n l. ap (λ k. eqb k 0) (p.starts n l))

  fit_same : starts_fit b.set a.starts ≡ starts_fit b.set b.starts
  unfolding starts_fit start_of
  fit_same =
      all_same (λ n. start_fits (has b.set n) (get_or a.starts n 0)) (λ n. start_fits (has b.set n) (get_or b.starts n 0)) 8
      (λ n l. ap (start_fits (has b.set n)) (p.starts n l))

  ok_same : view_ok a ≡ view_ok b
  unfolding view_ok
  ok_same = rw (p.ids, p.sets, zero_same, fit_same)

-- ---- b is what comparing the views gave

module _ (v current : View) (b : Bool) (e : b ≡ same v current) (t : b ≡ true) where
  pub good_same : (good : Bool) → good ≡ view_ok current → good ≡ view_ok v
  good_same good g = g ∙ sym (ok_same v current (same_parts v current (sym e ∙ t)))

  pub spent_not : (p latest : ℕ) (pending : Bool) → false ≡ spent_by p current latest pending v
  unfolding spent_by
  spent_not p latest pending = rw (← e, t)

  pub kept_same : (good : Bool) → good ≡ view_ok current → (p latest : ℕ) (pending : Bool) → good ≡ (view_ok v && not (spent_by p current latest pending v))
  kept_same good g p latest pending = rw (← spent_not p latest pending, and-true) (good_same good g)
