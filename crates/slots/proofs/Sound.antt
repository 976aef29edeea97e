-- The one test of slots is the tests that Slots has, taken one by one.
-- Assumes nothing.
use Prim.Native.Nat.{ℕ, zero, suc}
use mathlib.Core.Bool.{Bool, true, false, not, cond, ◌&&◌}
use mathlib.Core.Path.{◌≡◌, refl, ◌∙◌}
use lib.Dec.{leb}
use Rattle.below.specs.Below.{all_below}
use Rattle.below.proofs.All.{all_same}
use Rattle.views.specs.declared.View.{View}
use Rattle.views.specs.Views.{view_ok}
use Rattle.marks.specs.Marks.{no_gap_in}
use Rattle.slots.specs.declared.Slots.{Slots}
use Rattle.slots.specs.Slots.{tag_at, marks_at, used, all_used, slots_differ, no_gaps}
use Rattle.slots.specs.Spent.{spent_by}
use Rattle.slots.specs.Fit.{slot_fits, slots_fit}

swap : (a b c d : Bool) → ((a && b) && (c && d)) ≡ ((a && c) && (b && d))
swap true true c d = refl
swap true false true d = refl
swap true false false d = refl
swap false b c d = refl

-- two tests of each number are a test of each, twice
all_and : (f g : ℕ → Bool) (n : ℕ) → all_below (λ k. f k && g k) n ≡ (all_below f n && all_below g n)
unfolding all_below
all_and f g zero = refl
all_and f g (suc n) = rw (all_and f g n) (swap (all_below f n) (all_below g n) (f n) (g n))

asked_and : (u a b c : Bool) → cond u (a && (b && c)) true ≡ (cond u a true && (cond u b true && cond u c true))
asked_and true a b c = refl
asked_and false a b c = refl

regroup : (a b c d e : Bool) → ((a && (b && (c && d))) && e) ≡ (a && (b && (c && (d && e))))
regroup true true true d e = refl
regroup true true false d e = refl
regroup true false c d e = refl
regroup false b c d e = refl

module _ (p : ℕ) (current : View) (latest : ℕ) (pending : Bool) (ss : Slots) where
  abbrev flag : ℕ → Bool
  flag s = leb (tag_at ss s).used 1

  abbrev formed : ℕ → Bool
  formed s = cond (used ss s) (view_ok (tag_at ss s).view) true

  abbrev kept : ℕ → Bool
  kept s = cond (used ss s) (not (spent_by p current latest pending (tag_at ss s).view)) true

  abbrev gapless : ℕ → Bool
  gapless s = cond (used ss s) (no_gap_in (marks_at ss s) p) true

  fits_parts : (s : ℕ) → slot_fits p current latest pending ss s ≡ (flag s && (formed s && (kept s && gapless s)))
  unfolding slot_fits
  fits_parts s =
      rw (asked_and (used ss s) (view_ok (tag_at ss s).view) (not (spent_by p current latest pending (tag_at ss s).view)) (no_gap_in (marks_at ss s) p))

  all_parts : all_below (slot_fits p current latest pending ss) 4 ≡ (all_below flag 4 && (all_below formed 4 && (all_below kept 4 && all_below gapless 4)))
  all_parts =
      all_same (slot_fits p current latest pending ss) (λ s. flag s && (formed s && (kept s && gapless s))) 4 (λ s l. fits_parts s)
      ∙ rw (all_and flag (λ s. formed s && (kept s && gapless s)) 4, all_and formed (λ s. kept s && gapless s) 4, all_and kept gapless 4)

  pub fit_parts : slots_fit p current latest pending ss
      ≡ (all_below (λ s. leb (tag_at ss s).used 1) 4
      && (all_used view_ok ss && (all_used (λ v. not (spent_by p current latest pending v)) ss && (no_gaps ss p && slots_differ ss))))
  unfolding slots_fit all_used no_gaps
  fit_parts = rw all_parts (regroup (all_below flag 4) (all_below formed 4) (all_below kept 4) (all_below gapless 4) (slots_differ ss))
