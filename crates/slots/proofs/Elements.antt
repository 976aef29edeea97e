-- An element of an array is the same whatever stands past its end; so the tests of slots are, whatever the code takes to stand there: d for a tag, e for marks.
-- Assumes that the array has the element.
use Prim.Native.Nat.{ℕ, ◌<◌}
use native.Mathlib.Omega.{arith}
use mathlib.Core.Bool.{Bool, true, not, cond, ◌&&◌}
use mathlib.Core.List.{List, []}
use mathlib.Core.Path.{◌≡◌}
use lib.Dec.{eqb, leb}
use lib.ListN.{length, get_or}
use lib.Seq.{get_or-set_same, set-get_or}
use Rattle.below.specs.Below.{all_below}
use Rattle.below.proofs.All.{all_same}
use Rattle.views.specs.declared.View.{View}
use Rattle.views.specs.Views.{view_ok, same}
use Rattle.marks.specs.declared.Marks.{Marks}
use Rattle.marks.specs.Marks.{no_gap_in, no_marks}
use Rattle.slots.specs.declared.Tag.{Tag}
use Rattle.slots.specs.declared.Slots.{Slots}
use Rattle.slots.specs.Slots.{no_tag, tag_at, marks_at, used, differ_in}
use Rattle.slots.specs.Spent.{spent_by}
use Rattle.slots.specs.Fit.{slot_fits}

pub any : {A : Type 0} (l : List A) (k : ℕ) (d e : A) → k < length l → get_or l k d ≡ get_or l k e
any l k d e h = rw (set-get_or l k e) at (get_or-set_same l k (get_or l k e) d h)

-- what the code takes to stand past the end
abbrev pub past_tag : Tag
past_tag = record { view = record { starts = []; id = 0; set = 0 }; used = 0 }

abbrev pub past_marks : Marks
past_marks = record { rows = [] }

-- ---- the tests of one tag, and of two

abbrev pub for_view : View → Tag → Bool
for_view v t = eqb t.used 1 && same t.view v

abbrev pub alike_tags : Tag → Tag → Bool
alike_tags a b = eqb a.used 1 && (eqb b.used 1 && same a.view b.view)

abbrev pub fits_tag : ℕ → View → ℕ → Bool → Tag → Marks → Bool
fits_tag p current latest pending t m =
    leb t.used 1 && cond (eqb t.used 1) (view_ok t.view && (not (spent_by p current latest pending t.view) && no_gap_in m p)) true

module _ (tags : List Tag) (n : length tags ≡ 4) where
  at : (s : ℕ) → s < 4 → get_or tags s past_tag ≡ get_or tags s no_tag
  at s l = any tags s past_tag no_tag (omega arith)

  pub differ_any : all_below (λ s. all_below (λ t. not (alike_tags (get_or tags s past_tag) (get_or tags t past_tag))) s) 4 ≡ differ_in tags
  unfolding differ_in
  differ_any =
      all_same
      (λ s. all_below (λ t. not (alike_tags (get_or tags s past_tag) (get_or tags t past_tag))) s)
      (λ s. all_below (λ t. not (alike_tags (get_or tags s no_tag) (get_or tags t no_tag))) s) 4
      (λ s l. all_same
      (λ t. not (alike_tags (get_or tags s past_tag) (get_or tags t past_tag)))
      (λ t. not (alike_tags (get_or tags s no_tag) (get_or tags t no_tag))) s
      (λ t m. rw (at s l, at t (omega arith))))

module _ (p : ℕ) (current : View) (latest : ℕ) (pending : Bool) (ss : Slots) where
  pub fits_any : length ss.tags ≡ 4 → length ss.marks ≡ 4
      → all_below (λ s. fits_tag p current latest pending (get_or ss.tags s past_tag) (get_or ss.marks s past_marks)) 4
      ≡ all_below (slot_fits p current latest pending ss) 4
  unfolding slot_fits used tag_at marks_at
  fits_any a b =
      all_same
      (λ s. fits_tag p current latest pending (get_or ss.tags s past_tag) (get_or ss.marks s past_marks))
      (λ s. fits_tag p current latest pending (get_or ss.tags s no_tag) (get_or ss.marks s no_marks)) 4
      (λ s l. rw (any ss.tags s past_tag no_tag (omega arith), any ss.marks s past_marks no_marks (omega arith)))
