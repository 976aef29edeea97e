-- An element of an array is the same whatever stands past its end; so the tests of rows and of views are, whatever the code takes to stand there.
-- Assumes that the array has the element.
use Prim.Native.Nat.{ℕ}
use native.Mathlib.Omega.{arith}
use mathlib.Core.Bool.{Bool, true, false, not, cond, ◌&&◌, ◌||◌}
use mathlib.Core.List.{List, []}
use mathlib.Core.Path.{◌≡◌, refl, sym, ap, ◌∙◌}
use lib.Dec.{eqb, ltb, leb}
use lib.ListN.{length, get_or}
use borrow.Author.Tests.{eq-eqb, ne_eqb}
use Rattle.below.specs.Below.{all_below}
use Rattle.below.proofs.All.{all_same}
use Rattle.below.proofs.Tests.{clash}
use Rattle.views.specs.declared.View.{View}
use Rattle.views.specs.Views.{initial, view_ok, same}
use Rattle.std.specs.Prelude.{Option}
use Rattle.std.specs.Option.{is_some}
use Rattle.below.specs.Below.{found}
use Rattle.slots.proofs.Searches.{found_told}
use Rattle.slots.proofs.Elements.{any}
use Rattle.slots.proofs.Current.{good_same}
use Rattle.slots.specs.declared.Tag.{Tag}
use Rattle.slots.specs.Slots.{slot_in}
use Rattle.slots.specs.Spent.{spent_by}
use Rattle.agreement.specs.declared.Row.{Row}
use Rattle.agreement.specs.Due.{no_marks}
use Rattle.parts.specs.Others.{placed, other_fits, others_fit}
use Rattle.parts.specs.Counts.{row_fits, rows_fit}

abbrev pub past_row : Row
past_row = record { marks = [] }

abbrev pub past_view : View
past_view = record { starts = []; id = 0; set = 0 }

pub rows_any : (rows : List Row) → length rows ≡ 8 → all_below (λ q. row_fits (get_or rows q past_row)) 8 ≡ rows_fit rows
unfolding rows_fit
rows_any rows n =
    all_same (λ q. row_fits (get_or rows q past_row)) (λ q. row_fits (get_or rows q no_marks)) 8 (λ q l. ap row_fits (any rows q past_row no_marks (omega arith)))

module _ (p : ℕ) (current : View) (latest : ℕ) (pending : Bool) (tags : List Tag) (heard : List View) (received : List ℕ) where
  pub others_any : length heard ≡ 8
      → all_below (λ q. eqb q p || other_fits p current latest pending tags (get_or heard q past_view) (get_or received q 0)) 8
      ≡ others_fit p current latest pending tags heard received
  unfolding others_fit
  others_any n =
      all_same (λ q. eqb q p || other_fits p current latest pending tags (get_or heard q past_view) (get_or received q 0))
      (λ q. eqb q p || other_fits p current latest pending tags (get_or heard q (initial q)) (get_or received q 0)) 8
      (λ q l. ap (λ v. eqb q p || other_fits p current latest pending tags v (get_or received q 0)) (any heard q past_view (initial q) (omega arith)))

-- ---- one other sender: a current view is as good as the current one; the slots are searched only for a view that is neither initial, current nor spent

module _ (p : ℕ) (current : View) (latest : ℕ) (pending : Bool) (tags : List Tag) (v : View) where
  -- what is asked of the announced view
  abbrev view_fits : Bool
  view_fits = view_ok v && placed p current latest pending tags v

  -- b is what comparing the views gave
  module _ (b : Bool) (e : b ≡ same v current) where
    pub fits_current : b ≡ true → (good : Bool) → good ≡ view_ok current → good ≡ view_fits
    unfolding placed
    fits_current t good g = rw (← good_same v current b e t good g, ← e, t) (go good (eqb v.id 0))
      where
        go : (g i : Bool) → g ≡ (g && (i || true))
        go true true = refl
        go true false = refl
        go false i = refl

    -- w is what testing the view gave, i whether it is initial or spent
    module _ (t : b ≡ false) (w : Bool) (f : w ≡ view_ok v) (h : w ≡ true) (i : Bool) (g : i ≡ (eqb v.id 0 || spent_by p current latest pending v)) where
      pub fits_idle : i ≡ true → i ≡ view_fits
      unfolding placed
      fits_idle k = rw (← f, h, ← e, t) (go i (eqb v.id 0) (spent_by p current latest pending v) (ltb (slot_in tags v) 4) k g)
        where
          go : (i z s x : Bool) → i ≡ true → i ≡ (z || s) → i ≡ (true && (z || (s || x)))
          go i true s x k q = k
          go i false true x k q = k
          go i false false x k q = clash k q

      pub fits_slot : i ≡ false → (o : Option ℕ) → o ≡ found 4 (slot_in tags v) → is_some o ≡ view_fits
      unfolding placed
      fits_slot k o q = rw (← f, h, ← e, t, q, found_told 4 (slot_in tags v)) (go (eqb v.id 0) (spent_by p current latest pending v) (ltb (slot_in tags v) 4) (sym g ∙ k))
        where
          go : (z s x : Bool) → (z || s) ≡ false → x ≡ (true && (z || (s || x)))
          go true s x k = clash refl k
          go false true x k = clash refl k
          go false false x k = refl

  pub other_low : (count : ℕ) (x : Bool) → x ≡ view_fits → x ≡ true → leb count 128 ≡ other_fits p current latest pending tags v count
  unfolding other_fits
  other_low count x e t = go (view_ok v) (placed p current latest pending tags v) (leb count 128) (sym e ∙ t)
    where
      go : (a b c : Bool) → (a && b) ≡ true → c ≡ (a && (c && b))
      go true true true h = refl
      go true true false h = refl
      go true false c h = clash h refl
      go false b c h = clash h refl

  pub other_ill : (count : ℕ) (x : Bool) → x ≡ view_fits → x ≡ false → x ≡ other_fits p current latest pending tags v count
  unfolding other_fits
  other_ill count x e t = t ∙ go (view_ok v) (placed p current latest pending tags v) (leb count 128) (sym e ∙ t)
    where
      go : (a b c : Bool) → (a && b) ≡ false → false ≡ (a && (c && b))
      go true true c h = clash refl h
      go true false true h = refl
      go true false false h = refl
      go false b c h = refl

-- ---- one number of the loop: own where it is p's, r what the test of another gave

module _ (q p : ℕ) (x : Bool) where
  pub own_fits : q ≡ p → (eqb q p || x) ≡ true
  own_fits e = rw (eq-eqb q p e)

  pub one_fits : (r : Bool) → r ≡ x → r ≡ true → (eqb q p || x) ≡ true
  one_fits r e t = rw (← e, t) (go (eqb q p))
    where
      go : (b : Bool) → (b || true) ≡ true
      go true = refl
      go false = refl

  pub one_fails : (q ≡ p → ⊥) → (r : Bool) → r ≡ x → r ≡ false → (eqb q p || x) ≡ false
  one_fails d r e t = rw (ne_eqb q p d, ← e, t)

-- the count of one sender, told without a branch: b is whether it is a member
pub least_is : (b m l : Bool) → b ≡ m → (not b || l) ≡ cond m l true
least_is b true l e = rw e
least_is b false l e = rw e
