-- The needs of the code that looks for what is due: the first held word of a span, by a loop; none due to one member, by the largest counts; none due at all.
-- Assumes nothing.
use Prim.Native.Nat.{ℕ, ◌+◌, ◌≤◌, ◌<◌, max, min}
use native.Mathlib.Omega.{arith}
use mathlib.Core.Bool.{Bool, true, false, not, cond, ◌&&◌, and-false}
use mathlib.Core.List.{List}
use mathlib.Core.Path.{◌≡◌, refl, sym, ap, ◌∙◌}
use lib.Dec.{eqb, ltb, leb}
use lib.ListN.{get_or, length}
use borrow.Author.Tests.{le-leb, lt-leb, lt-ltb, le-ltb, ltb-true, ltb-false}
use Rattle.std.specs.Prelude.{Some, None}
use Rattle.below.specs.Below.{all_below, none_below, first_below, found}
use Rattle.below.proofs.Run.{find_stop, find_more}
use Rattle.below.proofs.Tests.{not_is}
use Rattle.below.proofs.All.{all_of, all_each, all_same}
use Rattle.below.proofs.First.{first_is}
use Rattle.below.proofs.Lists.{list_at}
use Rattle.views.specs.declared.Cut.{Cut}
use Rattle.views.specs.Sets.{has}
use Rattle.views.specs.Cuts.{no_cut, count_of}
use Rattle.agreement.specs.declared.Agreement.{Agreement}
use Rattle.agreement.specs.declared.Row.{Row}
use Rattle.agreement.specs.Agreement.{agrees, cut_in}
use Rattle.agreement.specs.Due.{no_marks, forward_mark, due_above, lowest_due, owes}
use Rattle.agreement.specs.Spans.{apt, lower, floor, highs, none_to, spanned}
use Rattle.agreement.specs.Tops.{higher, tops, cut_or_none}
use Rattle.agreement.proofs.Rows.{read_any}
use Rattle.agreement.proofs.Largest.{higher_at, lower_is}
use Rattle.agreement.proofs.Due.{none_due_lem, lowest_span, lowest_none}

-- ---- `for k in low..high { if held(k + 1) { return Some(k); } } None`

module _ (low high : ℕ) (held : ℕ → Bool) where
  pub span_none : none_below (spanned low high held) low ≡ true
  unfolding none_below spanned
  span_none = all_of (λ k. not ((ltb low (k + 1) && leb (k + 1) high) && held (k + 1))) low (λ k l. rw (le-ltb low (k + 1) (omega arith)))

  -- in the span a word counts where it is held
  span_here : (k : ℕ) → low ≤ k → k < high → spanned low high held k ≡ held (k + 1)
  unfolding spanned
  span_here k a b = rw (lt-ltb low (k + 1) (omega arith), le-leb (k + 1) high (omega arith))

  module _ (k : ℕ) (e : none_below (spanned low high held) k ≡ true) where
    pub span_found : (b : Bool) → low ≤ k → k < high → high ≤ 128 → b ≡ held (k + 1) → b ≡ true → Some k ≡ found 128 (first_below (spanned low high held) 128)
    span_found b l h c q t =
        let at : k ≡ first_below (spanned low high held) 128 = find_stop (spanned low high held) 128 k b e t (q ∙ sym (span_here k l h)) (omega arith) in
        rw (← at, lt-ltb k 128 (omega arith)) refl

    pub span_more : (b : Bool) → low ≤ k → k < high → b ≡ held (k + 1) → b ≡ false → none_below (spanned low high held) (k + 1) ≡ true
    span_more b l h q t = find_more (spanned low high held) 128 k b e t (q ∙ sym (span_here k l h))

    pub span_end : high ≤ k → high ≤ 128 → None ≡ found 128 (first_below (spanned low high held) 128)
    unfolding none_below spanned
    span_end a b =
        let end : first_below (spanned low high held) 128 ≡ 128 = first_is (spanned low high held) 128 128 (omega arith) (λ j l. go j (ltb j k) refl) (λ l. absurd (omega arith)) in
        rw end refl
      where
        go : (j : ℕ) (t : Bool) → ltb j k ≡ t → spanned low high held j ≡ false
        go j true q = not_is (spanned low high held j) (all_each (λ i. not (spanned low high held i)) k j (ltb-true j k q) e)
        go j false q = rw (lt-leb (j + 1) high (omega (arith, ltb-false j k q)), and-false (ltb low (j + 1)))

-- ---- none due

module _ (a : Agreement) (members p : ℕ) (rows : List Row) (mine : agrees a p ≡ true) where
  abbrev most : Cut
  most = highs a.set members (get_or a.cuts p no_cut)

  abbrev least : Cut
  least = tops (cut_or_none a) p

  abbrev none_due : ℕ → ℕ → Bool
  none_due q r = none_below (λ k. due_above (agrees a) (cut_in a) members p rows q r (k + 1)) 128

  abbrev within : ℕ → ℕ → Bool
  within q r = leb (count_of most r) (max (max (count_of least r) (count_of (get_or a.cuts q no_cut) r)) (get_or (get_or rows q no_marks).marks r 0))

  high_is : (r : ℕ) → r < 8 → count_of most r ≡ cond (has members r && not (has a.set r)) (min (cut_in a p r) 128) 0
  unfolding highs count_of cut_in
  high_is r l = list_at (λ r. cond (has members r && not (has a.set r)) (min (count_of (get_or a.cuts p no_cut) r) 128) 0) 8 r 0 l

  pub none_to_is : (q : ℕ) → none_to a.set p least most q (get_or a.cuts q no_cut) (get_or rows q no_marks) ≡ all_below (none_due q) 8
  unfolding none_to apt floor forward_mark agrees cut_in
  none_to_is q = go (has a.set q && not (eqb p q)) refl
    where
      pick : (x y : Bool) (n m : ℕ) → cond (x && (true && y)) (leb n m) true ≡ cond y (leb (cond x n 0) m) true
      pick true y n m = refl
      pick false true n m = sym (le-leb 0 m (omega arith))
      pick false false n m = refl

      each : (r : ℕ) → r < 8 → (b : Bool) → (has a.set q && not (eqb p q)) ≡ b → none_due q r ≡ cond b (within q r) true
      each r l b e =
          none_due_lem (agrees a) (cut_in a) members p rows q r
          ∙ rw (mine, e, high_is r l, lower_is a p r l)
          (pick (has members r && not (has a.set r)) b (min (cut_in a p r) 128) (max (max (lower (agrees a) (cut_in a) p r) (cut_in a q r)) (get_or (get_or rows q no_marks).marks r 0)))

      go : (b : Bool) → (has a.set q && not (eqb p q)) ≡ b → cond b (all_below (within q) 8) true ≡ all_below (none_due q) 8
      go true e = sym (all_same (none_due q) (within q) 8 (λ r l. each r l true e))
      go false e = sym (all_of (none_due q) 8 (λ r l. each r l false e))

  pub owes_some : (low high : Cut) (ok : Bool) → low ≡ least → high ≡ most → ok ≡ all_below (λ q. none_to a.set p low high q (get_or a.cuts q no_cut) (get_or rows q no_marks)) 8 → not ok ≡ owes (agrees a) (cut_in a) members p rows
  unfolding owes
  owes_some low high ok l h e =
      let f : ok ≡ all_below (λ q. none_to a.set p least most q (get_or a.cuts q no_cut) (get_or rows q no_marks)) 8 = rw (l, h) at e in
      ap not (f ∙ all_same (λ q. none_to a.set p least most q (get_or a.cuts q no_cut) (get_or rows q no_marks)) (λ q. all_below (none_due q) 8) 8 (λ q l. none_to_is q))

-- ---- the lowest, from what the callees gave

pub floor_is : (a : Agreement) (p : ℕ) (rows : List Row) (q r : ℕ) (low d : Cut) (e : Row) → q < 8 → r < 8 → length a.cuts ≡ 8 → length rows ≡ 8 → low ≡ tops (cut_or_none a) p
    → max (max (count_of low r) (count_of (get_or a.cuts q d) r)) (get_or (get_or rows q e).marks r 0) ≡ floor (agrees a) (cut_in a) p rows q r
unfolding floor cut_in forward_mark
floor_is a p rows q r low d e lq l w v f = rw (f, lower_is a p r l, read_any a.cuts q d no_cut (omega arith), read_any rows q e no_marks (omega arith)) refl

module _ (a : Agreement) (members p : ℕ) (rows : List Row) (q r : ℕ) where
  pub lowest_is : (held : ℕ → Bool) (low : ℕ) (d : Cut) → p < 8 → length a.cuts ≡ 8 → apt (has a.set) members p q r ≡ true → low ≡ floor (agrees a) (cut_in a) p rows q r
      → found 128 (first_below (spanned low (min (count_of (get_or a.cuts p d) r) 128) held) 128) ≡ found 128 (lowest_due (agrees a) (cut_in a) members p rows held q r)
  unfolding cut_in agrees
  lowest_is held low d lp w t e =
      ap (found 128) (lowest_span (agrees a) (cut_in a) members p rows q r held (first_below (spanned low (min (count_of (get_or a.cuts p d) r) 128) held) 128) t
      (rw (e, read_any a.cuts p d no_cut (omega arith)) refl))

  pub lowest_out : (held : ℕ → Bool) → apt (has a.set) members p q r ≡ false → None ≡ found 128 (lowest_due (agrees a) (cut_in a) members p rows held q r)
  unfolding agrees
  lowest_out held t = let e : 128 ≡ lowest_due (agrees a) (cut_in a) members p rows held q r = lowest_none (agrees a) (cut_in a) members p rows q r held t in rw (← e) refl

-- ---- none due to one member: x and y are what the code found the larger counts to be

module _ (set p q : ℕ) (low high cut : Cut) (row : Row) where
  pub none_over : (x y : Cut) (b : Bool) → (has set q && not (eqb p q)) ≡ true → x ≡ higher low cut → y ≡ higher x (record { counts = row.marks }) → b ≡ all_below (λ r. leb (count_of high r) (count_of y r)) 8 → b ≡ none_to set p low high q cut row
  unfolding none_to count_of
  none_over x y b t e f g =
      rw t
      (g ∙ all_same (λ r. leb (count_of high r) (count_of y r)) (λ r. leb (count_of high r) (max (max (count_of low r) (count_of cut r)) (get_or row.marks r 0))) 8 each)
    where
      each : (r : ℕ) → r < 8 → leb (count_of high r) (count_of y r) ≡ leb (count_of high r) (max (max (count_of low r) (count_of cut r)) (get_or row.marks r 0))
      each r l = rw (f, higher_at x (record { counts = row.marks }) r l, e, higher_at low cut r l) (at_row r)
        where
          at_row : (r : ℕ) → leb (count_of high r) (max (max (count_of low r) (count_of cut r)) (count_of (record { counts = row.marks }) r)) ≡ leb (count_of high r) (max (max (count_of low r) (count_of cut r)) (get_or row.marks r 0))
          at_row r = refl
