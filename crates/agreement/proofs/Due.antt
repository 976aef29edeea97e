-- A word above the mark is due where `apt` holds and it stands in its span. So one comparison says whether any word of a sender is due to a member, and the lowest is the first in the span.
-- Assumes nothing.
use Prim.Native.Nat.{ℕ, ◌+◌, ◌<◌, max, min}
use native.Mathlib.Omega.{arith}
use mathlib.Core.Bool.{Bool, true, false, not, cond, ◌&&◌, and-false}
use mathlib.Core.List.{List}
use mathlib.Core.Logic.{⊎_elim}
use mathlib.Core.Path.{◌≡◌, refl, sym, ap, ◌∙◌}
use lib.Dec.{eqb, ltb, leb}
use Rattle.below.specs.Below.{all_below, none_below, largest_below, first_below}
use Rattle.below.proofs.All.{all_of}
use Rattle.below.proofs.First.{first_same, first_is}
use Rattle.below.proofs.Tests.{clash, side}
use Rattle.views.specs.Sets.{has}
use Rattle.views.proofs.Members.{has_above}
use Rattle.agreement.specs.declared.Row.{Row}
use Rattle.agreement.specs.Due.{due, forward_mark, due_above, lowest_due, owes}
use Rattle.agreement.specs.Spans.{apt, lower, floor, spanned}
use Rattle.agreement.proofs.Numbers.{ltb_max, none_largest, none_span, none_same, leb_min}

shuffle : (A B x h n m : Bool) → ((A && (B && (x && (h && n)))) && m) ≡ ((A && B) && (((n && x) && m) && h))
shuffle false B x h n m = refl
shuffle true false x h n m = refl
shuffle true true false h true m = refl
shuffle true true false h false m = refl
shuffle true true true true true true = refl
shuffle true true true true true false = refl
shuffle true true true true false m = refl
shuffle true true true false true true = refl
shuffle true true true false true false = refl
shuffle true true true false false m = refl

module _ (in_t : ℕ → Bool) (cut : ℕ → ℕ → ℕ) (members p : ℕ) (rows : List Row) (q r : ℕ) where
  pub due_span : (i : ℕ) → 0 < i → due_above in_t cut members p rows q r i ≡ (apt in_t members p q r && (ltb (floor in_t cut p rows q r) i && leb i (cut p r)))
  unfolding due_above due apt floor lower
  due_span i l =
      rw (
        none_largest in_t (λ k. cut k r) i p l,
        ltb_max (max (largest_below (λ k. cond (in_t k) (cut k r) 0) p) (cut q r)) (forward_mark rows q r) i,
        ltb_max (largest_below (λ k. cond (in_t k) (cut k r) 0) p) (cut q r) i,
      )
      (shuffle (has members r && not (in_t r)) (in_t p && (in_t q && not (eqb p q))) (ltb (cut q r) i) (leb i (cut p r)) (ltb (largest_below (λ k. cond (in_t k) (cut k r) 0) p) i) (ltb (forward_mark rows q r) i))

  -- one comparison for all words
  pub none_due_lem : none_below (λ k. due_above in_t cut members p rows q r (k + 1)) 128 ≡ cond (apt in_t members p q r) (leb (min (cut p r) 128) (floor in_t cut p rows q r)) true
  unfolding none_below
  none_due_lem =
      none_same (λ k. due_above in_t cut members p rows q r (k + 1)) (λ k. apt in_t members p q r && (ltb (floor in_t cut p rows q r) (k + 1) && leb (k + 1) (cut p r))) 128 (λ k l. due_span (k + 1) (omega arith))
      ∙ go (apt in_t members p q r)
    where
      go : (b : Bool) → none_below (λ k. b && (ltb (floor in_t cut p rows q r) (k + 1) && leb (k + 1) (cut p r))) 128 ≡ cond b (leb (min (cut p r) 128) (floor in_t cut p rows q r)) true
      go true = none_span (floor in_t cut p rows q r) (cut p r) 128
      go false = all_of (λ k. true) 128 (λ k l. refl)

  -- the lowest held one is the first in the span
  pub lowest_span : (held : ℕ → Bool) (k : ℕ) → apt in_t members p q r ≡ true → k ≡ first_below (spanned (floor in_t cut p rows q r) (min (cut p r) 128) held) 128 → k ≡ lowest_due in_t cut members p rows held q r
  unfolding lowest_due spanned
  lowest_span held k t e =
      e ∙ first_same (λ k. (ltb (floor in_t cut p rows q r) (k + 1) && leb (k + 1) (min (cut p r) 128)) && held (k + 1)) (λ k. due_above in_t cut members p rows q r (k + 1) && held (k + 1)) 128
      (λ k l. rw (due_span (k + 1) (omega arith), t, leb_min (k + 1) (cut p r) 128 (omega arith)))

  pub lowest_none : (held : ℕ → Bool) → apt in_t members p q r ≡ false → 128 ≡ lowest_due in_t cut members p rows held q r
  unfolding lowest_due
  lowest_none held t =
      sym (first_is (λ k. due_above in_t cut members p rows q r (k + 1) && held (k + 1)) 128 128 (omega arith)
      (λ k l. rw (due_span (k + 1) (omega arith), t))
      (λ l. absurd (omega arith)))

-- nothing is due from or to one that is not in T, or of one that is no member
module _ (in_t : ℕ → Bool) (members p q r : ℕ) where
  pub apt_no_from : in_t p ≡ false → apt in_t members p q r ≡ false
  unfolding apt
  apt_no_from t = rw (t, and-false (has members r && not (in_t r)))

  pub apt_no_to : in_t q ≡ false → apt in_t members p q r ≡ false
  unfolding apt
  apt_no_to t = rw (t, and-false (in_t p), and-false (has members r && not (in_t r)))

  pub apt_no_sender : has members r ≡ false → apt in_t members p q r ≡ false
  unfolding apt
  apt_no_sender t = rw t

-- a member is below 8
pub member_low : (s n : ℕ) → s < 256 → has s n ≡ true → n < 8
member_low s n h t = ⊎_elim (λ l. l) (λ l. clash t (has_above s n h l)) (side n 8)

pub owes_none : (in_t : ℕ → Bool) (cut : ℕ → ℕ → ℕ) (members p : ℕ) (rows : List Row) → in_t p ≡ false → false ≡ owes in_t cut members p rows
unfolding owes
owes_none in_t cut members p rows t =
    ap not (sym (all_of (λ q. all_below (λ r. none_below (λ k. due_above in_t cut members p rows q r (k + 1)) 128) 8) 8
    (λ q lq. all_of (λ r. none_below (λ k. due_above in_t cut members p rows q r (k + 1)) 128) 8
    (λ r lr. none_due_lem in_t cut members p rows q r ∙ rw (apt_no_from in_t members p q r t)))))
