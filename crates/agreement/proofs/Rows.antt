-- Arrays of structs: what stands in a place that there is, and past the last. Assumes nothing.
use Prim.Native.Nat.{ℕ, zero, suc, ◌≤◌, ◌<◌}
use native.Mathlib.Nat.{le_of_suc-le-suc, not-suc-le-zero}
use mathlib.Core.List.{List, [], ◌∷◌}
use mathlib.Core.Path.{◌≡◌, refl, sym, ap, ◌∙◌}
use mathlib.Core.Logic.{⊎_elim}
use lib.ListN.{length, get_or, set, get_or-replicate, get_or-eq_default}
use lib.Seq.{set_out}
use Rattle.below.proofs.Tests.{side}
use Rattle.agreement.specs.declared.Row.{Row}
use Rattle.agreement.specs.Due.{no_marks, forward_mark}

-- what is taken past the end does not matter
pub read_any : {A : Type 0} (l : List A) (i : ℕ) (d e : A) → i < length l → get_or l i d ≡ get_or l i e
read_any [] i d e h = absurd (not-suc-le-zero h)
read_any (x ∷ l) zero d e h = refl
read_any (x ∷ l) (suc i) d e h = read_any l i d e (le_of_suc-le-suc h)

-- there is no mark past the last row
pub no_mark : (rows : List Row) (q r : ℕ) → length rows ≤ q → 0 ≡ forward_mark rows q r
unfolding forward_mark
no_mark rows q r l =
    sym (rw (get_or-eq_default rows no_marks l) (⊎_elim (λ m. get_or-replicate 8 r 0 0 m) (λ m. get_or-eq_default no_marks.marks 0 m) (side r 8)))

-- past the last sender or row nothing is written
pub mark_past : (row : Row) (r i : ℕ) → length row.marks ≤ r → row ≡ record { marks = set row.marks r i }
mark_past row r i l = λ j. record { marks = sym (set_out row.marks r i l) j }

pub row_past : (rows : List Row) (q : ℕ) (x : Row) → length rows ≤ q → rows ≡ set rows q x
row_past rows q x l = sym (set_out rows q x l)

-- what is read of a row that there is
pub row_set : (rows : List Row) (q r i : ℕ) (x d : Row) → q < length rows → x ≡ record { marks = set (get_or rows q d).marks r i } → set rows q x ≡ set rows q (record { marks = set (get_or rows q no_marks).marks r i })
row_set rows q r i x d l e = ap (set rows q) (e ∙ rw (read_any rows q d no_marks l) refl)
