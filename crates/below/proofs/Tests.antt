-- Tests as values: what a callee's answer says of a definition by tests, in the shape in which code has it.
-- First what a test told; then definitions by `cond`, `&&`, `||`, `not`; then the set `picks`, which `search` takes.
-- Assumes nothing. Laws over the numbers below n are in All, Run, Count and Lists.
use Prim.Native.Nat.{ℕ, ◌≤◌, ◌<◌}
use mathlib.Core.Bool.{Bool, true, false, ◌&&◌, ◌||◌, not, cond}
use mathlib.Core.Path.{◌≡◌, refl, sym, ap, ◌∙◌}
use mathlib.Core.Logic.{◌⊎◌, inl, inr}
use native.Mathlib.Omega.{arith}
use lib.Dec.{eqb, ltb}
use borrow.Author.Tests.{eq-eqb, ne_eqb, le-leb, lt-leb, lt-ltb, le-ltb, ltb-true, ltb-false}

-- ---- true is not false

pub clash : {A : Type 0} {b : Bool} → b ≡ true → b ≡ false → A
clash p q = absurd (let z : ◌≡◌ {A = Bool} true false = sym p ∙ q in let u : ◌≡◌ {A = ℕ} 0 1 = cc in omega arith)

-- ---- what a test told of a callee's answer r, which is x

pub not_is : (b : Bool) → not b ≡ true → b ≡ false
not_is true e = sym e
not_is false e = refl

pub is_not : (b : Bool) → not b ≡ false → b ≡ true
is_not true e = refl
is_not false e = sym e

pub told : (r x b : Bool) → r ≡ b → r ≡ x → x ≡ b
told r x b t e = sym e ∙ t

pub told_not : (r x : Bool) → not r ≡ true → r ≡ x → x ≡ false
told_not r x t e = sym e ∙ not_is r t

pub told_so : (r x : Bool) → not r ≡ false → r ≡ x → x ≡ true
told_so r x t e = sym e ∙ is_not r t

-- the same of a number r that a callee gave, tested against k
pub told_eq : (r x k : ℕ) → r ≡ k → r ≡ x → eqb x k ≡ true
told_eq r x k t e = eq-eqb x k (sym e ∙ t)

pub told_ne : (r x k : ℕ) → (r ≡ k → ⊥) → r ≡ x → eqb x k ≡ false
told_ne r x k t e = ne_eqb x k (λ q. t (e ∙ q))

-- ---- `&&` by its sides

pub and_both : {a b : Bool} → a ≡ true → b ≡ true → (a && b) ≡ true
and_both p q = rw (p, q)

pub and_left : (a b : Bool) → (a && b) ≡ true → a ≡ true
and_left true b e = refl
and_left false b e = e

pub and_right : (a b : Bool) → (a && b) ≡ true → b ≡ true
and_right true b e = e
and_right false b e = clash e refl

-- two tests that imply each other
pub both : (a b : Bool) → (a ≡ true → b ≡ true) → (b ≡ true → a ≡ true) → a ≡ b
both true b f g = sym (f refl)
both false true f g = g refl
both false false f g = refl

-- k is below a, or not
pub side : (k a : ℕ) → (k < a) ⊎ (a ≤ k)
side k a = go (ltb k a) refl
  where
    go : (b : Bool) → ltb k a ≡ b → (k < a) ⊎ (a ≤ k)
    go true e = inl (ltb-true k a e)
    go false e = inr (ltb-false k a e)

-- ---- a definition by tests is what the branch of the code gave

module _ {A : Type 0} where
  pub pick_yes : (b : Bool) (z x y : A) → b ≡ true → z ≡ x → z ≡ cond b x y
  pick_yes b z x y e p = rw e p

  pub pick_no : (b : Bool) (z x y : A) → b ≡ false → z ≡ y → z ≡ cond b x y
  pick_no b z x y e p = rw e p

pub and_yes : (a b z : Bool) → a ≡ true → z ≡ b → z ≡ (a && b)
and_yes a b z e p = rw e p

pub and_no : (a b : Bool) → a ≡ false → false ≡ (a && b)
and_no a b e = rw e

pub or_yes : (a b : Bool) → a ≡ true → true ≡ (a || b)
or_yes a b e = rw e

pub or_no : (a b z : Bool) → a ≡ false → z ≡ b → z ≡ (a || b)
or_no a b z e p = rw e p

pub not_no : (a : Bool) → a ≡ false → not a ≡ true
not_no a e = rw e

pub not_yes : (a : Bool) → a ≡ true → not a ≡ false
not_yes a e = rw e

pub not_same : (a b : Bool) → a ≡ b → not a ≡ not b
not_same a b e = ap not e

pub ruleset picks = (pick_yes, pick_no, and_yes, and_no, or_yes, or_no, not_no, not_yes, not_same, not_is, is_not, eq-eqb, ne_eqb, le-leb, lt-leb, lt-ltb, le-ltb, told_not, told_so, told, told_eq, told_ne)
