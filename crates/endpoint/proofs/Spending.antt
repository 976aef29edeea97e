-- Spent: the same views are spent alike; and a view that is spent stays so, over every accepted step. Assumes nothing.
use Prim.Native.Nat.{ℕ, ◌≤◌, ◌<◌}
use native.Mathlib.Omega.{arith}
use mathlib.Core.Bool.{Bool, true, false, not, ◌&&◌, ◌||◌}
use mathlib.Core.Logic.{◌⊎◌, inl, inr, ⊎_elim}
use mathlib.Core.Path.{◌≡◌, refl, ap, ◌∙◌}
use lib.Dec.{eqb, ltb, leb}
use borrow.Author.Tests.{eqb-true, ltb-true, leb-true, eq-eqb, lt-ltb, le-leb}
use Rattle.below.proofs.Tests.{clash, not_is, not_no, and_both, and_left, and_right}
use Rattle.views.specs.declared.View.{View}
use Rattle.views.specs.Views.{start_of, same}
use Rattle.views.proofs.Sameness.{same_parts, same_left}
use Rattle.slots.specs.Spent.{spent_by}

-- ---- as a proposition

-- why a view that is not current is spent
abbrev pub Reason : ℕ → View → ℕ → Bool → View → Type 0
Reason p current latest pending v = (v.id ≤ current.id) ⊎ ((start_of v p < latest) ⊎ ((start_of v p ≡ latest) × (pending ≡ false)))

or_cases : (a b : Bool) → (a || b) ≡ true → (a ≡ true) ⊎ (b ≡ true)
or_cases true b e = inl refl
or_cases false b e = inr e

or_left : (a b : Bool) → a ≡ true → (a || b) ≡ true
or_left a b e = rw e refl

or_right : (a b : Bool) → b ≡ true → (a || b) ≡ true
or_right true b e = refl
or_right false b e = e

module _ (p : ℕ) (current : View) (latest : ℕ) (pending : Bool) (v : View) where
  pub spent_why : spent_by p current latest pending v ≡ true → (same v current ≡ false) × Reason p current latest pending v
  unfolding spent_by
  spent_why e =
      let a = not (same v current) in
      let x = leb v.id current.id in
      let y = ltb (start_of v p) latest in
      let z = eqb (start_of v p) latest && not pending in (
        not_is (same v current) (and_left a (x || (y || z)) e),
        ⊎_elim (λ t. inl (leb-true v.id current.id t))
            (λ t. inr (⊎_elim (λ u. inl (ltb-true (start_of v p) latest u))
            (λ u. inr (eqb-true (start_of v p) latest (and_left (eqb (start_of v p) latest) (not pending) u), not_is pending (and_right (eqb (start_of v p) latest) (not pending) u)))
            (or_cases y z t)))
            (or_cases x (y || z) (and_right a (x || (y || z)) e)),
      )

  pub spent_of : same v current ≡ false → Reason p current latest pending v → spent_by p current latest pending v ≡ true
  unfolding spent_by
  spent_of n r =
      let x = leb v.id current.id in
      let y = ltb (start_of v p) latest in
      let z = eqb (start_of v p) latest && not pending in
      and_both (not_no (same v current) n)
      (⊎_elim (λ t. or_left x (y || z) (le-leb v.id current.id t))
      (λ t. or_right x (y || z) (⊎_elim (λ u. or_left y z (lt-ltb (start_of v p) latest u))
      (λ u. or_right y z (and_both (eq-eqb (start_of v p) latest u.0) (not_no pending u.1))) t)) r)

-- the same views are spent alike
pub spent_same : (p : ℕ) (current : View) (latest : ℕ) (pending : Bool) (v w : View) → p < 8 → same v w ≡ true → spent_by p current latest pending v ≡ spent_by p current latest pending w
unfolding spent_by
spent_same p current latest pending v w l e =
    let s = same_parts v w e in
    ap (λ b. not b && (leb v.id current.id || (ltb (start_of v p) latest || (eqb (start_of v p) latest && not pending)))) (same_left v w current e)
    ∙ ap (λ n. not (same w current) && (leb n current.id || (ltb (start_of v p) latest || (eqb (start_of v p) latest && not pending)))) s.ids
    ∙ ap (λ n. not (same w current) && (leb w.id current.id || (ltb n latest || (eqb n latest && not pending)))) (s.starts p l)

-- ---- a spent view stays spent

-- over a start change: the number rises, and a change is pending
pub spent_start : (p : ℕ) (current : View) (latest n : ℕ) (pending : Bool) (v : View) → latest < n → spent_by p current latest pending v ≡ true → spent_by p current n true v ≡ true
spent_start p current latest n pending v h e =
    let w = spent_why p current latest pending v e in
    spent_of p current n true v w.0
    (⊎_elim (λ t. inl t) (λ t. inr (inl (⊎_elim (λ u. omega arith) (λ u. let q = u.0 in omega arith) t))) w.1)

-- over an install: the new view was ready, so it was not spent itself
pub spent_install : (p : ℕ) (current new : View) (latest : ℕ) (v : View) → p < 8 → current.id < new.id → start_of new p ≡ latest → spent_by p current latest true v ≡ true → spent_by p new latest false v ≡ true
spent_install p current new latest v l h k e = spent_of p new latest false v (other (same v new) refl) reason
  where
    why : (same v current ≡ false) × Reason p current latest true v
    why = spent_why p current latest true v e

    reason : Reason p new latest false v
    reason = ⊎_elim (λ t. inl (omega arith)) (λ t. inr (⊎_elim (λ u. inl u) (λ u. clash {b = true} refl u.1) t)) why.1

    other : (b : Bool) → same v new ≡ b → same v new ≡ false
    other false t = t
    other true t =
        let s = same_parts v new t in
        let i = s.ids in
        let j = s.starts p l in
        ⊎_elim (λ u. absurd (omega arith)) (λ u. ⊎_elim (λ x. absurd (omega arith)) (λ x. clash {b = true} refl x.1) u) why.1
