-- The agreed count goes by the named records of the members of both views alone, and is at least the cut of any of T. Assumes nothing.
use mathlib.Core.Path.{◌≡◌, refl, subst}
use mathlib.Core.Bool.{Bool, true, false, cond, ◌&&◌}
use mathlib.Core.Option.{Option, some}
use Prim.Native.Nat.{ℕ, zero, suc, ◌≤◌, ◌<◌}
use Rattle.below.specs.Below.{largest_below}
use Rattle.below.proofs.Count.{largest_each}
use Rattle.automaton.specs.Domain.{Domain}
use Rattle.automaton.specs.State.{Record, Records}
use Rattle.automaton.specs.Agreed.{carries, commits, named, in_t, agreed}

largest_same : (n : ℕ) (f g : ℕ → ℕ) → ((m : ℕ) → f m ≡ g m) → largest_below f n ≡ largest_below g n
unfolding largest_below
largest_same zero f g h = refl
largest_same (suc n) f g h = rw (largest_same n f g h, h n)

module _ (D : Domain) (n : ℕ) (v v' : D.View) where
  one_same : (a b : Bool) (x y : Option (Record D)) (r : ℕ) → (a ≡ true → b ≡ true → x ≡ y)
      → cond ((a && b) && carries D x v) (commits D x r) 0 ≡ cond ((a && b) && carries D y v) (commits D y r) 0
  one_same false b x y r h = refl
  one_same true false x y r h = refl
  one_same true true x y r h = rw (h refl refl)

  pub agreed_same : (R R' : Records D) (r : ℕ) → ((m : ℕ) → D.has v m ≡ true → D.has v' m ≡ true → R m (D.start v' m) ≡ R' m (D.start v' m))
      → agreed D n R v v' r ≡ agreed D n R' v v' r
  unfolding agreed in_t named
  agreed_same R R' r h = largest_same n _ _ (λ m. one_same (D.has v m) (D.has v' m) _ _ r (h m))

  pub agreed_each : (p : ℕ) (R : Records D) (r : ℕ) (x : Record D) → p < n → D.has v p ≡ true → D.has v' p ≡ true
      → R p (D.start v' p) ≡ some x → x.view ≡ v → x.cut r ≤ agreed D n R v v' r
  unfolding agreed in_t named carries commits
  agreed_each p R r x l hv hv' e ev =
      let f : ℕ → ℕ = λ m. cond (in_t D v v' (named D R v' m) m) (commits D (named D R v' m) r) 0 in
      let k : f p ≡ x.cut r = rw (hv, hv', e, ev, D.same_self v) refl in
      subst (λ (z : ℕ). z ≤ largest_below f n) k (largest_each f n p l)
