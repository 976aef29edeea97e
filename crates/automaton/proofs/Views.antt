-- Views are the same or not, and those of different ids are not. Assumes nothing.
use mathlib.Core.Path.{◌≡◌, refl, ap, sym, ◌∙◌}
use mathlib.Core.Bool.{Bool, true, false, true≢false}
use Prim.Native.Nat.{◌<◌}
use native.Mathlib.Omega.{arith}
use Rattle.automaton.specs.Domain.{Domain}

module _ (D : Domain) where
  pub same_or_not : (u v : D.View) → Dec (u ≡ v)
  same_or_not u v = go (D.same u v) refl
    where
      go : (b : Bool) → D.same u v ≡ b → Dec (u ≡ v)
      go true e = yes (D.same_true u v e)
      go false e = no (λ q. true≢false (sym (D.same_self u) ∙ ap (λ (z : D.View). D.same u z) q ∙ e))

  pub newer_other : (u v : D.View) → D.id u < D.id v → v ≡ u → ⊥
  newer_other u v l e = let k : D.id v ≡ D.id u = ap (λ (z : D.View). D.id z) e in omega arith
