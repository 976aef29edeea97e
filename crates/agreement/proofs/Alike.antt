-- Two tests that agree on the members, and two cuts that agree where the test holds: the same words are due. Assumes nothing.
use Prim.Native.Nat.{ℕ, ◌+◌, ◌<◌}
use native.Mathlib.Omega.{arith}
use mathlib.Core.Bool.{Bool, true, false, not, ◌&&◌}
use mathlib.Core.List.{List}
use mathlib.Core.Path.{◌≡◌, refl, ap}
use lib.Dec.{eqb, ltb, leb}
use Rattle.below.specs.Below.{all_below, none_below}
use Rattle.below.proofs.Tests.{and_left, and_right}
use Rattle.below.proofs.All.{all_same}
use Rattle.below.proofs.First.{first_same}
use Rattle.views.specs.Sets.{has}
use Rattle.agreement.specs.declared.Row.{Row}
use Rattle.agreement.specs.Due.{due, due_above, lowest_due, owes}
use Rattle.agreement.proofs.Numbers.{none_same}

and_alike : (a b x : Bool) → (a ≡ true → b ≡ x) → (a && b) ≡ (a && x)
and_alike true b x h = h refl
and_alike false b x h = refl

module _ (f g : ℕ → Bool) (c d : ℕ → ℕ → ℕ) (tests : (m : ℕ) → m < 8 → f m ≡ g m) (cuts : (m r : ℕ) → m < 8 → g m ≡ true → c m r ≡ d m r) where
  module _ (members p : ℕ) (lp : p < 8) where
    pub due_alike : (q r i : ℕ) → q < 8 → r < 8 → due f c members p q r i ≡ due g d members p q r i
    unfolding due
    due_alike q r i lq lr =
        rw (tests r lr, tests p lp, tests q lq)
        (ap (λ x. (has members r && not (g r)) && x)
        (and_alike (g p && (g q && not (eqb p q)))
        (ltb (c q r) i && (leb i (c p r) && none_below (λ k. f k && leb i (c k r)) p))
        (ltb (d q r) i && (leb i (d p r) && none_below (λ k. g k && leb i (d k r)) p)) told))
      where
        below : (k : ℕ) → k < p → (f k && leb i (c k r)) ≡ (g k && leb i (d k r))
        below k l = rw (tests k (omega arith)) (and_alike (g k) (leb i (c k r)) (leb i (d k r)) (λ e. rw (cuts k r (omega arith) e)))

        told : (g p && (g q && not (eqb p q))) ≡ true → (ltb (c q r) i && (leb i (c p r) && none_below (λ k. f k && leb i (c k r)) p)) ≡ (ltb (d q r) i && (leb i (d p r) && none_below (λ k. g k && leb i (d k r)) p))
        told e =
            rw (
              cuts p r lp (and_left (g p) (g q && not (eqb p q)) e),
              cuts q r lq (and_left (g q) (not (eqb p q)) (and_right (g p) (g q && not (eqb p q)) e)),
              none_same (λ k. f k && leb i (c k r)) (λ k. g k && leb i (d k r)) p below,
            )

    module _ (rows : List Row) where
      pub above_alike : (q r i : ℕ) → q < 8 → r < 8 → due_above f c members p rows q r i ≡ due_above g d members p rows q r i
      unfolding due_above
      above_alike q r i lq lr = rw (due_alike q r i lq lr)

      pub lowest_alike : (held : ℕ → Bool) (q r : ℕ) → q < 8 → r < 8 → lowest_due f c members p rows held q r ≡ lowest_due g d members p rows held q r
      unfolding lowest_due
      lowest_alike held q r lq lr =
          first_same (λ k. due_above f c members p rows q r (k + 1) && held (k + 1)) (λ k. due_above g d members p rows q r (k + 1) && held (k + 1)) 128
          (λ k l. rw (above_alike q r (k + 1) lq lr))

      pub owes_alike : owes f c members p rows ≡ owes g d members p rows
      unfolding owes
      owes_alike =
          ap not (all_same
          (λ q. all_below (λ r. none_below (λ k. due_above f c members p rows q r (k + 1)) 128) 8)
          (λ q. all_below (λ r. none_below (λ k. due_above g d members p rows q r (k + 1)) 128) 8) 8
          (λ q lq. all_same
          (λ r. none_below (λ k. due_above f c members p rows q r (k + 1)) 128)
          (λ r. none_below (λ k. due_above g d members p rows q r (k + 1)) 128) 8
          (λ r lr. none_same
          (λ k. due_above f c members p rows q r (k + 1))
          (λ k. due_above g d members p rows q r (k + 1)) 128
          (λ k l. above_alike q r (k + 1) lq lr))))
